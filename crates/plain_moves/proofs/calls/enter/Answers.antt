use Rattle.std.proofs.Common.{◌≡◌, [], ap, ◌∙◌, map}
use Rattle.bit_store.specs.Stores.{itself}
use Rattle.term_layers.specs.Environments as e
use Rattle.term_value.specs.Seen.{meanings}
use Rattle.term_value.specs.Terms.{row}
use Rattle.term_value.specs.Value as V
use Rattle.expr_eval.specs.Answers.{setting}
use Rattle.code_tree.specs.PlainTerms.{value}
use Rattle.code_tree.specs.Reading.{function_of, clauses_of}
use Rattle.code_match.specs.Binds.{bounds}
use Rattle.code_match.specs.Matches.{choice_of}
use Rattle.term_value.specs.Step as step
use Rattle.plain_moves.specs.Reading.{call_tree}
use Rattle.plain_moves.specs.Worlds.{world_of}
use Rattle.plain_moves.proofs.Acts.{call_goes}
use Rattle.plain_moves.proofs.Known.{values_of}
use Rattle.plain_moves.proofs.calls.enter.Goals as goal

pub returns : goal.returns
returns c = λ place there.
    let w = world_of c.args.scene.now in
    let us = meanings itself (row c.terms.result.now) in
    let are : us ≡ V.row (map value c.args.arguments.now) = values_of c.terms.result.now ∙ ap (λ xs. V.row (map value xs)) c.terms.ensures.are in
    c.goes_with.ensures w (call_tree place c.args.arguments.now)
    (call_goes w place (function_of c.args.function.now) (V.row (map value c.args.arguments.now)) (choice_of c.in_ok-choice.choice) there
    (c.in_ok-choice.ensures
    ∙ ap (λ z. e.chosen z (bounds c.new.result) (clauses_of c.items.result.now) us) c.caller.ensures
    ∙ ap (λ bs. e.chosen (step.setting w) (bounds bs) (clauses_of c.items.result.now) us) c.new.ensures
    ∙ ap (λ ks. e.chosen (step.setting w) [] (clauses_of ks) us) c.items.ensures
    ∙ ap (e.chosen (step.setting w) [] (clauses_of c.args.function.now.clauses)) are))
