use Rattle.std.proofs.Common.{◌≡◌, List, Bool, ap, ◌∙◌}
use Rattle.bit_store.specs.Stores.{itself}
use Rattle.term_value.specs.Terms.{value_of}
use Rattle.term_value.specs.Tree.{Val, Alts}
use Rattle.term_value.specs.Value.{more, none}
use Rattle.term_value.specs.declared.term.Term.{Term}
use Rattle.term_layers.specs.Environments as e
use Rattle.term_layers.specs.Layers.{wrap}
use Rattle.expr_eval.specs.Answers.{setting}
use Rattle.code_tree.specs.PlainTerms.{value}
use Rattle.code_tree.specs.Reading.{clauses_of}
use Rattle.code_match.specs.Binds.{bounds}
use Rattle.code_match.specs.Matches.{choice_of}
use Rattle.plain_moves.specs.Worlds.{world_of}
use Rattle.plain_moves.proofs.Goes.{case_goes}
use Rattle.plain_moves.proofs.operands.give_case.Goals as goal

pub returns : goal.returns
returns c =
    let w = world_of c.args.scene.now in
    let s = setting c.caller.result.names.now c.caller.result.pid in
    let env = bounds c.args.bindings.now in
    let cs = clauses_of c.args.clauses.now in
    c.goes_with.ensures w (wrap (e.layer_of (e.BeforeIn (Alts cs) env)) (Val (value c.args.term)))
    (case_goes w s c.caller.ensures env (value c.args.term) cs (choice_of c.in_ok-choice.choice)
    (c.in_ok-choice.ensures
    ∙ ap (λ (t : Term (List Bool)). e.chosen s env cs (more (value_of itself t) none)) c.in_ok-share.ensures
    ∙ ap (λ x. e.chosen s env cs (more (value x) none)) c.term-2.ensures.is))
