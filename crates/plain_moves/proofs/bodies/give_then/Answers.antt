use Rattle.std.proofs.Common.{◌≡◌, ap, sym, ◌∙◌}
use Rattle.expr_eval.specs.Answers.{setting}
use Rattle.code_tree.specs.PlainTerms.{value}
use Rattle.code_tree.specs.Reading.{body_of, patterns_of}
use Rattle.code_match.specs.Binds.{bounds}
use Rattle.code_match.specs.Matches.{match_of}
use Rattle.term_value.specs.Match as m
use Rattle.plain_moves.specs.Worlds.{world_of}
use Rattle.plain_moves.proofs.Goes.{then_goes}
use Rattle.plain_moves.proofs.bodies.give_then.Goals as goal

pub returns-in-Yes : goal.returns-in-Yes
returns-in-Yes c =
    let s = setting c.caller.result.names.now c.caller.result.pid in (
      0,
      then_goes (world_of c.args.scene.now) s c.caller.ensures (bounds c.args.bindings) (value c.args.term) (patterns_of c.args.patterns.now) (body_of c.args.rest.now) (m.Yes (bounds c.in-Yes.bindings))
          (ap match_of (sym c.in-Yes.is) ∙ c.in_ok-bindings.ensures ∙ ap (λ x. m.all_matched s (patterns_of c.args.patterns.now) (value x) (bounds c.args.bindings)) c.term-2.ensures.is),
    )

pub returns-in-No : goal.returns-in-No
returns-in-No c =
    let s = setting c.caller.result.names.now c.caller.result.pid in
    then_goes (world_of c.args.scene.now) s c.caller.ensures (bounds c.args.bindings) (value c.args.term) (patterns_of c.args.patterns.now) (body_of c.args.rest.now) m.No
    (ap match_of (sym c.in-No.is) ∙ c.in_ok-bindings.ensures ∙ ap (λ x. m.all_matched s (patterns_of c.args.patterns.now) (value x) (bounds c.args.bindings)) c.term-2.ensures.is)

pub returns : goal.returns
returns c =
    let s = setting c.caller.result.names.now c.caller.result.pid in
    then_goes (world_of c.args.scene.now) s c.caller.ensures (bounds c.args.bindings) (value c.args.term) (patterns_of c.args.patterns.now) (body_of c.args.rest.now) m.MatchLimit
    (ap match_of (sym c.in-Limit.is) ∙ c.in_ok-bindings.ensures ∙ ap (λ x. m.all_matched s (patterns_of c.args.patterns.now) (value x) (bounds c.args.bindings)) c.term-2.ensures.is)
