use Rattle.std.proofs.Common.{◌++◌, ◌∷◌, [], ap, sym, ◌∙◌, Some}
use Rattle.term_value.specs.PutIn.{value_in}
use Rattle.code_tree.specs.PlainTerms.{value}
use Rattle.code_match.specs.Binds.{bounds, chained}
use Rattle.code_match.proofs.Newest.{newest_is, newest_is_not}
use Rattle.code_match.proofs.bindings.Bindings.get.Goals as goal

pub returns-then-link-variable-clause-is : goal.returns-then-link-variable-clause-is
returns-then-link-variable-clause-is c =
    sym c.loop-chain.invariant
    ∙ ap (λ k. value_in (bounds (chained k)) c.args.variable) c.in-More.is
    ∙ ap (λ k. value_in (bounds (k.1 ++ k.0 ∷ [])) c.args.variable) (sym (c.link.view_is ∙ c.get-link.ensures))
    ∙ newest_is (chained c.link.inside.earlier) (c.link.inside.variable, c.link.inside.term) c.args.variable c.link.invariant c.if-link-variable.true
    ∙ ap (λ s. Some (value s)) (sym c.term.ensures.is)

pub loop-chain-preserved : goal.loop-chain-preserved
loop-chain-preserved c =
    sym (newest_is_not (chained c.link.inside.earlier) (c.link.inside.variable, c.link.inside.term) c.args.variable c.if-link-variable.false)
    ∙ ap (λ k. value_in (bounds (k.1 ++ k.0 ∷ [])) c.args.variable) (c.link.view_is ∙ c.get-link.ensures)
    ∙ ap (λ k. value_in (bounds (chained k)) c.args.variable) (sym c.in-More.is)
    ∙ c.loop-chain.invariant
