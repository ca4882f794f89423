use Rattle.std.proofs.Common.{ap, ◌∙◌, option_map}
use Rattle.term_value.specs.Seen.{meaning}
use Rattle.term_value.specs.Terms.{seen}
use Rattle.proc_values.specs.Binds.{chained}
use Rattle.proc_values.proofs.Newest.{link_found, link_passed, none_found, value_is}
use Rattle.proc_values.proofs.bindings.Bindings.get.Goals as goal

pub returns-then-link-variable-clause-found : goal.returns-then-link-variable-clause-found
returns-then-link-variable-clause-found g c =
    link_found c.args.self.now _ _ c.args.variable c.loop-chain.invariant c.in-More.is (c.link.inside.variable, seen c.link.inside.term) (chained c.link.inside.earlier)
    (c.link.view_is ∙ c.get-link.ensures) c.link.invariant c.if-link-variable.true

pub returns-then-link-variable-clause-is : goal.returns-then-link-variable-clause-is
returns-then-link-variable-clause-is g c = λ shown.
    value_is shown c.args.self.now c.args.variable
    ∙ ap (option_map (meaning shown)) (link_found c.args.self.now _ _ c.args.variable c.loop-chain.invariant c.in-More.is (c.link.inside.variable, seen c.link.inside.term) (chained c.link.inside.earlier)
    (c.link.view_is ∙ c.get-link.ensures) c.link.invariant c.if-link-variable.true)

pub loop-chain-preserved : goal.loop-chain-preserved
loop-chain-preserved g c =
    link_passed c.args.self.now _ _ c.args.variable c.loop-chain.invariant c.in-More.is (c.link.inside.variable, seen c.link.inside.term) (chained c.link.inside.earlier)
    (c.link.view_is ∙ c.get-link.ensures) c.if-link-variable.false

pub returns-clause-found : goal.returns-clause-found
returns-clause-found g c = none_found c.args.self.now _ c.args.variable c.loop-chain.invariant c.in_default.not-More

pub returns-clause-is : goal.returns-clause-is
returns-clause-is g c = λ shown.
    value_is shown c.args.self.now c.args.variable
    ∙ ap (option_map (meaning shown)) (none_found c.args.self.now _ c.args.variable c.loop-chain.invariant c.in_default.not-More)
