use Rattle.match_context.proofs.Binding.{bound_agrees}
use Rattle.match_context.proofs.Wanting.{not_known}
use Rattle.std.proofs.Common.{subst}
use Rattle.term_value.specs.Decode.{bound_to}
use Rattle.term_value.specs.Terms.{value_of}
use Rattle.pattern_compile.specs.Patterns.{TargetFits}
use Rattle.match_context.specs.Envs.{known}
use Rattle.match_context.proofs.matching.place_after.Goals as goal

pub returns-in-Bound-clause-is : goal.returns-in-Bound-clause-is
returns-in-Bound-clause-is g c =
    let fits = subst (TargetFits (g.E.Env.fixed c.args.env.now).variables (known (g.E.Env.held c.args.env.now))) c.in-Bound.ensures.of c.requires.target in
    λ bs a. (
      bound_to c.in-Bound.var (value_of (g.S.Store.shown c.args.store.now) c.in-Bound.value) bs,
      c.in-Bound.ensures.is bs a,
      bound_agrees (g.E.Env.held c.args.env.now) (g.E.Env.held c.bind.new.self) c.in-Bound.var c.in-Bound.value c.bind.ensures.bound (not_known (g.E.Env.held c.args.env.now c.in-Bound.var) fits.1) (g.S.Store.shown c.args.store.now) bs a,
    )
