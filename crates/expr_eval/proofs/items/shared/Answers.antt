use Rattle.std.proofs.Common.{ap, sym, ◌∙◌, arith, rules, ℤ, SFits}
use Rattle.std.specs.Int.{w128}
use Rattle.std.proofs.lemmas.Int.{ints, to_z-of_z}
use Rattle.term_value.specs.Bounds.{within}
use Rattle.term_value.specs.Result.{Gives}
use Rattle.term_value.specs.Value.{VInt}
use Rattle.term_value.specs.Terms.{value_of}
use Rattle.term_value.specs.declared.term.Term.{Term}
use Rattle.expr_eval.proofs.Operations.{fits_within}
use Rattle.expr_eval.proofs.items.shared.Goals as goal

pub returns-in-Int-clause-is : goal.returns-in-Int-clause-is
returns-in-Int-clause-is g c =
    let fits : SFits w128 c.in-Int.number = first_of (search rules, omega (arith, ints)) in
    ap (λ (z : ℤ). Gives (VInt z)) (to_z-of_z w128 c.in-Int.number fits) ∙ fits_within c.in-Int.number fits ∙ ap (λ (t : Term g.row.R.Denot). within (value_of (g.S.Store.shown c.args.store.now) t)) (sym c.in-Int.is)
