use Rattle.std.proofs.Common.{◌≡◌, ◌∙◌, ap, sym, rules}
use Rattle.std.proofs.lemmas.Int.{to_z-of_z}
use mir.Syntax.{w128}
use mir.Val.{SFits, to_z, of_z}
use Rattle.term_value.specs.Order.{same}
use Rattle.term_value.specs.Terms.{value_of}
use Rattle.term_value.specs.Value.{VInt}
use Rattle.match_context.proofs.wanted.is_term.Goals as goal

pub returns-in-Int : goal.returns-in-Int
returns-in-Int g c =
    let fits : SFits w128 c.in-Int.number = search rules in
    let equal : to_z w128 (of_z w128 c.in-Int.number) ≡ c.in-Int.number = to_z-of_z w128 c.in-Int.number fits in
    λ v names is. c.is_number.ensures (g.S.Store.shown c.args.store.now) v names is ∙ ap (λ n. same names (VInt n) v) equal ∙ ap (λ u. same names (value_of (g.S.Store.shown c.args.store.now) u) v) (sym c.in-Int.is)

pub returns-in-Bits : goal.returns-in-Bits
returns-in-Bits g c = λ v names is. c.is_part.ensures v names is ∙ ap (λ u. same names (value_of (g.S.Store.shown c.args.store.now) u) v) (sym c.in-Bits.is)
