use Rattle.std.proofs.Common.{◌<◌, ◌≤◌, ap, sym, ◌∙◌, inl, inr, length, arith}
use Rattle.term_value.specs.BuiltIns.{binary_part_of}
use Rattle.term_value.specs.Seen.{Row, meanings}
use Rattle.term_value.specs.Terms.{value_of}
use Rattle.term_value.specs.Value.{VTuple}
use Rattle.term_value.specs.declared.term.Term.{Term}
use Rattle.expr_eval.proofs.ByteRanges.{no_pair}
use Rattle.expr_eval.proofs.Evaluations.{refused}
use Rattle.expr_eval.proofs.parts.binary_part_of.Goals as goal

pub returns-in-len1-clause-is : goal.returns-in-len1-clause-is
returns-in-len1-clause-is g c =
    let shown = g.S.Store.shown c.args.store.now in
    let size : length c.items.result.now < 2 = omega arith in
    let v = value_of shown c.args.binary.now in
    refused shown c.bad_argument-in-len1.result (binary_part_of v (value_of shown c.args.range.now)) c.bad_argument-in-len1.ensures
    (no_pair shown v c.items.result.now (inl size) ∙ ap (λ (r : Row g.row.R.Denot). binary_part_of v (VTuple (meanings shown r))) (c.items.ensures ∙ c.get.ensures)
    ∙ ap (λ (t : Term g.row.R.Denot). binary_part_of v (value_of shown t)) (sym c.in-Tuple.is))

pub returns-in_default-items-clause-is : goal.returns-in_default-items-clause-is
returns-in_default-items-clause-is g c =
    let shown = g.S.Store.shown c.args.store.now in
    let size : 3 ≤ length c.items.result.now = omega arith in
    let v = value_of shown c.args.binary.now in
    refused shown c.bad_argument-in_default-items.result (binary_part_of v (value_of shown c.args.range.now)) c.bad_argument-in_default-items.ensures
    (no_pair shown v c.items.result.now (inr size) ∙ ap (λ (r : Row g.row.R.Denot). binary_part_of v (VTuple (meanings shown r))) (c.items.ensures ∙ c.get.ensures)
    ∙ ap (λ (t : Term g.row.R.Denot). binary_part_of v (value_of shown t)) (sym c.in-Tuple.is))
