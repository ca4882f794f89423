use Rattle.std.proofs.Common.{ap, sym, ◌∙◌, ◌/◌, length, List, subst, arith}
use Rattle.bit_store.specs.Stores.{AnyAtom}
use Rattle.term_value.specs.Bounds.{within}
use Rattle.term_value.specs.BuiltIns.{binary_to_list, bytes_of}
use Rattle.term_value.specs.Primitives.{bounded_result}
use Rattle.term_value.specs.Seen.{meanings, SList, AreKnown}
use Rattle.term_value.specs.Terms.{row}
use Rattle.term_value.specs.Value.{Values, VList, VBits}
use Rattle.term_value.specs.declared.term.Term.{Term}
use Rattle.expr_eval.proofs.ByteTerms.{long_list, list_is, int_values, ints_known}
use Rattle.expr_eval.proofs.Evaluations.{evaluated}
use Rattle.expr_eval.proofs.GuardCalls.{seen_known}
use Rattle.expr_eval.proofs.bytes.byte_list.Goals as goal

pub returns-then-len-gt-MOST_ITEMS-clause-is : goal.returns-then-len-gt-MOST_ITEMS-clause-is
returns-then-len-gt-MOST_ITEMS-clause-is g c = long_list c.args.bits (omega arith) (omega arith)

pub returns-in-Ok-clause-is : goal.returns-in-Ok-clause-is
returns-in-Ok-clause-is g c =
    let shown = g.S.Store.shown c.args.store.now in
    let ns = bytes_of (length c.args.bits / 8) c.args.bits in
    evaluated shown c.list_answer.result (within (VList (meanings shown (row c.in-Ok.items.items)))) (bounded_result (binary_to_list (VBits c.args.bits)))
    (ap (λ (ts : List (Term g.row.R.Denot)). within (VList (meanings shown (row ts)))) c.in-Ok.ensures
    ∙ ap (λ (vs : Values). within (VList vs)) (int_values shown ns) ∙ list_is c.args.bits (omega arith))
    (c.list_answer.ensures.is shown)

pub returns-in-Ok-clause-known : goal.returns-in-Ok-clause-known
returns-in-Ok-clause-known g c =
    let has = g.S.Store.has c.args.store.now in
    let P : List (Term g.row.R.Denot) → Type 0 = λ ts. AreKnown has AnyAtom (row ts) in
    seen_known has (SList (row c.in-Ok.items.items)) c.list_answer.result c.list_answer.ensures.kept
    (subst P (sym c.in-Ok.ensures) (ints_known has AnyAtom (bytes_of (length c.args.bits / 8) c.args.bits)))
