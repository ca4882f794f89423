use Rattle.std.proofs.Common.{ap, subst}
use Rattle.bit_store.specs.Stores.{AnyAtom}
use Rattle.term_value.specs.Bounds.{within}
use Rattle.term_value.specs.BuiltIns.{list_reversed}
use Rattle.term_value.specs.Primitives.{bounded_result}
use Rattle.term_value.specs.Seen.{meanings, SList}
use Rattle.term_value.specs.Terms.{value_of, row, row_of, IsOver}
use Rattle.term_value.specs.Value.{VList}
use Rattle.term_value.specs.declared.term.Term.{Term}
use Rattle.expr_eval.proofs.Evaluations.{evaluated}
use Rattle.expr_eval.proofs.GuardCalls.{seen_known}
use Rattle.expr_eval.proofs.Reversal.{reversed_is, reversed_known}
use Rattle.expr_eval.proofs.rows.reversed.Goals as goal

pub returns-in-Ok-clause-is : goal.returns-in-Ok-clause-is
returns-in-Ok-clause-is g c =
    let shown = g.S.Store.shown c.args.store.now in
    evaluated shown c.list_answer.result (within (VList (meanings shown (row c.reverse.new.self.items)))) (bounded_result (list_reversed (value_of shown c.args.list.now)))
    (reversed_is shown c.args.list.now (row_of c.in-List.items) c.in-Ok.items.items c.reverse.new.self.items (ap (value_of shown) c.in-List.is) c.in-Ok.ensures c.reverse.ensures.items)
    (c.list_answer.ensures.is shown)

pub returns-in-Ok-clause-known : goal.returns-in-Ok-clause-known
returns-in-Ok-clause-known g c =
    let has = g.S.Store.has c.args.store.now in
    let P : Term g.row.R.Denot → Type 0 = λ t. IsOver has AnyAtom t in
    seen_known has (SList (row c.reverse.new.self.items)) c.list_answer.result c.list_answer.ensures.kept
    (reversed_known has AnyAtom (row_of c.in-List.items) c.in-Ok.items.items c.reverse.new.self.items c.in-Ok.ensures c.reverse.ensures.items (subst P c.in-List.is c.requires))
