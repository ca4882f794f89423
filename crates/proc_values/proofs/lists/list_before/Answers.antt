use Rattle.std.proofs.Common.{◌≡◌, ◌++◌, ◌∷◌, [], ap, sym, subst, ◌∙◌, rules}
use Rattle.std.specs.declared.result.Result.TheVariants.{Err}
use Rattle.bit_store.specs.Stores.{AnyAtom}
use Rattle.term_value.specs.Bounds.{within}
use Rattle.term_value.specs.Seen.{Row, then, meanings, AreKnown}
use Rattle.term_value.specs.Terms.{seen, row_of}
use Rattle.term_value.specs.Value.{VList}
use Rattle.expr_eval.proofs.Evaluations.{evaluated}
use Rattle.proc_values.specs.Rows.{onto}
use Rattle.proc_values.proofs.Prepended.{fault_past, onto_next, onto_known}
use Rattle.proc_values.proofs.lists.list_before.Goals as goal

pub returns-in-Err-clause-is : goal.returns-in-Err-clause-is
returns-in-Err-clause-is g c =
    let shown = g.S.Store.shown c.args.store.now in
    let popped : c.loop-item.left.items ≡ c.pop.new.self.items ++ c.in-Some.item ∷ [] = search rules in
    let same = onto_next c.loop-item.left.items c.pop.new.self.items c.in-Some.item (row_of c.loop-item.list) (onto c.args.items.items (row_of c.args.tail)) popped c.loop-item.invariant in
    evaluated shown (Err c.in-Err.fault) (within (VList (meanings shown (onto c.pop.new.self.items (then (seen c.in-Some.item) (row_of c.loop-item.list)))))) (within (VList (meanings shown (onto c.args.items.items (row_of c.args.tail)))))
    (ap (λ r. within (VList (meanings shown r))) same)
    (fault_past shown c.in-Err.fault c.pop.new.self.items (then (seen c.in-Some.item) (row_of c.loop-item.list)) c.in-Err.ensures.refused)

pub returns-then-is_bounded-clause-known : goal.returns-then-is_bounded-clause-known
returns-then-is_bounded-clause-known g c =
    let has = g.S.Store.has c.args.store.now in
    let none_left : c.loop-item.left.items ≡ [] = search rules in
    let P : Row g.row.R.Denot → Type 0 = λ r. AreKnown has AnyAtom r in
    subst P (sym c.loop-item.invariant ∙ ap (λ ts. onto ts (row_of c.loop-item.list)) none_left) (onto_known has c.args.items.items (row_of c.args.tail) c.requires.items c.requires.tail)
