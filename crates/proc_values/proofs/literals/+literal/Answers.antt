use Rattle.std.proofs.Common.{◌+◌, List, ap, sym, subst, ◌∙◌, arith}
use Rattle.std.proofs.lemmas.List.{nil_from_length}
use Rattle.bit_store.specs.Stores.{AnyAtom, itself}
use Rattle.term_value.specs.Seen.{weights_of, meanings, AreKnown}
use Rattle.term_value.specs.Terms.{seen, row, row_of}
use Rattle.term_value.specs.declared.term.Term.{Term}
use Rattle.code_tree.specs.PlainTerms.{value}
use Rattle.proc_values.specs.MadeBits.{bits_inside, all_bits_inside}
use Rattle.proc_values.proofs.Copies.{joined, copy_more, all_copied}
use Rattle.proc_values.proofs.Known.{keeps_then, all_still_known, same_meanings}
use Rattle.proc_values.proofs.Ledgers.{rose_item, rose_small, rose_then}
use Rattle.proc_values.proofs.Prepended.{known_more}
use Rattle.proc_values.proofs.literals.+literal.Goals as goal

pub copies-returns-in_err-copy-clause-moved : goal.copies-returns-in_err-copy-clause-moved
copies-returns-in_err-copy-clause-moved g t c = λ small.
    let moved = g.A.Access.moved in
    let inv = c.loop-item.invariant.moved small in
    rose_item inv.0 (bits_inside (value (seen c.in-Some.item.now))) (all_bits_inside (meanings itself (row c.in-Some.rest.now))) (all_bits_inside (meanings itself (row c.loop-item.left.now))) (all_bits_inside (meanings itself (row c.args.items.now)))
    (moved c.args.access.now) (moved c.loop-item.access) (moved c.copy.new.access) inv.1 inv.2 (ap (λ ts. all_bits_inside (meanings itself (row ts))) c.in-Some.ensures.cases.0)
    (c.copy.ensures.moved (rose_small inv.0 (moved c.args.access.now) (moved c.loop-item.access) inv.1))

pub copies-returns-in_err-push-clause-moved : goal.copies-returns-in_err-push-clause-moved
copies-returns-in_err-push-clause-moved g t c = λ small.
    let moved = g.A.Access.moved in
    let inv = c.loop-item.invariant.moved small in
    rose_item inv.0 (bits_inside (value (seen c.in-Some.item.now))) (all_bits_inside (meanings itself (row c.in-Some.rest.now))) (all_bits_inside (meanings itself (row c.loop-item.left.now))) (all_bits_inside (meanings itself (row c.args.items.now)))
    (moved c.args.access.now) (moved c.loop-item.access) (moved c.copy.new.access) inv.1 inv.2 (ap (λ ts. all_bits_inside (meanings itself (row ts))) c.in-Some.ensures.cases.0)
    (c.copy.ensures.moved (rose_small inv.0 (moved c.args.access.now) (moved c.loop-item.access) inv.1))

pub copies-loop-item-preserved : goal.copies-loop-item-preserved
copies-loop-item-preserved g t c =
    let shown = g.A.Access.shown in
    let has = g.A.Access.has in
    let moved = g.A.Access.moved in
    let old = c.loop-item.access in
    let new = c.copy.new.access in
    let made = c.loop-item.made.items in
    let item = c.in_ok-copy.field-0 in
    let e = ap row c.in-Some.ensures.cases.0 in
    let pushed = c.in_ok-push.ensures.items in
    record {
      light = omega (arith, ap weights_of e, c.loop-item.invariant.light);
      keeps = keeps_then shown has c.args.access.now old new c.loop-item.invariant.keeps c.copy.ensures.keeps;
      known = subst (λ (ts : List (Term g.row.R.Denot)). AreKnown (has new) AnyAtom (row ts)) (sym pushed)
          (known_more (has new) made item (all_still_known shown has AnyAtom old new c.copy.ensures.keeps (row made) c.loop-item.invariant.known) c.in_ok-copy.ensures.known);
      are = ap (λ (ts : List (Term g.row.R.Denot)). joined (meanings (shown new) (row ts)) (meanings itself (row c.in-Some.rest.now))) pushed
          ∙ copy_more (shown old) (shown new) made item (seen c.in-Some.item.now) (row c.in-Some.rest.now) (row c.loop-item.left.now) (meanings itself (row c.args.items.now))
          (same_meanings shown has AnyAtom old new c.copy.ensures.keeps (row made) c.loop-item.invariant.known) c.in_ok-copy.ensures.is e c.loop-item.invariant.are;
      moved = λ small.
          let inv = c.loop-item.invariant.moved small in
          (inv.0 + bits_inside (value (seen c.in-Some.item.now)), rose_then inv.0 (bits_inside (value (seen c.in-Some.item.now))) (moved c.args.access.now) (moved old) (moved new) inv.1 (c.copy.ensures.moved (rose_small inv.0 (moved c.args.access.now) (moved old) inv.1)), omega (arith, inv.2, ap (λ r. all_bits_inside (meanings itself r)) e));
    }

pub copies-returns-clause-are : goal.copies-returns-clause-are
copies-returns-clause-are g t c = all_copied (g.A.Access.shown c.loop-item.access) c.loop-item.made.items (row c.loop-item.left.now) (meanings itself (row c.args.items.now))
    (ap row (nil_from_length c.loop-item.left.now c.in_default.ensures.cases)) c.loop-item.invariant.are

pub list_copies-returns-in_err-copy-clause-moved : goal.list_copies-returns-in_err-copy-clause-moved
list_copies-returns-in_err-copy-clause-moved g t c = λ small.
    let moved = g.A.Access.moved in
    let inv = c.loop-item.invariant.moved small in
    rose_item inv.0 (bits_inside (value (seen c.in-Some.item.now))) (all_bits_inside (meanings itself (row_of c.in-Some.rest.now))) (all_bits_inside (meanings itself (row_of c.loop-item.left.now))) (all_bits_inside (meanings itself (row_of c.args.items.now)))
    (moved c.args.access.now) (moved c.loop-item.access) (moved c.copy.new.access) inv.1 inv.2 (ap (λ r. all_bits_inside (meanings itself r)) c.in-Some.ensures)
    (c.copy.ensures.moved (rose_small inv.0 (moved c.args.access.now) (moved c.loop-item.access) inv.1))

pub list_copies-returns-in_err-push-clause-moved : goal.list_copies-returns-in_err-push-clause-moved
list_copies-returns-in_err-push-clause-moved g t c = λ small.
    let moved = g.A.Access.moved in
    let inv = c.loop-item.invariant.moved small in
    rose_item inv.0 (bits_inside (value (seen c.in-Some.item.now))) (all_bits_inside (meanings itself (row_of c.in-Some.rest.now))) (all_bits_inside (meanings itself (row_of c.loop-item.left.now))) (all_bits_inside (meanings itself (row_of c.args.items.now)))
    (moved c.args.access.now) (moved c.loop-item.access) (moved c.copy.new.access) inv.1 inv.2 (ap (λ r. all_bits_inside (meanings itself r)) c.in-Some.ensures)
    (c.copy.ensures.moved (rose_small inv.0 (moved c.args.access.now) (moved c.loop-item.access) inv.1))

pub list_copies-loop-item-preserved : goal.list_copies-loop-item-preserved
list_copies-loop-item-preserved g t c =
    let shown = g.A.Access.shown in
    let has = g.A.Access.has in
    let moved = g.A.Access.moved in
    let old = c.loop-item.access in
    let new = c.copy.new.access in
    let made = c.loop-item.made.items in
    let item = c.in_ok-copy.field-0 in
    let e = c.in-Some.ensures in
    let pushed = c.in_ok-push.ensures.items in
    record {
      light = omega (arith, ap weights_of e, c.loop-item.invariant.light);
      keeps = keeps_then shown has c.args.access.now old new c.loop-item.invariant.keeps c.copy.ensures.keeps;
      known = subst (λ (ts : List (Term g.row.R.Denot)). AreKnown (has new) AnyAtom (row ts)) (sym pushed)
          (known_more (has new) made item (all_still_known shown has AnyAtom old new c.copy.ensures.keeps (row made) c.loop-item.invariant.known) c.in_ok-copy.ensures.known);
      are = ap (λ (ts : List (Term g.row.R.Denot)). joined (meanings (shown new) (row ts)) (meanings itself (row_of c.in-Some.rest.now))) pushed
          ∙ copy_more (shown old) (shown new) made item (seen c.in-Some.item.now) (row_of c.in-Some.rest.now) (row_of c.loop-item.left.now) (meanings itself (row_of c.args.items.now))
          (same_meanings shown has AnyAtom old new c.copy.ensures.keeps (row made) c.loop-item.invariant.known) c.in_ok-copy.ensures.is e c.loop-item.invariant.are;
      moved = λ small.
          let inv = c.loop-item.invariant.moved small in
          (inv.0 + bits_inside (value (seen c.in-Some.item.now)), rose_then inv.0 (bits_inside (value (seen c.in-Some.item.now))) (moved c.args.access.now) (moved old) (moved new) inv.1 (c.copy.ensures.moved (rose_small inv.0 (moved c.args.access.now) (moved old) inv.1)), omega (arith, inv.2, ap (λ r. all_bits_inside (meanings itself r)) e));
    }

pub list_copies-returns-clause-are : goal.list_copies-returns-clause-are
list_copies-returns-clause-are g t c = all_copied (g.A.Access.shown c.loop-item.access) c.loop-item.made.items (row_of c.loop-item.left.now) (meanings itself (row_of c.args.items.now))
    c.in_default.ensures c.loop-item.invariant.are
