use Rattle.std.proofs.Common.{◌≡◌, ◌++◌, ◌∷◌, [], List, Bool, ap, sym, subst, ◌∙◌, rules}
use Rattle.std.specs.declared.result.Result.TheVariants.{Err}
use Rattle.bit_store.specs.Stores.{itself}
use Rattle.term_value.specs.Bounds.{within}
use Rattle.term_value.specs.Seen.{Row, then, meanings, AreKnown}
use Rattle.term_value.specs.Terms.{seen, row_of}
use Rattle.term_value.specs.Value.{VList}
use Rattle.code_tree.specs.PlainTerms.{IsShort, AnyAtom}
use Rattle.expr_eval.proofs.Evaluations.{evaluated}
use Rattle.code_match.specs.Rows.{onto}
use Rattle.code_match.proofs.Prepended.{fault_past, onto_last, onto_known}
use Rattle.code_match.proofs.primitives.list_before.Goals as goal

pub returns-in-Err-clause-is : goal.returns-in-Err-clause-is
returns-in-Err-clause-is c =
    let popped : c.loop-item.left.items ≡ c.pop.new.self.items ++ c.in-Some.item ∷ [] = search rules in
    let same : onto c.pop.new.self.items (then (seen c.in-Some.item) (row_of c.loop-item.list)) ≡ onto c.args.items.items (row_of c.args.tail)
    = sym (onto_last c.pop.new.self.items c.in-Some.item (row_of c.loop-item.list)) ∙ ap (λ ts. onto ts (row_of c.loop-item.list)) (sym popped) ∙ c.loop-item.invariant in
    evaluated itself (Err c.in-Err.fault) (within (VList (meanings itself (onto c.pop.new.self.items (then (seen c.in-Some.item) (row_of c.loop-item.list)))))) (within (VList (meanings itself (onto c.args.items.items (row_of c.args.tail)))))
    (ap (λ r. within (VList (meanings itself r))) same)
    (fault_past c.in-Err.fault c.pop.new.self.items (then (seen c.in-Some.item) (row_of c.loop-item.list)) c.in-Err.ensures.refused)

pub returns-then-is_bounded-clause-over : goal.returns-then-is_bounded-clause-over
returns-then-is_bounded-clause-over c =
    let none_left : c.loop-item.left.items ≡ [] = search rules in
    let P : Row (List Bool) → Type 0 = λ r. AreKnown IsShort AnyAtom r in
    subst P (sym c.loop-item.invariant ∙ ap (λ ts. onto ts (row_of c.loop-item.list)) none_left) (onto_known c.args.items.items (row_of c.args.tail) c.requires.items c.requires.tail)
