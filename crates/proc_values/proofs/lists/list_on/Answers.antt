use Rattle.std.proofs.Common.{◌≡◌, ◌++◌, ◌∷◌, [], List, ap, sym, subst, rules}
use Rattle.bit_store.specs.Stores.{AnyAtom}
use Rattle.term_value.specs.Primitives.{bounded_result, listed_on}
use Rattle.term_value.specs.Seen.{meanings, AreKnown}
use Rattle.term_value.specs.Terms.{row}
use Rattle.term_value.specs.declared.term.Term.{Term}
use Rattle.expr_eval.proofs.Evaluations.{evaluated}
use Rattle.proc_values.proofs.Prepended.{first_known, last_known}
use Rattle.proc_values.proofs.lists.list_on.Goals as goal

pub list_with-requires-clause-items : goal.list_with-requires-clause-items
list_with-requires-clause-items g c =
    let has = g.S.Store.has c.args.store.now in
    let popped : c.args.values.items ≡ c.pop.new.self.items ++ c.in-Some.tail ∷ [] = search rules in
    first_known has c.pop.new.self.items c.in-Some.tail (subst (λ (ts : List (Term g.row.R.Denot)). AreKnown has AnyAtom (row ts)) popped c.requires)

pub list_with-requires-clause-tail : goal.list_with-requires-clause-tail
list_with-requires-clause-tail g c =
    let has = g.S.Store.has c.args.store.now in
    let popped : c.args.values.items ≡ c.pop.new.self.items ++ c.in-Some.tail ∷ [] = search rules in
    last_known has c.pop.new.self.items c.in-Some.tail (subst (λ (ts : List (Term g.row.R.Denot)). AreKnown has AnyAtom (row ts)) popped c.requires)

pub returns-in-Some-clause-is : goal.returns-in-Some-clause-is
returns-in-Some-clause-is g c =
    let shown = g.S.Store.shown c.args.store.now in
    let popped : c.args.values.items ≡ c.pop.new.self.items ++ c.in-Some.tail ∷ [] = search rules in
    evaluated shown c.list_with.result (bounded_result (listed_on (meanings shown (row (c.pop.new.self.items ++ c.in-Some.tail ∷ []))))) (bounded_result (listed_on (meanings shown (row c.args.values.items))))
    (ap (λ ts. bounded_result (listed_on (meanings shown (row ts)))) (sym popped)) c.list_with.ensures.is
