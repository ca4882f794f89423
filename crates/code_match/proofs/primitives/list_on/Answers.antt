use Rattle.std.proofs.Common.{◌≡◌, ◌++◌, ◌∷◌, [], List, Bool, ap, sym, subst, rules}
use Rattle.bit_store.specs.Stores.{itself}
use Rattle.term_value.specs.Primitives.{bounded_result, listed_on}
use Rattle.term_value.specs.Seen.{meanings, AreKnown}
use Rattle.term_value.specs.Terms.{row}
use Rattle.term_value.specs.declared.term.Term.{Term}
use Rattle.code_tree.specs.PlainTerms.{IsShort, AnyAtom}
use Rattle.expr_eval.proofs.Evaluations.{evaluated}
use Rattle.code_match.proofs.Prepended.{first_known, last_known}
use Rattle.code_match.proofs.primitives.list_on.Goals as goal

pub list_with-requires-clause-items : goal.list_with-requires-clause-items
list_with-requires-clause-items c =
    let popped : c.args.values.items ≡ c.pop.new.self.items ++ c.in-Some.tail ∷ [] = search rules in
    first_known c.pop.new.self.items c.in-Some.tail (subst (λ (ts : List (Term (List Bool))). AreKnown IsShort AnyAtom (row ts)) popped c.requires)

pub list_with-requires-clause-tail : goal.list_with-requires-clause-tail
list_with-requires-clause-tail c =
    let popped : c.args.values.items ≡ c.pop.new.self.items ++ c.in-Some.tail ∷ [] = search rules in
    last_known c.pop.new.self.items c.in-Some.tail (subst (λ (ts : List (Term (List Bool))). AreKnown IsShort AnyAtom (row ts)) popped c.requires)

pub returns-in-Some-clause-is : goal.returns-in-Some-clause-is
returns-in-Some-clause-is c =
    let popped : c.args.values.items ≡ c.pop.new.self.items ++ c.in-Some.tail ∷ [] = search rules in
    evaluated itself c.list_with.result (bounded_result (listed_on (meanings itself (row (c.pop.new.self.items ++ c.in-Some.tail ∷ []))))) (bounded_result (listed_on (meanings itself (row c.args.values.items))))
    (ap (λ ts. bounded_result (listed_on (meanings itself (row ts)))) (sym popped)) c.list_with.ensures.is
