-- Items put in front of a list, one by one.
use Rattle.std.proofs.Common.{◌≡◌, Bool, true, false, List, [], ◌∷◌, ◌++◌, refl, ap, sym, ◌∙◌, arith}
use Rattle.erl_syntax.specs.Atoms.{a_badarg}
use Rattle.bit_store.specs.Stores.{AnyAtom}
use Rattle.term_value.specs.Value.{Value, VList, Values, more}
use Rattle.term_value.specs.Bounds.{within, is_within, value_or_limit}
use Rattle.term_value.specs.Result.{Gives, Stops, Raise, Limit, raise}
use Rattle.term_value.specs.Primitives.{before_list, listed_on}
use Rattle.term_value.specs.Seen.{Row, then, meanings, IsKnown, AreKnown}
use Rattle.term_value.specs.Terms.{seen, row, row_of, value_of}
use Rattle.term_value.specs.declared.term.Term.{Term}
use Rattle.term_value.specs.declared.term.Term.TheVariants as t
use Rattle.term_value.specs.declared.cells.Cells.{Cells}
use Rattle.std.specs.declared.result.Result.TheVariants.{Err}
use Rattle.expr_eval.specs.Answers.{IsEvaluated, reason_of}
use Rattle.expr_eval.specs.declared.reason.EvalFault.{EvalFault}
use Rattle.expr_eval.specs.declared.reason.EvalFault.TheVariants as f
use Rattle.proc_values.specs.Rows.{onto}

-- a list that is past a bound stays so with more items
past : (b : Bool) (v : Value) → value_or_limit b v ≡ Stops Limit → b ≡ false
past true v e = absurd (cc)
past false v e = refl

longer_past : (v : Value) (vs : Values) → within (VList vs) ≡ Stops Limit → is_within (VList (more v vs)) ≡ false
longer_past v vs e = grind (arith, past (is_within (VList vs)) (VList vs) e)

never_raised : (b : Bool) (v w : Value) → Stops (Raise w) ≡ value_or_limit b v → ⊥
never_raised true v w e = absurd (cc)
never_raised false v w e = absurd (cc)

pub onto_last : {R : Type 0} (ts : List (Term R)) (t : Term R) (r : Row R) → onto (ts ++ t ∷ []) r ≡ onto ts (then (seen t) r)
onto_last [] t r = refl
onto_last (u ∷ ts) t r = ap (then (seen u)) (onto_last ts t r)

-- the last of these items, put in front
pub onto_next : {R : Type 0} (ts rest : List (Term R)) (t : Term R) (r all : Row R) → ts ≡ rest ++ t ∷ [] → onto ts r ≡ all → onto rest (then (seen t) r) ≡ all
onto_next ts rest t r all e inv = sym (onto_last rest t r) ∙ ap (λ us. onto us r) (sym e) ∙ inv

module _ {R : Type 0} (shown : R → List Bool) where
  all_past : (ts : List (Term R)) (r : Row R) → within (VList (meanings shown r)) ≡ Stops Limit → within (VList (meanings shown (onto ts r))) ≡ Stops Limit
  all_past [] r e = e
  all_past (u ∷ ts) r e = ap (λ b. value_or_limit b (VList (more (value_of shown u) (meanings shown (onto ts r))))) (longer_past (value_of shown u) (meanings shown (onto ts r)) (all_past ts r e))

  -- want of memory, or a list that is past a bound
  pub fault_past : (fault : EvalFault R) (ts : List (Term R)) (r : Row R) → IsEvaluated shown (Err fault) (within (VList (meanings shown r))) → IsEvaluated shown (Err fault) (within (VList (meanings shown (onto ts r))))
  fault_past (f.Raised reason) ts r e = absurd (never_raised (is_within (VList (meanings shown r))) (VList (meanings shown r)) (reason_of shown reason) e)
  fault_past f.Limit ts r e = sym (all_past ts r (sym e))
  fault_past f.NoMemory ts r e = tt

  -- the items, and the tail behind them
  pub listed : (ts : List (Term R)) (c : Cells R) → listed_on (meanings shown (row (ts ++ t.List c ∷ []))) ≡ Gives (VList (meanings shown (onto ts (row_of c))))
  listed [] c = refl
  listed (u ∷ []) c = refl
  listed (u ∷ v ∷ ts) c = ap (before_list (value_of shown u)) (listed (v ∷ ts) c)

  -- a tail that is no list
  pub unlisted : (ts : List (Term R)) (tail : Term R) → ((c : Cells R) → tail ≡ t.List c → ⊥) → Stops (raise a_badarg) ≡ listed_on (meanings shown (row (ts ++ tail ∷ [])))
  unlisted [] (t.Int n) other = refl
  unlisted [] (t.Atom a) other = refl
  unlisted [] (t.Pid p) other = refl
  unlisted [] (t.Tuple x) other = refl
  unlisted [] (t.List c) other = absurd (other c refl)
  unlisted [] (t.Bits b) other = refl
  unlisted (u ∷ []) tail other = ap (before_list (value_of shown u)) (unlisted [] tail other)
  unlisted (u ∷ v ∷ ts) tail other = ap (before_list (value_of shown u)) (unlisted (v ∷ ts) tail other)

module _ {R : Type 0} (has : R → Type 0) where
  pub onto_known : (ts : List (Term R)) (r : Row R) → AreKnown has AnyAtom (row ts) → AreKnown has AnyAtom r → AreKnown has AnyAtom (onto ts r)
  onto_known [] r k h = h
  onto_known (u ∷ ts) r k h = (k.0, onto_known ts r k.1 h)

  -- of items and one more behind them
  pub first_known : (ts : List (Term R)) (t : Term R) → AreKnown has AnyAtom (row (ts ++ t ∷ [])) → AreKnown has AnyAtom (row ts)
  first_known [] t k = tt
  first_known (u ∷ ts) t k = (k.0, first_known ts t k.1)

  pub last_known : (ts : List (Term R)) (t : Term R) → AreKnown has AnyAtom (row (ts ++ t ∷ [])) → IsKnown has AnyAtom (seen t)
  last_known [] t k = k.0
  last_known (u ∷ ts) t k = last_known ts t k.1

  pub known_more : (ts : List (Term R)) (t : Term R) → AreKnown has AnyAtom (row ts) → IsKnown has AnyAtom (seen t) → AreKnown has AnyAtom (row (ts ++ t ∷ []))
  known_more [] t k h = (h, tt)
  known_more (u ∷ ts) t k h = (k.0, known_more ts t k.1 h)
