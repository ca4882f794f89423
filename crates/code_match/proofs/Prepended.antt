-- Items put in front of a list, one by one.
use Rattle.std.proofs.Common.{◌≡◌, Bool, true, false, List, [], ◌∷◌, ◌++◌, refl, ap, sym, arith}
use Rattle.bit_store.specs.Stores.{itself}
use Rattle.erl_syntax.specs.Atoms.{a_badarg}
use Rattle.term_value.specs.Value.{Value, VList, Values, more}
use Rattle.term_value.specs.Bounds.{within, is_within, value_or_limit}
use Rattle.term_value.specs.Result.{Gives, Stops, Raise, Limit, raise}
use Rattle.term_value.specs.Primitives.{before_list, listed_on}
use Rattle.term_value.specs.Seen.{Row, then, meanings, IsKnown, AreKnown}
use Rattle.term_value.specs.Terms.{seen, row, value_of}
use Rattle.term_value.specs.declared.term.Term.{Term}
use Rattle.term_value.specs.declared.term.Term.TheVariants as t
use Rattle.term_value.specs.declared.cells.Cells.{Cells}
use Rattle.term_value.specs.Terms.{row_of}
use Rattle.std.specs.declared.result.Result.TheVariants.{Err}
use Rattle.code_tree.specs.PlainTerms.{IsShort, AnyAtom}
use Rattle.expr_eval.specs.Answers.{IsEvaluated, reason_of}
use Rattle.expr_eval.specs.declared.reason.EvalFault.{EvalFault}
use Rattle.expr_eval.specs.declared.reason.EvalFault.TheVariants as f
use Rattle.code_match.specs.Rows.{onto}

pub onto_last : (ts : List (Term (List Bool))) (t : Term (List Bool)) (r : Row (List Bool)) → onto (ts ++ t ∷ []) r ≡ onto ts (then (seen t) r)
onto_last [] t r = refl
onto_last (u ∷ ts) t r = ap (then (seen u)) (onto_last ts t r)

-- a list that is past a bound stays so with more items
past : (b : Bool) (v : Value) → value_or_limit b v ≡ Stops Limit → b ≡ false
past true v e = absurd (cc)
past false v e = refl

pub longer_past : (v : Value) (vs : Values) → within (VList vs) ≡ Stops Limit → is_within (VList (more v vs)) ≡ false
longer_past v vs e = grind (arith, past (is_within (VList vs)) (VList vs) e)

pub all_past : (ts : List (Term (List Bool))) (r : Row (List Bool)) → within (VList (meanings itself r)) ≡ Stops Limit → within (VList (meanings itself (onto ts r))) ≡ Stops Limit
all_past [] r e = e
all_past (u ∷ ts) r e = ap (λ b. value_or_limit b (VList (more (value_of itself u) (meanings itself (onto ts r))))) (longer_past (value_of itself u) (meanings itself (onto ts r)) (all_past ts r e))

-- the items, and the tail behind them
pub listed : (ts : List (Term (List Bool))) (c : Cells (List Bool)) → listed_on (meanings itself (row (ts ++ t.List c ∷ []))) ≡ Gives (VList (meanings itself (onto ts (row_of c))))
listed [] c = refl
listed (u ∷ []) c = refl
listed (u ∷ v ∷ ts) c = ap (before_list (value_of itself u)) (listed (v ∷ ts) c)

pub onto_known : (ts : List (Term (List Bool))) (r : Row (List Bool)) → AreKnown IsShort AnyAtom (row ts) → AreKnown IsShort AnyAtom r → AreKnown IsShort AnyAtom (onto ts r)
onto_known [] r k h = h
onto_known (u ∷ ts) r k h = (k.0, onto_known ts r k.1 h)

never_raised : (b : Bool) (v w : Value) → Stops (Raise w) ≡ value_or_limit b v → ⊥
never_raised true v w e = absurd (cc)
never_raised false v w e = absurd (cc)

-- want of memory, or a list that is past a bound
pub fault_past : (fault : EvalFault (List Bool)) (ts : List (Term (List Bool))) (r : Row (List Bool)) → IsEvaluated itself (Err fault) (within (VList (meanings itself r))) → IsEvaluated itself (Err fault) (within (VList (meanings itself (onto ts r))))
fault_past (f.Raised reason) ts r e = absurd (never_raised (is_within (VList (meanings itself r))) (VList (meanings itself r)) (reason_of itself reason) e)
fault_past f.Limit ts r e = sym (all_past ts r (sym e))
fault_past f.NoMemory ts r e = tt

-- of items and one more behind them
pub first_known : (ts : List (Term (List Bool))) (t : Term (List Bool)) → AreKnown IsShort AnyAtom (row (ts ++ t ∷ [])) → AreKnown IsShort AnyAtom (row ts)
first_known [] t k = tt
first_known (u ∷ ts) t k = (k.0, first_known ts t k.1)

pub last_known : (ts : List (Term (List Bool))) (t : Term (List Bool)) → AreKnown IsShort AnyAtom (row (ts ++ t ∷ [])) → IsKnown IsShort AnyAtom (seen t)
last_known [] t k = k.0
last_known (u ∷ ts) t k = last_known ts t k.1

pub known_more : (ts : List (Term (List Bool))) (t : Term (List Bool)) → AreKnown IsShort AnyAtom (row ts) → IsKnown IsShort AnyAtom (seen t) → AreKnown IsShort AnyAtom (row (ts ++ t ∷ []))
known_more [] t k h = (h, tt)
known_more (u ∷ ts) t k h = (k.0, known_more ts t k.1 h)

-- a tail that is no list
pub unlisted : (ts : List (Term (List Bool))) (tail : Term (List Bool)) → ((c : Cells (List Bool)) → tail ≡ t.List c → ⊥) → Stops (raise a_badarg) ≡ listed_on (meanings itself (row (ts ++ tail ∷ [])))
unlisted [] (t.Int n) other = refl
unlisted [] (t.Atom a) other = refl
unlisted [] (t.Pid p) other = refl
unlisted [] (t.Tuple x) other = refl
unlisted [] (t.List c) other = absurd (other c refl)
unlisted [] (t.Bits b) other = refl
unlisted (u ∷ []) tail other = ap (before_list (value_of itself u)) (unlisted [] tail other)
unlisted (u ∷ v ∷ ts) tail other = ap (before_list (value_of itself u)) (unlisted (v ∷ ts) tail other)
