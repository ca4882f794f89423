-- Numbers outside the bound.
use mir.Syntax.{w128}
use mir.Val.{SFits}
use Rattle.std.proofs.lemmas.Int.{ints}
use Rattle.bits_value.proofs.Values.{bounded-pos, bounded-neg}
use Rattle.std.proofs.Common.{arith, pos, negsuc, ◌≡◌, ℕ, ℤ, Bool, true, false, cond, List, Option, Some, None, refl, ap, sym, ◌∙◌}
use Rattle.std.specs.Prelude.{is_some}
use Rattle.std.specs.Ordering.{is_eq, int_cmp}
use Rattle.std.specs.Cmp.{ranked_equal, int_ranks}
use Rattle.bits_value.specs.Number.{bounded}
use Rattle.code_match.specs.Places.{IsBounded}
use Rattle.term_value.specs.Decode as d
use Rattle.term_value.specs.Order.{same}
use Rattle.term_value.specs.PutIn.{target_or_variable}
use Rattle.term_value.specs.Setting.{Setting}
use Rattle.term_value.specs.Tree.{Bound, Anything, Equal}
use Rattle.term_value.specs.Value.{Value, VInt, VAtom, VPid, VTuple, VList, VBits}

two : (m n : ℤ) → bounded m ≡ Some m → bounded n ≡ None → m ≡ n → ⊥
two m n within past e = cc

unequal : (m n : ℤ) (b : Bool) → is_eq (int_cmp m n) ≡ b → bounded m ≡ Some m → bounded n ≡ None → b ≡ false
unequal m n true e within past = absurd (two m n within past ((ranked_equal m n (int_cmp m n) (int_ranks m n)).0 e))
unequal m n false e within past = refl

pub none_same : (names : ℕ → List ℕ) (v : Value) (n : ℤ) → IsBounded v → bounded n ≡ None → same names v (VInt n) ≡ false
none_same names (VInt m) n within past = unequal m n (is_eq (int_cmp m n)) refl within past
none_same names (VAtom a) n within past = refl
none_same names (VPid p) n within past = refl
none_same names (VTuple vs) n within past = refl
none_same names (VList vs) n within past = refl
none_same names (VBits bits) n within past = refl

module _ (s : Setting) (n : ℤ) (past : bounded n ≡ None) (bs : List Bound) (rest : List Bool) where
  pub anything_long : d.Cut bs rest ≡ d.wanted s Anything bs (d.cut_off (VInt n) rest)
  anything_long = refl

  pub equal_long : (w : Value) → IsBounded w → d.NoCut ≡ d.wanted s (Equal w) bs (d.cut_off (VInt n) rest)
  equal_long w within = ap (λ b. d.taken_where true (cond b (Some bs) None) rest) (sym (none_same s.names w n within past))

  pub bound_long : (x : ℕ) (w : Value) (o : Option Value) → o ≡ Some w → IsBounded w → d.NoCut ≡ d.wanted s (target_or_variable o x) bs (d.cut_off (VInt n) rest)
  bound_long x w o e within = equal_long w within ∙ ap (λ p. d.wanted s (target_or_variable p x) bs (d.cut_off (VInt n) rest)) (sym e)

  pub free_long : (x : ℕ) (o : Option Value) → o ≡ None → d.CutLimit ≡ d.wanted s (target_or_variable o x) bs (d.cut_off (VInt n) rest)
  free_long x o e = ap (λ p. d.taken_where (is_some p) (Some (d.bound_to x (VInt n) bs)) rest) (sym past) ∙ ap (λ p. d.wanted s (target_or_variable p x) bs (d.cut_off (VInt n) rest)) (sym e)

-- a number of the code
pub fits_bounded : (z : ℤ) → SFits w128 z → bounded z ≡ Some z
fits_bounded (pos v) f = bounded-pos v (omega (arith, ints, f))
fits_bounded (negsuc v) f = bounded-neg v (omega (arith, ints, f))
