-- How many bits an operation takes, by what its size comes to.
use Rattle.std.proofs.Common.{◌≡◌, ℕ, ℤ, pos, negsuc, List, Option, Some, None, refl, ap, sym, subst, ◌∙◌}
use Rattle.bits_build.specs.Extents.{IsExtent}
use Rattle.bits_build.specs.declared.extent.Extent.{Extent}
use Rattle.bits_build.specs.declared.extent.Extent.TheVariants as x
use Rattle.erl_syntax.specs.declared.typing.SizeUse.TheVariants as u
use Rattle.erl_syntax.specs.declared.typing.Typed.{Typed}
use Rattle.term_value.specs.Decode as d
use Rattle.term_value.specs.Extent as ext
use Rattle.term_value.specs.Guards.{result_of}
use Rattle.term_value.specs.PutIn.{put_in}
use Rattle.term_value.specs.Setting.{Setting}
use Rattle.term_value.specs.Tree as t
use Rattle.term_value.specs.Result.{Result, Gives, Stops, Raise, Limit}
use Rattle.term_value.specs.Value.{Value, VInt, VAtom, VPid, VTuple, VList, VBits}
use Rattle.pattern_compile.specs.Meaning.{typed_of, size_form, sizes_of}
use Rattle.pattern_compile.specs.declared.pattern.SizeForm.{SizeForm}
use Rattle.pattern_compile.specs.declared.pattern.SizeForm.TheVariants as z
use Rattle.pattern_compile.specs.declared.operation.SizedOperation.TheVariants.{Take, Skip, Compare}
use Rattle.pattern_compile.specs.declared.operation.Operation.{Operation}
use Rattle.pattern_compile.specs.declared.operation.Operation.TheVariants.{SizeOf, Rest, Utf}
use Rattle.match_context.specs.Envs.{size_told, sized, IsSized}
use Rattle.match_context.specs.Places.{IsReached, HasGiven}
use Rattle.match_context.specs.declared.found.Reached.{Reached}
use Rattle.match_context.specs.declared.found.Reached.TheVariants as r
use Rattle.match_context.specs.declared.sized.Sized128.TheVariants as w

pub typed_given : (op : Operation) → HasGiven (size_form op) (typed_of op).size
typed_given (SizeOf size unit (Take sign endian bits var)) = refl
typed_given (SizeOf size unit Skip) = refl
typed_given (SizeOf size unit (Compare sign endian bits want)) = refl
typed_given (Rest unit target) = tt
typed_given (Utf kind endian target) = tt

told_number : (v : Value) (n : ℤ) → size_told v ≡ w.Size n → v ≡ VInt n
told_number (VInt (pos m)) n e = let q : pos m ≡ n = cc in ap VInt q
told_number (VInt (negsuc m)) n e = cc
told_number (VAtom a) n e = cc
told_number (VPid p) n e = cc
told_number (VTuple vs) n e = cc
told_number (VList vs) n e = cc
told_number (VBits bits) n e = cc

told_bad : (unit : ℕ) (v : Value) → size_told v ≡ w.Bad → ext.written unit (Some v) ≡ ext.BadSize
told_bad unit (VInt (pos m)) e = cc
told_bad unit (VInt (negsuc m)) e = refl
told_bad unit (VAtom a) e = refl
told_bad unit (VPid p) e = refl
told_bad unit (VTuple vs) e = refl
told_bad unit (VList vs) e = refl
told_bad unit (VBits bits) e = refl

told_some : (v : Value) → size_told v ≡ w.Limit → ⊥
told_some (VInt (pos m)) e = cc
told_some (VInt (negsuc m)) e = cc
told_some (VAtom a) e = cc
told_some (VPid p) e = cc
told_some (VTuple vs) e = cc
told_some (VList vs) e = cc
told_some (VBits bits) e = cc

module _ (typed : Typed) where
  by_number : (due : Result) (n : ℤ) → sized due ≡ w.Size n → d.reach_by typed due ≡ Some (ext.extent typed.size typed.unit (Some (VInt n)))
  by_number (Gives v) n e = ap (λ u. d.reach_by typed (Gives u)) (told_number v n e)
  by_number (Stops (Raise reason)) n e = cc
  by_number (Stops Limit) n e = cc

  by_bad : (due : Result) → typed.size ≡ u.Given → sized due ≡ w.Bad → d.reach_by typed due ≡ Some ext.BadSize
  by_bad (Gives v) g e = ap Some (ap (λ s. ext.extent s typed.unit (Some v)) g ∙ told_bad typed.unit v e)
  by_bad (Stops (Raise reason)) g e = refl
  by_bad (Stops Limit) g e = cc

  by_limit : (due : Result) → sized due ≡ w.Limit → d.reach_by typed due ≡ None
  by_limit (Gives v) e = absurd (told_some v e)
  by_limit (Stops (Raise reason)) e = cc
  by_limit (Stops Limit) e = refl

  pub reached_number : (due : Result) (n : ℤ) (found : Extent) → IsSized due (w.Size n) → IsExtent (ext.extent typed.size typed.unit (Some (VInt n))) found → IsReached (d.reach_by typed due) (r.Bits found)
  reached_number due n found e is = (ext.extent typed.size typed.unit (Some (VInt n)), by_number due n e, is)

  pub reached_bad : (due : Result) → typed.size ≡ u.Given → IsSized due w.Bad → IsReached (d.reach_by typed due) (r.Bits x.BadSize)
  reached_bad due g e = (ext.BadSize, by_bad due g e, refl)

  pub reached_limit : (due : Result) → IsSized due w.Limit → IsReached (d.reach_by typed due) r.Limit
  reached_limit due e = by_limit due e

-- ---- By the form of the size

module _ (s : Setting) (trees : ℕ → t.Tree) (typed : Typed) (bs : List t.Bound) (size : Option SizeForm) where
  pub no_size : (found : Extent) → size ≡ None → IsExtent (ext.extent typed.size typed.unit None) found → IsReached (d.reach s typed bs (sizes_of trees size)) (r.Bits found)
  no_size found e is = subst (λ (o : Option SizeForm). IsReached (d.reach s typed bs (sizes_of trees o)) (r.Bits found)) (sym e) (ext.extent typed.size typed.unit None, refl, is)

  pub some_size : (form : SizeForm) (found : Reached) → size ≡ Some form → IsReached (d.reach s typed bs (sizes_of trees (Some form))) found → IsReached (d.reach s typed bs (sizes_of trees size)) found
  some_size form found e is = subst (λ (o : Option SizeForm). IsReached (d.reach s typed bs (sizes_of trees o)) found) (sym e) is

module _ (s : Setting) (trees : ℕ → t.Tree) (typed : Typed) (bs : List t.Bound) (form : SizeForm) where
  pub fixed_form : (n : ℕ) (found : Extent) → form ≡ z.Fixed n → IsExtent (ext.extent typed.size typed.unit (Some (VInt (pos n)))) found → IsReached (d.reach s typed bs (sizes_of trees (Some form))) (r.Bits found)
  fixed_form n found e is = subst (λ (f : SizeForm). IsReached (d.reach s typed bs (sizes_of trees (Some f))) (r.Bits found)) (sym e) (ext.extent typed.size typed.unit (Some (VInt (pos n))), refl, is)

  pub given_form : (x : ℕ) (found : Reached) → form ≡ z.Given x → IsReached (d.reach_by typed (result_of s (put_in bs (trees x)))) found → IsReached (d.reach s typed bs (sizes_of trees (Some form))) found
  given_form x found e is = subst (λ (f : SizeForm). IsReached (d.reach s typed bs (sizes_of trees (Some f))) found) (sym e) is
