-- A segment of whole units.
use Rattle.std.proofs.Common.{◌≡◌, ℕ, ◌+◌, ◌%◌, Bool, List, [], length, drop, ap, sym, subst, ◌∙◌, eq-eqb, arith}
use Rattle.std.proofs.lemmas.List.{length-drop, take_all}
use Rattle.std.proofs.Math.ListN.{drop_of_length-le}
use Rattle.erl_syntax.specs.declared.typing.Typed.{Typed}
use Rattle.term_value.specs.Value.{VBits}
use Rattle.term_value.specs.Extent.{InUnits}
use Rattle.term_value.specs.Decode as d
use Rattle.segment_cut.specs.declared.value.CutOff.{CutOff}
use Rattle.segment_cut.specs.Cuts.{IsValue, IsCutOff, IsPartOff}

module _ {R : Type 0} (shown : R → List Bool) (has : R → Type 0) (typed : Typed) (unit at n : ℕ) (all : List Bool) (whole : at + n ≡ length all) where
  many : length (drop at all) ≡ n
  many = omega (arith, whole, length-drop at all)

  pub whole_cut : (off : CutOff R) → n % unit ≡ 0 → IsPartOff shown has all at n off → IsCutOff shown has all (d.cut typed (InUnits unit) (drop at all)) off
  whole_cut off fits part = record {
    value = VBits (drop at all);
    is = ap (λ b. d.cut_where b (d.cut_off (VBits (drop at all)) [])) (eq-eqb (length (drop at all) % unit) 0 (ap (λ m. m % unit) many ∙ fits))
        ∙ ap (d.cut_off (VBits (drop at all))) (sym (drop_of_length-le all (omega (arith, whole, part.next))));
    same = subst (λ bits. IsValue shown has (VBits bits) off.value) (take_all n (drop at all) (omega (arith, many))) part.same;
    inside = omega (arith, whole, part.next);
  }
