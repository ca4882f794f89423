-- A call's arguments, by their number.
use Rattle.std.proofs.Common.{◌≡◌, ◌≤◌, Bool, List, [], ◌∷◌, length, get_or, refl, ap, sym, ◌∙◌, arith}
use Rattle.erl_syntax.specs.declared.built_in.BuiltIn.{BuiltIn}
use Rattle.erl_syntax.specs.declared.built_in.BuiltIn.TheVariants as b
use Rattle.term_value.specs.BuiltIns.{badarg, native, native_2}
use Rattle.term_value.specs.Seen.{meanings}
use Rattle.term_value.specs.Setting.{Setting}
use Rattle.term_value.specs.Terms.{value_of, row}
use Rattle.term_value.specs.Value.{Value, Values, none, more}
use Rattle.term_value.specs.declared.term.Term.{Term}

native_two : (s : Setting) (which : BuiltIn) (v w : Value) → native s which (more v (more w none)) ≡ native_2 s which v w
native_two s b.IsInteger v w = refl
native_two s b.IsNumber v w = refl
native_two s b.IsAtom v w = refl
native_two s b.IsBoolean v w = refl
native_two s b.IsPid v w = refl
native_two s b.IsTuple v w = refl
native_two s b.IsList v w = refl
native_two s b.IsBinary v w = refl
native_two s b.IsBitstring v w = refl
native_two s b.BitSize v w = refl
native_two s b.ByteSize v w = refl
native_two s b.TupleSize v w = refl
native_two s b.Element v w = refl
native_two s b.Length v w = refl
native_two s b.Hd v w = refl
native_two s b.Tl v w = refl
native_two s b.Abs v w = refl
native_two s b.Max v w = refl
native_two s b.Min v w = refl
native_two s b.SelfPid v w = refl
native_two s b.BinaryPart v w = refl
native_two s b.BinaryPartOf v w = refl
native_two s b.Display v w = refl
native_two s b.Spawn v w = refl
native_two s b.Exit v w = refl
native_two s b.Error v w = refl
native_two s b.SplitBinary v w = refl
native_two s b.BinaryToList v w = refl
native_two s b.ListToBinary v w = refl
native_two s b.IntegerToBinary v w = refl
native_two s b.BinaryToInteger v w = refl
native_two s b.TupleToList v w = refl
native_two s b.ListToTuple v w = refl
native_two s b.Reverse v w = refl

native_many : (s : Setting) (which : BuiltIn) (v w x y : Value) (vs : Values) → badarg ≡ native s which (more v (more w (more x (more y vs))))
native_many s b.IsInteger v w x y vs = refl
native_many s b.IsNumber v w x y vs = refl
native_many s b.IsAtom v w x y vs = refl
native_many s b.IsBoolean v w x y vs = refl
native_many s b.IsPid v w x y vs = refl
native_many s b.IsTuple v w x y vs = refl
native_many s b.IsList v w x y vs = refl
native_many s b.IsBinary v w x y vs = refl
native_many s b.IsBitstring v w x y vs = refl
native_many s b.BitSize v w x y vs = refl
native_many s b.ByteSize v w x y vs = refl
native_many s b.TupleSize v w x y vs = refl
native_many s b.Element v w x y vs = refl
native_many s b.Length v w x y vs = refl
native_many s b.Hd v w x y vs = refl
native_many s b.Tl v w x y vs = refl
native_many s b.Abs v w x y vs = refl
native_many s b.Max v w x y vs = refl
native_many s b.Min v w x y vs = refl
native_many s b.SelfPid v w x y vs = refl
native_many s b.BinaryPart v w x y vs = refl
native_many s b.BinaryPartOf v w x y vs = refl
native_many s b.Display v w x y vs = refl
native_many s b.Spawn v w x y vs = refl
native_many s b.Exit v w x y vs = refl
native_many s b.Error v w x y vs = refl
native_many s b.SplitBinary v w x y vs = refl
native_many s b.BinaryToList v w x y vs = refl
native_many s b.ListToBinary v w x y vs = refl
native_many s b.IntegerToBinary v w x y vs = refl
native_many s b.BinaryToInteger v w x y vs = refl
native_many s b.TupleToList v w x y vs = refl
native_many s b.ListToTuple v w x y vs = refl
native_many s b.Reverse v w x y vs = refl

module _ {R : Type 0} (shown : R → List Bool) (s : Setting) (which : BuiltIn) where
  pub of_two_is : (ts : List (Term R)) (first second : Term R) → length ts ≡ 2 → first ≡ get_or ts 0 first → second ≡ get_or ts 1 second
      → native_2 s which (value_of shown first) (value_of shown second) ≡ native s which (meanings shown (row ts))
  of_two_is [] first second l f e = absurd (omega arith)
  of_two_is (t ∷ []) first second l f e = absurd (omega arith)
  of_two_is (t ∷ u ∷ []) first second l f e =
      ap (λ (x : Term R). native_2 s which (value_of shown x) (value_of shown second)) f ∙ ap (λ (y : Term R). native_2 s which (value_of shown t) (value_of shown y)) e
      ∙ sym (native_two s which (value_of shown t) (value_of shown u))
  of_two_is (t ∷ u ∷ x ∷ ts) first second l f e = absurd (omega arith)

  pub of_many_is : (ts : List (Term R)) → 4 ≤ length ts → badarg ≡ native s which (meanings shown (row ts))
  of_many_is [] h = absurd (omega arith)
  of_many_is (t ∷ []) h = absurd (omega arith)
  of_many_is (t ∷ u ∷ []) h = absurd (omega arith)
  of_many_is (t ∷ u ∷ x ∷ []) h = absurd (omega arith)
  of_many_is (t ∷ u ∷ x ∷ y ∷ ts) h = native_many s which (value_of shown t) (value_of shown u) (value_of shown x) (value_of shown y) (meanings shown (row ts))
