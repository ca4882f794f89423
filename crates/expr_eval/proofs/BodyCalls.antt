-- A function that no guard may call gives no value for three or more arguments.
use Rattle.std.proofs.Common.{◌≡◌, ◌≤◌, false, Bool, List, [], ◌∷◌, length, refl, arith}
use Rattle.erl_syntax.specs.BuiltIns.{is_for_guards}
use Rattle.erl_syntax.specs.declared.built_in.BuiltIn.{BuiltIn}
use Rattle.erl_syntax.specs.declared.built_in.BuiltIn.TheVariants as b
use Rattle.term_value.specs.BuiltIns.{badarg, native}
use Rattle.term_value.specs.Seen.{meanings}
use Rattle.term_value.specs.Setting.{Setting}
use Rattle.term_value.specs.Terms.{value_of, row}
use Rattle.term_value.specs.Value.{Value, none, more}
use Rattle.term_value.specs.declared.term.Term.{Term}
use Rattle.expr_eval.proofs.ArgumentNumbers.{of_many_is}

three_arguments : (s : Setting) (which : BuiltIn) (v w x : Value) → is_for_guards which ≡ false → badarg ≡ native s which (more v (more w (more x none)))
three_arguments s b.IsInteger v w x g = cc
three_arguments s b.IsNumber v w x g = cc
three_arguments s b.IsAtom v w x g = cc
three_arguments s b.IsBoolean v w x g = cc
three_arguments s b.IsPid v w x g = cc
three_arguments s b.IsTuple v w x g = cc
three_arguments s b.IsList v w x g = cc
three_arguments s b.IsBinary v w x g = cc
three_arguments s b.IsBitstring v w x g = cc
three_arguments s b.BitSize v w x g = cc
three_arguments s b.ByteSize v w x g = cc
three_arguments s b.TupleSize v w x g = cc
three_arguments s b.Element v w x g = cc
three_arguments s b.Length v w x g = cc
three_arguments s b.Hd v w x g = cc
three_arguments s b.Tl v w x g = cc
three_arguments s b.Abs v w x g = cc
three_arguments s b.Max v w x g = cc
three_arguments s b.Min v w x g = cc
three_arguments s b.SelfPid v w x g = cc
three_arguments s b.BinaryPart v w x g = cc
three_arguments s b.BinaryPartOf v w x g = cc
three_arguments s b.Display v w x g = refl
three_arguments s b.Spawn v w x g = refl
three_arguments s b.Exit v w x g = refl
three_arguments s b.Error v w x g = refl
three_arguments s b.SplitBinary v w x g = refl
three_arguments s b.BinaryToList v w x g = refl
three_arguments s b.ListToBinary v w x g = refl
three_arguments s b.IntegerToBinary v w x g = refl
three_arguments s b.BinaryToInteger v w x g = refl
three_arguments s b.TupleToList v w x g = refl
three_arguments s b.ListToTuple v w x g = refl
three_arguments s b.Reverse v w x g = refl

module _ {R : Type 0} (shown : R → List Bool) (s : Setting) (which : BuiltIn) where
  pub of_more_is : (ts : List (Term R)) → 3 ≤ length ts → is_for_guards which ≡ false → badarg ≡ native s which (meanings shown (row ts))
  of_more_is [] h g = absurd (omega arith)
  of_more_is (t ∷ []) h g = absurd (omega arith)
  of_more_is (t ∷ u ∷ []) h g = absurd (omega arith)
  of_more_is (t ∷ u ∷ x ∷ []) h g = three_arguments s which (value_of shown t) (value_of shown u) (value_of shown x) g
  of_more_is (t ∷ u ∷ x ∷ y ∷ ts) h g = of_many_is shown s which (t ∷ u ∷ x ∷ y ∷ ts) (omega arith)
