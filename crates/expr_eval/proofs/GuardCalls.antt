-- Which guard functions are left where a call has one or two arguments.
use Rattle.std.proofs.Common.{◌≡◌, Bool, true, false, List, Some, None, is_some, refl, ap, sym, subst}
use Rattle.std.specs.declared.result.Result.{Result as Answer}
use Rattle.std.specs.declared.result.Result.TheVariants.{Ok, Err}
use Rattle.erl_syntax.specs.BuiltIns.{is_for_guards}
use Rattle.erl_syntax.specs.declared.built_in.BuiltIn.{BuiltIn}
use Rattle.erl_syntax.specs.declared.built_in.BuiltIn.TheVariants as b
use Rattle.term_value.specs.BuiltIns.{badarg, native_1, is_integer, is_atom, is_pid, is_tuple, is_list, is_bitstring, is_binary}
use Rattle.term_value.specs.Result.{Result, Gives, truth, truth_of}
use Rattle.term_value.specs.Seen.{Seen, IsKnown}
use Rattle.term_value.specs.Value.{Value}
use Rattle.bit_store.specs.Stores.{AnyAtom}
use Rattle.term_value.specs.declared.term.Term.{Term}
use Rattle.term_value.specs.declared.term.Term.TheVariants as term
use Rattle.expr_eval.specs.Answers.{IsComputed, IsEvaluated, IsPlain, IsEmpty, HasAnswer, IsAnswerWith}
use Rattle.expr_eval.specs.Kinds.{kind_test, is_measure}
use Rattle.expr_eval.specs.declared.reason.EvalFault.{EvalFault}
use Rattle.expr_eval.specs.declared.reason.EvalFault.TheVariants as f
use Rattle.expr_eval.specs.declared.reason.Reason.TheVariants as r

-- no test of a kind and no measure
pub other_badarg : (which : BuiltIn) (v : Value) → is_for_guards which ≡ true → kind_test which v ≡ None → is_measure which ≡ false → badarg ≡ native_1 which v
other_badarg b.IsInteger v g k m = cc
other_badarg b.IsNumber v g k m = cc
other_badarg b.IsAtom v g k m = cc
other_badarg b.IsBoolean v g k m = cc
other_badarg b.IsPid v g k m = cc
other_badarg b.IsTuple v g k m = cc
other_badarg b.IsList v g k m = cc
other_badarg b.IsBinary v g k m = cc
other_badarg b.IsBitstring v g k m = cc
other_badarg b.BitSize v g k m = cc
other_badarg b.ByteSize v g k m = cc
other_badarg b.TupleSize v g k m = cc
other_badarg b.Element v g k m = refl
other_badarg b.Length v g k m = cc
other_badarg b.Hd v g k m = cc
other_badarg b.Tl v g k m = cc
other_badarg b.Abs v g k m = cc
other_badarg b.Max v g k m = refl
other_badarg b.Min v g k m = refl
other_badarg b.SelfPid v g k m = refl
other_badarg b.BinaryPart v g k m = refl
other_badarg b.BinaryPartOf v g k m = refl
other_badarg b.Display v g k m = cc
other_badarg b.Spawn v g k m = cc
other_badarg b.Exit v g k m = cc
other_badarg b.Error v g k m = cc
other_badarg b.SplitBinary v g k m = cc
other_badarg b.BinaryToList v g k m = cc
other_badarg b.ListToBinary v g k m = cc
other_badarg b.IntegerToBinary v g k m = cc
other_badarg b.BinaryToInteger v g k m = cc
other_badarg b.TupleToList v g k m = cc
other_badarg b.ListToTuple v g k m = cc
other_badarg b.Reverse v g k m = cc

pub kind_is : (which : BuiltIn) (v : Value) (holds : Bool) → Some holds ≡ kind_test which v → Gives (truth holds) ≡ native_1 which v
kind_is b.IsInteger v holds e = let same : holds ≡ is_integer v = cc in ap (λ (h : Bool). Gives (truth h)) same
kind_is b.IsNumber v holds e = let same : holds ≡ is_integer v = cc in ap (λ (h : Bool). Gives (truth h)) same
kind_is b.IsAtom v holds e = let same : holds ≡ is_atom v = cc in ap (λ (h : Bool). Gives (truth h)) same
kind_is b.IsBoolean v holds e = let same : holds ≡ is_some (truth_of v) = cc in ap (λ (h : Bool). Gives (truth h)) same
kind_is b.IsPid v holds e = let same : holds ≡ is_pid v = cc in ap (λ (h : Bool). Gives (truth h)) same
kind_is b.IsTuple v holds e = let same : holds ≡ is_tuple v = cc in ap (λ (h : Bool). Gives (truth h)) same
kind_is b.IsList v holds e = let same : holds ≡ is_list v = cc in ap (λ (h : Bool). Gives (truth h)) same
kind_is b.IsBinary v holds e = let same : holds ≡ is_binary v = cc in ap (λ (h : Bool). Gives (truth h)) same
kind_is b.IsBitstring v holds e = let same : holds ≡ is_bitstring v = cc in ap (λ (h : Bool). Gives (truth h)) same
kind_is b.BitSize v holds e = cc
kind_is b.ByteSize v holds e = cc
kind_is b.TupleSize v holds e = cc
kind_is b.Element v holds e = cc
kind_is b.Length v holds e = cc
kind_is b.Hd v holds e = cc
kind_is b.Tl v holds e = cc
kind_is b.Abs v holds e = cc
kind_is b.Max v holds e = cc
kind_is b.Min v holds e = cc
kind_is b.SelfPid v holds e = cc
kind_is b.BinaryPart v holds e = cc
kind_is b.BinaryPartOf v holds e = cc
kind_is b.Display v holds e = cc
kind_is b.Spawn v holds e = cc
kind_is b.Exit v holds e = cc
kind_is b.Error v holds e = cc
kind_is b.SplitBinary v holds e = cc
kind_is b.BinaryToList v holds e = cc
kind_is b.ListToBinary v holds e = cc
kind_is b.IntegerToBinary v holds e = cc
kind_is b.BinaryToInteger v holds e = cc
kind_is b.TupleToList v holds e = cc
kind_is b.ListToTuple v holds e = cc
kind_is b.Reverse v holds e = cc

module _ {R : Type 0} where
  pub plain_known : (has : R → Type 0) (answer : Answer (Term R) (EvalFault R)) → IsPlain answer → HasAnswer has answer
  plain_known has (Ok (term.Int n)) p = tt
  plain_known has (Ok (term.Atom a)) p = tt
  plain_known has (Ok (term.Pid n)) p = absurd p
  plain_known has (Ok (term.Tuple x)) p = absurd p
  plain_known has (Ok (term.List x)) p = absurd p
  plain_known has (Ok (term.Bits x)) p = absurd p
  plain_known has (Err (f.Raised r.BadArg)) p = tt
  plain_known has (Err (f.Raised r.BadArith)) p = tt
  plain_known has (Err (f.Raised reason)) p = absurd p
  plain_known has (Err f.Limit) p = tt
  plain_known has (Err f.NoMemory) p = tt

  pub empty_known : (has : R → Type 0) (answer : Answer (Term R) (EvalFault R)) → IsEmpty answer → HasAnswer has answer
  empty_known has (Ok (term.Int n)) p = tt
  empty_known has (Ok (term.Atom a)) p = absurd p
  empty_known has (Ok (term.Pid n)) p = tt
  empty_known has (Ok (term.Tuple x)) p = absurd p
  empty_known has (Ok (term.List x)) p = absurd p
  empty_known has (Ok (term.Bits x)) p = absurd p
  empty_known has (Err (f.Raised r.BadArg)) p = tt
  empty_known has (Err (f.Raised reason)) p = absurd p
  empty_known has (Err f.Limit) p = tt
  empty_known has (Err f.NoMemory) p = tt

  -- a term that is seen so has the references of what is seen
  pub seen_known : (has : R → Type 0) (s : Seen R) (answer : Answer (Term R) (EvalFault R)) → IsAnswerWith s answer → IsKnown has AnyAtom s → HasAnswer has answer
  seen_known has s (Ok t) e h = subst (IsKnown has AnyAtom) (sym e) h
  seen_known has s (Err (f.Raised reason)) e h = absurd e
  seen_known has s (Err f.Limit) e h = tt
  seen_known has s (Err f.NoMemory) e h = tt

  pub computed_evaluated : (shown : R → List Bool) (answer : Answer (Term R) (EvalFault R)) (due : Result) → IsComputed shown answer due → IsEvaluated shown answer due
  computed_evaluated shown (Ok t) due h = h
  computed_evaluated shown (Err (f.Raised reason)) due h = h
  computed_evaluated shown (Err f.Limit) due h = h
  computed_evaluated shown (Err f.NoMemory) due h = tt
