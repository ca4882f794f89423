-- What an evaluation's answer says of its definition (this project's own).
use Rattle.std.specs.Prelude.{◌≡◌, ◌⊎◌, ℕ, Bool, List, [], length, slice_index_or}
use Rattle.std.specs.declared.result.Result.{Result as Answer}
use Rattle.std.specs.declared.result.Result.TheVariants.{Ok, Err}
use Rattle.erl_syntax.specs.Atoms as atom
use Rattle.term_value.specs.Value.{Value, VAtom, VTuple, none, more}
use Rattle.term_value.specs.Result.{Result, Gives, Stops, Raise, Limit}
use Rattle.term_value.specs.Seen.{Seen}
use Rattle.term_value.specs.Setting.{Setting}
use Rattle.term_value.specs.Terms.{value_of, seen, IsOver}
use Rattle.term_value.specs.declared.term.Term.{Term}
use Rattle.term_value.specs.declared.term.Term.TheVariants as t
use Rattle.bit_store.specs.Stores.{AnyAtom}
use Rattle.expr_eval.specs.declared.reason.Reason.{Reason}
use Rattle.expr_eval.specs.declared.reason.Reason.TheVariants as r
use Rattle.expr_eval.specs.declared.reason.EvalFault.{EvalFault}
use Rattle.expr_eval.specs.declared.reason.EvalFault.TheVariants as f

-- the reason `{Atom, Value}`
abbrev pub tagged : ℕ → Value → Value
tagged a v = VTuple (more (VAtom a) (more v none))

-- the value of a reason
abbrev pub reason_of : {R : Type 0} → (R → List Bool) → Reason R → Value
reason_of shown r.BadArg = VAtom atom.a_badarg
reason_of shown r.BadArith = VAtom atom.a_badarith
reason_of shown (r.BadArgOf t) = tagged atom.a_badarg (value_of shown t)
reason_of shown (r.BadMatch t) = tagged atom.a_badmatch (value_of shown t)
reason_of shown (r.CaseClause t) = tagged atom.a_case_clause (value_of shown t)
reason_of shown r.IfClause = VAtom atom.a_if_clause
reason_of shown r.FunctionClause = VAtom atom.a_function_clause
reason_of shown (r.BadGenerator t) = tagged atom.a_bad_generator (value_of shown t)
reason_of shown (r.BadFilter t) = tagged atom.a_bad_filter (value_of shown t)
reason_of shown r.Undef = VAtom atom.a_undef
reason_of shown r.Reductions = VAtom atom.a_reductions
reason_of shown (r.Other t) = value_of shown t

-- an answer of a call that takes no memory
abbrev pub IsComputed : {R : Type 0} → (R → List Bool) → Answer (Term R) (EvalFault R) → Result → Type 0
IsComputed shown (Ok t) due = Gives (value_of shown t) ≡ due
IsComputed shown (Err (f.Raised reason)) due = Stops (Raise (reason_of shown reason)) ≡ due
IsComputed shown (Err f.Limit) due = Stops Limit ≡ due
IsComputed shown (Err f.NoMemory) due = ⊥

-- an answer of a call that may take memory
abbrev pub IsEvaluated : {R : Type 0} → (R → List Bool) → Answer (Term R) (EvalFault R) → Result → Type 0
IsEvaluated shown (Ok t) due = Gives (value_of shown t) ≡ due
IsEvaluated shown (Err (f.Raised reason)) due = Stops (Raise (reason_of shown reason)) ≡ due
IsEvaluated shown (Err f.Limit) due = Stops Limit ≡ due
IsEvaluated shown (Err f.NoMemory) due = Unit {0}

-- the references of a reason's term are there
abbrev pub HasReason : {R : Type 0} → (R → Type 0) → Reason R → Type 0
HasReason has (r.BadArgOf t) = IsOver has AnyAtom t
HasReason has (r.BadMatch t) = IsOver has AnyAtom t
HasReason has (r.CaseClause t) = IsOver has AnyAtom t
HasReason has (r.BadGenerator t) = IsOver has AnyAtom t
HasReason has (r.BadFilter t) = IsOver has AnyAtom t
HasReason has (r.Other t) = IsOver has AnyAtom t
HasReason has _ = Unit {0}

-- and those of an answer's term
abbrev pub HasAnswer : {R : Type 0} → (R → Type 0) → Answer (Term R) (EvalFault R) → Type 0
HasAnswer has (Ok t) = IsOver has AnyAtom t
HasAnswer has (Err (f.Raised reason)) = HasReason has reason
HasAnswer has (Err _) = Unit {0}

-- a number or a truth value, or a reason that has no term in it
abbrev pub IsPlain : {R : Type 0} → Answer (Term R) (EvalFault R) → Type 0
IsPlain (Ok (t.Int n)) = Unit {0}
IsPlain (Ok (t.Atom a)) = (a ≡ atom.a_true) ⊎ (a ≡ atom.a_false)
IsPlain (Ok _) = ⊥
IsPlain (Err (f.Raised r.BadArg)) = Unit {0}
IsPlain (Err (f.Raised r.BadArith)) = Unit {0}
IsPlain (Err (f.Raised _)) = ⊥
IsPlain (Err _) = Unit {0}

-- the same term, or want of memory or a bound
abbrev pub IsAnswerOf : {R : Type 0} → Term R → Answer (Term R) (EvalFault R) → Type 0
IsAnswerOf term (Ok t) = t ≡ term
IsAnswerOf term (Err (f.Raised reason)) = ⊥
IsAnswerOf term (Err _) = Unit {0}

-- a term that is seen so, or want of memory or a bound
abbrev pub IsAnswerWith : {R : Type 0} → Seen R → Answer (Term R) (EvalFault R) → Type 0
IsAnswerWith s (Ok t) = seen t ≡ s
IsAnswerWith s (Err (f.Raised reason)) = ⊥
IsAnswerWith s (Err _) = Unit {0}

-- a term with no reference in it, or a reason that has no term
abbrev pub IsEmpty : {R : Type 0} → Answer (Term R) (EvalFault R) → Type 0
IsEmpty (Ok (t.Int n)) = Unit {0}
IsEmpty (Ok (t.Pid p)) = Unit {0}
IsEmpty (Ok _) = ⊥
IsEmpty (Err (f.Raised r.BadArg)) = Unit {0}
IsEmpty (Err (f.Raised _)) = ⊥
IsEmpty (Err _) = Unit {0}

-- what a built-in function looks up
abbrev pub setting : List (List ℕ) → ℕ → Setting
setting names pid = record { names = λ atom. slice_index_or names atom []; pid = pid }

-- how many bits a bitstring has; a term of another kind has none
abbrev pub bit_count : {R : Type 0} → (R → List Bool) → Term R → ℕ
bit_count shown (t.Bits of) = length (shown of)
bit_count shown _ = 0
