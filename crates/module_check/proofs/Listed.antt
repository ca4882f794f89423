-- `BUILT_INS` has every built-in function.
use Rattle.std.proofs.Common.{Bool, true, false, MatchBool, ℕ, List, [], ◌∷◌, Option, Some, None, refl, lit<}
use Rattle.std.specs.List.{Contains}
use Rattle.std.specs.Option.{MatchOption}
use Rattle.erl_syntax.specs.BuiltIns.{Is}
use Rattle.erl_syntax.specs.declared.built_in.BuiltIn.{BuiltIn}
use Rattle.erl_syntax.specs.declared.built_in.BuiltIn.TheVariants as b

abbrev pub all : List BuiltIn
all = b.IsInteger ∷ b.IsNumber ∷ b.IsAtom ∷ b.IsBoolean ∷ b.IsPid ∷ b.IsTuple ∷ b.IsList ∷ b.IsBinary ∷ b.IsBitstring ∷ b.BitSize ∷ b.ByteSize ∷ b.TupleSize ∷ b.Element ∷ b.Length ∷ b.Hd ∷ b.Tl ∷ b.Abs ∷ b.Max ∷ b.Min ∷ b.SelfPid ∷ b.BinaryPart ∷ b.BinaryPartOf ∷ b.Display ∷ b.Spawn ∷ b.Exit ∷ b.Error ∷ b.SplitBinary ∷ b.BinaryToList ∷ b.ListToBinary ∷ b.IntegerToBinary ∷ b.BinaryToInteger ∷ b.TupleToList ∷ b.ListToTuple ∷ b.Reverse ∷ []

pub listed : (f : BuiltIn) → Contains all f
listed b.IsInteger = (0, lit< tt, refl)
listed b.IsNumber = (1, lit< tt, refl)
listed b.IsAtom = (2, lit< tt, refl)
listed b.IsBoolean = (3, lit< tt, refl)
listed b.IsPid = (4, lit< tt, refl)
listed b.IsTuple = (5, lit< tt, refl)
listed b.IsList = (6, lit< tt, refl)
listed b.IsBinary = (7, lit< tt, refl)
listed b.IsBitstring = (8, lit< tt, refl)
listed b.BitSize = (9, lit< tt, refl)
listed b.ByteSize = (10, lit< tt, refl)
listed b.TupleSize = (11, lit< tt, refl)
listed b.Element = (12, lit< tt, refl)
listed b.Length = (13, lit< tt, refl)
listed b.Hd = (14, lit< tt, refl)
listed b.Tl = (15, lit< tt, refl)
listed b.Abs = (16, lit< tt, refl)
listed b.Max = (17, lit< tt, refl)
listed b.Min = (18, lit< tt, refl)
listed b.SelfPid = (19, lit< tt, refl)
listed b.BinaryPart = (20, lit< tt, refl)
listed b.BinaryPartOf = (21, lit< tt, refl)
listed b.Display = (22, lit< tt, refl)
listed b.Spawn = (23, lit< tt, refl)
listed b.Exit = (24, lit< tt, refl)
listed b.Error = (25, lit< tt, refl)
listed b.SplitBinary = (26, lit< tt, refl)
listed b.BinaryToList = (27, lit< tt, refl)
listed b.ListToBinary = (28, lit< tt, refl)
listed b.IntegerToBinary = (29, lit< tt, refl)
listed b.BinaryToInteger = (30, lit< tt, refl)
listed b.TupleToList = (31, lit< tt, refl)
listed b.ListToTuple = (32, lit< tt, refl)
listed b.Reverse = (33, lit< tt, refl)

pub among_all : (name : List ℕ) (arity : ℕ) (r : Option BuiltIn) → MatchOption r ((f : BuiltIn) → Contains all f → Is name arity f → ⊥) (Is name arity) → MatchOption r ((f : BuiltIn) → Is name arity f → ⊥) (Is name arity)
among_all name arity None h = λ f is. h f (listed f) is
among_all name arity (Some f) h = h

pub any_listed : (P : BuiltIn → Type 0) (r : Bool) → MatchBool r ((f : BuiltIn) × (Contains all f × P f)) ((f : BuiltIn) → Contains all f → P f → ⊥) → MatchBool r ((f : BuiltIn) × P f) ((f : BuiltIn) × P f → ⊥)
any_listed P true h = (h.0, h.1.1)
any_listed P false h = λ k. h k.0 (listed k.0) k.1
