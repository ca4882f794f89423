-- How many bits the bitstrings of a value have together, and expressions that make no bitstring (this project's own).
use Rattle.std.specs.Prelude.{◌≡◌, ℕ, ◌+◌, true, length}
use Rattle.erl_syntax.specs.BuiltIns.{is_for_guards}
use Rattle.term_value.specs.Tree.{Prim, Build, Native, Form, Table, Tree, Val, All, First, Trees, end, and, AndAlso, OrElse, Guard, never, or}
use Rattle.term_value.specs.Value.{Value, VTuple, VList, VBits, Values, none, more}

abbrev mutual
  pub bits_inside : Value → ℕ
  bits_inside (VTuple vs) = all_bits_inside vs
  bits_inside (VList vs) = all_bits_inside vs
  bits_inside (VBits bits) = length bits
  bits_inside _ = 0

  pub all_bits_inside : Values → ℕ
  all_bits_inside none = 0
  all_bits_inside (more v vs) = bits_inside v + all_bits_inside vs

-- no bit expression, and no built-in function but those that a guard may call: these share the bits that they give
abbrev pub PrimMakesNoBits : Prim → Type 0
PrimMakesNoBits (Build types) = ⊥
PrimMakesNoBits (Native b) = is_for_guards b ≡ true
PrimMakesNoBits _ = Unit {0}

abbrev pub FormMakesNoBits : Form → Type 0
FormMakesNoBits (Table p) = PrimMakesNoBits p
FormMakesNoBits _ = Unit {0}

-- no part of a guard expression makes a bitstring; literals with bitstrings in them do
abbrev mutual
  pub MakesNoBits : Tree → Type 0
  MakesNoBits (Val v) = bits_inside v ≡ 0
  MakesNoBits (All form ts) = FormMakesNoBits form × MakeNoBits ts
  MakesNoBits (First t (AndAlso u)) = MakesNoBits t × MakesNoBits u
  MakesNoBits (First t (OrElse u)) = MakesNoBits t × MakesNoBits u
  MakesNoBits _ = Unit {0}

  pub MakeNoBits : Trees → Type 0
  MakeNoBits end = Unit {0}
  MakeNoBits (and t ts) = MakesNoBits t × MakeNoBits ts

abbrev pub GuardMakesNoBits : Guard → Type 0
GuardMakesNoBits never = Unit {0}
GuardMakesNoBits (or ts guard) = MakeNoBits ts × GuardMakesNoBits guard
