-- The built-in functions that test a value's kind (Erlang Reference Manual, "Expressions", Guard Expressions).
use Rattle.std.specs.Prelude.{Bool, true, false, Option, Some, None, is_some}
use Rattle.erl_syntax.specs.declared.built_in.BuiltIn.{BuiltIn}
use Rattle.erl_syntax.specs.declared.built_in.BuiltIn.TheVariants.{IsInteger, IsNumber, IsAtom, IsBoolean, IsPid, IsTuple, IsList, IsBinary, IsBitstring, BitSize, ByteSize, TupleSize, Length, Hd, Tl, Abs, ListToBinary, IntegerToBinary}
use Rattle.term_value.specs.BuiltIns.{is_integer, is_atom, is_pid, is_tuple, is_list, is_bitstring, is_binary}
use Rattle.term_value.specs.Result.{truth_of}
use Rattle.term_value.specs.Value.{Value}
use Rattle.term_value.specs.declared.term.Term.{Term}
use Rattle.term_value.specs.declared.term.Term.TheVariants.{Bits}

-- whether the value is of the kind that the function tests; None where it is no such test
abbrev pub kind_test : BuiltIn → Value → Option Bool
kind_test IsInteger v = Some (is_integer v)
kind_test IsNumber v = Some (is_integer v)
kind_test IsAtom v = Some (is_atom v)
kind_test IsBoolean v = Some (is_some (truth_of v))
kind_test IsPid v = Some (is_pid v)
kind_test IsTuple v = Some (is_tuple v)
kind_test IsList v = Some (is_list v)
kind_test IsBinary v = Some (is_binary v)
kind_test IsBitstring v = Some (is_bitstring v)
kind_test _ v = None

-- the functions of one argument that give something of it
abbrev pub is_measure : BuiltIn → Bool
is_measure BitSize = true
is_measure ByteSize = true
is_measure TupleSize = true
is_measure Length = true
is_measure Hd = true
is_measure Tl = true
is_measure Abs = true
is_measure _ = false

-- the functions of one argument that make a new bitstring
abbrev pub writes : BuiltIn → Bool
writes ListToBinary = true
writes IntegerToBinary = true
writes _ = false

-- the reference is there, where the term is a bitstring
abbrev pub HasBits : {R : Type 0} → (R → Type 0) → Term R → Type 0
HasBits has (Bits of) = has of
HasBits has _ = Unit {0}
