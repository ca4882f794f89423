-- The built-in functions of this language (Erlang Reference Manual, "Guard Sequences"; the documentation of the modules
-- `erlang` and `lists`).
use Rattle.std.specs.Prelude.{◌≡◌, ℕ, Bool, true, false, List, codes}
use Rattle.erl_syntax.specs.declared.built_in.BuiltIn.{BuiltIn}
use Rattle.erl_syntax.specs.declared.built_in.BuiltIn.TheVariants as b

-- the characters of its name
abbrev pub name_of : BuiltIn → List ℕ
name_of b.IsInteger = codes "is_integer"
name_of b.IsNumber = codes "is_number"
name_of b.IsAtom = codes "is_atom"
name_of b.IsBoolean = codes "is_boolean"
name_of b.IsPid = codes "is_pid"
name_of b.IsTuple = codes "is_tuple"
name_of b.IsList = codes "is_list"
name_of b.IsBinary = codes "is_binary"
name_of b.IsBitstring = codes "is_bitstring"
name_of b.BitSize = codes "bit_size"
name_of b.ByteSize = codes "byte_size"
name_of b.TupleSize = codes "tuple_size"
name_of b.Element = codes "element"
name_of b.Length = codes "length"
name_of b.Hd = codes "hd"
name_of b.Tl = codes "tl"
name_of b.Abs = codes "abs"
name_of b.Max = codes "max"
name_of b.Min = codes "min"
name_of b.SelfPid = codes "self"
name_of b.BinaryPart = codes "binary_part"
name_of b.BinaryPartOf = codes "binary_part"
name_of b.Display = codes "display"
name_of b.Spawn = codes "spawn"
name_of b.Exit = codes "exit"
name_of b.Error = codes "error"
name_of b.SplitBinary = codes "split_binary"
name_of b.BinaryToList = codes "binary_to_list"
name_of b.ListToBinary = codes "list_to_binary"
name_of b.IntegerToBinary = codes "integer_to_binary"
name_of b.BinaryToInteger = codes "binary_to_integer"
name_of b.TupleToList = codes "tuple_to_list"
name_of b.ListToTuple = codes "list_to_tuple"
name_of b.Reverse = codes "reverse"

-- the number of its arguments
abbrev pub arity_of : BuiltIn → ℕ
arity_of b.IsInteger = 1
arity_of b.IsNumber = 1
arity_of b.IsAtom = 1
arity_of b.IsBoolean = 1
arity_of b.IsPid = 1
arity_of b.IsTuple = 1
arity_of b.IsList = 1
arity_of b.IsBinary = 1
arity_of b.IsBitstring = 1
arity_of b.BitSize = 1
arity_of b.ByteSize = 1
arity_of b.TupleSize = 1
arity_of b.Element = 2
arity_of b.Length = 1
arity_of b.Hd = 1
arity_of b.Tl = 1
arity_of b.Abs = 1
arity_of b.Max = 2
arity_of b.Min = 2
arity_of b.SelfPid = 0
arity_of b.BinaryPart = 3
arity_of b.BinaryPartOf = 2
arity_of b.Display = 1
arity_of b.Spawn = 3
arity_of b.Exit = 1
arity_of b.Error = 1
arity_of b.SplitBinary = 2
arity_of b.BinaryToList = 1
arity_of b.ListToBinary = 1
arity_of b.IntegerToBinary = 1
arity_of b.BinaryToInteger = 1
arity_of b.TupleToList = 1
arity_of b.ListToTuple = 1
arity_of b.Reverse = 1

-- whether it may be called in a guard
abbrev pub is_for_guards : BuiltIn → Bool
is_for_guards b.Display = false
is_for_guards b.Spawn = false
is_for_guards b.Exit = false
is_for_guards b.Error = false
is_for_guards b.SplitBinary = false
is_for_guards b.BinaryToList = false
is_for_guards b.ListToBinary = false
is_for_guards b.IntegerToBinary = false
is_for_guards b.BinaryToInteger = false
is_for_guards b.TupleToList = false
is_for_guards b.ListToTuple = false
is_for_guards b.Reverse = false
is_for_guards _ = true

-- whether it may be called without the name of its module
abbrev pub is_bare : BuiltIn → Bool
is_bare b.Display = false
is_bare b.Reverse = false
is_bare _ = true

-- the name of its module
abbrev pub home_of : BuiltIn → List ℕ
home_of b.Reverse = codes "lists"
home_of _ = codes "erlang"

-- a function of this name and number of arguments
pub record Is (name : List ℕ) (arity : ℕ) (f : BuiltIn) : Type 0 where
  pub named : name_of f ≡ name
  pub takes : arity_of f ≡ arity
