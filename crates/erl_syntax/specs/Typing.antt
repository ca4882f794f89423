-- The types of segments (Erlang Reference Manual, "Bit Syntax Expressions", type specifier list).
use Rattle.std.specs.Prelude.{◌≡◌, ◌≢◌, ℕ, pos, ◌<ℤ◌, Bool, true, false, List, [], ◌∷◌, Option, Some, None, Result, Ok, Err, ◌⊎◌, is_some}
use Rattle.std.specs.List.{find, Contains}
use Rattle.std.specs.Option.{IsSome, IsNone}
use Rattle.bits_value.specs.declared.Sign.{Sign}
use Rattle.bits_value.specs.declared.Sign.TheVariants.{Unsigned}
use Rattle.bits_value.specs.declared.Sign.TheVariants as sign
use Rattle.bits_value.specs.declared.Endian.{Endian}
use Rattle.bits_value.specs.declared.Endian.TheVariants as endian
use Rattle.bits_value.specs.declared.UtfKind.TheVariants as utf
use Rattle.erl_syntax.specs.declared.expr.Expr.{Expr}
use Rattle.erl_syntax.specs.declared.expr.Expr.TheVariants as x
use Rattle.erl_syntax.specs.declared.segment.Segment.{Segment}
use Rattle.erl_syntax.specs.declared.segment.Spec.{Spec}
use Rattle.erl_syntax.specs.declared.segment.Spec.TheVariants as s
use Rattle.erl_syntax.specs.declared.typing.SideUse.{SideUse}
use Rattle.erl_syntax.specs.declared.typing.SideUse.TheVariants as side
use Rattle.erl_syntax.specs.declared.typing.Kind.{Kind}
use Rattle.erl_syntax.specs.declared.typing.Kind.TheVariants as k
use Rattle.erl_syntax.specs.declared.typing.SizeUse.{SizeUse}
use Rattle.erl_syntax.specs.declared.typing.SizeUse.TheVariants as z
use Rattle.erl_syntax.specs.declared.typing.Typed.{Typed}
use Rattle.erl_syntax.specs.declared.typing.SpecKind.{SpecKind}
use Rattle.erl_syntax.specs.declared.typing.SpecKind.TheVariants as g
use Rattle.erl_syntax.specs.declared.typing.SegFault.{SegFault}
use Rattle.erl_syntax.specs.declared.typing.SegFault.TheVariants as f

-- the kind of a word
abbrev pub kind_of : Spec → SpecKind
kind_of s.Integer = g.Type
kind_of s.Binary = g.Type
kind_of s.Bitstring = g.Type
kind_of s.Utf8 = g.Type
kind_of s.Utf16 = g.Type
kind_of s.Utf32 = g.Type
kind_of s.Float = g.Type
kind_of s.Signed = g.Sign
kind_of s.Unsigned = g.Sign
kind_of s.Big = g.Endian
kind_of s.Little = g.Endian
kind_of s.Native = g.Endian
kind_of (s.Unit n) = g.Unit

abbrev pub same_kind : SpecKind → SpecKind → Bool
same_kind g.Type g.Type = true
same_kind g.Sign g.Sign = true
same_kind g.Endian g.Endian = true
same_kind g.Unit g.Unit = true
same_kind _ _ = false

abbrev pub is_of : SpecKind → Spec → Bool
is_of g.Type sp = same_kind g.Type (kind_of sp)
is_of g.Sign sp = same_kind g.Sign (kind_of sp)
is_of g.Endian sp = same_kind g.Endian (kind_of sp)
is_of g.Unit sp = same_kind g.Unit (kind_of sp)

-- the word of a kind among a segment's words, the first where there are several
abbrev pub word : SpecKind → List Spec → Option Spec
word kind specs = find (is_of kind) specs

-- no word of the kind: an integer
abbrev pub type_of : Option Spec → Kind
type_of (Some s.Binary) = k.Binary
type_of (Some s.Bitstring) = k.Bitstring
type_of (Some s.Utf8) = k.Utf utf.Utf8
type_of (Some s.Utf16) = k.Utf utf.Utf16
type_of (Some s.Utf32) = k.Utf utf.Utf32
type_of _ = k.Int

-- only a number has a sign
abbrev pub sign_of : Kind → Option Spec → Sign
sign_of k.Int (Some s.Signed) = sign.Signed
sign_of _ _ = sign.Unsigned

-- `native` is little
abbrev pub order_of : Option Spec → Endian
order_of (Some s.Little) = endian.Little
order_of (Some s.Native) = endian.Little
order_of _ = endian.Big

-- a bitstring and a character in UTF-8 have no endianness
abbrev pub endian_of : Kind → Option Spec → Endian
endian_of k.Int w = order_of w
endian_of k.Binary w = endian.Big
endian_of k.Bitstring w = endian.Big
endian_of (k.Utf utf.Utf8) w = endian.Big
endian_of (k.Utf utf.Utf16) w = order_of w
endian_of (k.Utf utf.Utf32) w = order_of w

-- how long a segment is, where a size is written and where none is
abbrev pub size_by : Bool → Kind → SizeUse
size_by sized (k.Utf u) = z.NoSize
size_by true kind = z.Given
size_by false k.Int = z.Default 8
size_by false kind = z.Whole

abbrev pub size_of : Kind → Option Expr → SizeUse
size_of kind e = size_by (is_some e) kind

abbrev pub usual_unit : Kind → ℕ
usual_unit k.Binary = 8
usual_unit _ = 1

abbrev pub unit_of : Kind → Option Spec → ℕ
unit_of kind (Some (s.Unit (pos n))) = n
unit_of kind _ = usual_unit kind

abbrev pub kind : Segment → Kind
kind sg = type_of (word g.Type sg.specs)

-- the type that these words give a segment of this kind, with a size or without
abbrev pub type_as : Bool → List Spec → Kind → Typed
type_as sized words kind = record {
  kind = kind;
  sign = sign_of kind (word g.Sign words);
  endian = endian_of kind (word g.Endian words);
  size = size_by sized kind;
  unit = unit_of kind (word g.Unit words);
}

abbrev pub type_by : Bool → List Spec → Typed
type_by sized words = type_as sized words (type_of (word g.Type words))

-- the type of a segment that has no fault
abbrev pub table : Segment → Typed
table sg = type_by (is_some sg.size) sg.specs

-- two words of a kind that differ
abbrev pub Differ : List Spec → Type 0
Differ specs = (a : Spec) × ((b : Spec) × ((Contains specs a × Contains specs b) × ((kind_of a ≡ kind_of b) × (a ≢ b))))

abbrev pub OutOfRange : Option Spec → Type 0
OutOfRange (Some (s.Unit n)) = (n <ℤ pos 1) ⊎ (pos 256 <ℤ n)
OutOfRange _ = ⊥

abbrev pub IsUtf : Kind → Type 0
IsUtf (k.Utf u) = Unit {0}
IsUtf _ = ⊥

-- a segment of such a kind has a bitstring as its value
abbrev pub HasBits : Kind → Type 0
HasBits k.Binary = Unit {0}
HasBits k.Bitstring = Unit {0}
HasBits _ = ⊥

abbrev pub IsString : Expr → Type 0
IsString (x.Str at chars) = Unit {0}
IsString _ = ⊥

abbrev pub IsPattern : SideUse → Type 0
IsPattern side.Build = ⊥
IsPattern _ = Unit {0}

-- a bitstring without a size
abbrev pub IsOpen : Segment → Type 0
IsOpen sg = HasBits (kind sg) × IsNone sg.size

-- the segment has the fault; `last` says that no other segment follows
abbrev pub HasFault : Segment → SideUse → Bool → SegFault → Type 0
HasFault sg on last f.TwoOfAKind = Differ sg.specs
HasFault sg on last f.UnitRange = OutOfRange (word g.Unit sg.specs)
HasFault sg on last f.FloatType = word g.Type sg.specs ≡ Some s.Float
HasFault sg on last f.SizeOnUtf = IsUtf (kind sg) × IsSome sg.size
HasFault sg on last f.UnitOnUtf = IsUtf (kind sg) × IsSome (word g.Unit sg.specs)
HasFault sg on last f.UnitWithoutSize = (kind sg ≡ k.Int) × (IsNone sg.size × IsSome (word g.Unit sg.specs))
HasFault sg on last f.StringType = IsString sg.value × HasBits (kind sg)
HasFault sg on last f.OpenNotLast = IsPattern on × ((last ≡ false) × IsOpen sg)
HasFault sg on last f.OpenInGenerator = (on ≡ side.Generator) × IsOpen sg

-- in the order in which they are told
abbrev pub seg_faults : List SegFault
seg_faults = f.TwoOfAKind ∷ f.UnitRange ∷ f.FloatType ∷ f.SizeOnUtf ∷ f.UnitOnUtf ∷ f.UnitWithoutSize ∷ f.StringType ∷ f.OpenNotLast ∷ f.OpenInGenerator ∷ []

-- the first of the list that holds, or none
abbrev pub FirstOf : {X : Type 0} → (X → Type 0) → List X → Option X → Type 0
FirstOf Holds [] first = first ≡ None
FirstOf Holds (c ∷ cs) first = (Holds c × (first ≡ Some c)) ⊎ ((Holds c → ⊥) × FirstOf Holds cs first)

-- the segment's type, or its first fault
abbrev pub Types : Segment → SideUse → Bool → Result Typed SegFault → Type 0
Types sg on last (Ok t) = FirstOf (HasFault sg on last) seg_faults None × (t ≡ table sg)
Types sg on last (Err e) = FirstOf (HasFault sg on last) seg_faults (Some e)
