-- The bits of a part by the kind of its segment and of its value.
use Rattle.std.proofs.Common.{◌≡◌, ℕ, ℤ, Bool, List, Option, option_map, ap, refl, sym, subst, ◌∙◌}
use Rattle.bits_value.specs.declared.Endian.{Endian}
use Rattle.bits_value.specs.declared.UtfKind.{UtfKind}
use Rattle.erl_syntax.specs.declared.typing.Kind.{Kind}
use Rattle.erl_syntax.specs.declared.typing.Kind.TheVariants as k
use Rattle.term_value.specs.declared.term.Term.TheVariants as t
use Rattle.term_value.specs.Value.{Value, VInt, VAtom, VPid, VTuple, VList, VBits}
use Rattle.term_value.specs.Terms.{value_of}
use Rattle.term_value.specs.Extent.{Extent, extent}
use Rattle.term_value.specs.Encode.{Encoded, Bits, encoded_as, encoded_integer, encoded_character, encoded_part}
use Rattle.bits_value.specs.Number.{spell}
use Rattle.bits_value.proofs.Spellings.{length-spell}
use Rattle.bit_store.specs.declared.piece.Piece.TheVariants.{Number}
use Rattle.bits_build.specs.declared.segment.Segment.{Segment}
use Rattle.bits_build.specs.declared.part.Part.{Part}
use Rattle.bits_build.specs.Parts.{IsSegment, part_encoded, bits_encoded}

abbrev pub part_extent : {R : Type 0} → (R → List Bool) → Part R → Extent
part_extent shown p = extent p.typed.size p.typed.unit (option_map (value_of shown) p.size)

same_bits : (endian : Endian) (v : Value) (e : Extent) → encoded_as k.Binary endian v e ≡ encoded_as k.Bitstring endian v e
same_bits endian (VInt n) e = refl
same_bits endian (VAtom a) e = refl
same_bits endian (VPid a) e = refl
same_bits endian (VTuple vs) e = refl
same_bits endian (VList vs) e = refl
same_bits endian (VBits bits) e = refl

module _ {R : Type 0} (shown : R → List Bool) (p : Part R) where
  by_kind : (kind : Kind) → p.typed.kind ≡ kind → part_encoded shown p ≡ encoded_as kind p.typed.endian (value_of shown p.value) (part_extent shown p)
  by_kind kind is = ap (λ kind. encoded_as kind p.typed.endian (value_of shown p.value) (part_extent shown p)) is

  pub of_integer : (v : ℤ) → p.typed.kind ≡ k.Int → p.value ≡ t.Int v → part_encoded shown p ≡ encoded_integer (part_extent shown p) v p.typed.endian
  of_integer v a b = by_kind k.Int a ∙ ap (λ value. encoded_as k.Int p.typed.endian (value_of shown value) (part_extent shown p)) b

  pub of_character : (utf : UtfKind) (v : ℤ) → p.typed.kind ≡ k.Utf utf → p.value ≡ t.Int v → part_encoded shown p ≡ encoded_character utf p.typed.endian v
  of_character utf v a b = by_kind (k.Utf utf) a ∙ ap (λ value. encoded_as (k.Utf utf) p.typed.endian (value_of shown value) (part_extent shown p)) b

  pub of_binary : p.typed.kind ≡ k.Binary → part_encoded shown p ≡ bits_encoded shown p
  of_binary a = by_kind k.Binary a ∙ same_bits p.typed.endian (value_of shown p.value) (part_extent shown p)

  pub of_bitstring : p.typed.kind ≡ k.Bitstring → part_encoded shown p ≡ bits_encoded shown p
  of_bitstring a = by_kind k.Bitstring a

  pub of_bits : (reference : R) → p.value ≡ t.Bits reference → bits_encoded shown p ≡ encoded_part (part_extent shown p) (shown reference)
  of_bits reference b = ap (λ value. encoded_as k.Bitstring p.typed.endian (value_of shown value) (part_extent shown p)) b

-- a number as a piece
pub integer_made : {R : Type 0} (shown : R → List Bool) (has : R → Type 0) (encoded : Encoded) (v : ℤ) (n : ℕ) (endian : Endian) → encoded ≡ Bits (spell n v endian)
    → (segment : Segment R) → segment ≡ record { piece = Number v n endian; bits = n } → IsSegment shown has encoded segment
integer_made shown has encoded v n endian e segment made =
    subst (IsSegment shown has encoded) (sym made) (record { is = e; size = sym (length-spell n v endian); inside = tt; valid = tt })
