use Rattle.std.proofs.Common.{◌≡◌, ◌∙◌, ap, sym, ◌*◌, rules, to_z, of_z}
use Rattle.std.proofs.lemmas.Int.{to_z-of_z}
use Rattle.std.proofs.lemmas.Result.{err_from_is_err_and}
use mir.Val.{SFits}
use mir.Syntax.{w128}
use Rattle.bit_store.specs.declared.piece.Piece.TheVariants.{Number}
use Rattle.term_value.specs.Encode.{encoded_character}
use Rattle.bits_build.specs.Parts.{part_encoded}
use Rattle.bits_value.proofs.Written.{length-all_bits}
use Rattle.bits_build.proofs.Segments.{part_extent, of_integer, of_character, of_binary, of_bitstring, integer_made}
use Rattle.bits_build.proofs.segment.segment_of.Goals as goal

pub returns-in_err-bits-in-Int-value : goal.returns-in_err-bits-in-Int-value
returns-in_err-bits-in-Int-value g c =
    let p = err_from_is_err_and c.from_residual.result c.from_residual.ensures.1 in
    rw (p.1, p.2, of_integer (g.S.Store.shown c.args.store.now) c.args.part.now c.in-Int-value.value c.in-Int.is c.in-Int-value.is)
    (c.in_err-bits-in-Int-value.ensures (part_extent (g.S.Store.shown c.args.store.now) c.args.part.now) c.in-Int-value.value c.args.part.now.typed.endian (c.extent_of.ensures.is (g.S.Store.shown c.args.store.now)))

pub returns-in_ok-bits-in-Int-value : goal.returns-in_ok-bits-in-Int-value
returns-in_ok-bits-in-Int-value g c =
    let fits : SFits w128 c.in-Int-value.value = search rules in
    let same : to_z w128 (of_z w128 c.in-Int-value.value) ≡ c.in-Int-value.value = to_z-of_z w128 c.in-Int-value.value fits in
    let made : c.number.result ≡ record { piece = Number c.in-Int-value.value c.in_ok-bits-in-Int-value.bits c.args.part.now.typed.endian; bits = c.in_ok-bits-in-Int-value.bits }
    = c.number.ensures ∙ ap (λ v. record { piece = Number v c.in_ok-bits-in-Int-value.bits c.args.part.now.typed.endian; bits = c.in_ok-bits-in-Int-value.bits }) same in
    integer_made (g.S.Store.shown c.args.store.now) (g.S.Store.has c.args.store.now) (part_encoded (g.S.Store.shown c.args.store.now) c.args.part.now) c.in-Int-value.value c.in_ok-bits-in-Int-value.bits c.args.part.now.typed.endian
    (of_integer (g.S.Store.shown c.args.store.now) c.args.part.now c.in-Int-value.value c.in-Int.is c.in-Int-value.is
    ∙ c.in_ok-bits-in-Int-value.ensures (part_extent (g.S.Store.shown c.args.store.now) c.args.part.now) c.in-Int-value.value c.args.part.now.typed.endian (c.extent_of.ensures.is (g.S.Store.shown c.args.store.now)))
    c.number.result made

pub returns-in_ok-bytes-in-Int-value-2 : goal.returns-in_ok-bytes-in-Int-value-2
returns-in_ok-bytes-in-Int-value-2 g c =
    let fits : SFits w128 c.in-Int-value-2.value = search rules in
    let same : to_z w128 (of_z w128 c.in-Int-value-2.value) ≡ c.in-Int-value-2.value = to_z-of_z w128 c.in-Int-value-2.value fits in
    record {
      is = of_character (g.S.Store.shown c.args.store.now) c.args.part.now c.in-Utf.kind c.in-Int-value-2.value c.in-Utf.is c.in-Int-value-2.is
          ∙ ap (λ v. encoded_character c.in-Utf.kind c.args.part.now.typed.endian v) (sym same) ∙ c.in_ok-bytes-in-Int-value-2.ensures;
      size = ap (λ n. 8 * n) c.len.ensures.value ∙ sym (length-all_bits c.in_ok-bytes-in-Int-value-2.bytes.items);
      inside = tt;
      valid = tt;
    }

pub returns-in-Binary : goal.returns-in-Binary
returns-in-Binary g c = rw (of_binary (g.S.Store.shown c.args.store.now) c.args.part.now c.in-Binary.is) c.bits_of.ensures

pub returns-in-Bitstring : goal.returns-in-Bitstring
returns-in-Bitstring g c = rw (of_bitstring (g.S.Store.shown c.args.store.now) c.args.part.now c.in-Bitstring.is) c.bits_of-in-Bitstring.ensures
