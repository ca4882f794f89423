use Rattle.std.proofs.Common.{◌≡◌, ◌++◌, List, Bool, length, take, drop, ap, sym, ◌∙◌, arith, rules, SFits}
use Rattle.std.specs.Int.{w128}
use Rattle.std.proofs.lemmas.Int.{ints, to_z-of_z}
use Rattle.bits_value.specs.Bits.{all_bits}
use Rattle.bits_value.proofs.Written.{length-all_bits}
use Rattle.bit_store.specs.Stores.{itself}
use Rattle.bit_store.specs.Pieces.{piece_bits}
use Rattle.bit_store.specs.declared.piece.Piece.{Piece}
use Rattle.bit_store.proofs.Lengths.{length-number, length-part_of}
use Rattle.bit_store.proofs.WrittenBits.{source_written}
use Rattle.bit_store.proofs.plain.write_piece.Goals as goal

pub write_number-requires-clause-room : goal.write_number-requires-clause-room
write_number-requires-clause-room c = omega (arith, c.requires.room, length-number itself c.args.piece.now c.in-Number.value c.in-Number.bits c.in-Number.endian c.in-Number.is)

pub write_number-requires-clause-short : goal.write_number-requires-clause-short
write_number-requires-clause-short c = omega (arith, c.requires.short, length-number itself c.args.piece.now c.in-Number.value c.in-Number.bits c.in-Number.endian c.in-Number.is)

pub returns-in-Number-clause-end : goal.returns-in-Number-clause-end
returns-in-Number-clause-end c = omega (arith, c.write_number.ensures.end, length-number itself c.args.piece.now c.in-Number.value c.in-Number.bits c.in-Number.endian c.in-Number.is)

pub returns-in-Number-clause-bits : goal.returns-in-Number-clause-bits
returns-in-Number-clause-bits c =
    let fits : SFits w128 c.in-Number.value = first_of (search rules, omega (arith, ints)) in
    let written = simp to_z-of_z at c.write_number.ensures.bits in
    written ∙ ap (λ (p : Piece (List Bool)). take c.args.at (all_bits c.args.target.now) ++ piece_bits itself p) (sym c.in-Number.is)

pub returns-in-Part-clause-bits : goal.returns-in-Part-clause-bits
returns-in-Part-clause-bits c =
    let size : length (piece_bits itself c.args.piece.now) ≡ c.in-Part.bits = length-part_of itself c.args.piece.now c.in-Part.of c.in-Part.off c.in-Part.bits c.in-Part.is c.requires.inside in
    let written = source_written (all_bits c.copy_bits.new.target) (all_bits c.args.target.now) c.part.result c.args.at c.in-Part.bits (omega (arith, length-all_bits c.args.target.now, c.requires.room, size)) c.part.ensures.size c.copy_bits.ensures in
    written ∙ ap (λ (w : List Bool). take c.args.at (all_bits c.args.target.now) ++ w) (c.part.ensures.is ∙ ap (λ (w : List Bool). take c.in-Part.bits (drop c.in-Part.off w)) c.bits.ensures ∙ ap (λ (p : Piece (List Bool)). piece_bits itself p) (sym c.in-Part.is))
