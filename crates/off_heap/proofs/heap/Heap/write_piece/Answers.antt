use Rattle.std.proofs.Common.{◌++◌, List, Bool, ap, sym, ◌∙◌, arith, rules, SFits}
use Rattle.std.specs.Int.{w128}
use Rattle.std.proofs.lemmas.Int.{ints, to_z-of_z}
use Rattle.bit_store.specs.Pieces.{piece_bits}
use Rattle.bit_store.specs.declared.piece.Piece.{Piece}
use Rattle.bit_store.proofs.Lengths.{length-number}
use Rattle.off_heap.specs.declared.reference.BitRef.{BitRef}
use Rattle.off_heap.specs.Cells.{shown}
use Rattle.off_heap.specs.Writing.{with_room}
use Rattle.off_heap.proofs.Written.{own_part}
use Rattle.off_heap.proofs.heap.Heap.write_piece.Goals as goal

pub write_number-requires-clause-room : goal.write_number-requires-clause-room
write_number-requires-clause-room c =
    omega (arith, c.requires.space, length-number (shown (with_room c.args.self.now.cells c.args.own c.args.room.now)) c.args.piece.now c.in-Number.value c.in-Number.bits c.in-Number.endian c.in-Number.is)

pub write_number-requires-clause-short : goal.write_number-requires-clause-short
write_number-requires-clause-short c =
    omega (arith, c.requires.short, length-number (shown (with_room c.args.self.now.cells c.args.own c.args.room.now)) c.args.piece.now c.in-Number.value c.in-Number.bits c.in-Number.endian c.in-Number.is)

pub returns-in-Number-clause-ticks : goal.returns-in-Number-clause-ticks
returns-in-Number-clause-ticks c =
    rw (length-number (shown (with_room c.args.self.now.cells c.args.own c.args.room.now)) c.args.piece.now c.in-Number.value c.in-Number.bits c.in-Number.endian c.in-Number.is) c.write_number.ensures.ticks

pub returns-in-Number-clause-bits : goal.returns-in-Number-clause-bits
returns-in-Number-clause-bits c =
    let fits : SFits w128 c.in-Number.value = first_of (search rules, omega (arith, ints)) in
    let written = simp to_z-of_z at c.write_number.ensures.added in
    written ∙ ap (λ (p : Piece BitRef). c.args.room.now.bits ++ piece_bits (shown (with_room c.args.self.now.cells c.args.own c.args.room.now)) p) (sym c.in-Number.is)

pub returns-in-Some-clause-bits : goal.returns-in-Some-clause-bits
returns-in-Some-clause-bits c =
    let own = own_part c.args.self.now.cells c.args.own c.args.room.now c.in-Part.of c.in-Some.start c.in-Part.off c.in-Part.bits c.requires.there c.in-Some.ensures (rw c.in-Part.is at c.requires.valid) (rw c.in-Part.is at c.requires.inside) in
    c.write_own.ensures.added ∙ rw c.in-Part.is (ap (λ (w : List Bool). c.args.room.now.bits ++ w) own.1)
