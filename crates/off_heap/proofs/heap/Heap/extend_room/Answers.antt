use Rattle.std.proofs.Common.{List, Option, length, ap, sym, ◌∙◌, subst, arith}
use Rattle.write_room.specs.Rooms.{HasTaken}
use Rattle.bit_store.specs.Pieces.{pieces_bits}
use Rattle.bit_store.specs.Stores.{Keeps}
use Rattle.off_heap.specs.declared.cell.Cell.{Cell}
use Rattle.off_heap.specs.Cells.{Contents, cell_at, bits_in, room_in, Valid, shown}
use Rattle.off_heap.specs.Writing.{HasExtended}
use Rattle.off_heap.proofs.Written.{filled_bits}
use Rattle.off_heap.proofs.Out.{ready_valid, ready_inside, ready_bits, whole_tight, whole_keeps, whole_extended, whole_room}
use Rattle.off_heap.proofs.heap.Heap.extend_room.Goals as goal

pub write_pieces-requires-clause-valid : goal.write_pieces-requires-clause-valid
write_pieces-requires-clause-valid c =
    ready_valid c.args.self.now.cells c.take_room-room.new.self.cells c.args.cell c.take_room-room.result (ap (λ (k : Contents). k.cells) c.take_room-room.ensures.back) c.take_room-room.ensures.there c.make_room.new.self c.in-Ok.ensures.bits c.args.pieces.now c.requires.valid c.requires.inside

pub write_pieces-requires-clause-inside : goal.write_pieces-requires-clause-inside
write_pieces-requires-clause-inside c =
    ready_inside c.args.self.now.cells c.take_room-room.new.self.cells c.args.cell c.take_room-room.result (ap (λ (k : Contents). k.cells) c.take_room-room.ensures.back) c.take_room-room.ensures.there c.make_room.new.self c.in-Ok.ensures.bits c.args.pieces.now c.requires.valid c.requires.inside

pub write_pieces-requires-clause-space : goal.write_pieces-requires-clause-space
write_pieces-requires-clause-space c =
    let same = ap length (ready_bits c.args.self.now.cells c.take_room-room.new.self.cells c.args.cell c.take_room-room.result (ap (λ (k : Contents). k.cells) c.take_room-room.ensures.back) c.take_room-room.ensures.there c.make_room.new.self c.in-Ok.ensures.bits c.args.pieces.now c.requires.valid c.requires.inside) in
    let bits = ap length c.in-Ok.ensures.bits in
    omega (arith, same, bits, c.requires.added, c.in-Ok.ensures.room)

pub write_pieces-requires-clause-short : goal.write_pieces-requires-clause-short
write_pieces-requires-clause-short c =
    let same = ap length (ready_bits c.args.self.now.cells c.take_room-room.new.self.cells c.args.cell c.take_room-room.result (ap (λ (k : Contents). k.cells) c.take_room-room.ensures.back) c.take_room-room.ensures.there c.make_room.new.self c.in-Ok.ensures.bits c.args.pieces.now c.requires.valid c.requires.inside) in
    let bits = ap length c.in-Ok.ensures.bits in
    omega (arith, same, bits, c.requires.added, c.in-Ok.ensures.short)

pub put_room-requires-clause-tight : goal.put_room-requires-clause-tight
put_room-requires-clause-tight c = whole_tight c.args.self.now.cells c.take_room-room.new.self.cells c.args.cell c.take_room-room.result c.make_room.new.self c.write_pieces.new.room c.args.steps.now.moved c.make_room.new.steps.moved c.write_pieces.new.steps.moved c.args.added c.args.pieces.now
    (ap (λ (k : Contents). k.cells) c.take_room-room.ensures.back) c.take_room-room.ensures.there
    c.requires.valid c.requires.inside c.requires.added c.in-Ok.ensures.bits c.write_pieces.ensures.bits c.write_pieces.ensures.size c.write_pieces.ensures.ticks
    c.in-Ok.ensures.short c.in-Ok.ensures.in_place c.in-Ok.ensures.ticks_in_place c.in-Ok.ensures.grown c.in-Ok.ensures.ticks_grown c.take_room-room.ensures.tight

pub returns-in-Ok-clause-keeps : goal.returns-in-Ok-clause-keeps
returns-in-Ok-clause-keeps c =
    let put = ap (λ (k : Contents). k.cells) c.put_room.ensures in
    let P : List (Option Cell) → Type 0 = λ k. Keeps shown Valid c.args.self.now.cells k in
    subst P (sym put) (whole_keeps c.args.self.now.cells c.take_room-room.new.self.cells c.args.cell c.take_room-room.result c.make_room.new.self c.write_pieces.new.room c.args.steps.now.moved c.make_room.new.steps.moved c.write_pieces.new.steps.moved c.args.added c.args.pieces.now
    (ap (λ (k : Contents). k.cells) c.take_room-room.ensures.back) c.take_room-room.ensures.there
    c.requires.valid c.requires.inside c.requires.added c.in-Ok.ensures.bits c.write_pieces.ensures.bits c.write_pieces.ensures.size c.write_pieces.ensures.ticks
    c.in-Ok.ensures.short c.in-Ok.ensures.in_place c.in-Ok.ensures.ticks_in_place c.in-Ok.ensures.grown c.in-Ok.ensures.ticks_grown)

pub returns-in-Ok-clause-extended : goal.returns-in-Ok-clause-extended
returns-in-Ok-clause-extended c =
    let put = ap (λ (k : Contents). k.cells) c.put_room.ensures in
    let P : List (Option Cell) → Type 0 = λ k. HasExtended c.args.self.now.cells k c.args.cell (pieces_bits (shown c.args.self.now.cells) c.args.pieces.now) in
    subst P (sym put) (whole_extended c.args.self.now.cells c.take_room-room.new.self.cells c.args.cell c.take_room-room.result c.make_room.new.self c.write_pieces.new.room c.args.steps.now.moved c.make_room.new.steps.moved c.write_pieces.new.steps.moved c.args.added c.args.pieces.now
    (ap (λ (k : Contents). k.cells) c.take_room-room.ensures.back) c.take_room-room.ensures.there
    c.requires.valid c.requires.inside c.requires.added c.in-Ok.ensures.bits c.write_pieces.ensures.bits c.write_pieces.ensures.size c.write_pieces.ensures.ticks
    c.in-Ok.ensures.short c.in-Ok.ensures.in_place c.in-Ok.ensures.ticks_in_place c.in-Ok.ensures.grown c.in-Ok.ensures.ticks_grown)

pub returns-in-Ok-clause-size : goal.returns-in-Ok-clause-size
returns-in-Ok-clause-size c =
    let put = ap (λ (k : Contents). length (bits_in (cell_at k.cells c.args.cell))) c.put_room.ensures in
    c.used-len.ensures.value ∙ sym (put ∙ ap length (filled_bits c.take_room-room.new.self.cells c.args.cell c.write_pieces.new.room c.take_room-room.ensures.there))

pub returns-in-Ok-clause-taken : goal.returns-in-Ok-clause-taken
returns-in-Ok-clause-taken c =
    let put = ap (λ (k : Contents). k.cells) c.put_room.ensures in
    let P : List (Option Cell) → Type 0 = λ k. HasTaken (room_in (cell_at c.args.self.now.cells c.args.cell)) (room_in (cell_at k c.args.cell)) c.args.steps.now.moved c.write_pieces.new.steps.moved c.args.added in
    subst P (sym put) (whole_room c.args.self.now.cells c.take_room-room.new.self.cells c.args.cell c.take_room-room.result c.make_room.new.self c.write_pieces.new.room c.args.steps.now.moved c.make_room.new.steps.moved c.write_pieces.new.steps.moved c.args.added c.args.pieces.now
    (ap (λ (k : Contents). k.cells) c.take_room-room.ensures.back) c.take_room-room.ensures.there
    c.requires.valid c.requires.inside c.requires.added c.in-Ok.ensures.bits c.write_pieces.ensures.bits c.write_pieces.ensures.size c.write_pieces.ensures.ticks
    c.in-Ok.ensures.short c.in-Ok.ensures.in_place c.in-Ok.ensures.ticks_in_place c.in-Ok.ensures.grown c.in-Ok.ensures.ticks_grown)
