use Rattle.std.proofs.Common.{◌≡◌, length, ap, sym, ◌∙◌, arith}
use Rattle.bit_store.specs.Pieces.{pieces_bits}
use Rattle.bit_store.proofs.Lengths.{some_is_within, none_is_past}
use Rattle.off_heap.specs.Cells.{shown}
use Rattle.off_heap.proofs.heap.Heap.fresh.Goals as goal

pub fresh_small-requires-clause-total : goal.fresh_small-requires-clause-total
fresh_small-requires-clause-total c = (some_is_within c.in-Some.total (length (pieces_bits (shown c.args.self.now.cells) c.args.pieces.now)) (sym c.in-Some.is ∙ c.total_bits.ensures.is (shown c.args.self.now.cells) c.requires.inside)).0

pub fresh_cell-requires-clause-total : goal.fresh_cell-requires-clause-total
fresh_cell-requires-clause-total c = (some_is_within c.in-Some.total (length (pieces_bits (shown c.args.self.now.cells) c.args.pieces.now)) (sym c.in-Some.is ∙ c.total_bits.ensures.is (shown c.args.self.now.cells) c.requires.inside)).0

pub returns-in-None-clause-refused : goal.returns-in-None-clause-refused
returns-in-None-clause-refused c = none_is_past (length (pieces_bits (shown c.args.self.now.cells) c.args.pieces.now)) (sym c.in-None.is ∙ c.total_bits.ensures.is (shown c.args.self.now.cells) c.requires.inside)

pub returns-in-Err-clause-refused : goal.returns-in-Err-clause-refused
returns-in-Err-clause-refused c = (some_is_within c.in-Some.total (length (pieces_bits (shown c.args.self.now.cells) c.args.pieces.now)) (sym c.in-Some.is ∙ c.total_bits.ensures.is (shown c.args.self.now.cells) c.requires.inside)).1

pub returns-in-Ok-fresh_cell-clause-small : goal.returns-in-Ok-fresh_cell-clause-small
returns-in-Ok-fresh_cell-clause-small c = λ small.
    let w = some_is_within c.in-Some.total (length (pieces_bits (shown c.args.self.now.cells) c.args.pieces.now)) (sym c.in-Some.is ∙ c.total_bits.ensures.is (shown c.args.self.now.cells) c.requires.inside) in
    absurd (omega (arith, w.0, small, c.if-total-le-SMALL_BITS.false))

pub returns-in-Ok-fresh_cell-clause-large : goal.returns-in-Ok-fresh_cell-clause-large
returns-in-Ok-fresh_cell-clause-large c = λ large.
    let w = some_is_within c.in-Some.total (length (pieces_bits (shown c.args.self.now.cells) c.args.pieces.now)) (sym c.in-Some.is ∙ c.total_bits.ensures.is (shown c.args.self.now.cells) c.requires.inside) in
    let size : length (shown c.fresh_cell.new.self.cells c.in-Ok-fresh_cell.made) ≡ c.in-Some.total = ap length c.in-Ok-fresh_cell.ensures.shows ∙ sym w.0 in
    (c.in-Ok-fresh_cell.ensures.in_new_cell, rw size c.in-Ok-fresh_cell.ensures.moved)

pub returns-in-Err-fresh_cell-clause-refused : goal.returns-in-Err-fresh_cell-clause-refused
returns-in-Err-fresh_cell-clause-refused c = (some_is_within c.in-Some.total (length (pieces_bits (shown c.args.self.now.cells) c.args.pieces.now)) (sym c.in-Some.is ∙ c.total_bits.ensures.is (shown c.args.self.now.cells) c.requires.inside)).1
