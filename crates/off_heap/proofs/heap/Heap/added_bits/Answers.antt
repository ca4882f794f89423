use Rattle.std.proofs.Common.{length, ap, sym, ◌∙◌, arith}
use Rattle.bit_store.specs.Pieces.{pieces_bits}
use Rattle.bit_store.proofs.Lengths.{some_is_within, none_is_past}
use Rattle.off_heap.specs.Cells.{shown}
use Rattle.off_heap.proofs.heap.Heap.added_bits.Goals as goal

pub returns-in-None : goal.returns-in-None
returns-in-None c =
    let past = none_is_past (length (pieces_bits (shown c.args.self.now.cells) c.args.pieces.now)) (sym c.in-None.is ∙ c.total_bits.ensures.is (shown c.args.self.now.cells) c.requires.inside) in
    omega (arith, past)

pub returns-then-len-added : goal.returns-then-len-added
returns-then-len-added c =
    let w = some_is_within c.in-Some.added (length (pieces_bits (shown c.args.self.now.cells) c.args.pieces.now)) (sym c.in-Some.is ∙ c.total_bits.ensures.is (shown c.args.self.now.cells) c.requires.inside) in
    omega (arith, w.0, c.len.ensures, ap length c.look.ensures)

pub returns-else-len-added : goal.returns-else-len-added
returns-else-len-added c =
    let w = some_is_within c.in-Some.added (length (pieces_bits (shown c.args.self.now.cells) c.args.pieces.now)) (sym c.in-Some.is ∙ c.total_bits.ensures.is (shown c.args.self.now.cells) c.requires.inside) in
    (w.0, omega (arith, w.0, w.1, c.len.ensures, ap length c.look.ensures))
