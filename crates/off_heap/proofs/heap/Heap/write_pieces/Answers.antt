use Rattle.std.proofs.Common.{◌∙◌, arith}
use Rattle.off_heap.proofs.Written.{turn_kept, turn_fits, turn_bits, turn_ticks}
use Rattle.off_heap.proofs.heap.Heap.write_pieces.Goals as goal

pub write_piece-requires-clause-valid : goal.write_piece-requires-clause-valid
write_piece-requires-clause-valid c =
    (turn_kept c.args.self.now.cells c.args.own c.args.room.now c.loop-piece.room c.args.pieces.now c.loop-piece.piece-index c.piece-item.result c.loop-piece-test.true c.piece-item.is c.requires.there c.requires.valid c.requires.inside c.loop-piece.invariant.bits).0

pub write_piece-requires-clause-inside : goal.write_piece-requires-clause-inside
write_piece-requires-clause-inside c =
    (turn_kept c.args.self.now.cells c.args.own c.args.room.now c.loop-piece.room c.args.pieces.now c.loop-piece.piece-index c.piece-item.result c.loop-piece-test.true c.piece-item.is c.requires.there c.requires.valid c.requires.inside c.loop-piece.invariant.bits).1

pub write_piece-requires-clause-space : goal.write_piece-requires-clause-space
write_piece-requires-clause-space c =
    omega (arith, c.requires.space, c.loop-piece.invariant.size, turn_fits c.args.self.now.cells c.args.own c.args.room.now c.loop-piece.room c.args.pieces.now c.loop-piece.piece-index c.piece-item.result c.loop-piece-test.true c.piece-item.is c.requires.there c.requires.valid c.requires.inside c.loop-piece.invariant.bits)

pub write_piece-requires-clause-short : goal.write_piece-requires-clause-short
write_piece-requires-clause-short c =
    omega (arith, c.requires.short, turn_fits c.args.self.now.cells c.args.own c.args.room.now c.loop-piece.room c.args.pieces.now c.loop-piece.piece-index c.piece-item.result c.loop-piece-test.true c.piece-item.is c.requires.there c.requires.valid c.requires.inside c.loop-piece.invariant.bits)

pub loop-piece-preserved : goal.loop-piece-preserved
loop-piece-preserved c = record {
  bits = turn_bits c.args.self.now.cells c.args.own c.args.room.now c.loop-piece.room c.args.pieces.now c.loop-piece.piece-index c.piece-item.result c.loop-piece-test.true c.piece-item.is c.requires.there c.requires.valid c.requires.inside c.loop-piece.invariant.bits c.write_piece.new.room c.write_piece.ensures.bits;
  size = c.write_piece.ensures.size ∙ c.loop-piece.invariant.size;
  ticks = turn_ticks c.args.self.now.cells c.args.own c.args.room.now c.loop-piece.room c.args.pieces.now c.loop-piece.piece-index c.piece-item.result c.loop-piece-test.true c.piece-item.is c.requires.there c.requires.valid c.requires.inside c.loop-piece.invariant.bits c.args.steps.now.moved c.loop-piece.steps.moved c.write_piece.new.steps.moved c.loop-piece.invariant.ticks c.write_piece.ensures.ticks;
}
