use Rattle.std.proofs.Common.{◌≡◌, ◌+◌, ◌++◌, List, Bool, length, take, arith, ap, ◌∙◌}
use Rattle.bits_value.specs.Bits.{all_bits}
use Rattle.bit_store.specs.Stores.{itself}
use Rattle.bit_store.specs.Pieces.{piece_bits, pieces_bits, IsInside}
use Rattle.bit_store.proofs.Lengths.{item_has, more_bits, fits_next, joined_next}
use Rattle.bit_store.proofs.plain.write_pieces.Goals as goal

pub write_piece-end-requires-clause-room : goal.write_piece-end-requires-clause-room
write_piece-end-requires-clause-room c =
    omega (
      arith,
      c.loop-piece.invariant.0,
      c.requires.room,
      c.loop-piece.auto.target,
      fits_next c.args.pieces.now c.loop-piece.piece-index c.piece-item.result c.loop-piece-test.true c.piece-item.is (piece_bits itself),
    )

pub write_piece-end-requires-clause-short : goal.write_piece-end-requires-clause-short
write_piece-end-requires-clause-short c =
    omega (
      arith,
      c.loop-piece.invariant.0,
      c.requires.short,
      fits_next c.args.pieces.now c.loop-piece.piece-index c.piece-item.result c.loop-piece-test.true c.piece-item.is (piece_bits itself),
    )

pub write_piece-end-requires-clause-inside : goal.write_piece-end-requires-clause-inside
write_piece-end-requires-clause-inside c = item_has c.args.pieces.now c.loop-piece.piece-index c.piece-item.result c.loop-piece-test.true c.piece-item.is (IsInside itself) c.requires.inside

pub loop-piece-preserved : goal.loop-piece-preserved
loop-piece-preserved c =
    let next : (take c.args.at (all_bits c.args.target.now) ++ pieces_bits itself (take c.loop-piece.piece-index c.args.pieces.now)) ++ piece_bits itself c.piece-item.result ≡ take c.args.at (all_bits c.args.target.now) ++ pieces_bits itself (take (c.loop-piece.piece-index + 1) c.args.pieces.now) =
    joined_next c.args.pieces.now c.loop-piece.piece-index c.piece-item.result c.loop-piece-test.true c.piece-item.is (piece_bits itself) (take c.args.at (all_bits c.args.target.now)) in
    let size : length (pieces_bits itself (take (c.loop-piece.piece-index + 1) c.args.pieces.now)) ≡ length (pieces_bits itself (take c.loop-piece.piece-index c.args.pieces.now)) + length (piece_bits itself c.piece-item.result) =
    more_bits c.args.pieces.now c.loop-piece.piece-index c.piece-item.result c.loop-piece-test.true c.piece-item.is (piece_bits itself) in (
      omega (arith, c.loop-piece.invariant.0, c.write_piece-end.ensures.end, size),
      c.write_piece-end.ensures.bits ∙ ap (λ (w : List Bool). w ++ piece_bits itself c.piece-item.result) c.loop-piece.invariant.1 ∙ next,
    )
