use Rattle.std.proofs.Common.{sym, ◌∙◌}
use Rattle.bit_store.specs.Pieces.{piece_bits, IsInside}
use Rattle.bit_store.proofs.Lengths.{item_has, counts_more, counts_past, counts_all}
use Rattle.bit_store.proofs.piece.total_bits.Goals as goal

pub returns-in_err-total-clause-is : goal.returns-in_err-total-clause-is
returns-in_err-total-clause-is g c = λ shown all.
    let inside = item_has c.args.pieces.now c.loop-piece.piece-index c.piece-item.result c.loop-piece-test.true c.piece-item.is (IsInside shown) all in
    c.from_residual.ensures ∙ counts_past c.args.pieces.now c.loop-piece.piece-index c.piece-item.result c.loop-piece-test.true c.piece-item.is (piece_bits shown) c.loop-piece.total (c.loop-piece.invariant.1 shown all)
    (sym c.in_err-total.was ∙ c.with_piece.ensures.is shown inside)

pub loop-piece-preserved : goal.loop-piece-preserved
loop-piece-preserved g c = (
  c.in_ok-total.ensures.short,
  λ shown all.
      let inside = item_has c.args.pieces.now c.loop-piece.piece-index c.piece-item.result c.loop-piece-test.true c.piece-item.is (IsInside shown) all in
      (counts_more c.args.pieces.now c.loop-piece.piece-index c.piece-item.result c.loop-piece-test.true c.piece-item.is (piece_bits shown) c.loop-piece.total c.in_ok-total.total (c.loop-piece.invariant.1 shown all)
      (sym c.in_ok-total.was ∙ c.with_piece.ensures.is shown inside)).1,
)

pub returns-clause-is : goal.returns-clause-is
returns-clause-is g c = λ shown all. counts_all (piece_bits shown) c.args.pieces.now c.loop-piece.piece-index c.loop-piece.total c.loop-piece-test.false c.loop-piece.invariant.0 (c.loop-piece.invariant.1 shown all)
