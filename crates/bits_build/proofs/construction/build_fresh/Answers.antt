use Rattle.std.proofs.Common.{◌≡◌, [], length, ap, refl, arith}
use Rattle.std.proofs.lemmas.Result.{err_from_is_err_and}
use Rattle.bit_store.specs.Pieces.{pieces_bits}
use Rattle.term_value.specs.Encode.{built}
use Rattle.bits_build.specs.Parts.{parts_filled}
use Rattle.bits_build.proofs.Front.{only_memory}
use Rattle.bits_build.proofs.construction.build_fresh.Goals as goal

pub returns-in_err-pieces-clause-refused : goal.returns-in_err-pieces-clause-refused
returns-in_err-pieces-clause-refused g c =
    let p = err_from_is_err_and c.from_residual.result c.from_residual.ensures.1 in rw (p.1, p.2) (c.in_err-pieces.ensures.refused [] refl)

pub returns-in_err-fresh-clause-refused : goal.returns-in_err-fresh-clause-refused
returns-in_err-fresh-clause-refused g c =
    let p = err_from_is_err_and c.from_residual-in_err-fresh.result c.from_residual-in_err-fresh.ensures.1 in
    let same : c.in_ok-pieces.pieces.items ≡ c.deref.result.now = cc in
    rw (p.1, p.2) (only_memory (length (pieces_bits (g.S.Store.shown c.args.store.now) c.deref.result.now)) c.in_err-fresh.field-0.0
    (built (parts_filled (g.S.Store.shown c.args.store.now) c.args.parts.now))
    (omega (arith, c.in_ok-pieces.ensures.made.short, ap (λ pieces. length (pieces_bits (g.S.Store.shown c.args.store.now) pieces)) same)) c.in_err-fresh.ensures.refused)
