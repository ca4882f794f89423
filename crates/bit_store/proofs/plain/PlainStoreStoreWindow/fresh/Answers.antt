use Rattle.std.proofs.Common.{◌++◌, List, Bool, length, arith, ap, sym, ◌∙◌}
use Rattle.bit_store.specs.Stores.{itself}
use Rattle.bit_store.specs.Pieces.{pieces_bits}
use Rattle.bit_store.proofs.Lengths.{some_is_within, none_is_past}
use Rattle.bit_store.proofs.WrittenBits.{no_bits}
use Rattle.bit_store.proofs.plain.PlainStoreStoreWindow.fresh.Goals as goal

pub made-requires-clause-size : goal.made-requires-clause-size
made-requires-clause-size c = let w = some_is_within c.in-Some.total (length (pieces_bits itself c.args.pieces.now)) (sym c.in-Some.is ∙ c.total_bits.ensures.is itself c.requires.inside) in omega (arith, w.0, c.of.ensures.size)

pub returns-in-None-clause-refused : goal.returns-in-None-clause-refused
returns-in-None-clause-refused c = none_is_past (length (pieces_bits itself c.args.pieces.now)) (sym c.in-None.is ∙ c.total_bits.ensures.is itself c.requires.inside)

pub returns-in-Err-clause-refused : goal.returns-in-Err-clause-refused
returns-in-Err-clause-refused c = (some_is_within c.in-Some.total (length (pieces_bits itself c.args.pieces.now)) (sym c.in-Some.is ∙ c.total_bits.ensures.is itself c.requires.inside)).1

pub returns-in-Ok-clause-shows : goal.returns-in-Ok-clause-shows
returns-in-Ok-clause-shows c = c.in-Ok.ensures ∙ ap (λ (w : List Bool). w ++ pieces_bits itself c.args.pieces.now) (no_bits c.of.result c.of.ensures.size)

pub returns-in-Ok-clause-moved : goal.returns-in-Ok-clause-moved
returns-in-Ok-clause-moved c =
    let w = some_is_within c.in-Some.total (length (pieces_bits itself c.args.pieces.now)) (sym c.in-Some.is ∙ c.total_bits.ensures.is itself c.requires.inside) in
    let e = ap length (c.in-Ok.ensures ∙ ap (λ (v : List Bool). v ++ pieces_bits itself c.args.pieces.now) (no_bits c.of.result c.of.ensures.size)) in
    (c.in-Some.total, (omega (arith, w.0, e), c.add.ensures))
