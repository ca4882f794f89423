use Rattle.std.proofs.Common.{◌<◌, length, arith, ap, sym, ◌∙◌}
use Rattle.bits_value.specs.declared.TheConstants.{MAX_BITS}
use Rattle.bit_store.specs.Stores.{itself}
use Rattle.bit_store.specs.Pieces.{pieces_bits}
use Rattle.bit_store.proofs.Lengths.{some_is_within, none_is_past}
use Rattle.bit_store.proofs.plain.PlainStoreStoreWindow.append.Goals as goal

pub returns-then-total-len-clause-refused : goal.returns-then-total-len-clause-refused
returns-then-total-len-clause-refused c = let w = some_is_within c.in-Some.total (length (pieces_bits itself c.args.pieces.now)) (sym c.in-Some.is ∙ c.total_bits.ensures.is itself c.requires.inside) in omega (arith, w.0, c.len.ensures.is, c.len.ensures.short)

pub made-requires-clause-size : goal.made-requires-clause-size
made-requires-clause-size c = let w = some_is_within c.in-Some.total (length (pieces_bits itself c.args.pieces.now)) (sym c.in-Some.is ∙ c.total_bits.ensures.is itself c.requires.inside) in omega (arith, w.0, c.len-in-Some.ensures.is, ap length c.bits.ensures)

pub returns-in-None-clause-refused : goal.returns-in-None-clause-refused
returns-in-None-clause-refused c = let past : MAX_BITS < length (pieces_bits itself c.args.pieces.now) = none_is_past (length (pieces_bits itself c.args.pieces.now)) (sym c.in-None.is ∙ c.total_bits.ensures.is itself c.requires.inside) in omega (arith, past)

pub returns-in-Err-clause-refused : goal.returns-in-Err-clause-refused
returns-in-Err-clause-refused c = let w = some_is_within c.in-Some.total (length (pieces_bits itself c.args.pieces.now)) (sym c.in-Some.is ∙ c.total_bits.ensures.is itself c.requires.inside) in omega (arith, w.0, c.len.ensures.is, c.len.ensures.short, c.if-total-len.false)

pub returns-in-Ok-clause-moved : goal.returns-in-Ok-clause-moved
returns-in-Ok-clause-moved c = (c.len-in-Ok.result, (omega (arith, c.len-in-Ok.ensures.is), c.add.ensures))
