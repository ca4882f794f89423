use Rattle.std.proofs.Common.{◌+◌, ap, sym, ◌∙◌, ℕ}
use Rattle.bit_store.specs.Pieces.{bits_within}
use Rattle.bit_store.proofs.Lengths.{length-number}
use Rattle.bit_store.proofs.piece.with_piece.Goals as goal

pub returns-in-Number-clause-is : goal.returns-in-Number-clause-is
returns-in-Number-clause-is g c = λ shown h. c.with_bits.ensures.is ∙ ap (λ (n : ℕ). bits_within (c.args.total + n)) (sym (length-number shown c.args.piece.now c.in-Number.value c.in-Number.bits c.in-Number.endian c.in-Number.is))
