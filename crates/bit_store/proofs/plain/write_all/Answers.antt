use Rattle.std.proofs.Common.{◌+◌, ◌++◌, List, Bool, length, take, ℕ, ap, sym, ◌∙◌, arith}
use Rattle.bits_value.specs.Bits.{all_bits}
use Rattle.bits_value.proofs.Written.{length-all_bits}
use Rattle.bit_store.specs.Stores.{itself}
use Rattle.bit_store.specs.Pieces.{pieces_bits}
use Rattle.bit_store.proofs.WrittenBits.{after_first}
use Rattle.bit_store.proofs.plain.write_all.Goals as goal

pub returns : goal.returns
returns c =
    let first = after_first (all_bits c.copy_bits.new.target) (all_bits c.args.target.now) c.args.first c.len-len.result (omega (arith, length-all_bits c.args.target.now, c.requires.room, c.len-len.ensures)) (sym c.len-len.ensures) c.copy_bits.ensures in
    ap (λ (n : ℕ). take (n + length (pieces_bits itself c.args.pieces.now)) (all_bits c.write_pieces.new.target)) (sym c.len-len.ensures)
    ∙ c.write_pieces.ensures ∙ ap (λ (w : List Bool). w ++ pieces_bits itself c.args.pieces.now) first
