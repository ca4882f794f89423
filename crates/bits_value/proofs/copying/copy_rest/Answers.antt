use Rattle.std.proofs.Common.{◌≡◌, ◌+◌, ◌*◌, ◌/◌, ◌%◌, ap, ◌∙◌, List, Bool, arith}
use lib.Seq.{paste}
use Rattle.bits_value.specs.Bits.{all_bits, bit_list}
use Rattle.bits_value.proofs.Written.{length-all_bits}
use Rattle.bits_value.proofs.Copied.{copied-more}
use Rattle.bits_value.proofs.copying.copy_rest.Goals as goal

pub returns : goal.returns
returns c =
    let whole = 8 * (c.args.count / 8) in
    let rest = c.args.count % 8 in
    let sum : whole + rest ≡ c.args.count = omega arith in
    let la = length-all_bits c.args.target.now in
    c.copy_ends.ensures ∙ ap (λ (d : List Bool). paste d (c.args.off + whole) (bit_list c.args.source.now (c.args.from + whole) rest) rest) c.copy_bytes.ensures
    ∙ copied-more (all_bits c.args.target.now) c.args.off c.args.source.now c.args.from whole rest (omega arith)
    ∙ ap (λ n. paste (all_bits c.args.target.now) c.args.off (bit_list c.args.source.now c.args.from n) n) sum
