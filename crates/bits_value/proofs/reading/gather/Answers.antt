use Rattle.std.proofs.Common.{◌≡◌, ◌+◌, ◌-◌, ap, ◌∙◌, arith}
use Rattle.bits_value.specs.Bits.{bit_list}
use Rattle.bits_value.specs.Number.{natural}
use Rattle.bits_value.proofs.Gathered.{gather_step}
use Rattle.bits_value.proofs.reading.gather.Goals as goal

pub returns : goal.returns
returns c =
    let high = c.args.count - c.min-low.result in
    let whole : high + c.min-low.result ≡ c.args.count = omega arith in
    rw (c.chunk.ensures, c.chunk-2.ensures) (gather_step c.args.bytes.now c.args.start high c.min-low.result 128 (omega arith) ∙ ap (λ n. natural (bit_list c.args.bytes.now c.args.start n)) whole)
