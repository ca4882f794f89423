use Rattle.std.proofs.Common.{◌+◌, ◌*◌, ◌^◌, ◌<◌, ◌%◌, ap, ◌∙◌, bit_or, slice_index_or, refl, arith, rules}
use Rattle.bits_value.specs.Bits.{bit_list}
use Rattle.bits_value.proofs.Gathered.{word_step}
use Rattle.bits_value.proofs.reading.whole_word.Goals as goal

pub loop-k-init : goal.loop-k-init
unfolding bit_list
loop-k-init c = refl

pub loop-k-preserved : goal.loop-k-preserved
loop-k-preserved c =
    let b : slice_index_or c.args.bytes.now (c.args.first + c.loop-k.k) 0 < 2 ^ 8 = search rules in
    ap (λ n. bit_or (n * 2 ^ 8 % 2 ^ 64) (slice_index_or c.args.bytes.now (c.args.first + c.loop-k.k) 0)) c.loop-k.invariant
    ∙ word_step c.args.bytes.now c.args.first c.loop-k.k (omega arith) b
