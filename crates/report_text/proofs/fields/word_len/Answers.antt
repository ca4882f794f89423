use Rattle.std.proofs.Common.{◌≡◌, ◌+◌, suc, arith}
use Rattle.report_text.proofs.Numbers.{word_next}
use Rattle.report_text.proofs.fields.word_len.Goals as goal

pub loop-index-preserved : goal.loop-index-preserved
loop-index-preserved c =
    let next : c.loop-index.index + 1 ≡ suc c.loop-index.index = omega arith in
    word_next c.args.bytes.now c.loop-index.index (c.loop-index.index + 1) 0 next c.loop-index-test.true c.if-byte-le32.false c.loop-index.invariant
