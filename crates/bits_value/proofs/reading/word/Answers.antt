use Rattle.std.proofs.Common.{◌+◌, ◌^◌, ◌<◌, ◌/◌, ◌%◌, slice_index_or, arith, rules}
use Rattle.bits_value.proofs.Gathered.{word_joined}
use Rattle.bits_value.proofs.reading.word.Goals as goal

pub returns-else-skip-eq0 : goal.returns-else-skip-eq0
returns-else-skip-eq0 c =
    let s = c.args.start % 8 in
    let f = c.args.start / 8 in
    let b : slice_index_or c.args.bytes.now (f + 8) 0 < 2 ^ 8 = search rules in
    let some : 0 < s = omega arith in
    rw c.whole_word-high.ensures (word_joined c.args.bytes.now c.args.start f s (omega arith) some (omega arith) b)
