use Rattle.std.proofs.Common.{take}
use Rattle.report_text.specs.Fields.{IsWord}
use Rattle.report_text.proofs.fields.word_len.Given as goal

abbrev pub invariant-loop-index : goal.invariant-loop-index
invariant-loop-index l = IsWord (take l.index l.bytes)
