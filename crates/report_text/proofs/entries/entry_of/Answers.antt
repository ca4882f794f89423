use Rattle.std.proofs.Common.{◌≡◌, rules}
use Rattle.report_text.proofs.LineParts.{IsSplit, split_entry, split_parts}
use Rattle.term_value.specs.Orders.{entry_numbers}
use Rattle.report_text.proofs.entries.entry_of.Goals as goal

pub returns-in_default : goal.returns-in_default
returns-in_default c = λ e in_range same.
    let split : IsSplit c.args.line.now c.split_at.result.0.now c.split_at.result.1.now c.word_len.result = record { front = c.split_at.ensures.front; back = c.split_at.ensures.back; is_word = c.word_len.ensures.word; is_cut = c.word_len.ensures.cut } in
    let parts = split_parts e c.args.line.now c.split_at.result.0.now c.split_at.result.1.now c.word_len.result (record { in_range = in_range; spelled = same }) split in
    c.in_default.ensures (entry_numbers e) parts.numbers_are

pub returns : goal.returns
returns c =
    let split : IsSplit c.args.line.now c.split_at.result.0.now c.split_at.result.1.now c.word_len.result = record { front = c.split_at.ensures.front; back = c.split_at.ensures.back; is_word = c.word_len.ensures.word; is_cut = c.word_len.ensures.cut } in
    let same : c.deref.result.now ≡ c.in-Some.numbers.items = search rules in
    split_entry c.entry.result c.args.line.now c.split_at.result.0.now c.split_at.result.1.now c.deref.result.now c.word_len.result split (rw same c.in-Some.ensures) c.entry.ensures
