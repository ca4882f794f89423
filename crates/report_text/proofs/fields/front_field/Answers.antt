use Rattle.report_text.proofs.Numbers.{front_digits, tail_whole}
use Rattle.report_text.proofs.fields.front_field.Goals as goal

pub returns-in_default : goal.returns-in_default
returns-in_default c = λ n rest f.
    c.in_default.ensures n f.small (front_digits c.args.bytes.now _ c.split_at.result.0.now rest n c.word_len.result f (tail_whole c.args.bytes.now 1) c.word_len.ensures.word c.word_len.ensures.cut c.split_at.ensures.front)
