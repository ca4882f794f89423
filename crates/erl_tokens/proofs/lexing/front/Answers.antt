use Rattle.std.proofs.Common.{sym}
use Rattle.std.proofs.Math.Seq.{take-length}
use Rattle.std.proofs.lemmas.Str.{utf8_valid_len-IsUtf8}
use Rattle.erl_tokens.proofs.lexing.front.Goals as goal

pub returns-in-Ok : goal.returns-in-Ok
returns-in-Ok c = rw (utf8_valid_len-IsUtf8 c.args.text.now c.in-Ok.ensures.cases.1) (sym (take-length c.args.text.now))
