use Rattle.erl_syntax.specs.Tokens.{front, is_cut}
use Rattle.erl_tokens.proofs.OneReading.{one_reading_from}
use Rattle.erl_tokens.proofs.lexing.one_reading.Goals as goal

pub returns : goal.returns
returns c = λ text s t f g. one_reading_from (front text) (is_cut text) 0 s t f g
