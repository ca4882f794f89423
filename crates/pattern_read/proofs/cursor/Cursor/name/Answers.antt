use Rattle.std.proofs.Common.{rules, ◌≡◌, ◌∙◌}
use Rattle.pattern_read.proofs.Words.{name_is}
use Rattle.pattern_read.proofs.cursor.Cursor.name.Goals as goal

pub returns : goal.returns
returns c = λ w rest a b. let e : c.of.result ≡ c.bytes.result.now = search rules in e ∙ name_is w c.bytes.result.now (c.bytes.ensures w rest a (λ n. cc)) b
