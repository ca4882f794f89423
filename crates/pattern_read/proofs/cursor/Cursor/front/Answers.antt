use Rattle.std.proofs.Common.{ap, ◌^◌}
use Rattle.pattern_read.specs.Cursor.{Readable, limits_of}
use Rattle.pattern_read.proofs.Words.{front_words}
use Rattle.pattern_read.proofs.cursor.Cursor.front.Goals as goal

pub returns : goal.returns
returns c = ap {B = Readable} (λ v. record { words = v; limits = limits_of (2 ^ 32) (2 ^ 32) }) (front_words c.self.inside.text.items c.self.inside.strings.items c.self.inside.tokens.items _ c.args.self c.args.count (ap (λ v. v.words) c.self.view_is) c.truncate.ensures.items)
