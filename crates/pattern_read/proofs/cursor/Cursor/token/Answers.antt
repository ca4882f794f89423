use Rattle.std.proofs.Common.{ap, arith}
use Rattle.pattern_read.proofs.Words.{words_length, stands_at, stands_none}
use Rattle.pattern_read.proofs.cursor.Cursor.token.Goals as goal

pub returns-then-at-len-clause-token : goal.returns-then-at-len-clause-token
returns-then-at-len-clause-token c = stands_at c.self.inside.text.items c.self.inside.strings.items c.self.inside.tokens.items c.args.self.now _ _ (ap (λ v. v.words) c.self.view_is) (omega arith) c.index.ensures

pub returns-then-at-len-clause-within : goal.returns-then-at-len-clause-within
returns-then-at-len-clause-within c = omega (arith, words_length c.self.inside.text.items c.self.inside.strings.items c.self.inside.tokens.items c.args.self.now (ap (λ v. v.words) c.self.view_is))

pub returns-else-at-len-clause-token : goal.returns-else-at-len-clause-token
returns-else-at-len-clause-token c = stands_none c.self.inside.text.items c.self.inside.strings.items c.self.inside.tokens.items c.args.self.now _ (ap (λ v. v.words) c.self.view_is) (omega arith)
