use Rattle.std.proofs.Common.{arith, ◌-◌, ◌≡◌, ap, sym, subst, drop, take}
use Rattle.pattern_read.specs.Cursor.{characters_of}
use Rattle.pattern_read.proofs.Words.{bytes_are, words_length}
use Rattle.pattern_read.proofs.cursor.Cursor.bytes.Goals as goal

pub returns : goal.returns
returns c = λ w rest a f. subst (λ u. w.chars ≡ characters_of w.kind u) (sym (ap (λ v. take (c.index.result.now.token.to - c.index.result.now.token.from) (drop c.index.result.now.token.from v)) c.deref.ensures.value)) (bytes_are c.self.inside.text.items c.self.inside.strings.items c.self.inside.tokens.items c.args.self.now c.args.at c.index.result.now (ap (λ v. v.words) c.self.view_is) (omega (arith, words_length c.self.inside.text.items c.self.inside.strings.items c.self.inside.tokens.items c.args.self.now (ap (λ v. v.words) c.self.view_is))) c.index.ensures w rest a f)
