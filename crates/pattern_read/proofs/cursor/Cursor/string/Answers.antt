use Rattle.std.proofs.Common.{rules, arith, ◌∙◌, ◌<◌, sym, ap, length, get_or, []}
use Rattle.std.proofs.Math.ListN.{get_or-eq_default}
use Rattle.pattern_read.proofs.Words.{string_is, words_length}
use Rattle.pattern_read.proofs.cursor.Cursor.string.Goals as goal

pub returns-in_ok-to_vec-in-Some : goal.returns-in_ok-to_vec-in-Some
returns-in_ok-to_vec-in-Some c = λ w rest a m.
    let h : c.args.at < length c.self.inside.tokens.items = omega (arith, words_length c.self.inside.text.items c.self.inside.strings.items c.self.inside.tokens.items c.args.self.now (ap (λ v. v.words) c.self.view_is)) in
    c.of.ensures ∙ c.in_ok-to_vec-in-Some.ensures.items_if_clones_equal (search rules) ∙ c.items.ensures ∙ c.in-Some.ensures.lookup.3.1 []
    ∙ ap (λ v. get_or v c.index.result.now.number []) c.deref.ensures.value
    ∙ string_is c.self.inside.text.items c.self.inside.strings.items c.self.inside.tokens.items c.args.self.now c.args.at c.index.result.now (ap (λ v. v.words) c.self.view_is) h c.index.ensures w rest a m

pub returns-in-None : goal.returns-in-None
returns-in-None c = λ w rest a m.
    let h : c.args.at < length c.self.inside.tokens.items = omega (arith, words_length c.self.inside.text.items c.self.inside.strings.items c.self.inside.tokens.items c.args.self.now (ap (λ v. v.words) c.self.view_is)) in
    c.of-in-None.ensures ∙ c.new.ensures.items ∙ sym (get_or-eq_default c.deref.result.now [] c.in-None.ensures.lookup.3)
    ∙ ap (λ v. get_or v c.index.result.now.number []) c.deref.ensures.value
    ∙ string_is c.self.inside.text.items c.self.inside.strings.items c.self.inside.tokens.items c.args.self.now c.args.at c.index.result.now (ap (λ v. v.words) c.self.view_is) h c.index.ensures w rest a m
