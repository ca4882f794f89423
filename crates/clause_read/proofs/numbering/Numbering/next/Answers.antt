use Rattle.std.proofs.Common.{arith, rules, ap, refl, ◌∷◌, [], ◌++◌, ◌∙◌}
use Rattle.clause_read.proofs.Strings.{kind_there, kind_not}
use Rattle.clause_read.proofs.Numbers.{token_numbered, string_numbered}
use Rattle.clause_read.proofs.numbering.Numbering.next.Goals as goal

pub numbered-requires-clause-other : goal.numbered-requires-clause-other
numbered-requires-clause-other c = kind_not c.args.tokens.now c.args.at _ c.requires.there (c.if-is_string_at.ensures.no (search rules))

pub returns-in_ok-push-2-clause-numbered : goal.returns-in_ok-push-2-clause-numbered
returns-in_ok-push-2-clause-numbered c =
    string_numbered c.args.text.now c.args.tokens.now c.args.at c.in_ok-chars.behind c.args.self.now _ _ c.in_ok-chars.chars.items c.in_ok-chars.ensures.further.0
    (kind_there c.args.tokens.now c.args.at _ c.requires.there (c.if-is_string_at.ensures.yes (search rules)))
    (search rules)
    (c.in_ok-chars.ensures.string _)
    (λ strings h. record { narrow = omega arith; ordered = search rules; within = search rules; known = λ e. h })
    refl
    (c.in_ok-push.ensures.items ∙ ap (λ v. c.args.self.now.strings.items ++ v ∷ []) c.of.ensures)
    c.in_ok-push-2.ensures.items
    c.requires.numbered

pub returns-in_ok-push-3-clause-numbered : goal.returns-in_ok-push-3-clause-numbered
returns-in_ok-push-3-clause-numbered c =
    token_numbered c.args.text.now c.args.tokens.now c.args.at _ c.args.self.now _ c.in_ok-word.word c.requires.there
    (kind_not c.args.tokens.now c.args.at _ c.requires.there (c.if-is_string_at.ensures.no (search rules)))
    c.in_ok-word.ensures.table c.in_ok-word.ensures.one_more c.in_ok-word.ensures.word c.in_ok-word.ensures.sound refl c.in_ok-push-3.ensures.items c.requires.numbered
