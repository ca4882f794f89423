use Rattle.std.proofs.Common.{rules, ◌∙◌, sym}
use denote.Enum.Bare.{same_true}
use Rattle.erl_syntax.specs.contracts.token.TokenKind.{the_type}
use Rattle.pattern_read.proofs.Words.{is_yes, is_no, is_none}
use Rattle.pattern_read.proofs.cursor.Cursor.is.Goals as goal

pub returns-in_default-clause-no : goal.returns-in_default-clause-no
returns-in_default-clause-no c = λ e. is_none c.args.self.now c.args.at _ c.in_default.ensures.token

pub returns-then-eq-clause-yes : goal.returns-then-eq-clause-yes
returns-then-eq-clause-yes c = λ e. is_yes c.args.self.now c.args.at c.in-Some.numbered c.args.kind c.in-Some.ensures.token (same_true the_type _ c.in-Some.numbered.token.kind c.args.kind (sym c.eq.ensures ∙ c.if-eq.true))

pub returns-else-eq-clause-no : goal.returns-else-eq-clause-no
returns-else-eq-clause-no c = λ e. is_no c.args.self.now c.args.at c.in-Some.numbered _ c.in-Some.ensures.token (λ h. search rules)
