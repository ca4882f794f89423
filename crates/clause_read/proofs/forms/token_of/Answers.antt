use Rattle.std.proofs.Common.{rules, refl, sym, ◌∙◌}
use denote.Enum.Bare.{same_true}
use Rattle.erl_syntax.specs.contracts.token.TokenKind.{the_type}
use Rattle.pattern_read.proofs.Words.{is_no, is_none}
use Rattle.clause_read.proofs.forms.token_of.Goals as goal

pub returns-in_default-clause-token : goal.returns-in_default-clause-token
returns-in_default-clause-token c = (refl, refl, is_none c.args.cursor.now c.args.at c.args.kind c.in_default.ensures.token)

pub returns-then-eq-clause-token : goal.returns-then-eq-clause-token
returns-then-eq-clause-token c = (c.in-Some.ensures.token, same_true the_type _ c.in-Some.numbered.token.kind c.args.kind (sym c.eq.ensures ∙ c.if-eq.true))

pub returns-else-eq-clause-token : goal.returns-else-eq-clause-token
returns-else-eq-clause-token c = (refl, refl, is_no c.args.cursor.now c.args.at c.in-Some.numbered _ c.in-Some.ensures.token (λ h. search rules))
