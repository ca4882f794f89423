use Rattle.std.proofs.Common.{rules}
use Rattle.erl_syntax.specs.declared.token.TokenKind.TheVariants as k
use Rattle.pattern_read.proofs.Words.{is_no, is_none}
use Rattle.body_read.proofs.quals.opening.Goals as goal

pub returns-in_default-clause-opening : goal.returns-in_default-clause-opening
returns-in_default-clause-opening c = is_none c.args.cursor.now c.args.at k.LeftBits c.in_default.ensures.token

pub returns-else-eq-clause-opening : goal.returns-else-eq-clause-opening
returns-else-eq-clause-opening c = is_no c.args.cursor.now c.args.at c.in-Some.numbered k.LeftBits c.in-Some.ensures.token (λ h. search rules)
