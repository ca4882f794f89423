use Rattle.std.proofs.Common.{arith}
use Rattle.clause_read.proofs.Strings.{other_there, none_there}
use Rattle.clause_read.proofs.numbering.is_string_at.Goals as goal

pub returns-then-at-tokens-clause-no : goal.returns-then-at-tokens-clause-no
returns-then-at-tokens-clause-no c = λ e. none_there c.args.tokens.now c.args.at (omega arith)

pub returns-in_default-clause-no : goal.returns-in_default-clause-no
returns-in_default-clause-no c = λ e. other_there c.args.tokens.now c.args.at _ (omega arith) c.in_default.not-Str
