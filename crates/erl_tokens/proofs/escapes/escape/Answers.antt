use Rattle.std.proofs.Common.{arith, rules}
use Rattle.std.proofs.lemmas.List.{take_rest}
use Rattle.erl_tokens.proofs.ByFirst.{hexadecimal_escape, control_escape}
use Rattle.erl_tokens.proofs.escapes.escape.Goals as goal

pub returns-then-bs-eq120-clause-value : goal.returns-then-bs-eq120-clause-value
returns-then-bs-eq120-clause-value c = hexadecimal_escape _ c.args.bs.now _ (take_rest c.args.bs.now 1) (search rules) (omega arith) c.hexadecimal.ensures.value

pub returns-then-bs-eq94-clause-value : goal.returns-then-bs-eq94-clause-value
returns-then-bs-eq94-clause-value c = control_escape _ c.args.bs.now _ (take_rest c.args.bs.now 1) (search rules) (omega arith) c.control.ensures.value
