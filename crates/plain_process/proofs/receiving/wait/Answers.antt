use Rattle.std.proofs.Common.{arith}
use Rattle.plain_process.proofs.Receives.{wait_on, wait_stage}
use Rattle.plain_process.proofs.receiving.wait.Goals as goal

pub returns-then-round-eq0 : goal.returns-then-round-eq0
returns-then-round-eq0 c = λ w e. wait_on w c.args.round c.args.clauses c.args.bindings _ e c.if-round-eq0.true c.falls.ensures

pub returns : goal.returns
returns c = λ w e. wait_stage w c.args.round c.args.clauses c.args.bindings _ e (omega arith) c.opens.ensures
