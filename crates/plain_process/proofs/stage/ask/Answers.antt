use Rattle.std.proofs.Common.{arith}
use Rattle.plain_process.proofs.Asking.{visible_on, visible_stage}
use Rattle.plain_process.proofs.stage.ask.Goals as goal

pub returns-then-round-eq0 : goal.returns-then-round-eq0
returns-then-round-eq0 c = λ w. visible_on w c.args.round c.args.visible _ c.if-round-eq0.true c.falls.ensures

pub returns : goal.returns
returns c = λ w. visible_stage w c.args.round c.args.visible _ _ c.opens.ensures c.in_ok-asking.ensures (omega arith)
