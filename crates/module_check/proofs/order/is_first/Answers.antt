use Rattle.module_check.proofs.Firsts.{by_rank}
use Rattle.module_check.proofs.order.is_first.Goals as goal

pub returns-then-not-is_before : goal.returns-then-not-is_before
returns-then-not-is_before c = by_rank c.args.fault.span c.args.other.span c.args.fault.why c.args.other.why c.rank.result c.rank-then-not-is_before.result c.rank.ensures c.rank-then-not-is_before.ensures c.if-is_before.ensures c.if-not-is_before.ensures
