use Rattle.std.proofs.Common.{rules}
use Rattle.body_read.proofs.ItemExits.{value_ok, value_before_match, value_err, read_as}
use Rattle.body_read.proofs.choosing.item_value.Goals as goal

-- src/choosing.rt:64:17
pub returns-then-is-clause-reads : goal.returns-then-is-clause-reads
returns-then-is-clause-reads c = λ e p g. value_before_match e c.args.cursor.now c.args.at c.in-Ok.after c.in-Ok.value c.args.tried _ (c.is.ensures.yes (search rules)) (read_as e c.args.cursor.now c.args.at c.args.read _ c.in-Ok.is g) p c.refusal.ensures

-- src/choosing.rt:51:1
pub returns-else-is-clause-reads : goal.returns-else-is-clause-reads
returns-else-is-clause-reads c = λ e p g. value_ok e c.args.cursor.now c.args.at c.in-Ok.after c.in-Ok.value (c.is.ensures.no (search rules)) (read_as e c.args.cursor.now c.args.at c.args.read _ c.in-Ok.is g)

-- src/choosing.rt:51:1
pub returns-in-Err-clause-reads : goal.returns-in-Err-clause-reads
returns-in-Err-clause-reads c = λ e p g. value_err e c.args.cursor.now c.args.at c.args.tried c.in-Err.fault _ (read_as e c.args.cursor.now c.args.at c.args.read _ c.in-Err.is g) p c.refusal-in-Err.ensures
