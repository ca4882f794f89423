use Rattle.std.proofs.Common.{rules}
use Rattle.body_read.proofs.ItemExits.{read_as}
use Rattle.body_read.proofs.QualExits.{filter_ok, filter_before_bar, filter_err}
use Rattle.body_read.proofs.choosing.filter.Goals as goal

pub returns-then-bar_stands-clause-reads : goal.returns-then-bar_stands-clause-reads
returns-then-bar_stands-clause-reads c = λ e p b g. filter_before_bar e c.args.cursor.now c.args.at c.in-Ok.after c.in-Ok.test c.args.pattern c.args.bits _ (c.bar_stands.ensures.yes (search rules)) (read_as e c.args.cursor.now c.args.at c.args.read _ c.in-Ok.is g) p b c.furthest.ensures

pub returns-else-bar_stands-clause-reads : goal.returns-else-bar_stands-clause-reads
returns-else-bar_stands-clause-reads c = λ e p b g. filter_ok e c.args.cursor.now c.args.at c.in-Ok.after c.in-Ok.test (c.bar_stands.ensures.no (search rules)) (read_as e c.args.cursor.now c.args.at c.args.read _ c.in-Ok.is g)

pub returns-in-Err-clause-reads : goal.returns-in-Err-clause-reads
returns-in-Err-clause-reads c = λ e p b g. filter_err e c.args.cursor.now c.args.at c.args.pattern c.args.bits c.in-Err.fault _ (read_as e c.args.cursor.now c.args.at c.args.read _ c.in-Err.is g) p b c.furthest-in-Err.ensures
