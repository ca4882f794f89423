use Rattle.module_check.proofs.Numbered.{searched_ok, searched_err}
use Rattle.module_check.proofs.numbers.index_of.Goals as goal

pub returns-in-Ok : goal.returns-in-Ok
returns-in-Ok c = λ s h. searched_ok c.args.binders.now c.args.bound_at c.in-Ok.index c.in-Ok.ensures.bound c.in-Ok.ensures.ok

pub returns-in-Err : goal.returns-in-Err
returns-in-Err c = λ s h. absurd (searched_err c.args.binders.now c.args.bound_at c.in-Err.index c.in-Err.ensures.position s h)
