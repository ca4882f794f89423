use Rattle.std.proofs.lemmas.Result.{err_from_is_err_and}
use Rattle.body_read.specs.WantedExprs.{in_body}
use Rattle.body_read.proofs.QualExits.{generated_err, generated_no_mark, generated_ok}
use Rattle.body_read.proofs.quals.generated.Goals as goal

pub returns-in_err-first-clause-reads : goal.returns-in_err-first-clause-reads
returns-in_err-first-clause-reads c = let p = err_from_is_err_and c.from_residual.result c.from_residual.ensures.1 in rw (p.1, p.2) (generated_err (in_body c.args.deep c.args.brackets) c.args.cursor.now c.args.at _ c.in_err-first.ensures.reads)

pub returns-in_err-next-clause-reads : goal.returns-in_err-next-clause-reads
returns-in_err-next-clause-reads c = let p = err_from_is_err_and c.from_residual-in_err-next.result c.from_residual-in_err-next.ensures.1 in rw (p.1, p.2) (generated_no_mark (in_body c.args.deep c.args.brackets) c.args.cursor.now c.args.at c.in_ok-first.after c.in_ok-first.first _ c.in_ok-first.ensures.reads c.in_err-next.ensures.reads)

pub returns-clause-reads : goal.returns-clause-reads
returns-clause-reads c = generated_ok (in_body c.args.deep c.args.brackets) c.args.cursor.now c.args.at c.in_ok-first.after c.in_ok-next.next c.in_ok-first.first c.in_ok-first.ensures.reads c.in_ok-next.ensures.reads
