use Rattle.std.proofs.lemmas.Result.{err_from_is_err_and}
use Rattle.body_read.specs.WantedExprs.{in_body}
use Rattle.body_read.proofs.QualExits.{segments_err, segments_no_mark, segments_ok}
use Rattle.body_read.proofs.quals.segments.Goals as goal

pub returns-in_err-read-clause-reads : goal.returns-in_err-read-clause-reads
returns-in_err-read-clause-reads c = let p = err_from_is_err_and c.from_residual.result c.from_residual.ensures.1 in rw (p.1, p.2) (segments_err (in_body c.args.deep c.args.brackets) c.args.cursor.now c.args.at _ c.in_err-read.ensures.reads)

pub returns-in_err-next-clause-reads : goal.returns-in_err-next-clause-reads
returns-in_err-next-clause-reads c = let p = err_from_is_err_and c.from_residual-in_err-next.result c.from_residual-in_err-next.ensures.1 in rw (p.1, p.2) (segments_no_mark (in_body c.args.deep c.args.brackets) c.args.cursor.now c.args.at c.in_ok-read.after c.in_ok-read.read _ c.in_ok-read.ensures.reads c.in_err-next.ensures.reads)

pub returns-clause-reads : goal.returns-clause-reads
returns-clause-reads c = segments_ok (in_body c.args.deep c.args.brackets) c.args.cursor.now c.args.at c.in_ok-read.after c.in_ok-next.next c.in_ok-read.read c.in_ok-read.ensures.reads c.in_ok-next.ensures.reads
