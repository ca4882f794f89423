use Rattle.std.proofs.lemmas.Result.{err_from_is_err_and}
use Rattle.body_read.specs.WantedExprs.{in_body}
use Rattle.body_read.proofs.ItemExits.{matched_err, matched_no_mark, matched_ok}
use Rattle.body_read.proofs.items.matched.Goals as goal

-- src/items.rt:68:28
pub returns-in_err-pattern-clause-reads : goal.returns-in_err-pattern-clause-reads
returns-in_err-pattern-clause-reads c = let p = err_from_is_err_and c.from_residual.result c.from_residual.ensures.1 in rw (p.1, p.2) (matched_err (in_body c.args.deep c.args.brackets) c.args.cursor.now c.args.at _ c.in_err-pattern.ensures.reads)

-- src/items.rt:69:21
pub returns-in_err-next-clause-reads : goal.returns-in_err-next-clause-reads
returns-in_err-next-clause-reads c = let p = err_from_is_err_and c.from_residual-in_err-next.result c.from_residual-in_err-next.ensures.1 in rw (p.1, p.2) (matched_no_mark (in_body c.args.deep c.args.brackets) c.args.cursor.now c.args.at c.in_ok-pattern.after c.in_ok-pattern.pattern _ c.in_ok-pattern.ensures.reads c.in_err-next.ensures.reads)

-- src/items.rt:54:1
pub returns-clause-reads : goal.returns-clause-reads
returns-clause-reads c = matched_ok (in_body c.args.deep c.args.brackets) c.args.cursor.now c.args.at c.in_ok-pattern.after c.in_ok-next.next c.in_ok-pattern.pattern c.in_ok-pattern.ensures.reads c.in_ok-next.ensures.reads
