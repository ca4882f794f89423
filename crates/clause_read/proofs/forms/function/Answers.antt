use Rattle.std.proofs.Common.{rules, refl, arith, ap, length}
use Rattle.std.proofs.lemmas.Result.{err_from_is_err_and}
use Rattle.clause_read.proofs.ClauseReads.{function_fault, function_begun, clauses_fault, clauses_more, clauses_other, function_whole}
use Rattle.clause_read.proofs.forms.function.Goals as goal

pub returns-in_err-first-clause-reads : goal.returns-in_err-first-clause-reads
returns-in_err-first-clause-reads c = let p = err_from_is_err_and c.from_residual.result c.from_residual.ensures.1 in
    rw (p.1, p.2) (function_fault c.args.cursor.now c.args.at _ c.requires.place c.requires.other c.in_err-first.ensures.reads)

pub loop-alloc-init : goal.loop-alloc-init
loop-alloc-init c = (
  omega (arith, c.in_ok-first.ensures.further.0),
  c.in_ok-first.ensures.further.1,
  function_begun c.args.cursor.now c.args.at c.in_ok-first.after c.in_ok-first.first.name _ c.in_ok-first.first c.push.new.self.items c.new-clauses.result.items c.requires.place c.requires.other c.in_ok-first.ensures.reads refl (ap length c.items.ensures) c.new-clauses.ensures.items c.in_ok-push.ensures.items,
)

pub returns-in_err-more-clause-reads : goal.returns-in_err-more-clause-reads
returns-in_err-more-clause-reads c = let p = err_from_is_err_and c.from_residual-in_err-more.result c.from_residual-in_err-more.ensures.1 in
    rw (p.1, p.2) (clauses_fault c.args.cursor.now c.args.at c.loop-alloc.next _ _ c.loop-alloc.clauses.items _ c.loop-alloc.invariant.2 (c.is.ensures.yes (search rules)) c.in_err-more.ensures.reads)

pub loop-alloc-preserved : goal.loop-alloc-preserved
loop-alloc-preserved c = (
  omega (arith, c.loop-alloc.invariant.0, c.in_ok-more.ensures.further.0),
  c.in_ok-more.ensures.further.1,
  clauses_more c.args.cursor.now c.args.at c.loop-alloc.next c.in_ok-more.behind _ _ c.loop-alloc.clauses.items c.push-in-loop-alloc.new.self.items c.in_ok-more.more c.loop-alloc.invariant.2 (c.is.ensures.yes (search rules)) c.in_ok-more.ensures.reads c.in_ok-push-2.ensures.items,
)

pub returns-then-not-is-clause-reads : goal.returns-then-not-is-clause-reads
returns-then-not-is-clause-reads c = clauses_other c.args.cursor.now c.args.at c.loop-alloc.next _ _ c.loop-alloc.clauses.items c.loop-alloc.invariant.2 (c.is.ensures.no (search rules)) (c.is-2.ensures.no (search rules))

pub returns-clause-reads : goal.returns-clause-reads
returns-clause-reads c = function_whole c.args.cursor.now c.args.at c.loop-alloc.next _ _ c.loop-alloc.clauses.items _ c.loop-alloc.invariant.2 (c.is-2.ensures.yes (search rules)) (ap (λ v. record { name = c.in_ok-first.first.name; arity = length c.items.result.now; clauses = v }) c.of-clauses.ensures)
