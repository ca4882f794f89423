use Rattle.std.proofs.Common.{rules, arith}
use Rattle.std.proofs.lemmas.Result.{err_from_is_err_and}
use Rattle.clause_read.proofs.FormExits.{names_empty, names_begin, names_fault, names_last, names_more, names_other, listed_fault}
use Rattle.clause_read.proofs.forms.names.Goals as goal

pub returns-then-is-clause-reads : goal.returns-then-is-clause-reads
returns-then-is-clause-reads c = names_empty c.args.cursor.now c.args.at c.new-names.result.items (c.is.ensures.yes (search rules)) c.new-names.ensures.items

pub loop-names-init : goal.loop-names-init
loop-names-init c = (omega arith, c.requires.place, names_begin c.args.cursor.now c.args.at c.new-names.result.items (c.is.ensures.no (search rules)) c.new-names.ensures.items)

pub returns-in_err-one-clause-reads : goal.returns-in_err-one-clause-reads
returns-in_err-one-clause-reads c = let p = err_from_is_err_and c.from_residual.result c.from_residual.ensures.1 in
    rw (p.1, p.2) (listed_fault c.args.cursor.now c.args.at _ (names_fault c.args.cursor.now c.args.at c.loop-names.next c.loop-names.names.items _ c.loop-names.invariant.2 c.in_err-one.ensures.reads))

pub returns-then-is-2-clause-reads : goal.returns-then-is-2-clause-reads
returns-then-is-2-clause-reads c = names_last c.args.cursor.now c.args.at c.loop-names.next c.in_ok-one.after c.loop-names.names.items c.push.new.self.items c.in_ok-one.one c.loop-names.invariant.2 c.in_ok-one.ensures.reads c.in_ok-push.ensures.items (c.is-in-loop-names.ensures.yes (search rules))

pub returns-then-not-is-clause-reads : goal.returns-then-not-is-clause-reads
returns-then-not-is-clause-reads c = names_other c.args.cursor.now c.args.at c.loop-names.next c.in_ok-one.after c.loop-names.names.items c.in_ok-one.one c.loop-names.invariant.2 c.in_ok-one.ensures.reads (c.is-in-loop-names-2.ensures.no (search rules)) (c.is-in-loop-names.ensures.no (search rules))

pub loop-names-preserved : goal.loop-names-preserved
loop-names-preserved c = (omega (arith, c.loop-names.invariant.0, c.in_ok-one.ensures.further.0), omega (arith, c.is-in-loop-names-2.ensures.within (search rules)), names_more c.args.cursor.now c.args.at c.loop-names.next c.in_ok-one.after c.loop-names.names.items c.push.new.self.items c.in_ok-one.one c.loop-names.invariant.2 c.in_ok-one.ensures.reads c.in_ok-push.ensures.items (c.is-in-loop-names-2.ensures.yes (search rules)))
