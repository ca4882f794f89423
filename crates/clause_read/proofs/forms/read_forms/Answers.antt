use Rattle.std.proofs.Common.{rules}
use Rattle.std.proofs.lemmas.Result.{err_from_is_err_and}
use Rattle.clause_read.proofs.AllForms.{forms_fault, forms_step, forms_whole}
use Rattle.clause_read.proofs.forms.read_forms.Goals as goal

pub returns-in_err-form : goal.returns-in_err-form
returns-in_err-form c = let p = err_from_is_err_and c.from_residual.result c.from_residual.ensures.1 in
    rw (p.1, p.2) (forms_fault c.args.cursor.now c.loop-alloc.at c.loop-alloc.collected _ c.loop-alloc.invariant.1 c.in_err-form.ensures.reads)

pub loop-alloc-preserved : goal.loop-alloc-preserved
loop-alloc-preserved c = (c.in_ok-form.ensures.further.1, forms_step c.args.cursor.now c.loop-alloc.at c.in_ok-form.next c.loop-alloc.collected c.push.new.self c.in_ok-form.form c.loop-alloc.invariant.1 c.in_ok-form.ensures.reads c.in_ok-push.ensures.added)

pub returns : goal.returns
returns c = forms_whole c.args.cursor.now c.loop-alloc.at c.loop-alloc.collected c.of.result c.of-2.result c.of-3.result c.loop-alloc.invariant.1 (search rules) c.of.ensures c.of-2.ensures c.of-3.ensures
