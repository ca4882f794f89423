use Rattle.std.proofs.Common.{arith, subst, ◌∙◌, ap, List}
use Rattle.std.proofs.lemmas.List.{get_or_default}
use Rattle.erl_syntax.specs.declared.checking.CheckCause.TheVariants as w
use Rattle.erl_syntax.specs.declared.module.Name.{Name}
use Rattle.module_check.specs.Order.{IsLeast, Some_of}
use Rattle.module_check.specs.Faults.{ExportFault}
use Rattle.module_check.proofs.Firsts.{least_if, least_more, least_all}
use Rattle.module_check.proofs.forms.exports_fault.Goals as goal

pub loop-export-preserved : goal.loop-export-preserved
loop-export-preserved c = least_more (ExportFault c.args.tree.now) c.items-exports.result.now c.loop-export.export-index _ c.loop-export.best c.fault_if.result c.first_of-best.result (omega arith) (get_or_default c.items-exports.result.now c.loop-export.export-index _ _ (omega arith)) c.loop-export.invariant (least_if c.is_missing-missing.result _ _ w.ExportMissing c.fault_if.result c.is_missing-missing.ensures c.fault_if.ensures) c.first_of-best.ensures

pub returns : goal.returns
returns c = let P : List Name → Type 0 = λ zs. IsLeast (Some_of (ExportFault c.args.tree.now) zs) c.loop-export.best in subst P (c.items-exports.ensures ∙ ap (λ m. m.exports) c.module.ensures) (least_all (ExportFault c.args.tree.now) c.items-exports.result.now c.loop-export.export-index c.loop-export.best (omega arith) c.loop-export.invariant)
