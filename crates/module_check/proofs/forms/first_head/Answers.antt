use Rattle.std.proofs.Common.{arith, get_or}
use Rattle.std.proofs.lemmas.List.{get_or_default}
use Rattle.erl_syntax.specs.declared.module.Head.{Head}
use Rattle.module_check.specs.Faults.{HeadFault}
use Rattle.module_check.proofs.Firsts.{least_more, least_all}
use Rattle.module_check.proofs.forms.first_head.Goals as goal

pub loop-head-preserved : goal.loop-head-preserved
loop-head-preserved c = let d : Head = record { at = record { line = 0; column = 0 }; name = 0 } in least_more HeadFault c.args.heads.now c.loop-head.head-index (get_or c.args.heads.now c.loop-head.head-index d) c.loop-head.best c.head_fault.result c.first_of-best.result (omega arith) (get_or_default c.args.heads.now c.loop-head.head-index d (get_or c.args.heads.now c.loop-head.head-index d) (omega arith)) c.loop-head.invariant c.head_fault.ensures c.first_of-best.ensures

pub returns : goal.returns
returns c = least_all HeadFault c.args.heads.now c.loop-head.head-index c.loop-head.best (omega arith) c.loop-head.invariant
