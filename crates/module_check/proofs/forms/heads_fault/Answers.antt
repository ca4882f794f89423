use Rattle.std.proofs.Common.{subst, sym, ◌∙◌, List}
use Rattle.std.proofs.lemmas.List.{take_rest}
use Rattle.erl_syntax.specs.declared.module.Head.{Head}
use Rattle.module_check.specs.Order.{IsLeast, Some_of}
use Rattle.module_check.specs.Faults.{HeadFault}
use Rattle.module_check.proofs.Formed.{rest_drop}
use Rattle.module_check.proofs.forms.heads_fault.Goals as goal

pub returns-in-len1-up : goal.returns-in-len1-up
returns-in-len1-up c = let P : List Head → Type 0 = λ zs. IsLeast (Some_of HeadFault zs) c.first_head.result in subst P (take_rest c.args.heads.now 1 ∙ sym (rest_drop c.args.heads.now)) c.first_head.ensures
