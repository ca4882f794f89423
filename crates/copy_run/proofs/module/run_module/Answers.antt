use Rattle.std.proofs.Common.{List, ap, ◌∙◌, subst}
use Rattle.erl_syntax.specs.declared.checking.VarUse.{VarUse}
use Rattle.erl_syntax.specs.declared.module.Module as syntax
use Rattle.term_value.specs.Machine.{start_of}
use Rattle.term_value.specs.ReadTrees.{module_of}
use Rattle.term_value.specs.Tree.{Module}
use Rattle.copy_machine.specs.Running.{IsOwnRun}
use Rattle.copy_run.proofs.module.run_module.Goals as goal

pub returns : goal.returns
returns c =
    subst (λ (code : Module). IsOwnRun (start_of code c.args.reductions) c.in_ok-outcome.outcome)
    (c.in_ok-code.ensures ∙ ap (λ (vars : List (List VarUse)). module_of vars c.module.result.now) c.vars.ensures.same ∙ ap (λ (tree : syntax.Module). module_of c.args.checked.now.vars.items tree) c.module.ensures.same)
    (c.in_ok-outcome.ensures _ c.in_ok-machine.ensures)
