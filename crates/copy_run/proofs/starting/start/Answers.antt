use Rattle.std.proofs.Common.{subst}
use Rattle.term_value.specs.Local.{Local}
use Rattle.term_value.specs.Machine as m
use Rattle.code_tree.specs.Reading.{module_meant}
use Rattle.copy_machine.specs.Following.{Follows}
use Rattle.plain_process.specs.Standing.{code_of, local_of, waits_of}
use Rattle.copy_run.proofs.starting.start.Goals as goal

pub start-requires : goal.start-requires
start-requires c = c.in_ok-process.ensures.code

pub returns : goal.returns
returns c =
    subst (λ (first : Local). Follows code_of local_of waits_of (m.beginning (module_meant c.args.code.now) c.args.reductions first) c.in_ok-machine.machine)
    (c.in_ok-first.ensures (local_of c.in_ok-process.process) c.in_ok-process.ensures.begins) c.in_ok-machine.ensures
