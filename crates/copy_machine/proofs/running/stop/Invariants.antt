use Rattle.copy_machine.specs.Running.{GoesOn}
use Rattle.copy_machine.proofs.running.stop.Given as goal

abbrev pub invariant-loop-waiting : goal.invariant-loop-waiting
invariant-loop-waiting g l = GoesOn g.P.Process.code g.P.Process.local g.P.Process.waits l.fn.progress l.progress
