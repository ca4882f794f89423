use Rattle.copy_machine.specs.Running.{GoesOn}
use Rattle.copy_machine.proofs.running.serve_all.Given as goal

abbrev pub invariant-loop : goal.invariant-loop
invariant-loop g l = GoesOn g.P.Process.code g.P.Process.local g.P.Process.waits l.fn.progress l.progress
