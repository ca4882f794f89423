use Rattle.std.proofs.Common.{◌≡◌}
use Rattle.process_acts.specs.Acts.{Runs}
use Rattle.copy_machine.proofs.next_ask.next_ask.Given as goal

abbrev pub invariant-loop : goal.invariant-loop
invariant-loop g l = record {
  code : g.P.Process.code l.process ≡ g.P.Process.code l.initial.process;
  runs : Runs (g.P.Process.code l.initial.process) (g.P.Process.local l.initial.process) (g.P.Process.local l.process);
}
