use Rattle.std.proofs.Common.{◌≡◌, ◌+◌, length}
use Rattle.copy_machine.specs.Replaying.{row_ends}
use Rattle.copy_machine.proofs.outcome.ends_of.Given as goal

abbrev pub invariant-loop-row : goal.invariant-loop-row
invariant-loop-row g l = record {
  pid : l.pid ≡ length l.yielded + 1;
  ends : l.ends.items ≡ row_ends 1 l.yielded;
}
