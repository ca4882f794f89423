use Rattle.std.proofs.Common.{◌≡◌}
use Rattle.copy_machine.specs.Following.{IsFollower}
use Rattle.copy_machine.proofs.Replays.{LedTo}
use Rattle.copy_machine.proofs.replaying.lead.Given as goal

abbrev pub invariant-loop-entry : goal.invariant-loop-entry
invariant-loop-entry g l = record {
  place : l.place ≡ l.entry-index;
  follower : IsFollower g.P.Process.code g.P.Process.local g.P.Process.waits l.machine;
  led : LedTo g.P.Process.code g.P.Process.local g.P.Process.waits l.fn.entries l.entry-index l.fn.machine l.machine;
}
