use Rattle.term_value.specs.Machine as m
use Rattle.copy_machine.specs.Following.{Follows, IsFollower}
use Rattle.copy_machine.proofs.Machines.{RestBefore}
use Rattle.copy_machine.proofs.machine.Machine.all_rest.Given as goal

abbrev pub invariant-loop-index : goal.invariant-loop-index
invariant-loop-index g l = record {
  follower : IsFollower g.P.Process.code g.P.Process.local g.P.Process.waits l.self;
  before : (machine : m.Machine) → Follows g.P.Process.code g.P.Process.local g.P.Process.waits machine l.fn.self → RestBefore g.P.Process.code g.P.Process.local g.P.Process.waits machine l.index l.self;
}
