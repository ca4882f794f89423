use Rattle.std.proofs.Common.{arith}
use Rattle.std.proofs.lemmas.List.{length-append}
use Rattle.copy_machine.proofs.Replays.{ends_step}
use Rattle.copy_machine.proofs.outcome.ends_of.Goals as goal

pub loop-row-preserved : goal.loop-row-preserved
loop-row-preserved g c = record {
  pid = simp length-append (omega arith);
  ends = ends_step c.loop-row.pid c.loop-row.ends.items c.push_end.new.ends.items c.loop-row.yielded c.in-Some.row c.loop-row.invariant.pid c.loop-row.invariant.ends c.in_ok-push_end.ensures;
}
