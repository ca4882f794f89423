use Rattle.std.proofs.Common.{◌≡◌}
use Rattle.plain_moves.specs.Worlds.{world_of}
use Rattle.plain_process.specs.Going.{Leads}
use Rattle.plain_process.proofs.running.run.Given as goal

abbrev pub invariant-loop : goal.invariant-loop
invariant-loop l = record {
  leads : Leads (world_of l.scene) l.fn.start l.standing;
  left : l.first ≡ l.fn.start.left;
}
