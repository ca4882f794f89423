use Rattle.std.proofs.Common.{refl}
use Rattle.plain_moves.specs.Worlds.{world_of}
use Rattle.plain_process.specs.declared.standing.Course.TheVariants.{Fell}
use Rattle.plain_process.proofs.Asking.{end_stage}
use Rattle.plain_process.proofs.stage.end.Goals as goal

pub returns : goal.returns
returns c = end_stage (world_of c.args.scene.now) (record { course = Fell c.args.stop; seen = c.args.seen; left = c.args.left }) c.args.stop _ refl c.in_ok-asking.ensures
