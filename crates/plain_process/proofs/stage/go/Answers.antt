use Rattle.plain_moves.specs.Worlds.{world_of}
use Rattle.plain_process.proofs.Moving.{goes_on}
use Rattle.plain_process.proofs.stage.go.Goals as goal

pub returns : goal.returns
returns c = goes_on (world_of c.args.scene.now) c.args.round c.args.part c.in_ok-made.made _ c.in_ok-made.ensures c.in_ok-settle.ensures
