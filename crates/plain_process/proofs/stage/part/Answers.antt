use Rattle.plain_moves.specs.Worlds.{world_of}
use Rattle.plain_process.proofs.stage.part.Goals as goal

pub returns-in_ok-ask-in-Asks : goal.returns-in_ok-ask-in-Asks
returns-in_ok-ask-in-Asks c = rw c.in-Asks.is (c.in_ok-ask-in-Asks.ensures (world_of c.args.scene.now))
