use Rattle.std.proofs.Common.{refl}
use Rattle.plain_moves.specs.Worlds.{world_of}
use Rattle.plain_process.proofs.Turning.{fills_by}
use Rattle.plain_process.proofs.process.PlainProcessProcess.fill.Goals as goal

pub returns-clause-goes : goal.returns-clause-goes
returns-clause-goes c = fills_by (world_of c.args.self.now.scene) c.args.self.now.standing c.args.self.now.standing c.fill.new.standing refl c.fill.ensures c.requires.waits
