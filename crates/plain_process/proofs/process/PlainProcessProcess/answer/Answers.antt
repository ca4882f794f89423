use Rattle.std.proofs.Common.{refl}
use Rattle.plain_moves.specs.Worlds.{world_of}
use Rattle.plain_process.proofs.Turning.{answers_by}
use Rattle.plain_process.proofs.process.PlainProcessProcess.answer.Goals as goal

pub returns-clause-goes : goal.returns-clause-goes
returns-clause-goes c = answers_by (world_of c.args.self.now.scene) c.args.self.now.standing c.args.self.now.standing c.answer.new.standing c.args.answer refl c.answer.ensures c.requires.waits
