use Rattle.plain_moves.specs.Worlds.{world_of}
use Rattle.plain_process.proofs.Receives.{take_on, limit_on}
use Rattle.plain_process.proofs.receiving.receive.Goals as goal

pub returns-in-Takes : goal.returns-in-Takes
returns-in-Takes c =
    take_on (world_of c.args.scene.now) c.args.round c.args.clauses c.args.bindings c.in_ok-found.found c.in-Takes.index c.in-Takes.bound c.in-Takes.body _ c.in_ok-found.ensures.is c.in-Takes.is c.take.ensures

pub returns : goal.returns
returns c = limit_on (world_of c.args.scene.now) c.args.round c.args.clauses c.args.bindings c.in_ok-found.found _ c.in_ok-found.ensures.is c.in-Limit.is c.falls.ensures
