use Rattle.std.proofs.Common.{refl}
use Rattle.plain_moves.specs.Worlds.{world_of}
use Rattle.process_acts.proofs.Paths.{none}
use Rattle.plain_process.proofs.Turning.{reached_asks, reached_yields, stage_on}
use Rattle.plain_process.proofs.running.run.Goals as goal

pub loop-init : goal.loop-init
loop-init c = record { leads = none _ _; left = refl }

pub returns-in-Asks : goal.returns-in-Asks
returns-in-Asks c =
    reached_asks (world_of c.args.scene.now) c.args.most c.args.start c.loop.standing c.in-Asks.resting c.in-Asks.asking c.in_ok-stage.stage _ c.asks_at.ensures c.in-Asks.is c.loop.invariant.leads c.in_ok-stage.ensures

pub returns-then-is_over : goal.returns-then-is_over
returns-then-is_over c =
    reached_yields (world_of c.args.scene.now) c.args.most c.args.start.left c.args.start c.loop.standing c.in-On.further c.in_ok-stage.stage _ c.yields_at.ensures c.in-On.is refl (c.is_over.ensures c.if-is_over.true)
    c.loop.invariant.leads c.in_ok-stage.ensures

pub loop-preserved : goal.loop-preserved
loop-preserved c = record { leads = stage_on (world_of c.args.scene.now) c.args.start c.loop.standing c.in-On.further c.in_ok-stage.stage c.in-On.is c.loop.invariant.leads c.in_ok-stage.ensures; left = c.loop.invariant.left }
