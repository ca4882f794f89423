use Rattle.plain_moves.specs.Worlds.{world_of}
use Rattle.plain_moves.specs.declared.focus.Focus.TheVariants as f
use Rattle.plain_process.proofs.Asking.{value_stage}
use Rattle.plain_process.proofs.Moving.{hands_on}
use Rattle.plain_process.proofs.stage.hand.Goals as goal

pub returns-in-None : goal.returns-in-None
returns-in-None c = value_stage (world_of c.args.scene.now) c.args.round _ c.args.term _ c.in-None.ensures.0 c.in-None.ensures.1 c.opens.ensures

pub returns-in_ok-settle-in-Some : goal.returns-in_ok-settle-in-Some
returns-in_ok-settle-in-Some c = hands_on (world_of c.args.scene.now) c.args.round _ c.in-Some.frame c.in_ok-made-in-Some.made _ (f.Value c.args.term) c.in-Some.ensures c.in_ok-made-in-Some.ensures c.in_ok-settle-in-Some.ensures
