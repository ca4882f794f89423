use Rattle.std.proofs.Common.{ap, sym, ◌∙◌}
use Rattle.term_value.specs.Step as step
use Rattle.term_layers.proofs.Nothing.{same}
use Rattle.plain_moves.specs.Reading.{part_tree}
use Rattle.plain_moves.specs.Worlds.{world_of}
use Rattle.plain_moves.proofs.Alike.{along}
use Rattle.plain_moves.proofs.opening.open.Goals as goal

pub returns-in-Body : goal.returns-in-Body
returns-in-Body c = along (world_of c.args.scene.now) _ _ c.open_body.result (ap (part_tree (step.setting (world_of c.args.scene.now))) (sym c.in-Body.is)) (c.open_body.ensures (world_of c.args.scene.now))

pub returns-in-Call : goal.returns-in-Call
returns-in-Call c = along (world_of c.args.scene.now) _ _ c.call.result (sym (same _) ∙ ap (part_tree (step.setting (world_of c.args.scene.now))) (sym c.in-Call.is)) c.call.ensures
