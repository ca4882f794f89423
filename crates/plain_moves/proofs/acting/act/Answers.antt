use Rattle.std.proofs.Common.{ap, sym, ◌∙◌, map}
use Rattle.term_value.specs.Machine.{value_trees}
use Rattle.term_value.specs.Tree.{All}
use Rattle.term_value.specs.Value.{row}
use Rattle.term_layers.proofs.Nothing.{same}
use Rattle.code_tree.specs.PlainTerms.{value}
use Rattle.code_tree.specs.Reading.{form_of}
use Rattle.code_tree.specs.declared.form.Form.{Form}
use Rattle.plain_moves.specs.Worlds.{world_of}
use Rattle.plain_moves.proofs.Alike.{along}
use Rattle.plain_moves.proofs.acting.act.Goals as goal

pub returns-in-Call : goal.returns-in-Call
returns-in-Call c = ap (λ (f : Form). All (form_of f) (value_trees (row (map value c.args.values)))) c.in-Call.is ∙ sym (same _)

pub returns-in-Send : goal.returns-in-Send
returns-in-Send c = along (world_of c.args.scene.now) _ _ c.send.result (ap (λ (f : Form). All (form_of f) (value_trees (row (map value c.args.values)))) (sym c.in-Send.is)) (c.send.ensures (world_of c.args.scene.now))

pub returns-in-Display : goal.returns-in-Display
returns-in-Display c = along (world_of c.args.scene.now) _ _ c.display.result (ap (λ (f : Form). All (form_of f) (value_trees (row (map value c.args.values)))) (sym c.in-Display.is)) (c.display.ensures (world_of c.args.scene.now))

pub returns : goal.returns
returns c = along (world_of c.args.scene.now) _ _ c.spawn.result (ap (λ (f : Form). All (form_of f) (value_trees (row (map value c.args.values)))) (sym c.in-Spawn.is)) (c.spawn.ensures (world_of c.args.scene.now))
