use Rattle.std.proofs.Common.{ℕ, ◌≤◌, length, map, ap, sym, ◌∙◌}
use Rattle.std.specs.Prelude.{slice_get, option_map}
use Rattle.std.proofs.lemmas.Bool.{ltb-false}
use Rattle.std.proofs.lemmas.Option.{slice_get-map, slice_get_past}
use Rattle.term_value.specs.Value as V
use Rattle.code_tree.specs.PlainTerms.{value}
use Rattle.code_tree.specs.Reading.{function_of}
use Rattle.plain_moves.specs.Worlds.{world_of}
use Rattle.plain_moves.proofs.Acts.{call_falls}
use Rattle.plain_moves.proofs.calls.call.Goals as goal

pub returns : goal.returns
returns c =
    let past : length c.items.result.now ≤ c.args.function = ltb-false c.args.function (length c.items.result.now) (sym c.in-None.ensures.lookup.0) in
    call_falls (world_of c.args.scene.now) c.args.function (V.row (map value c.args.arguments))
    (ap (λ fs. slice_get (map function_of fs) c.args.function) (sym c.items.ensures)
    ∙ slice_get-map function_of c.items.result.now c.args.function
    ∙ ap (option_map function_of) (slice_get_past c.items.result.now c.args.function past))
