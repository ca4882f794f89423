-- What a move says of an expression: its next contraction, or what it is (this project's own).
use Rattle.std.specs.Prelude.{◌≡◌, ℕ}
use Rattle.term_value.specs.Tree.{Tree}
use Rattle.term_value.specs.Step as t
use Rattle.term_layers.specs.Layers.{wrap}
use Rattle.plain_moves.specs.Reading.{stop_of, layer, part_tree, open_tree}
use Rattle.plain_moves.specs.declared.moves.Move.{Move}
use Rattle.plain_moves.specs.declared.moves.Move.TheVariants as m

abbrev pub IsMove : t.World → Tree → Move → Type 0
IsMove w u (m.Enters frame part) = u ≡ wrap (layer (t.setting w) frame) (part_tree (t.setting w) part)
IsMove w u (m.Becomes focus) = u ≡ open_tree (t.setting w) focus
IsMove w u (m.Goes cost focus) = (made : ℕ) × (t.step w u ≡ t.Goes cost made (open_tree (t.setting w) focus))
IsMove w u (m.Falls cost stop) = t.step w u ≡ t.Falls cost (stop_of stop)
