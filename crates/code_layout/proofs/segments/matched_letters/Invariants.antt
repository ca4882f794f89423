use Rattle.std.proofs.Common.{take}
use Rattle.std.specs.Prelude.{option_map}
use Rattle.code_tree.specs.Reading.{tree_of}
use Rattle.code_layout.specs.Layout.{AddsSegments, letter_pieces}
use Rattle.code_layout.proofs.segments.matched_letters.Given as goal

abbrev pub invariant-loop-letter : goal.invariant-loop-letter
invariant-loop-letter l = AddsSegments l.initial.found.items l.found.items (letter_pieces l.typed (option_map tree_of l.size) (take l.letter-index l.letters))
