-- The rows that a generator has still to give (Erlang Reference Manual, "Comprehensions").
use Rattle.std.specs.Prelude.{◌≡◌, List, [], ◌∷◌, ◌++◌, length}
use Rattle.term_value.specs.Setting.{Setting}
use Rattle.term_value.specs.Seen.{meanings}
use Rattle.term_value.specs.Tree as t
use Rattle.term_value.specs.PutIn.{in_pattern, in_segments}
use Rattle.term_value.specs.Rows.{list_rows, bit_rows}
use Rattle.bit_store.specs.Stores.{itself}
use Rattle.code_tree.specs.Reading.{pattern_of, segments_of}
use Rattle.code_match.specs.Binds.{bounds}
use Rattle.code_rows.specs.declared.rows.Rows.{Rows}
use Rattle.code_rows.specs.declared.rows.Rows.TheVariants.{InList, InBits}
use Rattle.code_rows.specs.declared.rows.RowFound.{RowFound}
use Rattle.code_rows.specs.declared.rows.RowFound.TheVariants.{Found, Skipped, Limit, Ended}

-- those of a generator that stands under bindings, from the next one on
abbrev pub rows_left : Setting → List t.Bound → Rows → List t.Row
rows_left s bs (InList rows) = list_rows s (in_pattern bs (pattern_of rows.pattern.now)) [] (meanings itself rows.rest)
rows_left s bs (InBits rows) = bit_rows s (in_segments bs (segments_of rows.segments.now)) (in_segments bs (segments_of rows.shape.now)) [] (length rows.rest) rows.rest

-- the row that was found under bindings, and those that were left before it
abbrev pub IsBefore : List t.Bound → RowFound → List t.Row → List t.Row → Type 0
IsBefore bs (Found found) rest rows = (xs : List t.Bound) × ((bounds found ≡ bs ++ xs) × (rows ≡ t.Found xs ∷ rest))
IsBefore bs Skipped rest rows = rows ≡ t.Skipped ∷ rest
IsBefore bs Limit rest rows = rows ≡ t.RowLimit ∷ []
IsBefore bs Ended rest rows = rows ≡ []
