-- A cursor in place of a list of rows: the first row, and what is left of the source behind it (this project's own).
use Rattle.std.specs.Prelude.{◌≡◌, ℕ, ◌≤◌, Bool, List, [], length}
use Rattle.term_value.specs.Value.{Value, Values, none, more}
use Rattle.term_value.specs.Setting.{Setting}
use Rattle.term_value.specs.Tree.{Bound, Pattern, Segments}
use Rattle.term_value.specs.Match.{matched}
use Rattle.term_value.specs.Rows.{row_before, list_rows, front, row_then, bit_rows}

-- The rows of a list, whose first item gives the first row.
abbrev pub ListCursor : Type 0
ListCursor = (s : Setting) (p : Pattern) (bs : List Bound)
    → (list_rows s p bs none ≡ []) × ((v : Value) (vs : Values) → list_rows s p bs (more v vs) ≡ row_before (matched s p v bs) (list_rows s p bs vs))

-- The rows of bits, looked for as often as there are bits: the first row, and then those of the bits that are left behind it.
abbrev pub BitCursor : Type 0
BitCursor = (s : Setting) (ss shape : Segments) (bs : List Bound) (bits : List Bool)
    → bit_rows s ss shape bs (length bits) bits ≡ row_then (λ rest. bit_rows s ss shape bs (length rest) rest) (front s ss shape bs bits)

-- looking as often as there are bits is often enough: any larger number gives the same rows
abbrev pub EnoughLooks : Type 0
EnoughLooks = (s : Setting) (ss shape : Segments) (bs : List Bound) (bits : List Bool) (n : ℕ) → length bits ≤ n → bit_rows s ss shape bs n bits ≡ bit_rows s ss shape bs (length bits) bits
