-- Segments that take alike give the same rows.
use Rattle.std.proofs.Common.{◌≡◌, ◌∙◌, ℕ, zero, suc, Bool, List, [], ap}
use Rattle.term_value.specs.Match.{all_taken}
use Rattle.term_value.specs.Rows.{first_or_skips, front, row_then, bit_rows}
use Rattle.term_value.specs.Setting.{Setting}
use Rattle.term_value.specs.Tree.{Bound, Segments, Row}
use Rattle.pattern_compile.specs.Meaning.{TakeAlike}

module _ (s : Setting) (one other one_shape other_shape : Segments) (bs : List Bound) (alike : TakeAlike one other) (alike_shape : TakeAlike one_shape other_shape) where
  front_alike : (bits : List Bool) → front s one one_shape bs bits ≡ front s other other_shape bs bits
  front_alike bits =
      ap (λ u. first_or_skips bits u (all_taken s one bs bits)) (alike_shape s bs bits) ∙ ap (first_or_skips bits (all_taken s other_shape bs bits)) (alike s bs bits)

  pub rows_alike : (n : ℕ) (bits : List Bool) → bit_rows s one one_shape bs n bits ≡ bit_rows s other other_shape bs n bits
  rows_alike zero bits = ap (row_then (λ rest. [])) (front_alike bits)
  rows_alike (suc n) bits =
      let same : bit_rows s one one_shape bs n ≡ bit_rows s other other_shape bs n = λ j rest. rows_alike n rest j in
      ap (λ (later : List Bool → List Row). row_then later (front s one one_shape bs bits)) same ∙ ap (row_then (bit_rows s other other_shape bs n)) (front_alike bits)
