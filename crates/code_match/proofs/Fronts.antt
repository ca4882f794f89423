-- What a bit generator finds in front of its bits, by what its pattern and its shape take.
use Rattle.std.proofs.Common.{◌≡◌, ◌<◌, ◌≤◌, Bool, List, length, ap, sym, ◌∙◌}
use Rattle.std.proofs.lemmas.Bool.{lt-ltb, le-ltb}
use Rattle.term_value.specs.Decode.{Taken, Cut, NoCut, CutLimit}
use Rattle.term_value.specs.Rows.{Front, Takes, Ends, AtLimit, takes, takes_where, skips, first_or_skips}
use Rattle.term_value.specs.Tree.{Bound, Row, Found, Skipped}

module _ (row : Row) (bits rest : List Bool) where
  takes_some : length rest < length bits → Takes row rest ≡ takes row bits rest
  takes_some h = ap (λ b. takes_where b row rest) (sym (lt-ltb (length rest) (length bits) h))

  takes_none : length bits ≤ length rest → Ends ≡ takes row bits rest
  takes_none h = ap (λ b. takes_where b row rest) (sym (le-ltb (length rest) (length bits) h))

module _ (bits : List Bool) (skipped taken : Taken) where
  pub found_row : (bs : List Bound) (rest : List Bool) → Cut bs rest ≡ taken → length rest < length bits → Takes (Found bs) rest ≡ first_or_skips bits skipped taken
  found_row bs rest e h = takes_some (Found bs) bits rest h ∙ ap (first_or_skips bits skipped) e

  pub found_none : (bs : List Bound) (rest : List Bool) → Cut bs rest ≡ taken → length bits ≤ length rest → Ends ≡ first_or_skips bits skipped taken
  found_none bs rest e h = takes_none (Found bs) bits rest h ∙ ap (first_or_skips bits skipped) e

  pub found_skips : (front : Front) → NoCut ≡ taken → front ≡ skips bits skipped → front ≡ first_or_skips bits skipped taken
  found_skips front e h = h ∙ ap (first_or_skips bits skipped) e

  pub found_limit : CutLimit ≡ taken → AtLimit ≡ first_or_skips bits skipped taken
  found_limit e = ap (first_or_skips bits skipped) e

module _ (bits : List Bool) (skipped : Taken) where
  pub skipped_row : (bs : List Bound) (rest : List Bool) → Cut bs rest ≡ skipped → length rest < length bits → Takes Skipped rest ≡ skips bits skipped
  skipped_row bs rest e h = takes_some Skipped bits rest h ∙ ap (skips bits) e

  pub skipped_none : (bs : List Bound) (rest : List Bool) → Cut bs rest ≡ skipped → length bits ≤ length rest → Ends ≡ skips bits skipped
  skipped_none bs rest e h = takes_none Skipped bits rest h ∙ ap (skips bits) e

  pub skipped_ends : NoCut ≡ skipped → Ends ≡ skips bits skipped
  skipped_ends e = ap (skips bits) e

  pub skipped_limit : CutLimit ≡ skipped → AtLimit ≡ skips bits skipped
  skipped_limit e = ap (skips bits) e
