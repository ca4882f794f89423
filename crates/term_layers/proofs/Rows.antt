-- The rows under bindings are those of the generator with the values put in, each behind the bindings.
use Rattle.std.proofs.Common.{◌≡◌, ℕ, zero, suc, List, [], ◌∷◌, ◌++◌, refl, ap, sym, ◌∙◌, Bool, true, false, length, append-nil}
use Rattle.std.specs.Prelude.{nat_lt, option_map, Some}
use Rattle.term_value.specs.Value.{Value, VInt, VAtom, VPid, VTuple, VList, VBits, Values, none, more}
use Rattle.term_value.specs.Setting.{Setting}
use Rattle.term_value.specs.Tree.{Bound, Row, Found, Skipped, Pattern, Segments, Generator, InList, InBits}
use Rattle.term_value.specs.PutIn.{in_pattern, in_segments, in_generator}
use Rattle.term_value.specs.Decode.{Taken, Cut, NoCut, CutLimit}
use Rattle.term_value.specs.Match.{Matched, Yes, No, MatchLimit, matched, all_taken}
use Rattle.term_value.specs.Rows.{row_before, list_rows, Front, Takes, Ends, AtLimit, takes_where, skips, first_or_skips, front, row_then, bit_rows, rows_under, rows_of}
use Rattle.term_layers.specs.Bindings.{matched_behind, taken_behind, row_behind, rows_behind}
use Rattle.term_layers.proofs.Matches.{matched_under, all_taken_under}

module _ (s : Setting) (xs : List Bound) where
  before_behind : (m : Matched) (rows others : List Row) → rows ≡ rows_behind xs others → row_before (matched_behind xs m) rows ≡ rows_behind xs (row_before m others)
  before_behind (Yes bs) rows others h = ap (λ l. Found (xs ++ bs) ∷ l) h
  before_behind No rows others h = ap (λ l. Skipped ∷ l) h
  before_behind MatchLimit rows others h = refl

  match_from : (p : Pattern) (v : _) → matched s p v xs ≡ matched_behind xs (matched s (in_pattern xs p) v [])
  match_from p v = ap (matched s p v) (sym (append-nil xs)) ∙ matched_under s xs p v []

  pub list_under : (p : Pattern) (vs : Values) → list_rows s p xs vs ≡ rows_behind xs (list_rows s (in_pattern xs p) [] vs)
  list_under p none = refl
  list_under p (more v vs) =
      ap (λ m. row_before m (list_rows s p xs vs)) (match_from p v)
      ∙ before_behind (matched s (in_pattern xs p) v []) (list_rows s p xs vs) (list_rows s (in_pattern xs p) [] vs) (list_under p vs)

  take_from : (ss : Segments) (bits : List Bool) → all_taken s ss xs bits ≡ taken_behind xs (all_taken s (in_segments xs ss) [] bits)
  take_from ss bits = ap (λ l. all_taken s ss l bits) (sym (append-nil xs)) ∙ all_taken_under s xs ss [] bits

  abbrev front_behind : Front → Front
  front_behind (Takes row rest) = Takes (row_behind xs row) rest
  front_behind Ends = Ends
  front_behind AtLimit = AtLimit

  where_behind : (b : Bool) (row : Row) (rest : List Bool) → takes_where b (row_behind xs row) rest ≡ front_behind (takes_where b row rest)
  where_behind true row rest = refl
  where_behind false row rest = refl

  skips_behind : (bits : List Bool) (t : Taken) → skips bits (taken_behind xs t) ≡ front_behind (skips bits t)
  skips_behind bits (Cut bs rest) = where_behind (nat_lt (length rest) (length bits)) Skipped rest
  skips_behind bits NoCut = refl
  skips_behind bits CutLimit = refl

  first_behind : (bits : List Bool) (u t : Taken) → first_or_skips bits (taken_behind xs u) (taken_behind xs t) ≡ front_behind (first_or_skips bits u t)
  first_behind bits u (Cut bs rest) = where_behind (nat_lt (length rest) (length bits)) (Found bs) rest
  first_behind bits u NoCut = skips_behind bits u
  first_behind bits u CutLimit = refl

  pub front_under : (ss sh : Segments) (bits : List Bool) → front s ss sh xs bits ≡ front_behind (front s (in_segments xs ss) (in_segments xs sh) [] bits)
  front_under ss sh bits =
      ap (λ u. first_or_skips bits u (all_taken s ss xs bits)) (take_from sh bits) ∙ ap (first_or_skips bits _) (take_from ss bits)
      ∙ first_behind bits (all_taken s (in_segments xs sh) [] bits) (all_taken s (in_segments xs ss) [] bits)

  then_behind : (f g : List Bool → List Row) (r : Front) → ((l : List Bool) → f l ≡ rows_behind xs (g l)) → row_then f (front_behind r) ≡ rows_behind xs (row_then g r)
  then_behind f g (Takes row rest) h = ap (λ l. row_behind xs row ∷ l) (h rest)
  then_behind f g Ends h = refl
  then_behind f g AtLimit h = refl

  fronts_behind : (ss sh : Segments) (f g : List Bool → List Row) (bits : List Bool) → ((l : List Bool) → f l ≡ rows_behind xs (g l))
      → row_then f (front s ss sh xs bits) ≡ rows_behind xs (row_then g (front s (in_segments xs ss) (in_segments xs sh) [] bits))
  fronts_behind ss sh f g bits h = ap (row_then f) (front_under ss sh bits) ∙ then_behind f g (front s (in_segments xs ss) (in_segments xs sh) [] bits) h

  bits_under : (ss sh : Segments) (n : ℕ) (bits : List Bool) → bit_rows s ss sh xs n bits ≡ rows_behind xs (bit_rows s (in_segments xs ss) (in_segments xs sh) [] n bits)
  bits_under ss sh zero bits = fronts_behind ss sh _ _ bits (λ l. refl)
  bits_under ss sh (suc n) bits = fronts_behind ss sh _ _ bits (bits_under ss sh n)

  pub generator_under : (g : Generator) (v : Value) → rows_under s xs g v ≡ option_map (rows_behind xs) (rows_of s (in_generator xs g) v)
  generator_under (InList p) (VList vs) = ap Some (list_under p vs)
  generator_under (InList p) (VInt n) = refl
  generator_under (InList p) (VAtom n) = refl
  generator_under (InList p) (VPid n) = refl
  generator_under (InList p) (VTuple vs) = refl
  generator_under (InList p) (VBits bits) = refl
  generator_under (InBits ss sh) (VBits bits) = ap Some (bits_under ss sh (length bits) bits)
  generator_under (InBits ss sh) (VInt n) = refl
  generator_under (InBits ss sh) (VAtom n) = refl
  generator_under (InBits ss sh) (VPid n) = refl
  generator_under (InBits ss sh) (VTuple vs) = refl
  generator_under (InBits ss sh) (VList vs) = refl
