-- The next row, by a match under bindings, and by what stands in front of bits.
use Rattle.std.proofs.Common.{◌≡◌, ◌∙◌, ◌++◌, ◌∷◌, List, [], Bool, true, false, length, ap, sym, subst, refl, append-nil}
use Rattle.std.specs.Prelude.{nat_lt}
use Rattle.term_value.specs.Setting.{Setting}
use Rattle.term_value.specs.Value.{Value, Values, more}
use Rattle.term_value.specs.Tree.{Bound, Row, Found, Skipped, RowLimit, Pattern, Segments}
use Rattle.term_value.specs.PutIn.{in_pattern, in_segments}
use Rattle.term_value.specs.Match.{Matched, Yes, No, MatchLimit, matched, all_taken}
use Rattle.term_value.specs.Decode.{Taken, Cut, NoCut, CutLimit}
use Rattle.term_value.specs.Rows.{row_before, list_rows, Front, Takes, Ends, AtLimit, takes_where, skips, first_or_skips, front, row_then, bit_rows}
use Rattle.term_layers.specs.Bindings.{matched_behind, taken_behind}
use Rattle.term_layers.proofs.Matches.{matched_under, all_taken_under}
use Rattle.term_layers.proofs.RowCursor.{cursor}

-- the row that a match under bindings gives, and the rows before and behind it
abbrev pub IsRowOf : List Bound → Matched → List Row → List Row → Type 0
IsRowOf bs (Yes ys) rest rows = (xs : List Bound) × ((ys ≡ bs ++ xs) × (rows ≡ Found xs ∷ rest))
IsRowOf bs No rest rows = rows ≡ Skipped ∷ rest
IsRowOf bs MatchLimit rest rows = rows ≡ RowLimit ∷ []

behind_row : (bs : List Bound) (m : Matched) (rest : List Row) → IsRowOf bs (matched_behind bs m) rest (row_before m rest)
behind_row bs (Yes xs) rest = (xs, (refl, refl))
behind_row bs No rest = refl
behind_row bs MatchLimit rest = refl

pub item_row : (s : Setting) (bs : List Bound) (p : Pattern) (v : Value) (vs : Values) → IsRowOf bs (matched s p v bs) (list_rows s (in_pattern bs p) [] vs) (list_rows s (in_pattern bs p) [] (more v vs))
item_row s bs p v vs =
    let behind : matched s p v bs ≡ matched_behind bs (matched s (in_pattern bs p) v []) = ap (matched s p v) (sym (append-nil bs)) ∙ matched_under s bs p v [] in
    subst (λ m. IsRowOf bs m (list_rows s (in_pattern bs p) [] vs) (list_rows s (in_pattern bs p) [] (more v vs))) (sym behind) (behind_row bs (matched s (in_pattern bs p) v []) (list_rows s (in_pattern bs p) [] vs))

-- the same, of a match that was found under equal bindings
pub item_before : (s : Setting) (bs under : List Bound) (p : Pattern) (v : Value) (vs : Values) (m : Matched) → under ≡ bs → m ≡ matched s p v under → IsRowOf bs m (list_rows s (in_pattern bs p) [] vs) (list_rows s (in_pattern bs p) [] (more v vs))
item_before s bs under p v vs m same is = subst (λ n. IsRowOf bs n (list_rows s (in_pattern bs p) [] vs) (list_rows s (in_pattern bs p) [] (more v vs))) (sym (is ∙ ap (matched s p v) same)) (item_row s bs p v vs)

-- the row that bits give under bindings, where what is behind it has these rows left
abbrev pub IsFrontRow : List Bound → (List Bool → List Row) → Front → List Row → Type 0
IsFrontRow bs left (Takes (Found ys) rest) rows = (xs : List Bound) × ((ys ≡ bs ++ xs) × (rows ≡ Found xs ∷ left rest))
IsFrontRow bs left (Takes Skipped rest) rows = rows ≡ Skipped ∷ left rest
IsFrontRow bs left (Takes RowLimit rest) rows = rows ≡ RowLimit ∷ left rest
IsFrontRow bs left Ends rows = rows ≡ []
IsFrontRow bs left AtLimit rows = rows ≡ RowLimit ∷ []

found_row : (bs xs : List Bound) (left : List Bool → List Row) (rest : List Bool) (b : Bool) → IsFrontRow bs left (takes_where b (Found (bs ++ xs)) rest) (row_then left (takes_where b (Found xs) rest))
found_row bs xs left rest true = (xs, (refl, refl))
found_row bs xs left rest false = refl

skipped_row : (bs : List Bound) (left : List Bool → List Row) (rest : List Bool) (b : Bool) → IsFrontRow bs left (takes_where b Skipped rest) (row_then left (takes_where b Skipped rest))
skipped_row bs left rest true = refl
skipped_row bs left rest false = refl

skips_row : (bs : List Bound) (left : List Bool → List Row) (bits : List Bool) (u : Taken) → IsFrontRow bs left (skips bits (taken_behind bs u)) (row_then left (skips bits u))
skips_row bs left bits (Cut xs rest) = skipped_row bs left rest (nat_lt (length rest) (length bits))
skips_row bs left bits NoCut = refl
skips_row bs left bits CutLimit = refl

taken_row : (bs : List Bound) (left : List Bool → List Row) (bits : List Bool) (u t : Taken) → IsFrontRow bs left (first_or_skips bits (taken_behind bs u) (taken_behind bs t)) (row_then left (first_or_skips bits u t))
taken_row bs left bits u (Cut xs rest) = found_row bs xs left rest (nat_lt (length rest) (length bits))
taken_row bs left bits u NoCut = skips_row bs left bits u
taken_row bs left bits u CutLimit = refl

pub front_row : (s : Setting) (bs : List Bound) (ss shape : Segments) (bits : List Bool)
    → IsFrontRow bs (λ rest. bit_rows s (in_segments bs ss) (in_segments bs shape) [] (length rest) rest) (front s ss shape bs bits) (bit_rows s (in_segments bs ss) (in_segments bs shape) [] (length bits) bits)
front_row s bs ss shape bits =
    let left : List Bool → List Row = λ rest. bit_rows s (in_segments bs ss) (in_segments bs shape) [] (length rest) rest in
    let behind : (zs : Segments) → all_taken s zs bs bits ≡ taken_behind bs (all_taken s (in_segments bs zs) [] bits) = λ zs. ap (λ ys. all_taken s zs ys bits) (sym (append-nil bs)) ∙ all_taken_under s bs zs [] bits in
    let one : IsFrontRow bs left (first_or_skips bits (taken_behind bs (all_taken s (in_segments bs shape) [] bits)) (taken_behind bs (all_taken s (in_segments bs ss) [] bits))) (left bits) =
    subst (IsFrontRow bs left (first_or_skips bits (taken_behind bs (all_taken s (in_segments bs shape) [] bits)) (taken_behind bs (all_taken s (in_segments bs ss) [] bits)))) (sym (cursor s (in_segments bs ss) (in_segments bs shape) [] bits))
    (taken_row bs left bits (all_taken s (in_segments bs shape) [] bits) (all_taken s (in_segments bs ss) [] bits)) in
    let two = subst (λ t. IsFrontRow bs left (first_or_skips bits (taken_behind bs (all_taken s (in_segments bs shape) [] bits)) t) (left bits)) (sym (behind ss)) one in
    subst (λ u. IsFrontRow bs left (first_or_skips bits u (all_taken s ss bs bits)) (left bits)) (sym (behind shape)) two

-- the same, of what was found in front
pub bits_before : (s : Setting) (bs : List Bound) (ss shape : Segments) (bits : List Bool) (found : Front) → found ≡ front s ss shape bs bits
    → IsFrontRow bs (λ rest. bit_rows s (in_segments bs ss) (in_segments bs shape) [] (length rest) rest) found (bit_rows s (in_segments bs ss) (in_segments bs shape) [] (length bits) bits)
bits_before s bs ss shape bits found is = subst (λ f. IsFrontRow bs (λ rest. bit_rows s (in_segments bs ss) (in_segments bs shape) [] (length rest) rest) f (bit_rows s (in_segments bs ss) (in_segments bs shape) [] (length bits) bits)) (sym is) (front_row s bs ss shape bits)
