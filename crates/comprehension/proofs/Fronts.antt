-- The row in front of bits, and the rows that are left behind it.
use Rattle.std.proofs.Common.{◌≡◌, ℕ, ◌+◌, ◌<◌, ◌≤◌, Bool, true, false, cond, List, [], ◌∷◌, map, length, Option, ap, sym, subst, ◌∙◌, arith, length-drop}
use Rattle.std.specs.Prelude.{nat_lt, All, option_map}
use Rattle.std.proofs.lemmas.Bool.{lt-ltb, le-ltb}
use Rattle.term_value.specs.Decode.{Taken, NoCut, CutLimit}
use Rattle.term_value.specs.Match.{all_taken}
use Rattle.term_value.specs.Rows.{Front, Takes, Ends, AtLimit, takes_where, skips, first_or_skips, front, row_then, bit_rows}
use Rattle.term_value.specs.PutIn.{value_in}
use Rattle.term_value.specs.Seen.{Seen, meaning}
use Rattle.term_value.specs.Tree as t
use Rattle.term_layers.specs.Cursors.{BitCursor}
use Rattle.pattern_compile.specs.Meaning.{means, wants}
use Rattle.pattern_compile.specs.Patterns.{TargetsFit, TargetInRange}
use Rattle.pattern_compile.specs.declared.operation.Operation.{Operation}
use Rattle.pattern_compile.specs.declared.operation.MatchProgram.{MatchProgram}
use Rattle.match_context.specs.Contexts.{left, IsContext}
use Rattle.match_context.specs.Envs.{Fixed, Agrees, known}
use Rattle.match_context.specs.Runs.{AsBefore, IsMatch, closed}
use Rattle.match_context.specs.declared.context.Context.{Context}
use Rattle.match_context.specs.declared.matching.Matched.TheVariants as m
use Rattle.match_context.proofs.Binding.{fits_range}
use Rattle.match_context.proofs.Running.{open_match}
use Rattle.comprehension.specs.Remaining.{rows_left, IsNext, LeavesPattern, IsFront, MovesIfFound, is_last}
use Rattle.comprehension.specs.declared.rows.Row.{Row}
use Rattle.comprehension.specs.declared.rows.Row.TheVariants.{Bound, Skipped, Ended, Limit, NoMemory}
use Rattle.comprehension.specs.declared.rows.Rows.{Rows}

-- ---- Whether a context moved

module _ {R : Type 0} (shown : R → List Bool) (has : R → Type 0) (old new : Context R) (valid : IsContext shown has old) (valid_new : IsContext shown has new) (before after : ℕ) (b : before + old.at ≡ old.end) (a : after + new.at ≡ new.end) where
  count_old : length (left shown old) ≡ before
  count_old = omega (arith, length-drop old.at (shown old.of), valid.end, b)

  count_new : length (left shown new) ≡ after
  count_new = omega (arith, length-drop new.at (shown new.of), valid_new.end, a)

  pub moved : after < before → nat_lt (length (left shown new)) (length (left shown old)) ≡ true
  moved h = lt-ltb (length (left shown new)) (length (left shown old)) (omega (arith, count_old, count_new))

  pub stands : before ≤ after → nat_lt (length (left shown new)) (length (left shown old)) ≡ false
  stands h = le-ltb (length (left shown new)) (length (left shown old)) (omega (arith, count_old, count_new))

-- ---- The front, by what the pattern and its shape take

module _ {R : Type 0} (shown : R → List Bool) (held : ℕ → Option (Seen R)) (whole : Bool) (leaves : whole ≡ false) (rest bits : List Bool) where
  module _ (skipped taken : Taken) where
    pub row_found : IsMatch shown held rest (closed whole taken) m.Yes → nat_lt (length rest) (length bits) ≡ true → IsFront shown held rest (first_or_skips bits skipped taken) Bound
    row_found y h = (y.0, ap (first_or_skips bits skipped) (sym (open_match whole taken leaves) ∙ y.1) ∙ ap (λ b. takes_where b (t.Found y.0) rest) h, y.2)

    pub row_none : IsMatch shown held rest (closed whole taken) m.Yes → nat_lt (length rest) (length bits) ≡ false → first_or_skips bits skipped taken ≡ Ends
    row_none y h = ap (first_or_skips bits skipped) (sym (open_match whole taken leaves) ∙ y.1) ∙ ap (λ b. takes_where b (t.Found y.0) rest) h

    pub row_skips : closed whole taken ≡ NoCut → first_or_skips bits skipped taken ≡ skips bits skipped
    row_skips e = ap (first_or_skips bits skipped) (sym (open_match whole taken leaves) ∙ e)

    pub row_limit : closed whole taken ≡ CutLimit → first_or_skips bits skipped taken ≡ AtLimit
    row_limit e = ap (first_or_skips bits skipped) (sym (open_match whole taken leaves) ∙ e)

  module _ (skipped : Taken) where
    pub skip_found : IsMatch shown held rest (closed whole skipped) m.Yes → nat_lt (length rest) (length bits) ≡ true → skips bits skipped ≡ Takes t.Skipped rest
    skip_found y h = ap (skips bits) (sym (open_match whole skipped leaves) ∙ y.1) ∙ ap (λ b. takes_where b t.Skipped rest) h

    pub skip_none : IsMatch shown held rest (closed whole skipped) m.Yes → nat_lt (length rest) (length bits) ≡ false → skips bits skipped ≡ Ends
    skip_none y h = ap (skips bits) (sym (open_match whole skipped leaves) ∙ y.1) ∙ ap (λ b. takes_where b t.Skipped rest) h

    pub skip_ends : closed whole skipped ≡ NoCut → skips bits skipped ≡ Ends
    skip_ends e = ap (skips bits) (sym (open_match whole skipped leaves) ∙ e)

    pub skip_limit : closed whole skipped ≡ CutLimit → skips bits skipped ≡ AtLimit
    skip_limit e = ap (skips bits) (sym (open_match whole skipped leaves) ∙ e)

-- ---- What stands as before

-- a front that is the same
pub front_same : {R : Type 0} (shown : R → List Bool) (held : ℕ → Option (Seen R)) (rest : List Bool) (row : Row) (one other : Front) → one ≡ other → IsFront shown held rest other row → IsFront shown held rest one row
front_same shown held rest row one other e h = subst (λ f. IsFront shown held rest f row) (sym e) h

pub same_agrees : {R : Type 0} (shown : R → List Bool) (old new : ℕ → Option (Seen R)) (bs : List t.Bound) → AsBefore old new → Agrees shown old bs → Agrees shown new bs
same_agrees shown old new bs e a x = subst (λ o. value_in bs x ≡ option_map (meaning shown) o) (sym (e x)) (a x)

-- the shape's, at a context that stands
module _ {R : Type 0} (shown : R → List Bool) (held : ℕ → Option (Seen R)) (rest : List Bool) (row : Row) (ops : List Operation) (bs : List t.Bound) where
  abbrev skips_at : Fixed → Context R → Front
  skips_at F c = skips (left shown c) (all_taken F.setting (means F.trees ops) bs (left shown c))

  pub skips_same : (F G : Fixed) (c d : Context R) → F ≡ G → c ≡ d → IsFront shown held rest (skips_at F c) row → IsFront shown held rest (skips_at G d) row
  skips_same F G c d e h f = subst (λ K. IsFront shown held rest (skips_at K d) row) e (subst (λ k. IsFront shown held rest (skips_at F k) row) h f)

-- the variables of a program have numbers
pub range_kept : (F G : Fixed) (known : ℕ → Bool) (ops : List Operation) → G ≡ F → TargetsFit F.variables known (map wants ops) → All (λ (op : Operation). TargetInRange G.variables (wants op)) ops
range_kept F G known ops e f = subst (λ (K : Fixed). All (λ (op : Operation). TargetInRange K.variables (wants op)) ops) (sym e) (fits_range F.variables known ops f)

-- ---- The rows that are left

module _ {R : Type 0} (shown : R → List Bool) (held : ℕ → Option (Seen R)) (F : Fixed) (bs : List t.Bound) where
  abbrev rows_at : MatchProgram → MatchProgram → List Bool → List t.Row
  rows_at pattern shape bits = bit_rows F.setting (means F.trees pattern.ops) (means F.trees shape.ops) bs (length bits) bits

  module _ (cursor : BitCursor) (old mid : Rows R) (going : old.done ≡ false) where
    abbrev old_rows : List Bool → List t.Row
    old_rows bits = rows_at old.pattern old.shape bits

    abbrev front_at : Front
    front_at = front F.setting (means F.trees old.pattern.ops) (means F.trees old.shape.ops) bs (left shown old.context)

    -- a row was looked for, and then it was noted whether it is the last
    abbrev noted : Bool → Rows R
    noted last = record { pattern = mid.pattern; shape = mid.shape; context = mid.context; done = last }

    rows_before : rows_left shown F bs old ≡ old_rows (left shown old.context)
    rows_before = ap (λ b. cond b [] (old_rows (left shown old.context))) going

    first_row : rows_left shown F bs old ≡ row_then old_rows front_at
    first_row = rows_before ∙ cursor F.setting (means F.trees old.pattern.ops) (means F.trees old.shape.ops) bs (left shown old.context)

    rows_behind : (last : Bool) → last ≡ false → LeavesPattern old mid → old_rows (left shown mid.context) ≡ rows_left shown F bs (noted last)
    rows_behind last e same =
        ap (λ p. rows_at p old.shape (left shown mid.context)) (sym same.pattern) ∙ ap (λ p. rows_at mid.pattern p (left shown mid.context)) (sym same.shape)
        ∙ ap (λ b. cond b [] (rows_at mid.pattern mid.shape (left shown mid.context))) (sym e)

    none_behind : (last : Bool) → last ≡ true → rows_left shown F bs (noted last) ≡ []
    none_behind last e = ap (λ b. cond b [] (rows_at mid.pattern mid.shape (left shown mid.context))) e

    unmoved : (last : Bool) → last ≡ false → mid ≡ old → rows_left shown F bs (noted last) ≡ rows_left shown F bs old
    unmoved last e same =
        ap (λ b. cond b [] (rows_at mid.pattern mid.shape (left shown mid.context))) e ∙ ap (λ (r : Rows R). rows_at r.pattern r.shape (left shown r.context)) same ∙ sym rows_before

    pub next_is : (row : Row) (last : Bool) → last ≡ is_last row → MovesIfFound row old mid → IsFront shown held (left shown mid.context) front_at row → IsNext shown held (rows_left shown F bs (noted last)) (rows_left shown F bs old) row
    next_is Bound last e same f = (f.0, first_row ∙ ap (row_then old_rows) f.1 ∙ ap (λ rows. t.Found f.0 ∷ rows) (rows_behind last e same.0), f.2)
    next_is Skipped last e same f = first_row ∙ ap (row_then old_rows) f ∙ ap (λ rows. t.Skipped ∷ rows) (rows_behind last e same.0)
    next_is Ended last e same f = (first_row ∙ ap (row_then old_rows) f, none_behind last e)
    next_is Limit last e same f = (first_row ∙ ap (row_then old_rows) f, none_behind last e)
    next_is NoMemory last e same f = unmoved last e same
