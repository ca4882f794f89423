-- The first seen message that some clause takes is the first that is chosen under the bindings.
use Rattle.std.proofs.Common.{◌≡◌, ℕ, zero, suc, ◌<◌, List, [], ◌∷◌, Bool, Option, Some, None, length, refl, ap, sym, ◌∙◌, map, arith, ◌≤◌, ◌+◌, below_more, Bor}
use Rattle.std.specs.Prelude.{slice_get, remove}
use Rattle.term_value.specs.Value.{Value, none, more}
use Rattle.term_value.specs.Seen.{Seen}
use Rattle.term_value.specs.Tree.{Bound, Tree, Clauses}
use Rattle.term_value.specs.PutIn.{put_in, in_clauses}
use Rattle.term_value.specs.Match.{Picked, NoClause, picked}
use Rattle.term_value.specs.Step.{World, setting}
use Rattle.term_value.specs.Local.{Seen as Looks, Takes, NoMessage, SeenLimit, kept_before, takes, looked}
use Rattle.term_layers.specs.Environments.{Choice, Chosen, NotChosen, ChoiceLimit, picked_of}
use Rattle.term_layers.proofs.InEnvironment.{chosen_picked}
use Rattle.code_tree.specs.PlainTerms.{value}
use Rattle.code_tree.specs.Reading.{body_of}
use Rattle.code_tree.specs.declared.clause.Line.{Line}
use Rattle.code_match.specs.Binds.{bounds}
use Rattle.code_match.specs.Matches.{choice_of}
use Rattle.code_match.specs.declared.clauses.Choice.{Choice as Chose}
use Rattle.code_match.specs.declared.clauses.Choice.TheVariants as chose
use Rattle.plain_process.specs.declared.looking.Found.TheVariants as found
use Rattle.plain_process.specs.Looking.{choice_for, found_in}

module _ (w : World) (env : List Bound) (cs : Clauses) where
  -- no clause takes a message before this place
  abbrev pub NoneBefore : List (Seen (List Bool)) → ℕ → Type 0
  NoneBefore ms i = (k : ℕ) → k < i → (m : Seen (List Bool)) → slice_get ms k ≡ Some m → choice_for (setting w) env cs m ≡ NotChosen

  look_at : (m : Seen (List Bool)) (ms : List (Seen (List Bool))) (c : Choice) → choice_for (setting w) env cs m ≡ c
      → looked w (in_clauses env cs) (map value (m ∷ ms)) ≡ takes (picked_of c) (value m) (map value ms) (looked w (in_clauses env cs) (map value ms))
  look_at m ms c e =
      ap (λ p. takes p (value m) (map value ms) (looked w (in_clauses env cs) (map value ms)))
      (sym (chosen_picked (setting w) env cs (more (value m) none)) ∙ ap picked_of e)

  later : (m : Seen (List Bool)) (ms : List (Seen (List Bool))) (i : ℕ) → NoneBefore (m ∷ ms) (suc i) → NoneBefore ms i
  later m ms i h k l n e = h (suc k) (omega arith) n e

  pub looked_all : (ms : List (Seen (List Bool))) (i : ℕ) → length ms ≤ i → NoneBefore ms i → looked w (in_clauses env cs) (map value ms) ≡ NoMessage
  looked_all [] i l h = refl
  looked_all (m ∷ ms) zero l h = absurd (omega arith)
  looked_all (m ∷ ms) (suc i) l h = look_at m ms NotChosen (h 0 (omega arith) m refl) ∙ ap (kept_before (value m)) (looked_all ms i (omega arith) (later m ms i h))

  pub looked_takes : (ms : List (Seen (List Bool))) (i : ℕ) (m : Seen (List Bool)) (bs : List Bound) (body : Tree) → NoneBefore ms i → slice_get ms i ≡ Some m → choice_for (setting w) env cs m ≡ Chosen bs body
      → looked w (in_clauses env cs) (map value ms) ≡ Takes (put_in bs body) (map value (remove ms i))
  looked_takes [] i m bs body h e c = absurd (cc)
  looked_takes (n ∷ ms) zero m bs body h e c = look_at n ms (Chosen bs body) (let same : n ≡ m = cc in ap (choice_for (setting w) env cs) same ∙ c)
  looked_takes (n ∷ ms) (suc i) m bs body h e c = look_at n ms NotChosen (h 0 (omega arith) n refl) ∙ ap (kept_before (value n)) (looked_takes ms i m bs body (later n ms i h) e c)

  pub looked_limit : (ms : List (Seen (List Bool))) (i : ℕ) (m : Seen (List Bool)) → NoneBefore ms i → slice_get ms i ≡ Some m → choice_for (setting w) env cs m ≡ ChoiceLimit
      → looked w (in_clauses env cs) (map value ms) ≡ SeenLimit
  looked_limit [] i m h e c = absurd (cc)
  looked_limit (n ∷ ms) zero m h e c = look_at n ms ChoiceLimit (let same : n ≡ m = cc in ap (choice_for (setting w) env cs) same ∙ c)
  looked_limit (n ∷ ms) (suc i) m h e c = look_at n ms NotChosen (h 0 (omega arith) n refl) ∙ ap (kept_before (value n)) (looked_limit ms i m (later n ms i h) e c)

  pub none_more : (ms : List (Seen (List Bool))) (i : ℕ) (m : Seen (List Bool)) → NoneBefore ms i → slice_get ms i ≡ Some m → choice_for (setting w) env cs m ≡ NotChosen → NoneBefore ms (i + 1)
  none_more ms i m h e c = below_more (λ k. (n : Seen (List Bool)) → slice_get ms k ≡ Some n → choice_for (setting w) env cs n ≡ NotChosen) i h (λ n g. let same : n ≡ m = cc in ap (choice_for (setting w) env cs) same ∙ c)

  -- what the search finds at this place
  pub takes_found : (ms : List (Seen (List Bool))) (i : ℕ) (m : Seen (List Bool)) (choice : Chose) (bs : List (ℕ × Seen (List Bool))) (lines : Bor (List Line)) → NoneBefore ms i → slice_get ms i ≡ Some m
      → choice_of choice ≡ choice_for (setting w) env cs m → choice ≡ chose.Chosen bs lines → found_in ms (found.Takes i bs lines) ≡ looked w (in_clauses env cs) (map value ms)
  takes_found ms i m choice bs lines before at is e = sym (looked_takes ms i m (bounds bs) (body_of lines.now) before at (sym is ∙ ap choice_of e))

  pub limit_found : (ms : List (Seen (List Bool))) (i : ℕ) (m : Seen (List Bool)) (choice : Chose) → NoneBefore ms i → slice_get ms i ≡ Some m
      → choice_of choice ≡ choice_for (setting w) env cs m → choice ≡ chose.Limit → found_in ms found.Limit ≡ looked w (in_clauses env cs) (map value ms)
  limit_found ms i m choice before at is e = sym (looked_limit ms i m before at (sym is ∙ ap choice_of e))

  pub none_found : (ms : List (Seen (List Bool))) (i : ℕ) → length ms ≤ i → NoneBefore ms i → found_in ms found.NoMessage ≡ looked w (in_clauses env cs) (map value ms)
  none_found ms i all before = sym (looked_all ms i all before)

  pub more_passed : (ms : List (Seen (List Bool))) (i : ℕ) (m : Seen (List Bool)) (choice : Chose) → NoneBefore ms i → slice_get ms i ≡ Some m
      → choice_of choice ≡ choice_for (setting w) env cs m → choice ≡ chose.NotChosen → NoneBefore ms (i + 1)
  more_passed ms i m choice before at is e = none_more ms i m before at (sym is ∙ ap choice_of e)

  pub none_yet : (ms : List (Seen (List Bool))) → NoneBefore ms 0
  none_yet ms k l m e = absurd (omega arith)
