-- The choice of a clause, one by one.
use Rattle.std.proofs.Common.{◌≡◌, ◌<◌, ◌+◌, ℕ, List, [], ◌∷◌, length, drop, get_or, refl, ap, sym, ◌∙◌}
use Rattle.std.proofs.lemmas.List.{at_drop_more}
use Rattle.term_value.specs.Value.{Values}
use Rattle.term_value.specs.Setting.{Setting}
use Rattle.term_value.specs.Guards.{Verdict, Holds, Fails, AtLimit, guard_holds}
use Rattle.term_value.specs.PutIn.{in_guard}
use Rattle.term_value.specs.Tree as t
use Rattle.term_value.specs.Match as m
use Rattle.term_layers.specs.Environments as e
use Rattle.code_tree.specs.declared.clause.Clause.{Clause, out-Clause}
use Rattle.code_tree.specs.declared.clause.Line.{Line}
use Rattle.code_tree.specs.declared.pattern.Pattern.{Pattern}
use Rattle.code_tree.specs.declared.tree.Tree.{Tree}
use Rattle.code_tree.specs.Reading.{ClauseRead, clauses, clause_of, patterns, patterns_of, guard_of, body_of, clauses_of}
use Rattle.code_tree.proofs.Equations.{clause_of-parts}

-- the first of two choices that is one
abbrev pub or_later : e.Choice → e.Choice → e.Choice
or_later (e.Chosen env body) later = e.Chosen env body
or_later e.NotChosen later = later
or_later e.ChoiceLimit later = e.ChoiceLimit

holds_or : (v : Verdict) (env : List t.Bound) (body : t.Tree) (later : e.Choice) → or_later (e.holds_in v env body e.NotChosen) later ≡ e.holds_in v env body later
holds_or Holds env body later = refl
holds_or Fails env body later = refl
holds_or AtLimit env body later = refl

matches_or : (s : Setting) (found : m.Matched) (g : t.Guard) (body : t.Tree) (later : e.Choice) → or_later (e.matches_in s found g body e.NotChosen) later ≡ e.matches_in s found g body later
matches_or s (m.Yes bs) g body later = holds_or (guard_holds s (in_guard bs g)) bs body later
matches_or s m.No g body later = refl
matches_or s m.MatchLimit g body later = refl

module _ (s : Setting) (env : List t.Bound) (vs : Values) where
  -- a clause alone
  pub clause_tried : (k : Clause) → e.chosen s env (clauses_of (k ∷ [])) vs
      ≡ e.matches_in s (m.if_match (m.as_many (patterns_of (out-Clause k).patterns) vs) (m.each_matched s (patterns_of (out-Clause k).patterns) vs env)) (guard_of (out-Clause k).guard) (body_of (out-Clause k).body) e.NotChosen
  clause_tried k = ap (λ (r : ClauseRead). e.chosen s env (clauses (r ∷ [])) vs) (clause_of-parts k)

  first_or : (k : Clause) (ks : List Clause) → or_later (e.chosen s env (clauses_of (k ∷ [])) vs) (e.chosen s env (clauses_of ks) vs) ≡ e.chosen s env (clauses_of (k ∷ ks)) vs
  first_or k ks = matches_or s (m.if_match (m.as_many (patterns (clause_of k).patterns) vs) (m.each_matched s (patterns (clause_of k).patterns) vs env)) (clause_of k).guard (clause_of k).body (e.chosen s env (clauses_of ks) vs)

  -- the next clause, and those behind it
  pub choices_are : (xs : List Clause) (i : ℕ) (k : Clause) → i < length xs → k ≡ get_or xs i k → (choice due : e.Choice) → choice ≡ e.chosen s env (clauses_of (k ∷ [])) vs → e.chosen s env (clauses_of (drop i xs)) vs ≡ due
      → or_later choice (e.chosen s env (clauses_of (drop (i + 1) xs)) vs) ≡ due
  choices_are xs i k l here choice due f inv = ap (λ c. or_later c (e.chosen s env (clauses_of (drop (i + 1) xs)) vs)) f
      ∙ first_or k (drop (i + 1) xs)
      ∙ ap (λ q. e.chosen s env (clauses_of (q ∷ drop (i + 1) xs)) vs) here
      ∙ sym (at_drop_more (λ ks. e.chosen s env (clauses_of ks) vs) xs i k l)
      ∙ inv

  -- the parts of a clause
  pub tried_is : (k : Clause) (ps : List Pattern) (g : List (List Tree)) (body : List Line) (at : List t.Bound) (found : m.Matched) → ps ≡ (out-Clause k).patterns → g ≡ (out-Clause k).guard → body ≡ (out-Clause k).body → at ≡ env
      → found ≡ m.if_match (m.as_many (patterns_of ps) vs) (m.each_matched s (patterns_of ps) vs at)
      → e.matches_in s found (guard_of g) (body_of body) e.NotChosen ≡ e.chosen s env (clauses_of (k ∷ [])) vs
  tried_is k ps g body at found p q r same f = ap (λ n. e.matches_in s n (guard_of g) (body_of body) e.NotChosen)
      (f ∙ ap (λ bs. m.if_match (m.as_many (patterns_of ps) vs) (m.each_matched s (patterns_of ps) vs bs)) same)
      ∙ ap (λ (us : List Pattern). e.matches_in s (m.if_match (m.as_many (patterns_of us) vs) (m.each_matched s (patterns_of us) vs env)) (guard_of g) (body_of body) e.NotChosen) p
      ∙ ap (λ (us : List (List Tree)). e.matches_in s (m.if_match (m.as_many (patterns_of (out-Clause k).patterns) vs) (m.each_matched s (patterns_of (out-Clause k).patterns) vs env)) (guard_of us) (body_of body) e.NotChosen) q
      ∙ ap (λ (us : List Line). e.matches_in s (m.if_match (m.as_many (patterns_of (out-Clause k).patterns) vs) (m.each_matched s (patterns_of (out-Clause k).patterns) vs env)) (guard_of (out-Clause k).guard) (body_of us) e.NotChosen) r
      ∙ sym (clause_tried k)
