-- What a variable or a literal wants of a value.
use Rattle.std.proofs.Common.{◌≡◌, ℕ, Bool, true, false, cond, List, [], ◌∷◌, ◌++◌, Option, Some, None, refl, ap, sym, ◌∙◌}
use Rattle.std.specs.Prelude.{option_map}
use Rattle.std.proofs.lemmas.List.{map-append}
use Rattle.bit_store.specs.Stores.{itself}
use Rattle.term_value.specs.Decode.{met, bound_to}
use Rattle.term_value.specs.Match.{Matched, Yes, No, match_where}
use Rattle.term_value.specs.Order.{same}
use Rattle.term_value.specs.PutIn.{target_or_variable}
use Rattle.term_value.specs.Seen.{Seen}
use Rattle.term_value.specs.Setting.{Setting}
use Rattle.term_value.specs.Terms.{seen, value_of}
use Rattle.term_value.specs.Tree.{Bound, Equal}
use Rattle.term_value.specs.Value.{Value}
use Rattle.term_value.specs.declared.term.Term.{Term}
use Rattle.code_match.specs.Binds.{bound_of, bounds}

-- what comes of a variable, by whether the value equals its own
abbrev by_equal : ℕ → Value → List Bound → Option Bool → Matched
by_equal x v bs None = Yes (bound_to x v bs)
by_equal x v bs (Some equal) = match_where (cond equal (Some bs) None)

module _ (s : Setting) (x : ℕ) (v : Value) (bs : List Bound) where
  by_bound : (o : Option Value) (r : Option Bool) → r ≡ option_map (λ w. same s.names w v) o → by_equal x v bs r ≡ match_where (met s (target_or_variable o x) v bs)
  by_bound None r e = ap (by_equal x v bs) e
  by_bound (Some w) r e = ap (by_equal x v bs) e

  pub equal_is : (o : Option Value) (r : Option Bool) → r ≡ option_map (λ w. same s.names w v) o → r ≡ Some true → Yes bs ≡ match_where (met s (target_or_variable o x) v bs)
  equal_is o r e is = ap (by_equal x v bs) (sym is) ∙ by_bound o r e

  pub other_is : (o : Option Value) (r : Option Bool) → r ≡ option_map (λ w. same s.names w v) o → r ≡ Some false → No ≡ match_where (met s (target_or_variable o x) v bs)
  other_is o r e is = ap (by_equal x v bs) (sym is) ∙ by_bound o r e

  pub free_is : (o : Option Value) (r : Option Bool) → r ≡ option_map (λ w. same s.names w v) o → r ≡ None → Yes (bound_to x v bs) ≡ match_where (met s (target_or_variable o x) v bs)
  free_is o r e is = ap (by_equal x v bs) (sym is) ∙ by_bound o r e

pub is_free : (f : Value → Bool) (o : Option Value) → None ≡ option_map f o → o ≡ None
is_free f None e = refl
is_free f (Some v) e = cc e

pub bounds_last : (bs : List (ℕ × Seen (List Bool))) (x : ℕ) (t : Term (List Bool)) → bounds (bs ++ (x, seen t) ∷ []) ≡ bound_to x (value_of itself t) (bounds bs)
bounds_last bs x t = map-append bound_of bs ((x, seen t) ∷ [])

module _ (s : Setting) (w v : Value) (bs : List Bound) (equal : Bool) (is : equal ≡ same s.names w v) where
  pub literal_yes : equal ≡ true → Yes bs ≡ match_where (met s (Equal w) v bs)
  literal_yes e = ap (λ c. match_where (cond c (Some bs) None)) (sym e ∙ is)

  pub literal_no : equal ≡ false → No ≡ match_where (met s (Equal w) v bs)
  literal_no e = ap (λ c. match_where (cond c (Some bs) None)) (sym e ∙ is)
