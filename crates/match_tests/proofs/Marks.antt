-- Targets that fit the variables that are marked.
use Rattle.std.proofs.Common.{◌≡◌, ℕ, zero, suc, ◌-◌, ◌<◌, Bool, List, [], ◌∷◌, map, length, get_or, take, drop, All, Option, Some, None, refl, ap, sym, subst, arith}
use Rattle.std.proofs.lemmas.List.{take_all}
use Rattle.term_value.specs.declared.term.Term.{Term}
use Rattle.pattern_compile.specs.Meaning.{wants}
use Rattle.pattern_compile.specs.Patterns.{TargetFits, TargetsFit, TargetInRange, also}
use Rattle.pattern_compile.specs.declared.operation.Operation.{Operation}
use Rattle.pattern_compile.specs.declared.pattern.Target.{Target}
use Rattle.match_context.specs.Envs.{known}
use Rattle.match_context.proofs.Binding.{kept_range}
use Rattle.match_tests.specs.Held.{held_in, fixed_in, has_mark, all_marks}
use Rattle.match_tests.specs.declared.slots.SizeRule.{SizeRule}

-- a target, and those behind it, where it is marked
pub fits_first : (marks new : List Bool) (target : Target) (targets : List Target) → TargetFits (length marks) (has_mark marks) target → length new ≡ length marks → ((x : ℕ) → has_mark new x ≡ also (has_mark marks) target x) → TargetsFit (length new) (has_mark new) targets → TargetsFit (length marks) (has_mark marks) (target ∷ targets)
fits_first marks new target targets fits count is later =
    let same : has_mark new ≡ also (has_mark marks) target = λ j x. is x j in
    (fits, subst (λ k. TargetsFit (length marks) k targets) same (subst (λ n. TargetsFit n (has_mark new) targets) count later))

-- the same of operations, the first of which has this target
pub fits_from : (ops : List Operation) (none : Operation) (target : Target) (marks new : List Bool) → 0 < length ops → target ≡ wants (get_or ops 0 none) → TargetFits (length marks) (has_mark marks) target → length new ≡ length marks → ((x : ℕ) → has_mark new x ≡ also (has_mark marks) target x) → TargetsFit (length new) (has_mark new) (map wants (take (length ops - 1) (drop 1 ops))) → TargetsFit (length marks) (has_mark marks) (map wants ops)
fits_from [] none target marks new l e fits count is later = absurd (omega arith)
fits_from (op ∷ ops) none target marks new l e fits count is later =
    let rest : take (length (op ∷ ops) - 1) ops ≡ ops = take_all (length (op ∷ ops) - 1) ops (omega arith) in
    let behind = subst (λ ys. TargetsFit (length new) (has_mark new) (map wants ys)) rest later in
    subst (λ first. TargetsFit (length marks) (has_mark marks) (first ∷ map wants ops)) e (fits_first marks new target (map wants ops) fits count is behind)

module _ {R : Type 0} where
  marks_at : (values : List (Option (Term R))) (x : ℕ) → has_mark (all_marks values) x ≡ known (held_in values) x
  marks_at [] x = refl
  marks_at (None ∷ values) zero = refl
  marks_at (Some term ∷ values) zero = refl
  marks_at (slot ∷ values) (suc x) = marks_at values x

  marks_count : (values : List (Option (Term R))) → length (all_marks values) ≡ length values
  marks_count [] = refl
  marks_count (slot ∷ values) = ap suc (marks_count values)

  pub fits_held : (values : List (Option (Term R))) (marks : List Bool) (targets : List Target) → marks ≡ all_marks values → TargetsFit (length marks) (has_mark marks) targets → TargetsFit (length values) (known (held_in values)) targets
  fits_held values marks targets is fits =
      let same : has_mark (all_marks values) ≡ known (held_in values) = λ j x. marks_at values x j in
      let here = subst (λ ms. TargetsFit (length ms) (has_mark ms) targets) is fits in
      subst (λ k. TargetsFit (length values) k targets) same (subst (λ n. TargetsFit n (has_mark (all_marks values)) targets) (marks_count values) here)

  -- the variables of a program have numbers also behind its run
  pub still_in_range : (values now : List (Option (Term R))) (sizes after : List SizeRule) (ops same : List Operation) → fixed_in now after ≡ fixed_in values sizes → same ≡ ops → TargetsFit (length values) (known (held_in values)) (map wants ops) → All (λ (op : Operation). TargetInRange (length now) (wants op)) same
  still_in_range values now sizes after ops same kept is fits =
      kept_range (fixed_in values sizes) (fixed_in now after) (known (held_in values)) same kept (subst (λ qs. TargetsFit (length values) (known (held_in values)) (map wants qs)) (sym is) fits)
