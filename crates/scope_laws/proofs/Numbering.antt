-- What is known where in a function of an accepted module, by the numbers of its variables.
use Rattle.std.proofs.Common.{◌≡◌, ℕ, List, [], ◌∷◌, ◌++◌, refl, sym, ap, subst, ◌∙◌, ◌⊎◌, inl, inr}
use Rattle.std.specs.List.{Contains}
use Rattle.erl_syntax.specs.Bindings.{Bound}
use Rattle.erl_syntax.specs.Checking.{IsAccepted, IsNumbered, IsPlace, IsRead, IsTarget, read, compared, bound, number_at}
use Rattle.erl_syntax.specs.Scopes.{Scope, Found}
use Rattle.erl_syntax.specs.declared.checking.VarUse.{VarUse}
use Rattle.erl_syntax.specs.declared.module.Function.{Function}
use Rattle.erl_syntax.specs.declared.module.Module.{Module}
use Rattle.erl_syntax.specs.declared.span.Span.{Span}
use Rattle.module_check.specs.Spots.{place_of}
use Rattle.module_check.proofs.Backed.{binder}
use Rattle.module_check.proofs.Chained.{found_joined, known_cases}
use Rattle.module_check.proofs.Spots.{Contains-head, Contains-tail}
use Rattle.module_check.proofs.Standing.{known_found}
use Rattle.module_check.proofs.Valued.{valued}
use Rattle.module_laws.proofs.NumberedPlaces.{numbers_are_of_places}
use Rattle.term_value.specs.Read.{Reading}
use Rattle.term_value.specs.ReadTrees.{reading}

-- a function of an accepted module, and the numbers of its variables
pub record Numbering : Type 0 where
  pub code : Module
  pub accepted : IsAccepted code
  pub function : Function
  pub among : Contains code.functions function
  pub uses : List VarUse
  pub numbered : IsNumbered function uses

abbrev pub number : Numbering → Span → ℕ
number w at = number_at w.uses at

abbrev pub reader : Numbering → Reading
reader w = reading (number_at w.uses) w.code

-- all of the one are among the other
abbrev pub Within : List ℕ → List ℕ → Type 0
Within xs ys = (n : ℕ) → Contains xs n → Contains ys n

-- none stands twice
abbrev pub Differ : List Span → Type 0
Differ [] = Unit {0}
Differ (a ∷ spans) = (Contains spans a → ⊥) × Differ spans

module _ (w : Numbering) where
  abbrev pub Binds : Span → Type 0
  Binds c = IsPlace w.function (record { at = c; bound_at = c })

  -- a variable has the number of the place at which it gets its value
  pub same_number : (at c : Span) → IsPlace w.function (record { at = at; bound_at = c }) → number w at ≡ number w c
  same_number at c h =
      numbers_are_of_places w.function w.uses w.numbered (record { at = at; bound_at = c }) h
      ∙ sym (numbers_are_of_places w.function w.uses w.numbered (record { at = c; bound_at = c }) (binder w.function (record { at = at; bound_at = c }) h))

  -- what is found in these bindings has a number among these
  abbrev pub Covers : List Bound → List ℕ → Type 0
  Covers bs known = (name : List ℕ) (c : Span) → Found bs name c → Contains known (number w c)

  -- the number of a variable that gets its value at one of these places
  pub record BoundAt (spans : List Span) (n : ℕ) : Type 0 where
    pub place : Span
    pub binds : Binds place
    pub is : n ≡ number w place
    pub stands : Contains spans place

  -- of one that gets its value at none of them
  pub record Elsewhere (spans : List Span) (n : ℕ) : Type 0 where
    pub place : Span
    pub binds : Binds place
    pub is : n ≡ number w place
    pub away : Contains spans place → ⊥

  abbrev pub Apart : List ℕ → List Span → Type 0
  Apart known spans = (n : ℕ) → Contains known n → Elsewhere spans n

  -- each of the names is known, or bound at one of these places
  abbrev pub Comes : List ℕ → List ℕ → List Span → Type 0
  Comes known names spans = (n : ℕ) → Contains names n → Contains known n ⊎ BoundAt spans n

  pub covers_moved : (bs cs : List Bound) (known : List ℕ) → bs ≡ cs → Covers bs known → Covers cs known
  covers_moved bs cs known e h = subst (λ (zs : List Bound). Covers zs known) e h

  pub covers_more : (bs : List Bound) (known more : List ℕ) → Within known more → Covers bs known → Covers bs more
  covers_more bs known more h c = λ name z f. h (number w z) (c name z f)

  -- a variable that is read is known
  pub read_known : (s : Scope) (at : Span) (name : List ℕ) (known : List ℕ) → IsRead w.function s at name → Covers s.known known → Contains known (number w at)
  read_known s at name known r h =
      let v = valued w.code w.function s at name w.accepted w.among r in
      subst (λ (n : ℕ). Contains known n) (sym (same_number at v.0 (read s at name v.0 r v.1))) (h name v.0 v.1)

  -- ---- A variable that a pattern binds or compares

  module _ (s : Scope) (at : Span) (name : List ℕ) (t : IsTarget w.function s at name) where
    abbrev target : List Bound
    target = record { name = name; at = at } ∷ []

    pub target_number : (c : Span) → Found (s.known ++ target) name c → number w at ≡ number w c
    target_number c h = elim (found_joined s.known target name c h) [
      | inl k ↦ same_number at c (compared s at name c t k)
      | inr k ↦ elim k.1 [ inl m ↦ ap (number w) m.1 | inr m ↦ absurd m.1 ]
    ]

    pub target_covers : (known : List ℕ) → Covers s.known known → Covers (s.known ++ target) (number w at ∷ known)
    target_covers known h = λ n c f. elim (found_joined s.known target n c f) [
      | inl k ↦ Contains-tail (number w at) known (number w c) (h n c k)
      | inr k ↦ elim k.1 [
        | inl m ↦ subst (λ (z : ℕ). Contains (number w at ∷ known) z) (ap (number w) m.1) (Contains-head (number w at) known)
        | inr m ↦ absurd m.1
      ]
    ]

    pub target_comes : (known : List ℕ) → Covers s.known known → Contains known (number w at) ⊎ BoundAt (at ∷ []) (number w at)
    target_comes known h = elim (known_cases s.known name) [
      | inl k ↦ (let c : Span = place_of s.known name at in
          let f : Found s.known name c = known_found s.known name at k in
          inl (subst (λ (n : ℕ). Contains known n) (sym (same_number at c (compared s at name c t f))) (h name c f)))
      | inr k ↦ inr (record { place = at; binds = bound s at name t k; is = refl; stands = Contains-head at [] })
    ]
