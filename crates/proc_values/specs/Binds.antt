-- Bindings as contracts see them (this project's own).
use Rattle.std.specs.Prelude.{ℕ, Bool, List, [], ◌∷◌, ◌++◌, map, All, Option, Some, None, cond, nat_eq}
use Rattle.term_value.specs.Seen.{Seen, meaning, IsKnown}
use Rattle.term_value.specs.Tree.{Bound}
use Rattle.proc_values.specs.declared.bindings.Chain.{Chain}
use Rattle.proc_values.specs.declared.bindings.Chain.TheVariants.{Empty, More}

-- a variable's number in its function, and its value
abbrev pub bound_of : {R : Type 0} → (R → List Bool) → ℕ × Seen R → Bound
bound_of shown b = record { variable = b.0; value = meaning shown b.1 }

-- the bindings that these stand for, where a reference shows these bits; the oldest first
abbrev pub bounds : {R : Type 0} → (R → List Bool) → List (ℕ × Seen R) → List Bound
bounds shown bs = map (bound_of shown) bs

-- the term of a variable: the first counts
abbrev pub term_in : {R : Type 0} → List (ℕ × Seen R) → ℕ → Option (Seen R)
term_in [] x = None
term_in (b ∷ bs) x = cond (nat_eq b.0 x) (Some b.1) (term_in bs x)

-- the references and atoms of each term are known
abbrev pub IsBound : {R : Type 0} → (R → Type 0) → (ℕ → Type 0) → ℕ × Seen R → Type 0
IsBound has knows b = IsKnown has knows b.1

abbrev pub AreBound : {R : Type 0} → (R → Type 0) → (ℕ → Type 0) → List (ℕ × Seen R) → Type 0
AreBound has knows bs = All (IsBound has knows) bs

-- the bindings of a chain, the oldest first
abbrev pub chained : {R : Type 0} → Chain R → List (ℕ × Seen R)
chained Empty = []
chained (More link) = link.1 ++ link.0 ∷ []
