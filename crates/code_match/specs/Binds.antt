-- Bindings as contracts see them (this project's own).
use Rattle.std.specs.Prelude.{ℕ, Bool, List, [], ◌∷◌, ◌++◌, map}
use Rattle.term_value.specs.Seen.{Seen}
use Rattle.term_value.specs.Tree.{Bound}
use Rattle.code_tree.specs.PlainTerms.{value}
use Rattle.code_match.specs.declared.bindings.Chain.{Chain}
use Rattle.code_match.specs.declared.bindings.Chain.TheVariants.{Empty, More}

-- a variable's number in its function, and its term
abbrev pub bound_of : ℕ × Seen (List Bool) → Bound
bound_of b = record { variable = b.0; value = value b.1 }

-- the bindings that these stand for, the oldest first
abbrev pub bounds : List (ℕ × Seen (List Bool)) → List Bound
bounds bs = map bound_of bs

-- the bindings of a chain, the oldest first
abbrev pub chained : Chain → List (ℕ × Seen (List Bool))
chained Empty = []
chained (More link) = link.1 ++ link.0 ∷ []
