-- What slots hold (this project's own).
use Rattle.std.specs.Prelude.{ℕ, Bool, false, List, length, map, Option, Some, None, is_some, slice_get, slice_index_or}
use Rattle.term_value.specs.Seen.{Seen}
use Rattle.term_value.specs.Terms.{seen}
use Rattle.term_value.specs.declared.term.Term.{Term}
use Rattle.match_context.specs.Envs.{Fixed}
use Rattle.match_tests.specs.Sizes.{slots_setting, rule_trees}
use Rattle.match_tests.specs.declared.slots.SizeRule.{SizeRule}

-- what is seen of the term in a slot, where there is a slot and a term
abbrev pub seen_in : {R : Type 0} → Option (Option (Term R)) → Option (Seen R)
seen_in (Some (Some term)) = Some (seen term)
seen_in (Some None) = None
seen_in None = None

abbrev pub held_in : {R : Type 0} → List (Option (Term R)) → ℕ → Option (Seen R)
held_in values x = seen_in (slice_get values x)

-- what stays: how many slots and sizes there are, and the sizes
abbrev pub fixed_in : {R : Type 0} → List (Option (Term R)) → List SizeRule → Fixed
fixed_in values sizes = record { setting = slots_setting; trees = rule_trees sizes; variables = length values; sizes = length sizes }

-- whether a variable is marked among these; none past the last is
abbrev pub has_mark : List Bool → ℕ → Bool
has_mark marks x = slice_index_or marks x false

-- which slots have a term
abbrev pub all_marks : {R : Type 0} → List (Option (Term R)) → List Bool
all_marks values = map is_some values
