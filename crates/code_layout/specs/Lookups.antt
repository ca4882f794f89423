-- What the tables of a module and of a function say.
use Rattle.std.specs.Prelude.{◌≡◌, ℕ, ℤ, pos, List, Option, length, unwrap_or, nat_eq, ◌&&◌}
use Rattle.std.specs.List.{list_any}
use Rattle.std.specs.declared.cmp.Ordering.{Ordering}
use Rattle.std.specs.Ordering.{nat_cmp, int_cmp, int_eq, ordering_then}
use Rattle.std.specs.BTreeMap as map
use Rattle.std.specs.BTreeMap.{BTreeMap}
use Rattle.std.specs.BTreeSet as set
use Rattle.std.specs.BTreeSet.{BTreeSet}
use Rattle.erl_syntax.specs.Checking.{number_at}
use Rattle.erl_syntax.specs.declared.checking.VarUse.{VarUse}
use Rattle.erl_syntax.specs.declared.module.Function.{Function}
use Rattle.erl_syntax.specs.declared.module.Name.{Name}
use Rattle.term_value.specs.ReadTrees.{place_of}

abbrev pub pair_cmp : ℕ × ℕ → ℕ × ℕ → Ordering
pair_cmp a b = ordering_then (nat_cmp a.0 b.0) (nat_cmp a.1 b.1)

abbrev pub export_cmp : ℕ × ℤ → ℕ × ℤ → Ordering
export_cmp a b = ordering_then (nat_cmp a.0 b.0) (int_cmp a.1 b.1)

-- the number of the variable at each line and column
abbrev pub NumbersOf : List VarUse → BTreeMap (ℕ × ℕ) ℕ → Type 0
NumbersOf uses m = (k : ℕ × ℕ) → unwrap_or (map.get pair_cmp m k) 0 ≡ number_at uses (record { line = k.0; column = k.1 })

-- the place of the first function of each name and number of arguments
abbrev pub PlacesOf : List Function → BTreeMap (ℕ × ℕ) ℕ → Type 0
PlacesOf functions m = (k : ℕ × ℕ) → unwrap_or (map.get pair_cmp m k) (length functions) ≡ place_of functions k.0 k.1

-- the names that are exported, each with its number of arguments
abbrev pub ExportsOf : List Name → BTreeSet (ℕ × ℤ) → Type 0
ExportsOf names s = (k : ℕ × ℤ) → set.contains export_cmp s k ≡ list_any (λ e. nat_eq e.name k.0 && int_eq e.arity k.1) names
