-- What an index of a module's functions and exports says.
use Rattle.std.specs.Prelude.{◌≡◌, ℕ, ℤ, pos, ◌+◌, ◌<◌, List, Option, take, length, MatchBool, MatchOption}
use Rattle.std.specs.declared.cmp.Ordering.{Ordering}
use Rattle.std.specs.Ordering.{nat_cmp, int_cmp, ordering_then}
use Rattle.std.specs.List.{Contains}
use Rattle.std.specs.BTreeMap as map
use Rattle.std.specs.BTreeMap.{BTreeMap}
use Rattle.std.specs.BTreeSet as set
use Rattle.std.specs.BTreeSet.{BTreeSet}
use Rattle.erl_syntax.specs.declared.span.Span.{Span}
use Rattle.erl_syntax.specs.declared.module.Function.{Function}
use Rattle.erl_syntax.specs.declared.module.Name.{Name}
use Rattle.erl_syntax.specs.declared.checking.CheckCause.{CheckCause}
use Rattle.module_check.specs.Order.{IsLeast, Some_of}
use Rattle.module_check.specs.Faults.{FirstClause}
use Rattle.module_check.specs.declared.index.Named.{Named}

-- a name with a number of arguments
abbrev pub Key : Type 0
Key = ℕ × ℤ

abbrev pub key_cmp : Key → Key → Ordering
key_cmp a b = ordering_then (nat_cmp a.0 b.0) (int_cmp a.1 b.1)

-- the function has this name and number of arguments
abbrev pub Has : Key → Function → Type 0
Has k f = (f.name ≡ k.0) × (pos f.arity ≡ k.1)

-- one of the functions has them
abbrev pub SomeHas : List Function → Key → Type 0
SomeHas fs k = (f : Function) × (Contains fs f × Has k f)

abbrev pub AgainFault : Key → Function → Span → CheckCause → Type 0
AgainFault k f at why = Has k f × FirstClause f.clauses at why

-- of the functions that have them: the place of the first, and the first fault that one of them stands again
pub record IsNamedIn (fs : List Function) (k : Key) (n : Named) : Type 0 where
  pub inside : n.first < length fs
  pub stands : SomeHas (take (n.first + 1) fs) k
  pub first : SomeHas (take n.first fs) k → ⊥
  pub again : IsLeast (Some_of (AgainFault k) fs) n.again

-- none of the functions has them, or those that have are these
abbrev pub AreNamed : List Function → Key → Option Named → Type 0
AreNamed fs k n = MatchOption n (SomeHas fs k → ⊥) (IsNamedIn fs k)

abbrev pub Lists : List Function → BTreeMap Key Named → Type 0
Lists fs m = (k : Key) → AreNamed fs k (map.get key_cmp m k)

-- the export is of this name and number of arguments
abbrev pub HasExport : Key → Name → Type 0
HasExport k e = (e.name ≡ k.0) × (e.arity ≡ k.1)

abbrev pub SomeExport : List Name → Key → Type 0
SomeExport es k = (e : Name) × (Contains es e × HasExport k e)

abbrev pub ListsExports : List Name → BTreeSet Key → Type 0
ListsExports es s = (k : Key) → MatchBool (set.contains key_cmp s k) (SomeExport es k) (SomeExport es k → ⊥)
