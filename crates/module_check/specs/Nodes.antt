-- Scopes as the check keeps them: trees of names that share what they have in common.
use Rattle.std.specs.Prelude.{◌≡◌, ℕ, suc, ◌<◌, ◌≤◌, List, [], ◌∷◌, ◌++◌, map, length, get_or}
use Rattle.std.specs.declared.cmp.Ordering.TheVariants.{Less}
use Rattle.std.specs.Ordering.{nat_cmp}
use Rattle.std.specs.Cmp.Lexicographic.{slice_cmp}
use Rattle.erl_syntax.specs.Bindings.{Bound}
use Rattle.erl_syntax.specs.Scopes.{Danger, Found, IsKnown, IsUnsafe}
use Rattle.erl_syntax.specs.declared.span.Span.{Span}
use Rattle.module_check.specs.declared.trees.Node.{Node}
use Rattle.module_check.specs.declared.scopes.Target.{Target}

abbrev pub named : Node → Bound
named n = record { name = n.name.now; at = n.at }

-- the tree at the root with this number, counted from 1, has these names, in their order
pub data Tree (nodes : List Node) : ℕ → List Bound → Type 0 where
  none : Tree nodes 0 []
  some : (k : ℕ) (n : Node) (ls rs : List Bound) → k < length nodes → get_or nodes k n ≡ n → n.left ≤ k → n.right ≤ k → Tree nodes n.left ls → Tree nodes n.right rs → Tree nodes (suc k) (ls ++ named n ∷ rs)

-- the names of the trees at a node, and its own
pub record Forks (nodes : List Node) (n : Node) (ts : List Bound) : Type 0 where
  pub lefts : List Bound
  pub rights : List Bound
  pub left : Tree nodes n.left lefts
  pub right : Tree nodes n.right rights
  pub is : ts ≡ lefts ++ named n ∷ rights

-- in the order of their bytes
abbrev pub IsLess : List ℕ → List ℕ → Type 0
IsLess a b = slice_cmp nat_cmp a b ≡ Less

-- each name comes before those behind it
abbrev pub Rising : List Bound → Type 0
Rising [] = Unit {0}
Rising (b ∷ bs) = ((name : List ℕ) → IsKnown bs name → IsLess b.name name) × Rising bs

-- the same variables have values, with the same places
pub record Agree (bs cs : List Bound) : Type 0 where
  pub to : (name : List ℕ) (at : Span) → Found bs name at → Found cs name at
  pub from : (name : List ℕ) (at : Span) → Found cs name at → Found bs name at

-- a tree of names in their order, which are those that stand here, each with the first of its places
pub record TreeOf (nodes : List Node) (root : ℕ) (bs : List Bound) : Type 0 where
  pub sorted : List Bound
  pub tree : Tree nodes root sorted
  pub rising : Rising sorted
  pub same : Agree sorted bs

-- what is known at the node is what is known here
pub record Sees (nodes : List Node) (last : ℕ) (known : List Bound) : Type 0 where
  pub chain : List Bound
  pub stands : TreeOf nodes last chain
  pub same : Agree chain known

pub record SeesUnsafe (nodes : List Node) (last : ℕ) (dangers : List Danger) : Type 0 where
  pub chain : List Bound
  pub stands : TreeOf nodes last chain
  pub to : (name : List ℕ) → IsKnown chain name → IsUnsafe dangers name
  pub from : (name : List ℕ) → IsUnsafe dangers name → IsKnown chain name

pub record Grown (old new : List Node) : Type 0 where
  pub more : List Node
  pub is : new ≡ old ++ more

abbrev pub bound_of : Target → Bound
bound_of t = record { name = t.name.now; at = t.at }

abbrev pub bounds_of : List Target → List Bound
bounds_of ts = map bound_of ts
