-- What is left to look at: parts with what is known where they stand.
use Rattle.std.specs.Prelude.{◌≡◌, ◌≤◌, ℕ, Bool, true, false, List, [], ◌∷◌, ◌++◌, length, take, Option, Some, None}
use Rattle.std.specs.List.{flat_map}
use Rattle.erl_syntax.specs.Bindings.{Bound, targets, new_names}
use Rattle.erl_syntax.specs.declared.expr.Expr.{Expr}
use Rattle.erl_syntax.specs.declared.expr.Expr.TheOpen as O
use Rattle.erl_syntax.specs.declared.pattern.Pattern.{Pattern}
use Rattle.erl_syntax.specs.declared.segment.Segment.{Segment}
use Rattle.erl_syntax.specs.declared.clause.Item.{Item}
use Rattle.erl_syntax.specs.declared.clause.Guard.{Guard}
use Rattle.erl_syntax.specs.declared.clause.Alt.{Alt}
use Rattle.erl_syntax.specs.declared.clause.Branch.{Branch}
use Rattle.erl_syntax.specs.declared.qual.Qual.{Qual}
use Rattle.erl_syntax.specs.Scopes
use Rattle.erl_syntax.specs.Scopes.{Scope, AnExpr, APattern, ABody, ASegment, with_known, past_items, sizes_of}
use Rattle.erl_syntax.specs.declared.typing.SideUse.TheVariants as side
use Rattle.module_check.specs.declared.trees.Node.{Node}
use Rattle.module_check.specs.declared.tasks.Part.{Part}
use Rattle.module_check.specs.declared.tasks.Part.TheVariants as t
use Rattle.module_check.specs.declared.tasks.Facts.{Facts}
use Rattle.module_check.specs.declared.tasks.Task.{Task}
use Rattle.module_check.specs.declared.tasks.Walk.{Walk}
use Rattle.module_check.specs.Nodes.{Sees, SeesUnsafe, Grown}
use Rattle.module_check.specs.Spots.{Spot, spot, size_scope, inside}

abbrev pub part_of : Part → Scopes.Part
part_of (t.Expr e) = AnExpr e.now
part_of (t.Pattern pt) = APattern pt.now
part_of (t.Body is) = ABody is.now
part_of (t.Segment on last sg) = ASegment on last sg.now

-- the facts stands for the scope
pub record Means (nodes : List Node) (facts : Facts) (s : Scope) : Type 0 where
  pub known : Sees nodes facts.known s.known
  pub dangers : SeesUnsafe nodes facts.dangers s.dangers
  pub guarded : facts.guarded ≡ s.guarded

-- what the sizes in a part of a pattern see
abbrev pub SeesSizes : List Node → ℕ → Scope → Scopes.Part → Type 0
SeesSizes nodes last s (AnExpr e) = Unit {0}
SeesSizes nodes last s (APattern pt) = Sees nodes last s.outer
SeesSizes nodes last s (ABody is) = Unit {0}
SeesSizes nodes last s (ASegment side.Build at_end sg) = Unit {0}
SeesSizes nodes last s (ASegment side.Match at_end sg) = Sees nodes last (size_scope s).known
SeesSizes nodes last s (ASegment side.Generator at_end sg) = Sees nodes last (size_scope s).known

pub record Fits (nodes : List Node) (task : Task) (d : Spot) : Type 0 where
  pub part : part_of task.part ≡ d.part
  pub means : Means nodes task.facts d.scope
  pub sizes : SeesSizes nodes task.facts.sizes d.scope d.part

-- what a task is to look at: a spot, and whether what stands inside it too
pub record Look : Type 0 where
  pub spot : Spot
  pub whole : Bool

-- what is left to look at inside a spot once it has been looked at itself
abbrev pub left_in : Bool → Spot → List Spot
left_in true d = inside d.scope d.part
left_in false d = []

-- all that stands at the spots and inside them is looked at, each once
pub data Covers : List Spot → List Look → Type 0 where
  no_spots : Covers [] []
  as_whole : (d : Spot) (ds : List Spot) (ls : List Look) → Covers ds ls → Covers (d ∷ ds) (record { spot = d; whole = true } ∷ ls)
  by_itself : (d : Spot) (ds : List Spot) (within ls : List Look) → Covers (inside d.scope d.part) within → Covers ds ls → Covers (d ∷ ds) (record { spot = d; whole = false } ∷ (within ++ ls))

-- the task stands for the look by the nodes up to its mark, which are at least so many
pub record Marked (nodes : List Node) (least : ℕ) (task : Task) (l : Look) : Type 0 where
  pub rises : least ≤ task.mark
  pub within : task.mark ≤ length nodes
  pub fits : Fits (take task.mark nodes) task l.spot
  pub whole : task.whole ≡ l.whole

-- each task stands for one of the looks, in order, and their marks rise
abbrev pub AllFit : List Node → ℕ → List Task → List Look → Type 0
AllFit nodes least [] [] = Unit {0}
AllFit nodes least [] (l ∷ ls) = ⊥
AllFit nodes least (task ∷ tasks) [] = ⊥
AllFit nodes least (task ∷ tasks) (l ∷ ls) = Marked nodes least task l × AllFit nodes task.mark tasks ls

-- tasks are added behind the others that cover these spots
pub record Adds (old new : Walk) (ds : List Spot) : Type 0 where
  pub grown : Grown old.nodes.items new.nodes.items
  pub added : List Task
  pub looks : List Look
  pub is : new.tasks.items ≡ old.tasks.items ++ added
  pub fit : AllFit new.nodes.items (length old.nodes.items) added looks
  pub covers : Covers ds looks

-- a task is added for a spot by itself
pub record AddsAlone (old new : Walk) (d : Spot) : Type 0 where
  pub grown : Grown old.nodes.items new.nodes.items
  pub task : Task
  pub is : new.tasks.items ≡ old.tasks.items ++ task ∷ []
  pub fit : AllFit new.nodes.items (length old.nodes.items) (task ∷ []) (record { spot = d; whole = false } ∷ [])

-- where these variables of a bit pattern stand further left
abbrev pub passed : List Bound → Scope → Scope
passed bs s = record s { known = s.known ++ bs; left = bs }

-- the facts stands for the scope, and what it says of sizes is what a size sees there
pub record Passes (nodes : List Node) (facts : Facts) (s : Scope) : Type 0 where
  pub means : Means nodes facts s
  pub sizes : Sees nodes facts.sizes (size_scope s).known

-- where the new variables of a qualifier hide others
abbrev pub with_new : Qual → Scope → Scope
with_new g s = record s { known = new_names g ++ s.known }

abbrev pub size_in : Scope → Option Expr → List Spot
size_in s None = []
size_in s (Some e) = spot s (AnExpr e) ∷ []

-- behind a part that leaves these names unsafe
abbrev pub left_behind : List (List ℕ) → Scope → Scope
left_behind ns s = record s { dangers = s.dangers ++ record { left_unsafe = ns; known = s.known } ∷ [] }

-- at the end of a clause of a `case` or a `receive`
abbrev pub past_alt : O.Alt-F Expr Pattern Qual Alt Branch Guard Item Segment → Scope → Scope
past_alt a s = past_items a.body (with_known (targets a.pattern) s)

-- the expressions of these segments, one behind another
abbrev pub built_exprs : List Segment → List Expr
built_exprs sgs = flat_map (λ g. g.value ∷ sizes_of g) sgs
