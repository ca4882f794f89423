-- In which scope each part of a module stands (Erlang Reference Manual, "Expressions": "Variables", "Patterns"; "Bit Syntax
-- Expressions"; "Comprehensions").
--
-- Values are found from left to right, but an item's patterns are matched after its value, the rightmost first, and a
-- comprehension's row comes after its qualifiers. What is unsafe goes by the order of the text.
use Rattle.std.specs.Prelude.{◌≡◌, ◌≢◌, ℕ, Bool, true, false, List, [], ◌∷◌, ◌++◌, map, reverse, Some, None, All, ◌⊎◌}
use Rattle.std.specs.List.{Contains, flat_map}
use Rattle.erl_syntax.specs.Bindings.{Bound, names, vars_of, targets, targets_of, segment_targets, new_names, qual_unsafe}
use Rattle.erl_syntax.specs.declared.span.Span.{Span}
use Rattle.erl_syntax.specs.declared.expr.Expr.{Expr}
use Rattle.erl_syntax.specs.declared.expr.Expr.TheVariants as x
use Rattle.erl_syntax.specs.declared.expr.Op.{Op}
use Rattle.erl_syntax.specs.declared.expr.Prefix.{Prefix}
use Rattle.erl_syntax.specs.declared.pattern.Pattern.{Pattern}
use Rattle.erl_syntax.specs.declared.pattern.Pattern.TheVariants as p
use Rattle.erl_syntax.specs.declared.segment.Segment.{Segment}
use Rattle.erl_syntax.specs.declared.qual.Qual.{Qual}
use Rattle.erl_syntax.specs.declared.qual.Qual.TheVariants as q
use Rattle.erl_syntax.specs.declared.clause.Item.{Item}
use Rattle.erl_syntax.specs.declared.clause.Guard.{Guard}
use Rattle.erl_syntax.specs.declared.clause.Alt.{Alt, roll-Alt}
use Rattle.erl_syntax.specs.declared.clause.Branch.{Branch, roll-Branch}
use Rattle.erl_syntax.specs.declared.module.Function.{Function}
use Rattle.erl_syntax.specs.declared.module.Clause.{Clause}
use Rattle.erl_syntax.specs.declared.typing.SideUse.{SideUse}
use Rattle.erl_syntax.specs.declared.typing.SideUse.TheVariants as side

-- The names that a part of the text leaves unsafe: those that had no value where it began.
pub record Danger : Type 0 where
  pub left_unsafe : List (List ℕ)
  pub known : List Bound

-- `known`: the variables that have a value. Where a name stands several times, the first counts: it is the variable.
-- `outer`: what the sizes in a pattern see, beside `left`, the variables of the segments further left in the same bit pattern.
-- `dangers`: what is unsafe.
-- `guarded`: whether this is a guard or a size in a pattern.
pub record Scope : Type 0 where
  pub known : List Bound
  pub outer : List Bound
  pub left : List Bound
  pub dangers : List Danger
  pub guarded : Bool

abbrev pub Found : List Bound → List ℕ → Span → Type 0
Found [] name at = ⊥
Found (b ∷ bs) name at = ((b.name ≡ name) × (b.at ≡ at)) ⊎ ((b.name ≢ name) × Found bs name at)

abbrev pub IsKnown : List Bound → List ℕ → Type 0
IsKnown known name = Contains (names known) name

abbrev pub IsUnsafe : List Danger → List ℕ → Type 0
IsUnsafe dangers name = (d : Danger) × (Contains dangers d × (Contains d.left_unsafe name × (IsKnown d.known name → ⊥)))

abbrev pub nothing_known : Scope
nothing_known = record { known = []; outer = []; left = []; dangers = []; guarded = false }

-- where these variables have values too
abbrev pub with_known : List Bound → Scope → Scope
with_known bs s = record s { known = s.known ++ bs }

-- behind these expressions
abbrev pub behind : List Expr → Scope → Scope
behind es s = record s { dangers = s.dangers ++ map (λ e. record { left_unsafe = (vars_of e).left_unsafe; known = s.known }) es }

abbrev pub in_guard : Scope → Scope
in_guard s = record s { guarded = true }

-- for a pattern that is matched here
abbrev pub to_match : Scope → Scope
to_match s = record s { outer = s.known; left = [] }

-- for a generator's pattern: its variables are new ones
abbrev pub to_generate : Scope → Scope
to_generate s = record s { known = []; outer = s.known; left = [] }

-- for what stands behind these parts of a pattern
abbrev pub past_patterns : List Pattern → Scope → Scope
past_patterns ps s = with_known (targets_of ps) s

-- for what stands behind these segments of a bit pattern
abbrev pub past_segments : List Segment → Scope → Scope
past_segments sgs s = record s { known = s.known ++ segment_targets sgs; left = segment_targets sgs }

-- the patterns of an item, in the order in which they are matched
abbrev pub item_targets : Item → List Bound
item_targets i = targets_of (reverse i.patterns)

abbrev pub past_items : List Item → Scope → Scope
past_items [] s = s
past_items (i ∷ is) s = past_items is (with_known (item_targets i) (behind (i.value ∷ []) s))

-- the variables of generators hide others of their names
abbrev pub generated : List Qual → List Bound → List Bound
generated [] known = known
generated (g ∷ gs) known = generated gs (new_names g ++ known)

abbrev pub past_quals : List Qual → Scope → Scope
past_quals [] s = s
past_quals (g ∷ gs) s = past_quals gs (record s { known = new_names g ++ s.known; dangers = s.dangers ++ record { left_unsafe = qual_unsafe g; known = s.known } ∷ [] })

-- the scope of a size: the segments further left hide what stands outside
pub record IsSizeScope (s t : Scope) : Type 0 where
  pub shown : List Bound
  pub same : map (λ b. b.name) shown ≡ names s.left
  pub places : All (λ b. Found s.known b.name b.at) shown
  pub is : t ≡ record { known = shown ++ s.outer; outer = []; left = []; dangers = s.dangers; guarded = true }

-- expressions that stand in an expression one behind another, in the order of the text
pub data Parts : Expr → List Expr → Type 0 where
  tuple : (e : Expr) (at : Span) (ys : List Expr) → e ≡ x.Tuple at ys → Parts e ys
  list : (e : Expr) (at : Span) (ys tail : List Expr) → e ≡ x.List at ys tail → Parts e (ys ++ tail)
  call : (e : Expr) (at : Span) (home : List Expr) (n : ℕ) (ys : List Expr) → e ≡ x.Call at home n ys → Parts e ys
  case : (e : Expr) (at : Span) (ys : List Expr) (alts : List Alt) → e ≡ x.Case at ys alts → Parts e ys
  unary : (e : Expr) (at : Span) (op : Prefix) (ys : List Expr) → e ≡ x.Unary at op ys → Parts e ys
  binary : (e : Expr) (at : Span) (op : Op) (ys : List Expr) → e ≡ x.Binary at op ys → Parts e ys

-- the clauses of a `case` or a `receive`, and what stands before them
pub data Chooses : Expr → List Expr → List Alt → Type 0 where
  case : (e : Expr) (at : Span) (ys : List Expr) (alts : List Alt) → e ≡ x.Case at ys alts → Chooses e ys alts
  receive : (e : Expr) (at : Span) (alts : List Alt) → e ≡ x.Receive at alts → Chooses e [] alts

abbrev pub IsAlt : List Alt → Span → Pattern → Guard → List Item → Type 0
IsAlt alts at pt g is = Contains alts (roll-Alt (record { at = at; pattern = pt; guard = g; body = is }))

abbrev pub IsBranch : List Branch → Span → Guard → List Item → Type 0
IsBranch bs at g is = Contains bs (roll-Branch (record { at = at; guard = g; body = is }))

pub data Comprehends : Expr → List Expr → List Qual → Type 0 where
  list : (e : Expr) (at : Span) (row : List Expr) (quals : List Qual) → e ≡ x.ListFor at row quals → Comprehends e row quals
  bits : (e : Expr) (at : Span) (row : List Expr) (quals : List Qual) → e ≡ x.BitsFor at row quals → Comprehends e row quals

pub data PatternParts : Pattern → List Pattern → Type 0 where
  tuple : (pt : Pattern) (at : Span) (ps : List Pattern) → pt ≡ p.Tuple at ps → PatternParts pt ps
  list : (pt : Pattern) (at : Span) (ps tail : List Pattern) → pt ≡ p.List at ps tail → PatternParts pt (ps ++ tail)
  same : (pt : Pattern) (at : Span) (ps : List Pattern) → pt ≡ p.Same at ps → PatternParts pt ps

-- the expression of a qualifier
pub data HasSource : Qual → Expr → Type 0 where
  items : (g : Qual) (at : Span) (pt : Pattern) (y : Expr) → g ≡ q.Items at pt y → HasSource g y
  bits : (g : Qual) (at : Span) (sgs : List Segment) (y : Expr) → g ≡ q.Bits at sgs y → HasSource g y
  filter : (g : Qual) (at : Span) (y : Expr) → g ≡ q.Filter at y → HasSource g y

-- What the row leaves unsafe is so in the qualifiers, which stand behind it.
abbrev pub past_row : List Expr → List Qual → Scope → Scope
past_row row quals s = record s { dangers = s.dangers ++ map (λ e. record { left_unsafe = (vars_of e).left_unsafe; known = generated quals s.known }) row }

-- An expression, a pattern, a body, or a segment with the side on which it stands and whether it is the last.
pub data Part : Type 0 where
  AnExpr : Expr → Part
  APattern : Pattern → Part
  ABody : List Item → Part
  ASegment : SideUse → Bool → Segment → Part

abbrev pub is_empty : {X : Type 0} → List X → Bool
is_empty [] = true
is_empty (y ∷ ys) = false

-- what a size may follow: the segment's value
abbrev pub sizes_of : Segment → List Expr
sizes_of sg = elim sg.size [ None ↦ [] | Some e ↦ e ∷ [] ]

-- a part of the function stands in this scope
pub data Stands (f : Function) : Scope → Part → Type 0 where
  -- a function's clause
  head : (c : Clause) (front : List Pattern) (pt : Pattern) (back : List Pattern) → Contains f.clauses c → c.patterns ≡ front ++ pt ∷ back →
      Stands f (past_patterns front (to_match nothing_known)) (APattern pt)
  head_guard : (c : Clause) (tests : List Expr) (e : Expr) → Contains f.clauses c → Contains c.guard.alternatives tests → Contains tests e →
      Stands f (in_guard (past_patterns c.patterns nothing_known)) (AnExpr e)
  head_body : (c : Clause) → Contains f.clauses c →
      Stands f (past_patterns c.patterns nothing_known) (ABody c.body)
  -- an item: its value, and its patterns, of which those further right are matched before
  item_value : (s : Scope) (is front : List Item) (i : Item) (back : List Item) → Stands f s (ABody is) → is ≡ front ++ i ∷ back →
      Stands f (past_items front s) (AnExpr i.value)
  item_pattern : (s : Scope) (is front : List Item) (i : Item) (back : List Item) (left : List Pattern) (pt : Pattern) (right : List Pattern) →
      Stands f s (ABody is) → is ≡ front ++ i ∷ back → i.patterns ≡ left ++ pt ∷ right →
      Stands f (to_match (with_known (targets_of (reverse right)) (past_items front s))) (APattern pt)
  -- a part of a pattern
  pattern_part : (s : Scope) (pt : Pattern) (ps front : List Pattern) (y : Pattern) (back : List Pattern) → Stands f s (APattern pt) → PatternParts pt ps → ps ≡ front ++ y ∷ back →
      Stands f (past_patterns front s) (APattern y)
  pattern_segment : (s : Scope) (pt : Pattern) (at : Span) (sgs front : List Segment) (sg : Segment) (back : List Segment) → Stands f s (APattern pt) → pt ≡ p.Bits at sgs → sgs ≡ front ++ sg ∷ back →
      Stands f (past_segments front s) (ASegment side.Match (is_empty back) sg)
  -- the size of a pattern's segment
  pattern_size : (s t : Scope) (on : SideUse) (last : Bool) (sg : Segment) (e : Expr) → Stands f s (ASegment on last sg) → on ≢ side.Build → sg.size ≡ Some e → IsSizeScope s t →
      Stands f t (AnExpr e)
  -- a part of an expression
  part : (s : Scope) (e : Expr) (ys front : List Expr) (y : Expr) (back : List Expr) → Stands f s (AnExpr e) → Parts e ys → ys ≡ front ++ y ∷ back →
      Stands f (behind front s) (AnExpr y)
  -- a segment of a bit expression: its value, then its size
  segment : (s : Scope) (e : Expr) (at : Span) (sgs front : List Segment) (sg : Segment) (back : List Segment) → Stands f s (AnExpr e) → e ≡ x.Bits at sgs → sgs ≡ front ++ sg ∷ back →
      Stands f (behind (flat_map (λ g. g.value ∷ sizes_of g) front) s) (ASegment side.Build (is_empty back) sg)
  segment_value : (s : Scope) (last : Bool) (sg : Segment) → Stands f s (ASegment side.Build last sg) →
      Stands f s (AnExpr sg.value)
  segment_size : (s : Scope) (last : Bool) (sg : Segment) (e : Expr) → Stands f s (ASegment side.Build last sg) → sg.size ≡ Some e →
      Stands f (behind (sg.value ∷ []) s) (AnExpr e)
  -- a clause of a `case` or a `receive`
  alt_pattern : (s : Scope) (e : Expr) (ys : List Expr) (alts : List Alt) (at : Span) (pt : Pattern) (g : Guard) (is : List Item) → Stands f s (AnExpr e) → Chooses e ys alts → IsAlt alts at pt g is →
      Stands f (to_match (behind ys s)) (APattern pt)
  alt_guard : (s : Scope) (e : Expr) (ys : List Expr) (alts : List Alt) (at : Span) (pt : Pattern) (g : Guard) (is : List Item) (tests : List Expr) (y : Expr) → Stands f s (AnExpr e) → Chooses e ys alts → IsAlt alts at pt g is →
      Contains g.alternatives tests → Contains tests y →
      Stands f (in_guard (with_known (targets pt) (behind ys s))) (AnExpr y)
  alt_body : (s : Scope) (e : Expr) (ys : List Expr) (alts : List Alt) (at : Span) (pt : Pattern) (g : Guard) (is : List Item) → Stands f s (AnExpr e) → Chooses e ys alts → IsAlt alts at pt g is →
      Stands f (with_known (targets pt) (behind ys s)) (ABody is)
  -- a clause of an `if`
  if_guard : (s : Scope) (e : Expr) (at : Span) (bs : List Branch) (az : Span) (g : Guard) (is : List Item) (tests : List Expr) (y : Expr) → Stands f s (AnExpr e) → e ≡ x.If at bs → IsBranch bs az g is →
      Contains g.alternatives tests → Contains tests y →
      Stands f (in_guard s) (AnExpr y)
  if_body : (s : Scope) (e : Expr) (at : Span) (bs : List Branch) (az : Span) (g : Guard) (is : List Item) → Stands f s (AnExpr e) → e ≡ x.If at bs → IsBranch bs az g is →
      Stands f s (ABody is)
  -- a comprehension: its row stands first and comes last
  row : (s : Scope) (e : Expr) (ys : List Expr) (quals : List Qual) (y : Expr) → Stands f s (AnExpr e) → Comprehends e ys quals → Contains ys y →
      Stands f (record s { known = generated quals s.known }) (AnExpr y)
  -- an expression of a qualifier
  source : (s : Scope) (e : Expr) (ys : List Expr) (quals front : List Qual) (g : Qual) (back : List Qual) (y : Expr) → Stands f s (AnExpr e) → Comprehends e ys quals → quals ≡ front ++ g ∷ back → HasSource g y →
      Stands f (past_quals front (past_row ys quals s)) (AnExpr y)
  generator : (s : Scope) (e : Expr) (ys : List Expr) (quals front : List Qual) (g : Qual) (back : List Qual) (at : Span) (pt : Pattern) (y : Expr) → Stands f s (AnExpr e) → Comprehends e ys quals → quals ≡ front ++ g ∷ back → g ≡ q.Items at pt y →
      Stands f (to_generate (past_quals front (past_row ys quals s))) (APattern pt)
  bit_generator : (s : Scope) (e : Expr) (ys : List Expr) (quals front : List Qual) (g : Qual) (back : List Qual) (at : Span) (sgs left : List Segment) (sg : Segment) (right : List Segment) (y : Expr) →
      Stands f s (AnExpr e) → Comprehends e ys quals → quals ≡ front ++ g ∷ back → g ≡ q.Bits at sgs y → sgs ≡ left ++ sg ∷ right →
      Stands f (past_segments left (to_generate (past_quals front (past_row ys quals s)))) (ASegment side.Generator (is_empty right) sg)
