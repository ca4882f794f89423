-- The parts of a function with the scopes in which they stand, and what stands right inside each.
use Rattle.std.specs.Prelude.{◌≡◌, ℕ, true, cond, List, [], ◌∷◌, ◌++◌, map, reverse}
use Rattle.std.specs.Str.{bytes_eq}
use Rattle.std.specs.List.{Contains, flat_map}
use Rattle.erl_syntax.specs.Bindings.{Bound, targets, targets_of}
use Rattle.erl_syntax.specs.Scopes.{Scope, Part, AnExpr, APattern, ABody, ASegment, nothing_known, with_known, behind, in_guard, to_match, to_generate, past_patterns, past_segments, past_items, generated, past_quals, past_row, is_empty, sizes_of}
use Rattle.erl_syntax.specs.declared.span.Span.{Span}
use Rattle.erl_syntax.specs.declared.expr.Expr.{Expr, out-Expr}
use Rattle.erl_syntax.specs.declared.expr.Expr.TheOpen as O
use Rattle.erl_syntax.specs.declared.pattern.Pattern.{Pattern, out-Pattern}
use Rattle.erl_syntax.specs.declared.segment.Segment.{Segment}
use Rattle.erl_syntax.specs.declared.qual.Qual.{Qual, out-Qual}
use Rattle.erl_syntax.specs.declared.clause.Item.{Item}
use Rattle.erl_syntax.specs.declared.clause.Guard.{Guard}
use Rattle.erl_syntax.specs.declared.clause.Alt.{Alt, out-Alt}
use Rattle.erl_syntax.specs.declared.clause.Branch.{Branch, out-Branch}
use Rattle.erl_syntax.specs.declared.module.Function.{Function}
use Rattle.erl_syntax.specs.declared.module.Clause.{Clause}
use Rattle.erl_syntax.specs.declared.typing.SideUse.{SideUse}
use Rattle.erl_syntax.specs.declared.typing.SideUse.TheVariants as side

-- a part with its scope
pub record Spot : Type 0 where
  pub scope : Scope
  pub part : Part

abbrev pub spot : Scope → Part → Spot
spot s y = record { scope = s; part = y }

-- what each element of a list adds, by what stands before and behind it; `front` stands before all of them
abbrev pub each : {X : Type 0} → (List X → X → List X → List Spot) → List X → List X → List Spot
each Adds front [] = []
each Adds front (y ∷ ys) = Adds front y ys ++ each Adds (front ++ y ∷ []) ys

-- expressions one behind another
abbrev pub expr_in : Scope → List Expr → Expr → List Expr → List Spot
expr_in s front y back = spot (behind front s) (AnExpr y) ∷ []

abbrev pub exprs_in : Scope → List Expr → List Spot
exprs_in s ys = each (expr_in s) [] ys

-- expressions of one scope
abbrev pub same_in : Scope → List Expr → Expr → List Expr → List Spot
same_in s front y back = spot s (AnExpr y) ∷ []

abbrev pub tests_in : Scope → List (List Expr) → List Expr → List (List Expr) → List Spot
tests_in s front ys back = each (same_in s) [] ys

abbrev pub guard_in : Scope → Guard → List Spot
guard_in s g = each (tests_in s) [] g.alternatives

abbrev pub pattern_in : Scope → List Pattern → Pattern → List Pattern → List Spot
pattern_in s front y back = spot (past_patterns front s) (APattern y) ∷ []

abbrev pub patterns_in : Scope → List Pattern → List Spot
patterns_in s ys = each (pattern_in s) [] ys

-- an item's patterns, the one that is matched first in front
abbrev pub matched_in : Scope → List Pattern → Pattern → List Pattern → List Spot
matched_in s front y back = spot (to_match (with_known (targets_of front) s)) (APattern y) ∷ []

abbrev pub item_in : Scope → Item → List Spot
item_in s i = spot s (AnExpr i.value) ∷ each (matched_in s) [] (reverse i.patterns)

abbrev pub items_in : Scope → List Item → Item → List Item → List Spot
items_in s front i back = item_in (past_items front s) i

-- the segments of a bit expression
abbrev pub built_in_turn : Scope → List Segment → Segment → List Segment → List Spot
built_in_turn s front y back = spot (behind (flat_map (λ g. g.value ∷ sizes_of g) front) s) (ASegment side.Build (is_empty back) y) ∷ []

-- those of a bit pattern
abbrev pub segment_in : SideUse → Scope → List Segment → Segment → List Segment → List Spot
segment_in on s front y back = spot (past_segments front s) (ASegment on (is_empty back) y) ∷ []

-- a clause of a `case` or a `receive`
abbrev pub alt_layer_in : Scope → O.Alt-F Expr Pattern Qual Alt Branch Guard Item Segment → List Spot
alt_layer_in s a =
    spot (to_match s) (APattern a.pattern) ∷ (guard_in (in_guard (with_known (targets a.pattern) s)) a.guard ++ spot (with_known (targets a.pattern) s) (ABody a.body) ∷ [])

abbrev pub alt_in : Scope → List Alt → Alt → List Alt → List Spot
alt_in s front y back = alt_layer_in s (out-Alt y)

abbrev pub branch_layer_in : Scope → O.Branch-F Expr Pattern Qual Alt Branch Guard Item Segment → List Spot
branch_layer_in s b = guard_in (in_guard s) b.guard ++ spot s (ABody b.body) ∷ []

abbrev pub branch_in : Scope → List Branch → Branch → List Branch → List Spot
branch_in s front y back = branch_layer_in s (out-Branch y)

abbrev pub qual_layer_in : Scope → O.Qual-F Expr Pattern Qual Alt Branch Guard Item Segment → List Spot
qual_layer_in s (O.Items at pt y) = spot s (AnExpr y) ∷ spot (to_generate s) (APattern pt) ∷ []
qual_layer_in s (O.Qual::Bits at sgs y) = spot s (AnExpr y) ∷ each (segment_in side.Generator (to_generate s)) [] sgs
qual_layer_in s (O.Filter at y) = spot s (AnExpr y) ∷ []

abbrev pub qual_in : Scope → Qual → List Spot
qual_in s g = qual_layer_in s (out-Qual g)

abbrev pub quals_in : Scope → List Qual → Qual → List Qual → List Spot
quals_in s front g back = qual_in (past_quals front s) g

abbrev pub comprehension_in : Scope → List Expr → List Qual → List Spot
comprehension_in s row quals = each (same_in (record s { known = generated quals s.known })) [] row ++ each (quals_in (past_row row quals s)) [] quals

-- what stands inside an expression, by its form
abbrev pub expr_layer_in : Scope → O.Expr-F Expr Pattern Qual Alt Branch Guard Item Segment → List Spot
expr_layer_in s (O.Expr::Tuple at ys) = exprs_in s ys
expr_layer_in s (O.Expr::List at ys tail) = exprs_in s (ys ++ tail)
expr_layer_in s (O.Expr::Bits at sgs) = each (built_in_turn s) [] sgs
expr_layer_in s (O.ListFor at row quals) = comprehension_in s row quals
expr_layer_in s (O.BitsFor at row quals) = comprehension_in s row quals
expr_layer_in s (O.Call at home n ys) = exprs_in s ys
expr_layer_in s (O.Case at ys alts) = exprs_in s ys ++ each (alt_in (behind ys s)) [] alts
expr_layer_in s (O.Receive at alts) = each (alt_in (behind [] s)) [] alts
expr_layer_in s (O.If at bs) = each (branch_in s) [] bs
expr_layer_in s (O.Unary at op ys) = exprs_in s ys
expr_layer_in s (O.Binary at op ys) = exprs_in s ys
expr_layer_in s _ = []

abbrev pub inside_expr : Scope → Expr → List Spot
inside_expr s e = expr_layer_in s (out-Expr e)

-- what stands inside a pattern, by its form
abbrev pub pattern_layer_in : Scope → O.Pattern-F Expr Pattern Qual Alt Branch Guard Item Segment → List Spot
pattern_layer_in s (O.Pattern::Tuple at ps) = patterns_in s ps
pattern_layer_in s (O.Pattern::List at ps tail) = patterns_in s (ps ++ tail)
pattern_layer_in s (O.Pattern::Bits at sgs) = each (segment_in side.Match s) [] sgs
pattern_layer_in s (O.Same at ps) = patterns_in s ps
pattern_layer_in s _ = []

abbrev pub inside_pattern : Scope → Pattern → List Spot
inside_pattern s pt = pattern_layer_in s (out-Pattern pt)

-- where the variable gets its value, or else `at`
abbrev pub place_of : List Bound → List ℕ → Span → Span
place_of [] name at = at
place_of (b ∷ bs) name at = cond (bytes_eq b.name name) b.at (place_of bs name at)

-- what a size in the pattern sees of the segments further left
abbrev pub shown : Scope → List Bound
shown s = map (λ b. record { name = b.name; at = place_of s.known b.name b.at }) s.left

abbrev pub size_scope : Scope → Scope
size_scope s = record { known = shown s ++ s.outer; outer = []; left = []; dangers = s.dangers; guarded = true }

abbrev pub inside_segment : Scope → SideUse → Segment → List Spot
inside_segment s side.Build sg = spot s (AnExpr sg.value) ∷ each (same_in (behind (sg.value ∷ []) s)) [] (sizes_of sg)
inside_segment s side.Match sg = each (same_in (size_scope s)) [] (sizes_of sg)
inside_segment s side.Generator sg = each (same_in (size_scope s)) [] (sizes_of sg)

abbrev pub inside : Scope → Part → List Spot
inside s (AnExpr e) = inside_expr s e
inside s (APattern pt) = inside_pattern s pt
inside s (ABody is) = each (items_in s) [] is
inside s (ASegment on last sg) = inside_segment s on sg

-- a clause of a function
abbrev pub clause_in : List Clause → Clause → List Clause → List Spot
clause_in front c back =
    patterns_in (to_match nothing_known) c.patterns ++ (guard_in (in_guard (past_patterns c.patterns nothing_known)) c.guard ++ spot (past_patterns c.patterns nothing_known) (ABody c.body) ∷ [])

abbrev pub clauses_in : Function → List Spot
clauses_in f = each clause_in [] f.clauses

-- the one is the other, or stands somewhere inside it
pub data Under : Spot → Spot → Type 0 where
  here : (a b : Spot) → a ≡ b → Under a b
  deeper : (a b d : Spot) → Contains (inside a.scope a.part) b → Under b d → Under a d

-- a spot of the function
pub record IsUnder (f : Function) (d : Spot) : Type 0 where
  pub root : Spot
  pub among : Contains (clauses_in f) root
  pub under : Under root d
