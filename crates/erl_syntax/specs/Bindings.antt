-- Which variables a pattern has, and which a `case`, an `if` or a `receive` leaves unsafe
-- (Erlang Reference Manual, "Expressions": "Variables", "Patterns", "Case", "Receive", "If").
use Rattle.std.specs.Prelude.{ℕ, List, [], ◌∷◌, ◌++◌, map, Option, Some, None}
use Rattle.std.specs.List.{flat_map}
use Rattle.erl_syntax.specs.declared.span.Span.{Span}
use Rattle.erl_syntax.specs.declared.expr.Expr.{Expr}
use Rattle.erl_syntax.specs.declared.expr.Expr.TheOpen as O
use Rattle.erl_syntax.specs.declared.expr.Expr.TheFolds.{fold-Expr, fold-Pattern, fold-Qual, fold-Segment}
use Rattle.erl_syntax.specs.declared.pattern.Pattern.{Pattern}
use Rattle.erl_syntax.specs.declared.qual.Qual.{Qual}
use Rattle.erl_syntax.specs.declared.segment.Segment.{Segment}

-- a variable with the place at which it stands
pub record Bound : Type 0 where
  pub name : List ℕ
  pub at : Span

-- Of an expression or a segment. `own`: the variable that it is, or that its value is.
-- `left_unsafe`: the variables that stand in patterns of the clauses of a `case`, `if` or `receive` in it. Those in a
-- comprehension don't count, since they are gone at its end.
pub record Vars : Type 0 where
  pub own : List Bound
  pub left_unsafe : List (List ℕ)

-- Of a qualifier. `new`: its pattern's variables.
pub record Row : Type 0 where
  pub new : List Bound
  pub left_unsafe : List (List ℕ)

abbrev pub names : List Bound → List (List ℕ)
names bs = map (λ b. b.name) bs

abbrev pub unsafe_in : List Vars → List (List ℕ)
unsafe_in vs = flat_map (λ v. v.left_unsafe) vs

abbrev pub joined : {X : Type 0} → List (List X) → List X
joined xss = flat_map (λ xs. xs) xss

abbrev pub none : Vars
none = record { own = []; left_unsafe = [] }

abbrev pub only : List (List ℕ) → Vars
only ns = record { own = []; left_unsafe = ns }

abbrev pub expr_layer : O.Expr-F Vars (List Bound) Row (List (List ℕ)) (List (List ℕ)) (Unit {0}) (List (List ℕ)) Vars → Vars
expr_layer (O.Expr::Var at name) = record { own = record { name = name; at = at } ∷ []; left_unsafe = [] }
expr_layer (O.Expr::Wild at) = none
expr_layer (O.Expr::Int at value) = none
expr_layer (O.Expr::Char at value) = none
expr_layer (O.Expr::Atom at atom) = none
expr_layer (O.ModuleName at) = none
expr_layer (O.Expr::Str at chars) = none
expr_layer (O.Expr::Tuple at items) = only (unsafe_in items)
expr_layer (O.Expr::List at items tail) = only (unsafe_in items ++ unsafe_in tail)
expr_layer (O.Expr::Bits at segments) = only (unsafe_in segments)
expr_layer (O.ListFor at row quals) = none
expr_layer (O.BitsFor at row quals) = none
expr_layer (O.Call at home name args) = only (unsafe_in args)
expr_layer (O.Case at value alts) = only (unsafe_in value ++ joined alts)
expr_layer (O.Receive at alts) = only (joined alts)
expr_layer (O.If at branches) = only (joined branches)
expr_layer (O.Unary at op part) = only (unsafe_in part)
expr_layer (O.Binary at op parts) = only (unsafe_in parts)

-- a clause's pattern and body
abbrev pub alt_layer : O.Alt-F Vars (List Bound) Row (List (List ℕ)) (List (List ℕ)) (Unit {0}) (List (List ℕ)) Vars → List (List ℕ)
alt_layer a = names a.pattern ++ joined a.body

abbrev pub branch_layer : O.Branch-F Vars (List Bound) Row (List (List ℕ)) (List (List ℕ)) (Unit {0}) (List (List ℕ)) Vars → List (List ℕ)
branch_layer b = joined b.body

abbrev pub guard_layer : O.Guard-F Vars (List Bound) Row (List (List ℕ)) (List (List ℕ)) (Unit {0}) (List (List ℕ)) Vars → Unit {0}
guard_layer g = tt

abbrev pub item_layer : O.Item-F Vars (List Bound) Row (List (List ℕ)) (List (List ℕ)) (Unit {0}) (List (List ℕ)) Vars → List (List ℕ)
item_layer i = names (joined i.patterns) ++ i.value.left_unsafe

abbrev pub pattern_layer : O.Pattern-F Vars (List Bound) Row (List (List ℕ)) (List (List ℕ)) (Unit {0}) (List (List ℕ)) Vars → List Bound
pattern_layer (O.Pattern::Var at name) = record { name = name; at = at } ∷ []
pattern_layer (O.Pattern::Wild at) = []
pattern_layer (O.Pattern::Int at value) = []
pattern_layer (O.Pattern::Char at value) = []
pattern_layer (O.Pattern::Atom at atom) = []
pattern_layer (O.Pattern::Str at chars) = []
pattern_layer (O.Pattern::Tuple at items) = joined items
pattern_layer (O.Pattern::List at items tail) = joined items ++ joined tail
pattern_layer (O.Pattern::Bits at segments) = flat_map (λ v. v.own) segments
pattern_layer (O.Same at patterns) = joined patterns

abbrev pub qual_layer : O.Qual-F Vars (List Bound) Row (List (List ℕ)) (List (List ℕ)) (Unit {0}) (List (List ℕ)) Vars → Row
qual_layer (O.Items at pattern source) = record { new = pattern; left_unsafe = source.left_unsafe }
qual_layer (O.Qual::Bits at segments source) = record { new = flat_map (λ v. v.own) segments; left_unsafe = source.left_unsafe }
qual_layer (O.Filter at test) = record { new = []; left_unsafe = test.left_unsafe }

abbrev pub size_unsafe : Option Vars → List (List ℕ)
size_unsafe None = []
size_unsafe (Some v) = v.left_unsafe

abbrev pub segment_layer : O.Segment-F Vars (List Bound) Row (List (List ℕ)) (List (List ℕ)) (Unit {0}) (List (List ℕ)) Vars → Vars
segment_layer s = record { own = s.value.own; left_unsafe = s.value.left_unsafe ++ size_unsafe s.size }

abbrev pub vars_of : Expr → Vars
vars_of e = fold-Expr Vars (List Bound) Row (List (List ℕ)) (List (List ℕ)) (Unit {0}) (List (List ℕ)) Vars expr_layer pattern_layer qual_layer alt_layer branch_layer guard_layer item_layer segment_layer e

-- the variables that a pattern binds or compares, from left to right; the sizes of its segments have none of them
abbrev pub targets : Pattern → List Bound
targets p = fold-Pattern Vars (List Bound) Row (List (List ℕ)) (List (List ℕ)) (Unit {0}) (List (List ℕ)) Vars expr_layer pattern_layer qual_layer alt_layer branch_layer guard_layer item_layer segment_layer p

abbrev pub row_of : Qual → Row
row_of g = fold-Qual Vars (List Bound) Row (List (List ℕ)) (List (List ℕ)) (Unit {0}) (List (List ℕ)) Vars expr_layer pattern_layer qual_layer alt_layer branch_layer guard_layer item_layer segment_layer g

abbrev pub vars_of_segment : Segment → Vars
vars_of_segment sg = fold-Segment Vars (List Bound) Row (List (List ℕ)) (List (List ℕ)) (Unit {0}) (List (List ℕ)) Vars expr_layer pattern_layer qual_layer alt_layer branch_layer guard_layer item_layer segment_layer sg

abbrev pub targets_of : List Pattern → List Bound
targets_of ps = flat_map targets ps

abbrev pub segment_targets : List Segment → List Bound
segment_targets sgs = flat_map (λ sg. (vars_of_segment sg).own) sgs

abbrev pub new_names : Qual → List Bound
new_names g = (row_of g).new

abbrev pub qual_unsafe : Qual → List (List ℕ)
qual_unsafe g = (row_of g).left_unsafe
