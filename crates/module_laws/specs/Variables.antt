-- Where the variables of a module's trees stand.
use Rattle.std.specs.Prelude.{ℕ, List, [], ◌∷◌, ◌++◌, map, Option, Some, None}
use Rattle.std.specs.List.{All}
use Rattle.erl_syntax.specs.Checking.{RisingBy}
use Rattle.erl_syntax.specs.Reading.{Reads}
use Rattle.erl_syntax.specs.declared.span.Span.{Span}
use Rattle.erl_syntax.specs.declared.expr.Expr.{Expr}
use Rattle.erl_syntax.specs.declared.expr.Expr.TheOpen as O
use Rattle.erl_syntax.specs.declared.expr.Expr.TheFolds.{fold-Expr, fold-Pattern, fold-Qual, fold-Alt, fold-Branch, fold-Guard, fold-Item, fold-Segment}
use Rattle.erl_syntax.specs.Bindings.{joined}
use Rattle.erl_syntax.specs.declared.pattern.Pattern.{Pattern}
use Rattle.erl_syntax.specs.declared.qual.Qual.{Qual}
use Rattle.erl_syntax.specs.declared.segment.Segment.{Segment}
use Rattle.erl_syntax.specs.declared.clause.Guard.{Guard}
use Rattle.erl_syntax.specs.declared.clause.Item.{Item}
use Rattle.erl_syntax.specs.declared.clause.Alt.{Alt}
use Rattle.erl_syntax.specs.declared.clause.Branch.{Branch}
use Rattle.erl_syntax.specs.declared.module.Clause.{Clause}
use Rattle.erl_syntax.specs.declared.module.Function.{Function}
use Rattle.erl_syntax.specs.declared.module.Module.{Module}

abbrev pub expr_layer : O.Expr-F (List Span) (List Span) (List Span) (List Span) (List Span) (List Span) (List Span) (List Span) → List Span
expr_layer (O.Expr::Var at name) = at ∷ []
expr_layer (O.Expr::Wild at) = []
expr_layer (O.Expr::Int at value) = []
expr_layer (O.Expr::Char at value) = []
expr_layer (O.Expr::Atom at atom) = []
expr_layer (O.ModuleName at) = []
expr_layer (O.Expr::Str at chars) = []
expr_layer (O.Expr::Tuple at items) = joined items
expr_layer (O.Expr::List at items tail) = joined items ++ joined tail
expr_layer (O.Expr::Bits at segments) = joined segments
expr_layer (O.ListFor at row quals) = joined row ++ joined quals
expr_layer (O.BitsFor at row quals) = joined row ++ joined quals
expr_layer (O.Call at home name args) = joined home ++ joined args
expr_layer (O.Case at value alts) = joined value ++ joined alts
expr_layer (O.Receive at alts) = joined alts
expr_layer (O.If at branches) = joined branches
expr_layer (O.Unary at op part) = joined part
expr_layer (O.Binary at op parts) = joined parts

abbrev pub pattern_layer : O.Pattern-F (List Span) (List Span) (List Span) (List Span) (List Span) (List Span) (List Span) (List Span) → List Span
pattern_layer (O.Pattern::Var at name) = at ∷ []
pattern_layer (O.Pattern::Wild at) = []
pattern_layer (O.Pattern::Int at value) = []
pattern_layer (O.Pattern::Char at value) = []
pattern_layer (O.Pattern::Atom at atom) = []
pattern_layer (O.Pattern::Str at chars) = []
pattern_layer (O.Pattern::Tuple at items) = joined items
pattern_layer (O.Pattern::List at items tail) = joined items ++ joined tail
pattern_layer (O.Pattern::Bits at segments) = joined segments
pattern_layer (O.Same at patterns) = joined patterns

abbrev pub qual_layer : O.Qual-F (List Span) (List Span) (List Span) (List Span) (List Span) (List Span) (List Span) (List Span) → List Span
qual_layer (O.Items at pattern source) = pattern ++ source
qual_layer (O.Qual::Bits at segments source) = joined segments ++ source
qual_layer (O.Filter at filter) = filter

abbrev pub alt_layer : O.Alt-F (List Span) (List Span) (List Span) (List Span) (List Span) (List Span) (List Span) (List Span) → List Span
alt_layer a = a.pattern ++ (a.guard ++ joined a.body)

abbrev pub branch_layer : O.Branch-F (List Span) (List Span) (List Span) (List Span) (List Span) (List Span) (List Span) (List Span) → List Span
branch_layer b = b.guard ++ joined b.body

abbrev pub guard_layer : O.Guard-F (List Span) (List Span) (List Span) (List Span) (List Span) (List Span) (List Span) (List Span) → List Span
guard_layer g = joined (map joined g.alternatives)

abbrev pub item_layer : O.Item-F (List Span) (List Span) (List Span) (List Span) (List Span) (List Span) (List Span) (List Span) → List Span
item_layer i = joined i.patterns ++ i.value

abbrev pub sized : Option (List Span) → List Span
sized None = []
sized (Some size) = size

abbrev pub segment_layer : O.Segment-F (List Span) (List Span) (List Span) (List Span) (List Span) (List Span) (List Span) (List Span) → List Span
segment_layer s = s.value ++ sized s.size

-- the places of the variables in a tree, in the order of the text
abbrev pub expr_spans : Expr → List Span
expr_spans tree = fold-Expr (List Span) (List Span) (List Span) (List Span) (List Span) (List Span) (List Span) (List Span) expr_layer pattern_layer qual_layer alt_layer branch_layer guard_layer item_layer segment_layer tree

abbrev pub pattern_spans : Pattern → List Span
pattern_spans tree = fold-Pattern (List Span) (List Span) (List Span) (List Span) (List Span) (List Span) (List Span) (List Span) expr_layer pattern_layer qual_layer alt_layer branch_layer guard_layer item_layer segment_layer tree

abbrev pub qual_spans : Qual → List Span
qual_spans tree = fold-Qual (List Span) (List Span) (List Span) (List Span) (List Span) (List Span) (List Span) (List Span) expr_layer pattern_layer qual_layer alt_layer branch_layer guard_layer item_layer segment_layer tree

abbrev pub alt_spans : Alt → List Span
alt_spans tree = fold-Alt (List Span) (List Span) (List Span) (List Span) (List Span) (List Span) (List Span) (List Span) expr_layer pattern_layer qual_layer alt_layer branch_layer guard_layer item_layer segment_layer tree

abbrev pub branch_spans : Branch → List Span
branch_spans tree = fold-Branch (List Span) (List Span) (List Span) (List Span) (List Span) (List Span) (List Span) (List Span) expr_layer pattern_layer qual_layer alt_layer branch_layer guard_layer item_layer segment_layer tree

abbrev pub guard_spans : Guard → List Span
guard_spans tree = fold-Guard (List Span) (List Span) (List Span) (List Span) (List Span) (List Span) (List Span) (List Span) expr_layer pattern_layer qual_layer alt_layer branch_layer guard_layer item_layer segment_layer tree

abbrev pub item_spans : Item → List Span
item_spans tree = fold-Item (List Span) (List Span) (List Span) (List Span) (List Span) (List Span) (List Span) (List Span) expr_layer pattern_layer qual_layer alt_layer branch_layer guard_layer item_layer segment_layer tree

abbrev pub segment_spans : Segment → List Span
segment_spans tree = fold-Segment (List Span) (List Span) (List Span) (List Span) (List Span) (List Span) (List Span) (List Span) expr_layer pattern_layer qual_layer alt_layer branch_layer guard_layer item_layer segment_layer tree

abbrev pub clause_spans : Clause → List Span
clause_spans c = joined (map pattern_spans c.patterns) ++ (guard_spans c.guard ++ joined (map item_spans c.body))

-- those of the variables of a function
abbrev pub function_spans : Function → List Span
function_spans f = joined (map clause_spans f.clauses)

-- In each function of a module that a text spells the places of the variables rise: no two of its variables stand at one place.
abbrev pub VariablesRise : Type 0
VariablesRise = (text : List ℕ) (m : Module) → Reads text m → All (λ f. RisingBy (λ at. at) (function_spans f)) m.functions
