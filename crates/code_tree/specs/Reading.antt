-- What code stands for: the expressions, patterns and clauses of the definitions (this project's own).
use Rattle.std.specs.Prelude.{List, [], ◌∷◌, map, Option, Some, None}
use Rattle.erl_syntax.specs.declared.typing.Typed.{Typed}
use Rattle.term_value.specs.Value.{VAtom}
use Rattle.erl_syntax.specs.Atoms.{a_ok}
use Rattle.term_value.specs.Tree as t
use Rattle.code_tree.specs.PlainTerms.{value}
use Rattle.code_tree.specs.declared.form.Form.{Form}
use Rattle.code_tree.specs.declared.form.Form.TheVariants.{Table, Call, Send, Display, Spawn}
use Rattle.code_tree.specs.declared.form.Primitive.{Primitive}
use Rattle.code_tree.specs.declared.form.Primitive.TheVariants as p
use Rattle.code_tree.specs.declared.clause.Clause.{Clause}
use Rattle.code_tree.specs.declared.clause.Line.{Line}
use Rattle.code_tree.specs.declared.code.Code.{Code}
use Rattle.code_tree.specs.declared.code.Function.{Function}
use Rattle.code_tree.specs.declared.pattern.Pattern.{Pattern}
use Rattle.code_tree.specs.declared.pattern.Segment.{Segment}
use Rattle.code_tree.specs.declared.pattern.Target.{Target}
use Rattle.code_tree.specs.declared.pattern.Target.TheVariants.{Anything, Variable, Equal}
use Rattle.code_tree.specs.declared.qualifier.Collected.{Collected}
use Rattle.code_tree.specs.declared.qualifier.Collected.TheVariants as c
use Rattle.code_tree.specs.declared.qualifier.Generator.{Generator}
use Rattle.code_tree.specs.declared.pattern.Pattern.TheOpen as o
use Rattle.code_tree.specs.declared.pattern.Pattern.TheFolds.{fold-Clause, fold-Generator, fold-Line, fold-Pattern, fold-Qualifier, fold-Segment, fold-Tree}
use Rattle.code_tree.specs.declared.qualifier.Qualifier.{Qualifier}
use Rattle.code_tree.specs.declared.tree.Tree.{Tree}

abbrev pub prim_of : Primitive → t.Prim
prim_of p.Tuple = t.MakeTuple
prim_of p.List = t.MakeList
prim_of p.ListOn = t.MakeListOn
prim_of (p.Build types) = t.Build types
prim_of (p.Operator op) = t.Operate op
prim_of (p.Prefix op) = t.Prefixed op
prim_of (p.BuiltIn f) = t.Native f

abbrev pub form_of : Form → t.Form
form_of (Table p) = t.Table (prim_of p)
form_of (Call f) = t.Call f
form_of Send = t.Send
form_of Display = t.Display
form_of Spawn = t.Spawn

abbrev pub target_of : Target → t.Target
target_of Anything = t.Anything
target_of (Variable x) = t.Variable x
target_of (Equal v) = t.Equal (value v)

-- what a comprehension has collected at first
abbrev pub nothing_of : Collected → t.Got
nothing_of c.Items = t.Items []
nothing_of c.Bits = t.Bits []

abbrev pub trees : List t.Tree → t.Trees
trees [] = t.end
trees (u ∷ us) = t.and u (trees us)

abbrev pub patterns : List t.Pattern → t.Patterns
patterns [] = t.no_pattern
patterns (q ∷ qs) = t.pattern_and q (patterns qs)

-- a size, where one is written
abbrev pub size : Option t.Tree → t.Trees
size None = t.end
size (Some u) = t.and u t.end

abbrev pub guard : List (List t.Tree) → t.Guard
guard [] = t.never
guard (us ∷ uss) = t.or (trees us) (guard uss)

-- a segment, read
pub record SegmentRead : Type 0 where
  pub typed : Typed
  pub target : t.Target
  pub size : Option t.Tree

abbrev pub segments : List SegmentRead → t.Segments
segments [] = t.no_segment
segments (s ∷ ss) = t.segment s.typed s.target (size s.size) (segments ss)

-- an item of a body, read; its patterns in the order in which they are matched
pub record LineRead : Type 0 where
  pub patterns : List t.Pattern
  pub value : t.Tree

-- the last item of a body
abbrev pub last : List t.Pattern → t.Tree → t.Tree
last [] u = u
last (q ∷ qs) u = t.First u (t.Last (patterns (q ∷ qs)))

-- a body; it has an item
abbrev pub body : List LineRead → t.Tree
body [] = t.Val (VAtom a_ok)
body (l ∷ []) = last l.patterns l.value
body (l ∷ next ∷ lines) = t.First l.value (t.Then (patterns l.patterns) (body (next ∷ lines)))

-- a clause, read
pub record ClauseRead : Type 0 where
  pub patterns : List t.Pattern
  pub guard : t.Guard
  pub body : t.Tree

abbrev pub clauses : List ClauseRead → t.Clauses
clauses [] = t.no_clause
clauses (k ∷ ks) = t.clause (patterns k.patterns) k.guard k.body (clauses ks)

-- a qualifier, before those that follow
pub data QualifierRead : Type 0 where
  Generates : (source : t.Tree) (generator : t.Generator) → QualifierRead
  Filters : (filter : t.Tree) → QualifierRead

abbrev pub qualifiers : List QualifierRead → t.Tree → t.Quals
qualifiers [] row = t.give row
qualifiers (Generates source generator ∷ qs) row = t.from source generator (qualifiers qs row)
qualifiers (Filters filter ∷ qs) row = t.test filter (qualifiers qs row)

abbrev pub generator_layer : o.Generator-F t.Pattern t.Generator QualifierRead t.Tree ClauseRead LineRead SegmentRead → t.Generator
generator_layer (o.InList q) = t.InList q
generator_layer (o.InBits ss shape) = t.InBits (segments ss) (segments shape)

abbrev pub pattern_layer : o.Pattern-F t.Pattern t.Generator QualifierRead t.Tree ClauseRead LineRead SegmentRead → t.Pattern
pattern_layer o.Anything = t.PWild
pattern_layer (o.Pattern::Variable x) = t.PVar x
pattern_layer (o.Pattern::Value v) = t.PVal (value v)
pattern_layer (o.Tuple qs) = t.PTuple (patterns qs)
pattern_layer (o.List qs) = t.PList (patterns qs)
pattern_layer (o.ListOn qs q) = t.PListOn (patterns qs) q
pattern_layer (o.Bits ss) = t.PBits (segments ss)
pattern_layer (o.Same qs) = t.PSame (patterns qs)

abbrev pub qualifier_layer : o.Qualifier-F t.Pattern t.Generator QualifierRead t.Tree ClauseRead LineRead SegmentRead → QualifierRead
qualifier_layer (o.Generates source g) = Generates source g
qualifier_layer (o.Filters filter) = Filters filter

abbrev pub tree_layer : o.Tree-F t.Pattern t.Generator QualifierRead t.Tree ClauseRead LineRead SegmentRead → t.Tree
tree_layer (o.Tree::Value v) = t.Val (value v)
tree_layer (o.Tree::Variable x) = t.Var x
tree_layer (o.All form parts) = t.All (form_of form) (trees parts)
tree_layer (o.Case u ks) = t.First u (t.Alts (clauses ks))
tree_layer (o.AndAlso u v) = t.First u (t.AndAlso v)
tree_layer (o.OrElse u v) = t.First u (t.OrElse v)
tree_layer (o.If ks) = t.Choose (clauses ks)
tree_layer (o.Receive ks) = t.Receive (clauses ks)
tree_layer (o.Comprehension collected qs row) = t.Gather (nothing_of collected) (qualifiers qs row) t.bottom

abbrev pub clause_layer : o.Clause-F t.Pattern t.Generator QualifierRead t.Tree ClauseRead LineRead SegmentRead → ClauseRead
clause_layer k = record { patterns = k.patterns; guard = guard k.guard; body = body k.body }

abbrev pub line_layer : o.Line-F t.Pattern t.Generator QualifierRead t.Tree ClauseRead LineRead SegmentRead → LineRead
line_layer l = record { patterns = l.patterns; value = l.value }

abbrev pub segment_layer : o.Segment-F t.Pattern t.Generator QualifierRead t.Tree ClauseRead LineRead SegmentRead → SegmentRead
segment_layer s = record { typed = s.typed; target = target_of s.target; size = s.size }

abbrev pub generator_of : Generator → t.Generator
generator_of g = fold-Generator t.Pattern t.Generator QualifierRead t.Tree ClauseRead LineRead SegmentRead pattern_layer generator_layer qualifier_layer tree_layer clause_layer line_layer segment_layer g

abbrev pub pattern_of : Pattern → t.Pattern
pattern_of q = fold-Pattern t.Pattern t.Generator QualifierRead t.Tree ClauseRead LineRead SegmentRead pattern_layer generator_layer qualifier_layer tree_layer clause_layer line_layer segment_layer q

abbrev pub qualifier_of : Qualifier → QualifierRead
qualifier_of q = fold-Qualifier t.Pattern t.Generator QualifierRead t.Tree ClauseRead LineRead SegmentRead pattern_layer generator_layer qualifier_layer tree_layer clause_layer line_layer segment_layer q

abbrev pub tree_of : Tree → t.Tree
tree_of u = fold-Tree t.Pattern t.Generator QualifierRead t.Tree ClauseRead LineRead SegmentRead pattern_layer generator_layer qualifier_layer tree_layer clause_layer line_layer segment_layer u

abbrev pub clause_of : Clause → ClauseRead
clause_of k = fold-Clause t.Pattern t.Generator QualifierRead t.Tree ClauseRead LineRead SegmentRead pattern_layer generator_layer qualifier_layer tree_layer clause_layer line_layer segment_layer k

abbrev pub line_of : Line → LineRead
line_of l = fold-Line t.Pattern t.Generator QualifierRead t.Tree ClauseRead LineRead SegmentRead pattern_layer generator_layer qualifier_layer tree_layer clause_layer line_layer segment_layer l

abbrev pub segment_of : Segment → SegmentRead
segment_of s = fold-Segment t.Pattern t.Generator QualifierRead t.Tree ClauseRead LineRead SegmentRead pattern_layer generator_layer qualifier_layer tree_layer clause_layer line_layer segment_layer s

abbrev pub trees_of : List Tree → t.Trees
trees_of us = trees (map tree_of us)

abbrev pub patterns_of : List Pattern → t.Patterns
patterns_of qs = patterns (map pattern_of qs)

abbrev pub segments_of : List Segment → t.Segments
segments_of ss = segments (map segment_of ss)

abbrev pub guard_of : List (List Tree) → t.Guard
guard_of uss = guard (map (map tree_of) uss)

abbrev pub body_of : List Line → t.Tree
body_of ls = body (map line_of ls)

abbrev pub clauses_of : List Clause → t.Clauses
clauses_of ks = clauses (map clause_of ks)

abbrev pub qualifiers_of : List Qualifier → Tree → t.Quals
qualifiers_of qs row = qualifiers (map qualifier_of qs) (tree_of row)

abbrev pub function_of : Function → t.Function
function_of f = record { name = f.name; arity = f.arity; exported = f.exported; clauses = clauses_of f.clauses }

abbrev pub module_meant : Code → t.Module
module_meant code = record { atoms = code.atoms; name = code.name; functions = map function_of code.functions }
