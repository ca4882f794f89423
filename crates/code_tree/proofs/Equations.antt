-- What each form of code stands for: one equation a form.
use Rattle.std.proofs.Common.{◌≡◌, ℕ, Bool, List, map, Some, None, sym, ap, ◌∙◌}
use Rattle.erl_syntax.specs.declared.typing.Typed.{Typed}
use Rattle.term_value.specs.Tree as t
use Rattle.term_value.specs.Seen.{Seen}
use Rattle.code_tree.specs.PlainTerms.{value}
use Rattle.code_tree.specs.declared.form.Form.{Form}
use Rattle.code_tree.specs.declared.clause.Clause.{Clause, out-Clause}
use Rattle.code_tree.specs.declared.clause.Line.{Line, out-Line}
use Rattle.code_tree.specs.declared.pattern.Pattern.{Pattern}
use Rattle.code_tree.specs.declared.pattern.Pattern.TheVariants as p
use Rattle.code_tree.specs.declared.pattern.Pattern.TheOpen as o
use Rattle.code_tree.specs.declared.pattern.Pattern.TheFolds.{fold-roll-Generator, fold-roll-Pattern, fold-roll-Qualifier, fold-roll-Tree, fold_out-Clause, fold_out-Line, fold_out-Segment}
use Rattle.code_tree.specs.declared.pattern.Segment.{Segment}
use Rattle.code_tree.specs.declared.pattern.Target.{Target}
use Rattle.code_tree.specs.declared.qualifier.Collected.{Collected}
use Rattle.code_tree.specs.declared.qualifier.Generator.{Generator}
use Rattle.code_tree.specs.declared.qualifier.Generator.TheVariants as g
use Rattle.code_tree.specs.declared.qualifier.Qualifier.{Qualifier}
use Rattle.code_tree.specs.declared.qualifier.Qualifier.TheVariants as q
use Rattle.code_tree.specs.declared.tree.Tree.{Tree}
use Rattle.code_tree.specs.declared.tree.Tree.TheVariants as u
use Rattle.code_tree.specs.Reading.{form_of, target_of, nothing_of, QualifierRead, Generates, Filters, ClauseRead, LineRead, SegmentRead, pattern_layer, generator_layer, qualifier_layer, tree_layer, clause_layer, line_layer, segment_layer, pattern_of, generator_of, qualifier_of, tree_of, clause_of, line_of, segment_of, trees_of, patterns_of, segments_of, guard_of, body_of, clauses_of, qualifiers_of}

pub tree_of-Value : (v : Seen (List Bool)) → tree_of (u.Value v) ≡ t.Val (value v)
tree_of-Value v = ap tree_of (sym (u.rolls-Value v)) ∙ fold-roll-Tree t.Pattern t.Generator QualifierRead t.Tree ClauseRead LineRead SegmentRead pattern_layer generator_layer qualifier_layer tree_layer clause_layer line_layer segment_layer (o.Tree::Value v)

pub tree_of-Variable : (x : ℕ) → tree_of (u.Variable x) ≡ t.Var x
tree_of-Variable x = ap tree_of (sym (u.rolls-Variable x)) ∙ fold-roll-Tree t.Pattern t.Generator QualifierRead t.Tree ClauseRead LineRead SegmentRead pattern_layer generator_layer qualifier_layer tree_layer clause_layer line_layer segment_layer (o.Tree::Variable x)

pub tree_of-All : (form : Form) (parts : List Tree) → tree_of (u.All form parts) ≡ t.All (form_of form) (trees_of parts)
tree_of-All form parts = ap tree_of (sym (u.rolls-All form parts)) ∙ fold-roll-Tree t.Pattern t.Generator QualifierRead t.Tree ClauseRead LineRead SegmentRead pattern_layer generator_layer qualifier_layer tree_layer clause_layer line_layer segment_layer (o.All form parts)

pub tree_of-Case : (v : Tree) (ks : List Clause) → tree_of (u.Case v ks) ≡ t.First (tree_of v) (t.Alts (clauses_of ks))
tree_of-Case v ks = ap tree_of (sym (u.rolls-Case v ks)) ∙ fold-roll-Tree t.Pattern t.Generator QualifierRead t.Tree ClauseRead LineRead SegmentRead pattern_layer generator_layer qualifier_layer tree_layer clause_layer line_layer segment_layer (o.Case v ks)

pub tree_of-AndAlso : (v : Tree) (w : Tree) → tree_of (u.AndAlso v w) ≡ t.First (tree_of v) (t.AndAlso (tree_of w))
tree_of-AndAlso v w = ap tree_of (sym (u.rolls-AndAlso v w)) ∙ fold-roll-Tree t.Pattern t.Generator QualifierRead t.Tree ClauseRead LineRead SegmentRead pattern_layer generator_layer qualifier_layer tree_layer clause_layer line_layer segment_layer (o.AndAlso v w)

pub tree_of-OrElse : (v : Tree) (w : Tree) → tree_of (u.OrElse v w) ≡ t.First (tree_of v) (t.OrElse (tree_of w))
tree_of-OrElse v w = ap tree_of (sym (u.rolls-OrElse v w)) ∙ fold-roll-Tree t.Pattern t.Generator QualifierRead t.Tree ClauseRead LineRead SegmentRead pattern_layer generator_layer qualifier_layer tree_layer clause_layer line_layer segment_layer (o.OrElse v w)

pub tree_of-If : (ks : List Clause) → tree_of (u.If ks) ≡ t.Choose (clauses_of ks)
tree_of-If ks = ap tree_of (sym (u.rolls-If ks)) ∙ fold-roll-Tree t.Pattern t.Generator QualifierRead t.Tree ClauseRead LineRead SegmentRead pattern_layer generator_layer qualifier_layer tree_layer clause_layer line_layer segment_layer (o.If ks)

pub tree_of-Receive : (ks : List Clause) → tree_of (u.Receive ks) ≡ t.Receive (clauses_of ks)
tree_of-Receive ks = ap tree_of (sym (u.rolls-Receive ks)) ∙ fold-roll-Tree t.Pattern t.Generator QualifierRead t.Tree ClauseRead LineRead SegmentRead pattern_layer generator_layer qualifier_layer tree_layer clause_layer line_layer segment_layer (o.Receive ks)

pub tree_of-Comprehension : (collected : Collected) (qs : List Qualifier) (row : Tree) → tree_of (u.Comprehension collected qs row) ≡ t.Gather (nothing_of collected) (qualifiers_of qs row) t.bottom
tree_of-Comprehension collected qs row = ap tree_of (sym (u.rolls-Comprehension collected qs row)) ∙ fold-roll-Tree t.Pattern t.Generator QualifierRead t.Tree ClauseRead LineRead SegmentRead pattern_layer generator_layer qualifier_layer tree_layer clause_layer line_layer segment_layer (o.Comprehension collected qs row)

pub pattern_of-Anything : pattern_of p.Anything ≡ t.PWild
pattern_of-Anything = ap pattern_of (sym p.rolls-Anything) ∙ fold-roll-Pattern t.Pattern t.Generator QualifierRead t.Tree ClauseRead LineRead SegmentRead pattern_layer generator_layer qualifier_layer tree_layer clause_layer line_layer segment_layer o.Anything

pub pattern_of-Variable : (x : ℕ) → pattern_of (p.Variable x) ≡ t.PVar x
pattern_of-Variable x = ap pattern_of (sym (p.rolls-Variable x)) ∙ fold-roll-Pattern t.Pattern t.Generator QualifierRead t.Tree ClauseRead LineRead SegmentRead pattern_layer generator_layer qualifier_layer tree_layer clause_layer line_layer segment_layer (o.Pattern::Variable x)

pub pattern_of-Value : (v : Seen (List Bool)) → pattern_of (p.Value v) ≡ t.PVal (value v)
pattern_of-Value v = ap pattern_of (sym (p.rolls-Value v)) ∙ fold-roll-Pattern t.Pattern t.Generator QualifierRead t.Tree ClauseRead LineRead SegmentRead pattern_layer generator_layer qualifier_layer tree_layer clause_layer line_layer segment_layer (o.Pattern::Value v)

pub pattern_of-Tuple : (ps : List Pattern) → pattern_of (p.Tuple ps) ≡ t.PTuple (patterns_of ps)
pattern_of-Tuple ps = ap pattern_of (sym (p.rolls-Tuple ps)) ∙ fold-roll-Pattern t.Pattern t.Generator QualifierRead t.Tree ClauseRead LineRead SegmentRead pattern_layer generator_layer qualifier_layer tree_layer clause_layer line_layer segment_layer (o.Tuple ps)

pub pattern_of-List : (ps : List Pattern) → pattern_of (p.List ps) ≡ t.PList (patterns_of ps)
pattern_of-List ps = ap pattern_of (sym (p.rolls-List ps)) ∙ fold-roll-Pattern t.Pattern t.Generator QualifierRead t.Tree ClauseRead LineRead SegmentRead pattern_layer generator_layer qualifier_layer tree_layer clause_layer line_layer segment_layer (o.List ps)

pub pattern_of-ListOn : (ps : List Pattern) (tail : Pattern) → pattern_of (p.ListOn ps tail) ≡ t.PListOn (patterns_of ps) (pattern_of tail)
pattern_of-ListOn ps tail = ap pattern_of (sym (p.rolls-ListOn ps tail)) ∙ fold-roll-Pattern t.Pattern t.Generator QualifierRead t.Tree ClauseRead LineRead SegmentRead pattern_layer generator_layer qualifier_layer tree_layer clause_layer line_layer segment_layer (o.ListOn ps tail)

pub pattern_of-Bits : (ss : List Segment) → pattern_of (p.Bits ss) ≡ t.PBits (segments_of ss)
pattern_of-Bits ss = ap pattern_of (sym (p.rolls-Bits ss)) ∙ fold-roll-Pattern t.Pattern t.Generator QualifierRead t.Tree ClauseRead LineRead SegmentRead pattern_layer generator_layer qualifier_layer tree_layer clause_layer line_layer segment_layer (o.Bits ss)

pub pattern_of-Same : (ps : List Pattern) → pattern_of (p.Same ps) ≡ t.PSame (patterns_of ps)
pattern_of-Same ps = ap pattern_of (sym (p.rolls-Same ps)) ∙ fold-roll-Pattern t.Pattern t.Generator QualifierRead t.Tree ClauseRead LineRead SegmentRead pattern_layer generator_layer qualifier_layer tree_layer clause_layer line_layer segment_layer (o.Same ps)

pub generator_of-InList : (pattern : Pattern) → generator_of (g.InList pattern) ≡ t.InList (pattern_of pattern)
generator_of-InList pattern = ap generator_of (sym (g.rolls-InList pattern)) ∙ fold-roll-Generator t.Pattern t.Generator QualifierRead t.Tree ClauseRead LineRead SegmentRead pattern_layer generator_layer qualifier_layer tree_layer clause_layer line_layer segment_layer (o.InList pattern)

pub generator_of-InBits : (ss : List Segment) (shape : List Segment) → generator_of (g.InBits ss shape) ≡ t.InBits (segments_of ss) (segments_of shape)
generator_of-InBits ss shape = ap generator_of (sym (g.rolls-InBits ss shape)) ∙ fold-roll-Generator t.Pattern t.Generator QualifierRead t.Tree ClauseRead LineRead SegmentRead pattern_layer generator_layer qualifier_layer tree_layer clause_layer line_layer segment_layer (o.InBits ss shape)

pub qualifier_of-Generates : (source : Tree) (generator : Generator) → qualifier_of (q.Generates source generator) ≡ Generates (tree_of source) (generator_of generator)
qualifier_of-Generates source generator = ap qualifier_of (sym (q.rolls-Generates source generator)) ∙ fold-roll-Qualifier t.Pattern t.Generator QualifierRead t.Tree ClauseRead LineRead SegmentRead pattern_layer generator_layer qualifier_layer tree_layer clause_layer line_layer segment_layer (o.Generates source generator)

pub qualifier_of-Filters : (filter : Tree) → qualifier_of (q.Filters filter) ≡ Filters (tree_of filter)
qualifier_of-Filters filter = ap qualifier_of (sym (q.rolls-Filters filter)) ∙ fold-roll-Qualifier t.Pattern t.Generator QualifierRead t.Tree ClauseRead LineRead SegmentRead pattern_layer generator_layer qualifier_layer tree_layer clause_layer line_layer segment_layer (o.Filters filter)

pub clause_of-parts : (k : Clause) → clause_of k ≡ record { patterns = map pattern_of (out-Clause k).patterns; guard = guard_of (out-Clause k).guard; body = body_of (out-Clause k).body }
clause_of-parts k = fold_out-Clause t.Pattern t.Generator QualifierRead t.Tree ClauseRead LineRead SegmentRead pattern_layer generator_layer qualifier_layer tree_layer clause_layer line_layer segment_layer k

pub line_of-parts : (l : Line) → line_of l ≡ record { patterns = map pattern_of (out-Line l).patterns; value = tree_of (out-Line l).value }
line_of-parts l = fold_out-Line t.Pattern t.Generator QualifierRead t.Tree ClauseRead LineRead SegmentRead pattern_layer generator_layer qualifier_layer tree_layer clause_layer line_layer segment_layer l

pub segment_of-Plain : (typed : Typed) (target : Target) → segment_of (record { typed = typed; target = target; size = None }) ≡ record { typed = typed; target = target_of target; size = None }
segment_of-Plain typed target = fold_out-Segment t.Pattern t.Generator QualifierRead t.Tree ClauseRead LineRead SegmentRead pattern_layer generator_layer qualifier_layer tree_layer clause_layer line_layer segment_layer (record { typed = typed; target = target; size = None })

pub segment_of-Sized : (typed : Typed) (target : Target) (size : Tree) → segment_of (record { typed = typed; target = target; size = Some size }) ≡ record { typed = typed; target = target_of target; size = Some (tree_of size) }
segment_of-Sized typed target size = fold_out-Segment t.Pattern t.Generator QualifierRead t.Tree ClauseRead LineRead SegmentRead pattern_layer generator_layer qualifier_layer tree_layer clause_layer line_layer segment_layer (record { typed = typed; target = target; size = Some size })
