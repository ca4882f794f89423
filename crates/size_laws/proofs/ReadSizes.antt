-- What is read has such sizes where what it is read from has: one lemma a form.
use Rattle.std.proofs.Common.{ℕ, pos, List, [], ◌∷◌, ◌++◌, map, reverse, Option, Some, None}
use Rattle.std.specs.List.{AllByRecursion}
use Rattle.erl_syntax.specs.declared.expr.Op.{Op}
use Rattle.erl_syntax.specs.declared.expr.Op.TheVariants as o
use Rattle.erl_syntax.specs.declared.segment.Spec.{Spec}
use Rattle.term_value.specs.Value.{VInt}
use Rattle.term_value.specs.Tree.{Tree, Trees, end, and, Pattern, Segments, no_segment, segment}
use Rattle.term_value.specs.Rows.{and_variable, shape_after, bits_generator}
use Rattle.term_value.specs.Read.{Read, literal, trees, Piece, piece, pieces_of, pieces, before_size, parts, segments, listed, operation, Line, patterns, from_right, last_line, body, alternatives, guard_of, Branch, clauses, Qualifier, Generates, Filters, qualified, pattern_list}
use Rattle.module_laws.proofs.Each.{each_append, each_turned}
use Rattle.size_laws.specs.SizeForms.{HasSizes, HaveSizes, HaveClauseSizes, HasTestSizes, HaveQualSizes, HasGeneratorSizes, HasPatternSizes, HavePatternSizes, HaveSegmentSizes}

-- the tree of a size, where one is written
abbrev pub size_trees : Option Read → Trees
size_trees None = end
size_trees (Some rd) = and rd.tree end

module _ (IsSuch : Trees → Type 0) where
  abbrev pub IsRead : Read → Type 0
  IsRead rd = HasSizes IsSuch rd.tree

  pub trees_read : (rds : List Read) → AllByRecursion IsRead rds → HaveSizes IsSuch (trees rds)
  trees_read [] h = tt
  trees_read (rd ∷ rds) h = (h.0, trees_read rds h.1)

  pub listed_read : (items tail : List Read) → AllByRecursion IsRead items → AllByRecursion IsRead tail → HasSizes IsSuch (listed items tail)
  listed_read items [] h g = trees_read items h
  listed_read items (rd ∷ rds) h g = trees_read (items ++ rd ∷ []) (each_append IsRead items (rd ∷ []) h (g.0, tt))

  pub operation_read : (op : Op) (l r : Read) → IsRead l → IsRead r → HasSizes IsSuch (operation op (l ∷ r ∷ []))
  operation_read o.AndAlso l r h g = (h, g)
  operation_read o.OrElse l r h g = (h, g)
  operation_read _ l r h g = (h, (g, tt))

  -- ---- The segments of a bit expression, whose value and size may have patterns inside them

  abbrev OfTree : Option Tree → Type 0
  OfTree None = Unit {0}
  OfTree (Some t) = HasSizes IsSuch t

  abbrev pub OfRead : Option Read → Type 0
  OfRead None = Unit {0}
  OfRead (Some rd) = IsRead rd

  abbrev pub IsPiece : Piece → Type 0
  IsPiece q = IsRead q.value × OfTree q.size

  piece_read : (size : Option Read) (words : List Spec) (value : Read) → OfRead size → IsRead value → IsPiece (piece size words value)
  piece_read None words value g h = (h, tt)
  piece_read (Some rd) words value g h = (h, g)

  letters_read : (cs : List ℕ) (size : Option Read) (words : List Spec) → OfRead size → AllByRecursion IsPiece (map (λ c. piece size words (literal (VInt (pos c)))) cs)
  letters_read [] size words g = tt
  letters_read (c ∷ cs) size words g = (piece_read size words (literal (VInt (pos c))) g tt, letters_read cs size words g)

  pieces_by : (letters : Option (List ℕ)) (size : Option Read) (words : List Spec) (value : Read) → OfRead size → IsRead value → AllByRecursion IsPiece (pieces_of letters size words value)
  pieces_by None size words value g h = (piece_read size words value g h, tt)
  pieces_by (Some cs) size words value g h = letters_read cs size words g

  pub pieces_read : (value : Read) (size : Option Read) (words : List Spec) → IsRead value → OfRead size → AllByRecursion IsPiece (pieces value size words)
  pieces_read value size words h g = pieces_by value.letters size words value g h

  before_read : (size : Option Tree) (ts : Trees) → OfTree size → HaveSizes IsSuch ts → HaveSizes IsSuch (before_size size ts)
  before_read None ts h g = g
  before_read (Some t) ts h g = (h, g)

  pub parts_read : (ps : List Piece) → AllByRecursion IsPiece ps → HaveSizes IsSuch (parts ps)
  parts_read [] h = tt
  parts_read (q ∷ ps) h = (h.0.0, before_read q.size (parts ps) h.0.1 (parts_read ps h.1))

  -- ---- The segments of a bit pattern

  abbrev pub IsSized : Piece → Type 0
  IsSized q = IsSuch (before_size q.size end)

  piece_sized : (size : Option Read) (words : List Spec) (value : Read) → IsSuch (size_trees size) → IsSized (piece size words value)
  piece_sized None words value h = h
  piece_sized (Some rd) words value h = h

  letters_sized : (cs : List ℕ) (size : Option Read) (words : List Spec) → IsSuch (size_trees size) → AllByRecursion IsSized (map (λ c. piece size words (literal (VInt (pos c)))) cs)
  letters_sized [] size words h = tt
  letters_sized (c ∷ cs) size words h = (piece_sized size words (literal (VInt (pos c))) h, letters_sized cs size words h)

  sized_by : (letters : Option (List ℕ)) (size : Option Read) (words : List Spec) (value : Read) → IsSuch (size_trees size) → AllByRecursion IsSized (pieces_of letters size words value)
  sized_by None size words value h = (piece_sized size words value h, tt)
  sized_by (Some cs) size words value h = letters_sized cs size words h

  pub pieces_sized : (value : Read) (size : Option Read) (words : List Spec) → IsSuch (size_trees size) → AllByRecursion IsSized (pieces value size words)
  pieces_sized value size words h = sized_by value.letters size words value h

  pub segments_read : (ps : List Piece) → AllByRecursion IsSized ps → HaveSegmentSizes IsSuch (segments ps)
  segments_read [] h = tt
  segments_read (q ∷ ps) h = (h.0, segments_read ps h.1)

  shaped : (earlier : List ℕ) (ss : Segments) → HaveSegmentSizes IsSuch ss → HaveSegmentSizes IsSuch (shape_after earlier ss)
  shaped earlier no_segment h = tt
  shaped earlier (segment typed target size ss) h = (h.0, shaped (and_variable earlier target) ss h.1)

  pub bits_read : (ss : Segments) → HaveSegmentSizes IsSuch ss → HasGeneratorSizes IsSuch (bits_generator ss)
  bits_read ss h = (h, shaped [] ss h)

  -- ---- Patterns, bodies, clauses and qualifiers

  abbrev pub IsPattern : Pattern → Type 0
  IsPattern p = HasPatternSizes IsSuch p

  pub patterns_read : (ps : List Pattern) → AllByRecursion IsPattern ps → HavePatternSizes IsSuch (patterns ps)
  patterns_read [] h = tt
  patterns_read (p ∷ ps) h = (h.0, patterns_read ps h.1)

  pub pattern_list_read : (items tail : List Pattern) → AllByRecursion IsPattern items → AllByRecursion IsPattern tail → HasPatternSizes IsSuch (pattern_list items tail)
  pattern_list_read items [] h g = patterns_read items h
  pattern_list_read items (p ∷ ps) h g = (patterns_read items h, g.0)

  right_read : (ps : List Pattern) → AllByRecursion IsPattern ps → HavePatternSizes IsSuch (from_right ps)
  right_read ps h = patterns_read (reverse ps) (each_turned IsPattern ps [] h tt)

  abbrev pub IsLine : Line → Type 0
  IsLine l = AllByRecursion IsPattern l.patterns × HasSizes IsSuch l.value

  last_read : (ps : List Pattern) (t : Tree) → AllByRecursion IsPattern ps → HasSizes IsSuch t → HasSizes IsSuch (last_line ps t)
  last_read [] t h g = g
  last_read (p ∷ ps) t h g = (g, right_read (p ∷ ps) h)

  pub body_read : (ls : List Line) → AllByRecursion IsLine ls → HasSizes IsSuch (body ls)
  body_read [] h = tt
  body_read (l ∷ []) h = last_read l.patterns l.value h.0.0 h.0.1
  body_read (l ∷ next ∷ ls) h = (h.0.1, (right_read l.patterns h.0.0, body_read (next ∷ ls) h.1))

  alternatives_read : (tests : List (List Read)) → AllByRecursion (AllByRecursion IsRead) tests → HasTestSizes IsSuch (alternatives (map trees tests))
  alternatives_read [] h = tt
  alternatives_read (rds ∷ tests) h = (trees_read rds h.0, alternatives_read tests h.1)

  pub guard_read : (tests : List (List Read)) → AllByRecursion (AllByRecursion IsRead) tests → HasTestSizes IsSuch (guard_of tests)
  guard_read [] h = (tt, tt)
  guard_read (rds ∷ tests) h = alternatives_read (rds ∷ tests) h

  abbrev pub IsBranch : Branch → Type 0
  IsBranch b = HavePatternSizes IsSuch b.heads × HasTestSizes IsSuch b.guard × HasSizes IsSuch (body b.lines)

  pub clauses_read : (bs : List Branch) → AllByRecursion IsBranch bs → HaveClauseSizes IsSuch (clauses bs)
  clauses_read [] h = tt
  clauses_read (b ∷ bs) h = (h.0.0, h.0.1, h.0.2, clauses_read bs h.1)

  abbrev pub IsQualifier : Qualifier → Type 0
  IsQualifier (Generates t g) = HasSizes IsSuch t × HasGeneratorSizes IsSuch g
  IsQualifier (Filters t) = HasSizes IsSuch t

  pub qualified_read : (qs : List Qualifier) (t : Tree) → AllByRecursion IsQualifier qs → HasSizes IsSuch t → HaveQualSizes IsSuch (qualified qs t)
  qualified_read [] t h g = g
  qualified_read (Generates source generator ∷ qs) t h g = (h.0.0, h.0.1, qualified_read qs t h.1 g)
  qualified_read (Filters filter ∷ qs) t h g = (h.0, qualified_read qs t h.1 g)
