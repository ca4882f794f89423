-- What is read has its guards and sizes in the form of guard expressions where what it is read from has: one lemma a form. Where `X`
-- holds, as in a guard, it has that form itself.
use Rattle.std.proofs.Common.{◌≢◌, ℕ, pos, List, [], ◌∷◌, ◌++◌, map, reverse, Option, Some, None, refl}
use Rattle.std.specs.List.{AllByRecursion}
use Rattle.erl_syntax.specs.declared.expr.Op.{Op}
use Rattle.erl_syntax.specs.declared.expr.Op.TheVariants as o
use Rattle.erl_syntax.specs.declared.expr.Prefix.{Prefix}
use Rattle.erl_syntax.specs.declared.segment.Spec.{Spec}
use Rattle.term_value.specs.Value.{VInt}
use Rattle.term_value.specs.Tree.{Tree, Trees, end, Pattern, Segments, no_segment, segment, Form, Table, Call, Send, Display, Spawn, All}
use Rattle.term_value.specs.Rows.{and_variable, shape_after, bits_generator}
use Rattle.term_value.specs.Read.{Read, expression, literal, trees, Piece, piece, pieces_of, pieces, before_size, parts, built_from, segments, listed, prefixed, operation, Line, patterns, from_right, last_line, body, alternatives, guard_of, Branch, clauses, Qualifier, Generates, Filters, qualified, pattern_list}
use Rattle.module_laws.proofs.Each.{each_append, each_turned}
use Rattle.module_laws.specs.GuardForms.{IsGuardForm, AreGuardForms, HasGuardForms, HaveGuardForms, HaveClauseForms, HasTestForms, HaveQualForms, HasGeneratorForms, HasPatternForms, HavePatternForms, HaveSizeForms}

module _ (X : Type 0) where
  abbrev pub IsTree : Tree → Type 0
  IsTree t = HasGuardForms t × (X → IsGuardForm t)

  abbrev pub IsRead : Read → Type 0
  IsRead rd = IsTree rd.tree

  abbrev pub AreRead : List Read → Type 0
  AreRead rds = AllByRecursion IsRead rds

  abbrev pub AreTrees : Trees → Type 0
  AreTrees ts = HaveGuardForms ts × (X → AreGuardForms ts)

  pub trees_read : (rds : List Read) → AreRead rds → AreTrees (trees rds)
  trees_read [] h = (tt, λ k. tt)
  trees_read (rd ∷ rds) h = let r = trees_read rds h.1 in ((h.0.0, r.0), λ k. (h.0.1 k, r.1 k))

  pub listed_read : (items tail : List Read) → AreRead items → AreRead tail → IsTree (listed items tail)
  listed_read items [] h g = trees_read items h
  listed_read items (rd ∷ rds) h g = trees_read (items ++ rd ∷ []) (each_append IsRead items (rd ∷ []) h (g.0, tt))

  -- a form that isn't `!`
  form_by : (form : Form) (ts : Trees) → form ≢ Send → AreGuardForms ts → IsGuardForm (All form ts)
  form_by Send ts f h = absurd (f refl)
  form_by (Table p) ts f h = h
  form_by (Call n) ts f h = h
  form_by Display ts f h = h
  form_by Spawn ts f h = h

  pub call_read : (form : Form) (rds : List Read) → form ≢ Send → AreRead rds → IsTree (All form (trees rds))
  call_read form rds f h = let r = trees_read rds h in (r.0, λ k. form_by form (trees rds) f (r.1 k))

  pub operation_read : (op : Op) (l r : Read) → (X → op ≢ o.Send) → IsRead l → IsRead r → IsTree (operation op (l ∷ r ∷ []))
  operation_read o.Send l r f h g = ((h.0, (g.0, tt)), λ k. absurd (f k refl))
  operation_read o.AndAlso l r f h g = ((h.0, g.0), λ k. (h.1 k, g.1 k))
  operation_read o.OrElse l r f h g = ((h.0, g.0), λ k. (h.1 k, g.1 k))
  operation_read _ l r f h g = ((h.0, (g.0, tt)), λ k. (h.1 k, (g.1 k, tt)))

  pub prefixed_read : (op : Prefix) (rd : Read) → IsRead rd → IsRead (prefixed op (rd ∷ []))
  prefixed_read op rd h = ((h.0, tt), λ k. (h.1 k, tt))

  -- ---- Segments

  abbrev pub OfSize : Option Tree → Type 0
  OfSize None = Unit {0}
  OfSize (Some t) = IsTree t

  abbrev pub IsPiece : Piece → Type 0
  IsPiece q = IsRead q.value × OfSize q.size

  abbrev pub ArePieces : List Piece → Type 0
  ArePieces ps = AllByRecursion IsPiece ps

  abbrev pub OfRead : Option Read → Type 0
  OfRead None = Unit {0}
  OfRead (Some rd) = IsRead rd

  piece_read : (size : Option Read) (words : List Spec) (value : Read) → OfRead size → IsRead value → IsPiece (piece size words value)
  piece_read None words value g h = (h, tt)
  piece_read (Some rd) words value g h = (h, g)

  letter_pieces : (cs : List ℕ) (size : Option Read) (words : List Spec) → OfRead size → ArePieces (map (λ c. piece size words (literal (VInt (pos c)))) cs)
  letter_pieces [] size words g = tt
  letter_pieces (c ∷ cs) size words g = (piece_read size words (literal (VInt (pos c))) g (tt, λ k. tt), letter_pieces cs size words g)

  pieces_by : (letters : Option (List ℕ)) (size : Option Read) (words : List Spec) (value : Read) → OfRead size → IsRead value → ArePieces (pieces_of letters size words value)
  pieces_by None size words value g h = (piece_read size words value g h, tt)
  pieces_by (Some cs) size words value g h = letter_pieces cs size words g

  pub pieces_read : (value : Read) (size : Option Read) (words : List Spec) → IsRead value → OfRead size → ArePieces (pieces value size words)
  pieces_read value size words h g = pieces_by value.letters size words value g h

  sized_trees : (size : Option Tree) (ts : Trees) → OfSize size → AreTrees ts → AreTrees (before_size size ts)
  sized_trees None ts h g = g
  sized_trees (Some t) ts h g = ((h.0, g.0), λ k. (h.1 k, g.1 k))

  parts_read : (ps : List Piece) → ArePieces ps → AreTrees (parts ps)
  parts_read [] h = (tt, λ k. tt)
  parts_read (q ∷ ps) h = let r = sized_trees q.size (parts ps) h.0.1 (parts_read ps h.1) in ((h.0.0.0, r.0), λ k. (h.0.0.1 k, r.1 k))

  pub built_read : (ps : List Piece) → ArePieces ps → IsRead (expression (built_from ps))
  built_read ps h = parts_read ps h

  pub segments_read : (ps : List Piece) → ArePieces ps → X → HaveSizeForms (segments ps)
  segments_read [] h k = tt
  segments_read (q ∷ ps) h k = ((sized_trees q.size end h.0.1 (tt, λ _. tt)).1 k, segments_read ps h.1 k)

shaped : (earlier : List ℕ) (ss : Segments) → HaveSizeForms ss → HaveSizeForms (shape_after earlier ss)
shaped earlier no_segment h = tt
shaped earlier (segment typed target size ss) h = (h.0, shaped (and_variable earlier target) ss h.1)

pub bits_read : (ss : Segments) → HaveSizeForms ss → HasGeneratorForms (bits_generator ss)
bits_read ss h = (h, shaped [] ss h)

-- ---- Patterns, bodies, clauses and qualifiers

abbrev pub EachPattern : List Pattern → Type 0
EachPattern ps = AllByRecursion HasPatternForms ps

pub patterns_read : (ps : List Pattern) → EachPattern ps → HavePatternForms (patterns ps)
patterns_read [] h = tt
patterns_read (q ∷ ps) h = (h.0, patterns_read ps h.1)

right_read : (ps : List Pattern) → EachPattern ps → HavePatternForms (from_right ps)
right_read ps h = patterns_read (reverse ps) (each_turned HasPatternForms ps [] h tt)

pub pattern_list_read : (items tail : List Pattern) → EachPattern items → EachPattern tail → HasPatternForms (pattern_list items tail)
pattern_list_read items [] h g = patterns_read items h
pattern_list_read items (q ∷ ps) h g = (patterns_read items h, g.0)

abbrev pub IsLine : Line → Type 0
IsLine l = EachPattern l.patterns × HasGuardForms l.value

abbrev pub EachLine : List Line → Type 0
EachLine ls = AllByRecursion IsLine ls

last_read : (ps : List Pattern) (t : Tree) → EachPattern ps → HasGuardForms t → HasGuardForms (last_line ps t)
last_read [] t h g = g
last_read (q ∷ ps) t h g = (g, right_read (q ∷ ps) h)

pub body_read : (ls : List Line) → EachLine ls → HasGuardForms (body ls)
body_read [] h = tt
body_read (l ∷ []) h = last_read l.patterns l.value h.0.0 h.0.1
body_read (l ∷ next ∷ ls) h = (h.0.1, (right_read l.patterns h.0.0, body_read (next ∷ ls) h.1))

module _ (X : Type 0) where
  abbrev pub EachTest : List (List Read) → Type 0
  EachTest tests = AllByRecursion (AreRead X) tests

  alternatives_read : (tests : List (List Read)) → X → EachTest tests → HasTestForms (alternatives (map trees tests))
  alternatives_read [] k h = tt
  alternatives_read (rds ∷ tests) k h = let r = trees_read X rds h.0 in (r.1 k, r.0, alternatives_read tests k h.1)

  pub guard_read : (tests : List (List Read)) → X → EachTest tests → HasTestForms (guard_of tests)
  guard_read [] k h = (tt, tt, tt)
  guard_read (rds ∷ tests) k h = alternatives_read (rds ∷ tests) k h

abbrev pub IsBranch : Branch → Type 0
IsBranch b = HavePatternForms b.heads × HasTestForms b.guard × EachLine b.lines

abbrev pub EachBranch : List Branch → Type 0
EachBranch bs = AllByRecursion IsBranch bs

pub clauses_read : (bs : List Branch) → EachBranch bs → HaveClauseForms (clauses bs)
clauses_read [] h = tt
clauses_read (b ∷ bs) h = (h.0.0, h.0.1, body_read b.lines h.0.2, clauses_read bs h.1)

abbrev pub IsQualifier : Qualifier → Type 0
IsQualifier (Generates t g) = HasGuardForms t × HasGeneratorForms g
IsQualifier (Filters t) = HasGuardForms t

abbrev pub EachQualifier : List Qualifier → Type 0
EachQualifier qs = AllByRecursion IsQualifier qs

pub qualified_read : (qs : List Qualifier) (t : Tree) → EachQualifier qs → HasGuardForms t → HaveQualForms (qualified qs t)
qualified_read [] t h g = g
qualified_read (Generates source generator ∷ qs) t h g = (h.0.0, h.0.1, qualified_read qs t h.1 g)
qualified_read (Filters filter ∷ qs) t h g = (h.0, qualified_read qs t h.1 g)
