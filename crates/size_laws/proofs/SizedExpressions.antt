-- The expressions and patterns of a function of an accepted module: the sizes inside have their form, and an expression that is a size
-- has it itself.
use Rattle.std.proofs.Common.{◌≡◌, ◌≢◌, ℕ, ℤ, pos, Bool, true, List, [], ◌∷◌, ◌++◌, map, Option, Some, None, refl, sym, ap, subst, ◌∙◌, ◌⊎◌, inl, inr, append_assoc}
use Rattle.std.specs.List.{AllByRecursion, Contains, flat_map}
use Rattle.erl_syntax.specs.Bindings.{Bound, segment_targets}
use Rattle.erl_syntax.specs.Checking.{IsAccepted}
use Rattle.erl_syntax.specs.Grammar.{Mode, InBody, InSize}
use Rattle.erl_syntax.specs.Scopes.{Scope, IsKnown, Part, AnExpr, APattern, ASegment, Stands, Parts, PatternParts, tuple, list, call, unary, binary, same, behind, past_patterns, past_segments, sizes_of, is_empty, part, segment, segment_value, segment_size, pattern_part, pattern_segment, pattern_size}
use Rattle.erl_syntax.specs.declared.span.Span.{Span}
use Rattle.erl_syntax.specs.declared.expr.Expr.{Expr}
use Rattle.erl_syntax.specs.declared.expr.Expr.TheVariants as x
use Rattle.erl_syntax.specs.declared.expr.Op.{Op}
use Rattle.erl_syntax.specs.declared.expr.Op.TheVariants as o
use Rattle.erl_syntax.specs.declared.expr.Prefix.{Prefix}
use Rattle.erl_syntax.specs.declared.module.Function.{Function}
use Rattle.erl_syntax.specs.declared.module.Module.{Module}
use Rattle.erl_syntax.specs.declared.pattern.Pattern.{Pattern}
use Rattle.erl_syntax.specs.declared.pattern.Pattern.TheVariants as p
use Rattle.erl_syntax.specs.declared.segment.Segment.{Segment}
use Rattle.erl_syntax.specs.declared.segment.Spec.{Spec}
use Rattle.erl_syntax.specs.declared.typing.SideUse.{SideUse}
use Rattle.erl_syntax.specs.declared.typing.SideUse.TheVariants as side
use Rattle.module_check.specs.Spots.{size_scope}
use Rattle.module_check.proofs.Standing.{a_size_scope, left_known}
use Rattle.term_layers.proofs.Readings.{expr_read, segment_read, pieces_read as segments_pieces, optional_read, expr_read-Var, expr_read-Int, expr_read-Char, expr_read-Atom, expr_read-ModuleName, expr_read-Str, expr_read-Tuple, expr_read-List, expr_read-Bits, expr_read-Call, expr_read-Unary, expr_read-Binary, pattern_of-Var, pattern_of-Wild, pattern_of-Int, pattern_of-Char, pattern_of-Atom, pattern_of-Str, pattern_of-Tuple, pattern_of-List, pattern_of-Bits, pattern_of-Same, segment_read-parts}
use Rattle.term_value.specs.BuiltIns.{integers}
use Rattle.term_value.specs.Value.{VInt, VAtom, VList}
use Rattle.term_value.specs.Tree.{MakeTuple, Table, Val, Tree, Trees, All as Evaluated, PWild, PVar, PVal, PTuple, PBits, PSame}
use Rattle.term_value.specs.Tree as tree
use Rattle.term_value.specs.Read.{Reading, Read, expression, literal, trees, listed, operation, prefixed, built_from, segments, patterns, pattern_list}
use Rattle.term_value.specs.ReadTrees.{variable, string, reading, tree_of, pattern_of}
use Rattle.scope_laws.proofs.Calls.{trees_read as trees_are}
use Rattle.module_laws.proofs.Each.{each_append}
use Rattle.module_laws.proofs.SpeltForms.{OfSome}
use Rattle.size_laws.specs.SizeForms.{is_integer_or_atom, IsSizeForm, AreSizeForms, IsSize, HasSizes, HasPatternSizes}
use Rattle.size_laws.proofs.GuardCalls.{guard_calls_are_built_in}
use Rattle.size_laws.proofs.ReadSizes.{IsRead, OfRead, IsPiece, IsSized, IsPattern, size_trees, trees_read, listed_read, operation_read, pieces_read, parts_read, pieces_sized, segments_read, patterns_read, pattern_list_read}

-- a function of an accepted module, which is read with some numbers of its variables
pub record Source : Type 0 where
  pub code : Module
  pub accepted : IsAccepted code
  pub function : Function
  pub among : Contains code.functions function
  pub number_at : Span → ℕ

abbrev pub reader : Source → Reading
reader w = reading w.number_at w.code

abbrev pub IsFormed : Trees → Type 0
IsFormed ts = IsSize is_integer_or_atom ts

pub no_body : (m : Mode) → m ≡ InBody → m ≡ InSize → ⊥
no_body m e k = cc (sym e ∙ k)

not_sent : (m : Mode) (op : Op) → (m ≡ InBody ⊎ op ≢ o.Send) → m ≡ InSize → op ≢ o.Send
not_sent m op (inl e) k = absurd (no_body m e k)
not_sent m op (inr f) k = f

operation_formed : (op : Op) (l r : Read) → op ≢ o.Send → IsSizeForm is_integer_or_atom l.tree → IsSizeForm is_integer_or_atom r.tree → IsSizeForm is_integer_or_atom (operation op (l ∷ r ∷ []))
operation_formed o.Send l r f h g = absurd (f refl)
operation_formed o.AndAlso l r f h g = (h, g)
operation_formed o.OrElse l r f h g = (h, g)
operation_formed _ l r f h g = (h, (g, tt))

module _ (w : Source) where
  -- ---- Where parts stand

  pub record Placed (part : Part) : Type 0 where
    pub scope : Scope
    pub stands : Stands w.function scope part

  -- in a guard, or in a size of a pattern
  pub record Guarded (part : Part) : Type 0 where
    pub scope : Scope
    pub guarded : scope.guarded ≡ true
    pub stands : Stands w.function scope part

  -- a segment of a bit pattern
  pub record SegmentPlaced (sg : Segment) : Type 0 where
    pub scope : Scope
    pub on : SideUse
    pub last : Bool
    pub matches : on ≢ side.Build
    pub left : (b : Bound) → Contains scope.left b → IsKnown scope.known b.name
    pub stands : Stands w.function scope (ASegment on last sg)

  abbrev pub EachPlaced : List Expr → Type 0
  EachPlaced ys = (front : List Expr) (y : Expr) (back : List Expr) → ys ≡ front ++ y ∷ back → Placed (AnExpr y)

  abbrev EachGuarded : List Expr → Type 0
  EachGuarded ys = (front : List Expr) (y : Expr) (back : List Expr) → ys ≡ front ++ y ∷ back → Guarded (AnExpr y)

  pub parts_placed : (e : Expr) (ys : List Expr) → Parts e ys → Placed (AnExpr e) → EachPlaced ys
  parts_placed e ys h a front y back i = record { scope = behind front a.scope; stands = part a.scope e ys front y back a.stands h i }

  parts_guarded : (e : Expr) (ys : List Expr) → Parts e ys → Guarded (AnExpr e) → EachGuarded ys
  parts_guarded e ys h a front y back i = record { scope = behind front a.scope; guarded = a.guarded; stands = part a.scope e ys front y back a.stands h i }

  -- ---- What is shown of an expression that stands in such a place

  abbrev pub Sized : Expr → Type 0
  Sized e = Placed (AnExpr e) → HasSizes IsFormed (tree_of (reader w) e)

  abbrev pub Formed : Mode → Expr → Type 0
  Formed m e = m ≡ InSize → Guarded (AnExpr e) → IsSizeForm is_integer_or_atom (tree_of (reader w) e)

  abbrev pub ExprSized : Mode → Expr → Type 0
  ExprSized m e = Sized e × Formed m e

  abbrev pub reads : List Expr → List Read
  reads ys = map (expr_read (reader w)) ys

  module _ (m : Mode) where
    pub exprs_sized : (ys : List Expr) → AllByRecursion (ExprSized m) ys → EachPlaced ys → AllByRecursion (IsRead IsFormed) (reads ys)
    exprs_sized [] h at = tt
    exprs_sized (y ∷ ys) h at = (h.0.0 (at [] y ys refl), exprs_sized ys h.1 (λ front z back e. at (y ∷ front) z back (ap (λ zs. y ∷ zs) e)))

    exprs_formed : (ys : List Expr) → AllByRecursion (ExprSized m) ys → m ≡ InSize → EachGuarded ys → AreSizeForms is_integer_or_atom (trees (reads ys))
    exprs_formed [] h k at = tt
    exprs_formed (y ∷ ys) h k at = (h.0.1 k (at [] y ys refl), exprs_formed ys h.1 k (λ front z back e. at (y ∷ front) z back (ap (λ zs. y ∷ zs) e)))

    -- by what the expression is read as
    pub by_read : (e : Expr) (read : Read) → expr_read (reader w) e ≡ read → (Placed (AnExpr e) → HasSizes IsFormed read.tree) →
        (m ≡ InSize → Guarded (AnExpr e) → IsSizeForm is_integer_or_atom read.tree) → ExprSized m e
    by_read e read i h g = (
      λ a. subst (λ (z : Read). HasSizes IsFormed z.tree) (sym i) (h a),
      λ k a. subst (λ (z : Read). IsSizeForm is_integer_or_atom z.tree) (sym i) (g k a),
    )

    -- ---- Leaves

    pub E-Var : (at : Span) (name : List ℕ) → ExprSized m (x.Var at name)
    E-Var at name = by_read (x.Var at name) (variable (w.number_at at)) (expr_read-Var (reader w) at name) (λ a. tt) (λ k a. tt)

    pub E-Int : (at : Span) (n : ℤ) → ExprSized m (x.Int at n)
    E-Int at n = by_read (x.Int at n) (literal (VInt n)) (expr_read-Int (reader w) at n) (λ a. tt) (λ k a. refl)

    pub E-Char : (at : Span) (n : ℕ) → ExprSized m (x.Char at n)
    E-Char at n = by_read (x.Char at n) (literal (VInt (pos n))) (expr_read-Char (reader w) at n) (λ a. tt) (λ k a. refl)

    pub E-Atom : (at : Span) (n : ℕ) → ExprSized m (x.Atom at n)
    E-Atom at n = by_read (x.Atom at n) (literal (VAtom n)) (expr_read-Atom (reader w) at n) (λ a. tt) (λ k a. refl)

    pub E-ModuleName : (at : Span) → ExprSized m (x.ModuleName at)
    E-ModuleName at = by_read (x.ModuleName at) (expression (Val (VAtom (reader w).module_name))) (expr_read-ModuleName (reader w) at) (λ a. tt) (λ k a. refl)

    pub E-Str : (at : Span) (chars : List ℕ) → m ≢ InSize → ExprSized m (x.Str at chars)
    E-Str at chars n = by_read (x.Str at chars) (string chars) (expr_read-Str (reader w) at chars) (λ a. tt) (λ k a. absurd (n k))

    -- ---- Expressions one behind another

    pub E-Tuple : (at : Span) (ys : List Expr) → m ≢ InSize → AllByRecursion (ExprSized m) ys → ExprSized m (x.Tuple at ys)
    E-Tuple at ys n h = by_read e (expression (Evaluated (Table MakeTuple) (trees (reads ys)))) (expr_read-Tuple (reader w) at ys)
        (λ a. trees_read IsFormed (reads ys) (exprs_sized ys h (parts_placed e ys (tuple e at ys refl) a))) (λ k a. absurd (n k))
      where
        e : Expr
        e = x.Tuple at ys

    pub E-List : (at : Span) (ys tail : List Expr) → m ≢ InSize → AllByRecursion (ExprSized m) ys → AllByRecursion (ExprSized m) tail → ExprSized m (x.List at ys tail)
    E-List at ys tail n h g = by_read e (expression (listed (reads ys) (reads tail))) (expr_read-List (reader w) at ys tail)
        (λ a.
        (let all : EachPlaced (ys ++ tail) = parts_placed e (ys ++ tail) (list e at ys tail refl) a in
        listed_read IsFormed (reads ys) (reads tail)
        (exprs_sized ys h (λ front y back i. all front y (back ++ tail) (ap (λ (zs : List Expr). zs ++ tail) i ∙ append_assoc front (y ∷ back) tail)))
        (exprs_sized tail g (λ front y back i. all (ys ++ front) y back (ap (λ (zs : List Expr). ys ++ zs) i ∙ sym (append_assoc ys front (y ∷ back)))))))
        (λ k a. absurd (n k))
      where
        e : Expr
        e = x.List at ys tail

    pub E-Unary : (at : Span) (op : Prefix) (y : Expr) → ExprSized m y → ExprSized m (x.Unary at op (y ∷ []))
    E-Unary at op y h = by_read e (prefixed op (reads (y ∷ []))) (expr_read-Unary (reader w) at op (y ∷ []))
        (λ a. trees_read IsFormed (reads (y ∷ [])) (exprs_sized (y ∷ []) (h, tt) (parts_placed e (y ∷ []) (unary e at op (y ∷ []) refl) a)))
        (λ k a. exprs_formed (y ∷ []) (h, tt) k (parts_guarded e (y ∷ []) (unary e at op (y ∷ []) refl) a))
      where
        e : Expr
        e = x.Unary at op (y ∷ [])

    pub E-Binary : (at : Span) (op : Op) (y z : Expr) → (m ≡ InBody ⊎ op ≢ o.Send) → ExprSized m y → ExprSized m z → ExprSized m (x.Binary at op (y ∷ z ∷ []))
    E-Binary at op y z f h g = by_read e (expression (operation op (reads (y ∷ z ∷ [])))) (expr_read-Binary (reader w) at op (y ∷ z ∷ []))
        (λ a. (let each = exprs_sized (y ∷ z ∷ []) (h, (g, tt)) (parts_placed e (y ∷ z ∷ []) (binary e at op (y ∷ z ∷ []) refl) a) in
        operation_read IsFormed op (expr_read (reader w) y) (expr_read (reader w) z) each.0 each.1.0))
        (λ k a. (let each = exprs_formed (y ∷ z ∷ []) (h, (g, tt)) k (parts_guarded e (y ∷ z ∷ []) (binary e at op (y ∷ z ∷ []) refl) a) in
        operation_formed op (expr_read (reader w) y) (expr_read (reader w) z) (not_sent m op f k) each.0 each.1.0))
      where
        e : Expr
        e = x.Binary at op (y ∷ z ∷ [])

    -- ---- Calls

    pub E-Call : (at : Span) (home : List Expr) (name : ℕ) (ys : List Expr) → AllByRecursion (ExprSized m) ys → ExprSized m (x.Call at home name ys)
    E-Call at home name ys h = (
      λ a. subst (λ (z : Read). HasSizes IsFormed z.tree) (sym (expr_read-Call (reader w) at home name ys))
          (trees_read IsFormed (reads ys) (exprs_sized ys h (parts_placed e ys (call e at home name ys refl) a))),
      λ k a. (let g = guard_calls_are_built_in w.number_at w.code a.scope at home name ys w.accepted
          (record { expr = e; is = refl; stands = record { function = w.function; among = w.among; stands = a.stands } }) a.guarded in
          subst (IsSizeForm is_integer_or_atom) (sym g.2)
          (g.1, subst (AreSizeForms is_integer_or_atom) (trees_are (reader w) ys) (exprs_formed ys h k (parts_guarded e ys (call e at home name ys refl) a)))),
    )
      where
        e : Expr
        e = x.Call at home name ys

    -- ---- Bit expressions

    abbrev pub SegmentSized : Segment → Type 0
    SegmentSized sg = ExprSized m sg.value × OfSome (ExprSized m) sg.size

    abbrev BuiltPlaced : List Segment → Type 0
    BuiltPlaced sgs = (front : List Segment) (sg : Segment) (back : List Segment) → sgs ≡ front ++ sg ∷ back → Placed (AnExpr sg.value) × ((y : Expr) → sg.size ≡ Some y → Placed (AnExpr y))

    by_size : (size : Option Expr) → OfSome (ExprSized m) size → ((y : Expr) → size ≡ Some y → Placed (AnExpr y)) → OfRead IsFormed (optional_read (reader w) size)
    by_size None h at = tt
    by_size (Some y) h at = h.0 (at y refl)

    built_sized : (sgs : List Segment) → AllByRecursion SegmentSized sgs → BuiltPlaced sgs → AllByRecursion (IsPiece IsFormed) (segments_pieces (reader w) sgs)
    built_sized [] h at = tt
    built_sized (sg ∷ sgs) h at =
        let a = at [] sg sgs refl in
        let read = expr_read (reader w) sg.value in
        let one : AllByRecursion (IsPiece IsFormed) (segment_read (reader w) sg) = subst (AllByRecursion (IsPiece IsFormed)) (sym (segment_read-parts (reader w) sg))
        (pieces_read IsFormed read (optional_read (reader w) sg.size) sg.specs (h.0.0.0 a.0) (by_size sg.size h.0.1 a.1)) in
        each_append (IsPiece IsFormed) (segment_read (reader w) sg) (segments_pieces (reader w) sgs) one (built_sized sgs h.1 (λ front z back e. at (sg ∷ front) z back (ap (λ zs. sg ∷ zs) e)))

    built_placed : (at : Span) (sgs : List Segment) → Placed (AnExpr (x.Bits at sgs)) → BuiltPlaced sgs
    built_placed at sgs a front sg back i =
        let s : Scope = behind (flat_map (λ g. g.value ∷ sizes_of g) front) a.scope in
        let st = segment a.scope (x.Bits at sgs) at sgs front sg back a.stands refl i in (
          record { scope = s; stands = segment_value s (is_empty back) sg st },
          λ y e. record { scope = behind (sg.value ∷ []) s; stands = segment_size s (is_empty back) sg y st e },
        )

    pub E-Bits : (at : Span) (sgs : List Segment) → m ≢ InSize → AllByRecursion SegmentSized sgs → ExprSized m (x.Bits at sgs)
    E-Bits at sgs n h = by_read (x.Bits at sgs) (expression (built_from (segments_pieces (reader w) sgs))) (expr_read-Bits (reader w) at sgs)
        (λ a. parts_read IsFormed (segments_pieces (reader w) sgs) (built_sized sgs h (built_placed at sgs a))) (λ k a. absurd (n k))

  -- ---- The segments of bit patterns

  abbrev pub PatternSegmentSized : Segment → Type 0
  PatternSegmentSized sg = SegmentPlaced sg → AllByRecursion (IsSized IsFormed) (segment_read (reader w) sg)

  -- the size stands in a scope of its own, as a guard
  size_formed : (sg : Segment) → SegmentPlaced sg → (size : Option Expr) → sg.size ≡ size → OfSome (ExprSized InSize) size → IsFormed (size_trees (optional_read (reader w) size))
  size_formed sg a None e h = tt
  size_formed sg a (Some y) e h =
      let s : Scope = a.scope in
      let there : Guarded (AnExpr y) = record { scope = size_scope s; guarded = refl; stands = pattern_size s (size_scope s) a.on a.last sg y a.stands a.matches e (a_size_scope s a.left) } in
      h.1 refl there

  pub R-of : (at : Span) (y : Expr) (size : Option Expr) (specs : List Spec) → OfSome (ExprSized InSize) size → PatternSegmentSized (record { at = at; value = y; size = size; specs = specs })
  R-of at y size specs h a =
      let sg : Segment = record { at = at; value = y; size = size; specs = specs } in
      subst (AllByRecursion (IsSized IsFormed)) (sym (segment_read-parts (reader w) sg))
      (pieces_sized IsFormed (expr_read (reader w) y) (optional_read (reader w) size) specs (size_formed sg a size refl h))

  abbrev pub EachSegmentPlaced : List Segment → Type 0
  EachSegmentPlaced sgs = (front : List Segment) (sg : Segment) (back : List Segment) → sgs ≡ front ++ sg ∷ back → SegmentPlaced sg

  pub segments_sized : (sgs : List Segment) → AllByRecursion PatternSegmentSized sgs → EachSegmentPlaced sgs → AllByRecursion (IsSized IsFormed) (segments_pieces (reader w) sgs)
  segments_sized [] h at = tt
  segments_sized (sg ∷ sgs) h at =
      each_append (IsSized IsFormed) (segment_read (reader w) sg) (segments_pieces (reader w) sgs) (h.0 (at [] sg sgs refl))
      (segments_sized sgs h.1 (λ front z back e. at (sg ∷ front) z back (ap (λ zs. sg ∷ zs) e)))

  -- ---- Patterns

  abbrev pub PatternSized : Pattern → Type 0
  PatternSized pt = Placed (APattern pt) → HasPatternSizes IsFormed (pattern_of (reader w) pt)

  abbrev pub EachPatternPlaced : List Pattern → Type 0
  EachPatternPlaced ps = (front : List Pattern) (pt : Pattern) (back : List Pattern) → ps ≡ front ++ pt ∷ back → Placed (APattern pt)

  abbrev pub of_all : List Pattern → List tree.Pattern
  of_all ps = map (pattern_of (reader w)) ps

  pub patterns_sized : (ps : List Pattern) → AllByRecursion PatternSized ps → EachPatternPlaced ps → AllByRecursion (IsPattern IsFormed) (of_all ps)
  patterns_sized [] h at = tt
  patterns_sized (pt ∷ ps) h at = (h.0 (at [] pt ps refl), patterns_sized ps h.1 (λ front y back e. at (pt ∷ front) y back (ap (λ zs. pt ∷ zs) e)))

  pattern_parts_placed : (pt : Pattern) (ps : List Pattern) → PatternParts pt ps → Placed (APattern pt) → EachPatternPlaced ps
  pattern_parts_placed pt ps h a front y back e = record { scope = past_patterns front a.scope; stands = pattern_part a.scope pt ps front y back a.stands h e }

  by_reading : (pt : Pattern) (read : tree.Pattern) → pattern_of (reader w) pt ≡ read → (Placed (APattern pt) → HasPatternSizes IsFormed read) → PatternSized pt
  by_reading pt read e h a = subst (HasPatternSizes IsFormed) (sym e) (h a)

  pub P-Var : (at : Span) (name : List ℕ) → PatternSized (p.Var at name)
  P-Var at name = by_reading (p.Var at name) (PVar (w.number_at at)) (pattern_of-Var (reader w) at name) (λ a. tt)

  pub P-Wild : (at : Span) → PatternSized (p.Wild at)
  P-Wild at = by_reading (p.Wild at) PWild (pattern_of-Wild (reader w) at) (λ a. tt)

  pub P-Int : (at : Span) (n : ℤ) → PatternSized (p.Int at n)
  P-Int at n = by_reading (p.Int at n) (PVal (VInt n)) (pattern_of-Int (reader w) at n) (λ a. tt)

  pub P-Char : (at : Span) (n : ℕ) → PatternSized (p.Char at n)
  P-Char at n = by_reading (p.Char at n) (PVal (VInt (pos n))) (pattern_of-Char (reader w) at n) (λ a. tt)

  pub P-Atom : (at : Span) (n : ℕ) → PatternSized (p.Atom at n)
  P-Atom at n = by_reading (p.Atom at n) (PVal (VAtom n)) (pattern_of-Atom (reader w) at n) (λ a. tt)

  pub P-Str : (at : Span) (chars : List ℕ) → PatternSized (p.Str at chars)
  P-Str at chars = by_reading (p.Str at chars) (PVal (VList (integers chars))) (pattern_of-Str (reader w) at chars) (λ a. tt)

  pub P-Tuple : (at : Span) (ps : List Pattern) → AllByRecursion PatternSized ps → PatternSized (p.Tuple at ps)
  P-Tuple at ps h = by_reading (p.Tuple at ps) (PTuple (patterns (of_all ps))) (pattern_of-Tuple (reader w) at ps)
      (λ a. patterns_read IsFormed (of_all ps) (patterns_sized ps h (pattern_parts_placed (p.Tuple at ps) ps (tuple (p.Tuple at ps) at ps refl) a)))

  pub P-Same : (at : Span) (ps : List Pattern) → AllByRecursion PatternSized ps → PatternSized (p.Same at ps)
  P-Same at ps h = by_reading (p.Same at ps) (PSame (patterns (of_all ps))) (pattern_of-Same (reader w) at ps)
      (λ a. patterns_read IsFormed (of_all ps) (patterns_sized ps h (pattern_parts_placed (p.Same at ps) ps (same (p.Same at ps) at ps refl) a)))

  pub P-List : (at : Span) (ps tail : List Pattern) → AllByRecursion PatternSized ps → AllByRecursion PatternSized tail → PatternSized (p.List at ps tail)
  P-List at ps tail h g = by_reading (p.List at ps tail) (pattern_list (of_all ps) (of_all tail)) (pattern_of-List (reader w) at ps tail) (λ a.
      (let all : EachPatternPlaced (ps ++ tail) = pattern_parts_placed (p.List at ps tail) (ps ++ tail) (list (p.List at ps tail) at ps tail refl) a in
      pattern_list_read IsFormed (of_all ps) (of_all tail)
      (patterns_sized ps h (λ front y back i. all front y (back ++ tail) (ap (λ (zs : List Pattern). zs ++ tail) i ∙ append_assoc front (y ∷ back) tail)))
      (patterns_sized tail g (λ front y back i. all (ps ++ front) y back (ap (λ (zs : List Pattern). ps ++ zs) i ∙ sym (append_assoc ps front (y ∷ back)))))))

  pub P-Bits : (at : Span) (sgs : List Segment) → AllByRecursion PatternSegmentSized sgs → PatternSized (p.Bits at sgs)
  P-Bits at sgs h = by_reading (p.Bits at sgs) (PBits (segments (segments_pieces (reader w) sgs))) (pattern_of-Bits (reader w) at sgs)
      (λ a. segments_read IsFormed (segments_pieces (reader w) sgs) (segments_sized sgs h (placed a)))
    where
      placed : Placed (APattern (p.Bits at sgs)) → EachSegmentPlaced sgs
      placed a front sg back e = record {
        scope = past_segments front a.scope;
        on = side.Match;
        last = is_empty back;
        matches = λ i. cc i;
        left = left_known a.scope.known (segment_targets front);
        stands = pattern_segment a.scope (p.Bits at sgs) at sgs front sg back a.stands refl e;
      }
