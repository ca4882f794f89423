-- The expressions of a function of an accepted module: each variable is known where it stands, and guards and sizes are tests.
use Rattle.std.proofs.Common.{◌≡◌, ◌≢◌, ℕ, ℤ, pos, Bool, true, List, [], ◌∷◌, ◌++◌, map, Option, Some, None, refl, sym, ap, subst, ◌∙◌, append_assoc}
use Rattle.std.specs.List.{AllByRecursion, flat_map}
use Rattle.erl_syntax.specs.Bindings.{Bound}
use Rattle.erl_syntax.specs.Checking.{IsRead, IsCalled}
use Rattle.erl_syntax.specs.Scopes.{Scope, Parts, tuple, list, call, unary, binary, behind, sizes_of, is_empty, part, segment, segment_value, segment_size}
use Rattle.erl_syntax.specs.declared.span.Span.{Span}
use Rattle.erl_syntax.specs.declared.expr.Expr.{Expr}
use Rattle.erl_syntax.specs.declared.expr.Expr.TheVariants as x
use Rattle.erl_syntax.specs.declared.expr.Op.{Op}
use Rattle.erl_syntax.specs.declared.expr.Op.TheVariants as o
use Rattle.erl_syntax.specs.declared.expr.Prefix.{Prefix}
use Rattle.erl_syntax.specs.declared.segment.Segment.{Segment}
use Rattle.erl_syntax.specs.declared.segment.Spec.{Spec}
use Rattle.term_value.specs.Value.{VInt, VAtom}
use Rattle.erl_syntax.specs.Atoms.{a_ok}
use Rattle.term_value.specs.Tree.{MakeTuple, Table, Tree, Trees, Val, All as Evaluated}
use Rattle.term_laws.specs.GuardLaws.{IsTest, AreTests}
use Rattle.term_value.specs.Read.{Read, expression, literal, trees, Piece, piece, pieces_of, before_size, parts, built_from, listed, prefixed, operation}
use Rattle.term_value.specs.ReadTrees.{variable, string, tree_of}
use Rattle.term_laws.specs.Scoped.{IsScoped, AreScoped}
use Rattle.term_layers.proofs.Readings.{expr_read, segment_read, pieces_read, optional_read, expr_read-Var, expr_read-Wild, expr_read-Int, expr_read-Char, expr_read-Atom, expr_read-ModuleName, expr_read-Str, expr_read-Tuple, expr_read-List, expr_read-Bits, expr_read-Call, expr_read-Unary, expr_read-Binary, segment_read-parts}
use Rattle.module_laws.specs.Variables.{expr_spans, segment_spans}
use Rattle.module_laws.proofs.VariableForms.{in_exprs, in_segments, in_size, expr-Var, expr-Wild, expr-Int, expr-Char, expr-Atom, expr-ModuleName, expr-Str, expr-Tuple, expr-List, expr-Bits, expr-Call, expr-Unary, expr-Binary, segment-of}
use Rattle.scope_laws.proofs.Calls.{primitive, trees_read}
use Rattle.scope_laws.proofs.Numbering.{Numbering, number, reader, Covers, covers_moved, read_known}
use Rattle.scope_laws.proofs.Known.{Free, free_left, free_right, free_moved}
use Rattle.scope_laws.proofs.Segments.{ExprAt, IsFine, Walks, SegmentWalks}
use Rattle.module_laws.proofs.SpeltForms.{OfSome}

module _ (w : Numbering) where
  abbrev pub AreFine : List ℕ → Bool → Type 0 → Trees → Type 0
  AreFine known guarded X ts = AreScoped known ts × (X → guarded ≡ true → AreTests ts)

  abbrev pub reads : List Expr → List Read
  reads ys = map (expr_read (reader w)) ys

  abbrev pub ExprsAt : List Bound → Bool → List Expr → Type 0
  ExprsAt bs guarded ys = (front : List Expr) (y : Expr) (back : List Expr) → ys ≡ front ++ y ∷ back → ExprAt w bs guarded y

  module _ (X : Type 0) where
    pub exprs_walk : (ys : List Expr) → AllByRecursion (Walks w X) ys → (bs : List Bound) (guarded : Bool) (known : List ℕ) → ExprsAt bs guarded ys → Covers w bs known →
        ((X → ⊥) → Free w known (in_exprs ys)) → AreFine known guarded X (trees (reads ys))
    exprs_walk [] h bs guarded known at c free = (tt, λ k e. tt)
    exprs_walk (y ∷ ys) h bs guarded known at c free =
        let one = h.0 bs guarded known (at [] y ys refl) c (λ n. free_left w known (expr_spans y) (in_exprs ys) (free n)) in
        let rest = exprs_walk ys h.1 bs guarded known (λ front z back e. at (y ∷ front) z back (ap (λ zs. y ∷ zs) e)) c (λ n. free_right w known (expr_spans y) (in_exprs ys) (free n)) in
        ((one.0, rest.0), λ k e. (one.1 k e, rest.1 k e))

    pub parts_at : (e : Expr) (ys : List Expr) → Parts e ys → (bs : List Bound) (guarded : Bool) → ExprAt w bs guarded e → ExprsAt bs guarded ys
    parts_at e ys h bs guarded a front y back i = record {
      scope = behind front a.scope;
      knows = a.knows;
      guards = a.guards;
      stands = part a.scope e ys front y back a.stands h i;
    }

    -- by what the expression is read as
    pub by_read : (e : Expr) (read : Read) (spans : List Span) → expr_read (reader w) e ≡ read → expr_spans e ≡ spans →
        ((bs : List Bound) (guarded : Bool) (known : List ℕ) → ExprAt w bs guarded e → Covers w bs known → ((X → ⊥) → Free w known spans) → IsFine w known guarded X read.tree) → Walks w X e
    by_read e read spans i d h bs guarded known at c free =
        subst (λ (z : Read). IsFine w known guarded X z.tree) (sym i) (h bs guarded known at c (λ n. free_moved w known (expr_spans e) spans d (free n)))

    -- ---- Leaves

    pub E-Var : (at : Span) (name : List ℕ) → Walks w X (x.Var at name)
    E-Var at name = by_read (x.Var at name) (variable (number w at)) (at ∷ []) (expr_read-Var (reader w) at name) (expr-Var at name) (λ bs guarded known a c free.
        (let rd : IsRead w.function a.scope at name = record { expr = x.Var at name; is = refl; stands = a.stands } in
        (read_known w a.scope at name known rd (covers_moved w bs a.scope.known known (sym a.knows) c), λ k e. tt)))

    pub E-Wild : (at : Span) → Walks w X (x.Wild at)
    E-Wild at = by_read (x.Wild at) (expression (Val (VAtom a_ok))) [] (expr_read-Wild (reader w) at) (expr-Wild at) (λ bs guarded known a c free. (tt, λ k e. tt))

    pub E-Int : (at : Span) (n : ℤ) → Walks w X (x.Int at n)
    E-Int at n = by_read (x.Int at n) (literal (VInt n)) [] (expr_read-Int (reader w) at n) (expr-Int at n) (λ bs guarded known a c free. (tt, λ k e. tt))

    pub E-Char : (at : Span) (n : ℕ) → Walks w X (x.Char at n)
    E-Char at n = by_read (x.Char at n) (literal (VInt (pos n))) [] (expr_read-Char (reader w) at n) (expr-Char at n) (λ bs guarded known a c free. (tt, λ k e. tt))

    pub E-Atom : (at : Span) (n : ℕ) → Walks w X (x.Atom at n)
    E-Atom at n = by_read (x.Atom at n) (literal (VAtom n)) [] (expr_read-Atom (reader w) at n) (expr-Atom at n) (λ bs guarded known a c free. (tt, λ k e. tt))

    pub E-ModuleName : (at : Span) → Walks w X (x.ModuleName at)
    E-ModuleName at = by_read (x.ModuleName at) (expression (Val (VAtom (reader w).module_name))) [] (expr_read-ModuleName (reader w) at) (expr-ModuleName at) (λ bs guarded known a c free. (tt, λ k e. tt))

    pub E-Str : (at : Span) (chars : List ℕ) → Walks w X (x.Str at chars)
    E-Str at chars = by_read (x.Str at chars) (string chars) [] (expr_read-Str (reader w) at chars) (expr-Str at chars) (λ bs guarded known a c free. (tt, λ k e. tt))

    -- ---- Expressions one behind another

    pub E-Tuple : (at : Span) (ys : List Expr) → AllByRecursion (Walks w X) ys → Walks w X (x.Tuple at ys)
    E-Tuple at ys h = by_read (x.Tuple at ys) (expression (Evaluated (Table MakeTuple) (trees (reads ys)))) (in_exprs ys) (expr_read-Tuple (reader w) at ys) (expr-Tuple at ys)
        (λ bs guarded known a c free. exprs_walk ys h bs guarded known (parts_at (x.Tuple at ys) ys (tuple (x.Tuple at ys) at ys refl) bs guarded a) c free)

    fine_append : (known : List ℕ) (guarded : Bool) (rds others : List Read) → AreFine known guarded X (trees rds) → AreFine known guarded X (trees others) → AreFine known guarded X (trees (rds ++ others))
    fine_append known guarded [] others h g = g
    fine_append known guarded (rd ∷ rds) others h g =
        let rest = fine_append known guarded rds others (h.0.1, λ k e. (h.1 k e).1) g in
        ((h.0.0, rest.0), λ k e. ((h.1 k e).0, rest.1 k e))

    listed_fine : (known : List ℕ) (guarded : Bool) (items tail : List Read) → AreFine known guarded X (trees items) → AreFine known guarded X (trees tail) → IsFine w known guarded X (listed items tail)
    listed_fine known guarded items [] h g = h
    listed_fine known guarded items (rd ∷ rds) h g = fine_append known guarded items (rd ∷ []) h ((g.0.0, tt), λ k e. ((g.1 k e).0, tt))

    pub E-List : (at : Span) (ys tail : List Expr) → AllByRecursion (Walks w X) ys → AllByRecursion (Walks w X) tail → Walks w X (x.List at ys tail)
    E-List at ys tail h g = by_read (x.List at ys tail) (expression (listed (reads ys) (reads tail))) (in_exprs ys ++ in_exprs tail) (expr_read-List (reader w) at ys tail) (expr-List at ys tail)
        (λ bs guarded known a c free.
        (let all : ExprsAt bs guarded (ys ++ tail) = parts_at (x.List at ys tail) (ys ++ tail) (list (x.List at ys tail) at ys tail refl) bs guarded a in
        listed_fine known guarded (reads ys) (reads tail)
        (exprs_walk ys h bs guarded known (λ front y back e. all front y (back ++ tail) (ap (λ (zs : List Expr). zs ++ tail) e ∙ append_assoc front (y ∷ back) tail)) c (λ n. free_left w known (in_exprs ys) (in_exprs tail) (free n)))
        (exprs_walk tail g bs guarded known (λ front y back e. all (ys ++ front) y back (ap (λ (zs : List Expr). ys ++ zs) e ∙ sym (append_assoc ys front (y ∷ back)))) c (λ n. free_right w known (in_exprs ys) (in_exprs tail) (free n)))))

    pub E-Unary : (at : Span) (op : Prefix) (y : Expr) → Walks w X y → Walks w X (x.Unary at op (y ∷ []))
    E-Unary at op y h = by_read e (prefixed op (reads (y ∷ []))) (in_exprs (y ∷ [])) (expr_read-Unary (reader w) at op (y ∷ [])) (expr-Unary at op (y ∷ []))
        (λ bs guarded known a c free. exprs_walk (y ∷ []) (h, tt) bs guarded known (parts_at e (y ∷ []) (unary e at op (y ∷ []) refl) bs guarded a) c free)
      where
        e : Expr
        e = x.Unary at op (y ∷ [])

    operation_fine : (known : List ℕ) (guarded : Bool) (op : Op) (a b : Read) → (X → op ≢ o.Send) → AreFine known guarded X (trees (a ∷ b ∷ [])) → IsFine w known guarded X (operation op (a ∷ b ∷ []))
    operation_fine known guarded o.Send a b f h = (h.0, λ k e. absurd (f k refl))
    operation_fine known guarded o.AndAlso a b f h = ((h.0.0, h.0.1.0), λ k e. ((h.1 k e).0, (h.1 k e).1.0))
    operation_fine known guarded o.OrElse a b f h = ((h.0.0, h.0.1.0), λ k e. ((h.1 k e).0, (h.1 k e).1.0))
    operation_fine known guarded _ a b f h = h

    pub E-Binary : (at : Span) (op : Op) (y z : Expr) → (X → op ≢ o.Send) → Walks w X y → Walks w X z → Walks w X (x.Binary at op (y ∷ z ∷ []))
    E-Binary at op y z f h g = by_read e (expression (operation op (reads (y ∷ z ∷ [])))) (in_exprs (y ∷ z ∷ [])) (expr_read-Binary (reader w) at op (y ∷ z ∷ [])) (expr-Binary at op (y ∷ z ∷ []))
        (λ bs guarded known a c free. operation_fine known guarded op (expr_read (reader w) y) (expr_read (reader w) z) f
        (exprs_walk (y ∷ z ∷ []) (h, (g, tt)) bs guarded known (parts_at e (y ∷ z ∷ []) (binary e at op (y ∷ z ∷ []) refl) bs guarded a) c free))
      where
        e : Expr
        e = x.Binary at op (y ∷ z ∷ [])

    -- ---- Calls

    call_test : (at : Span) (home : List Expr) (name : ℕ) (ys : List Expr) (s : Scope) → IsCalled w.code s at home name ys → s.guarded ≡ true → AreTests (trees (reads ys)) → IsTest (tree_of (reader w) (x.Call at home name ys))
    call_test at home name ys s called_here guarded h =
        let p = primitive (number w) w.code s at home name ys w.accepted called_here guarded in
        subst IsTest (sym p.1) (subst AreTests (trees_read (reader w) ys) h)

    pub E-Call : (at : Span) (home : List Expr) (name : ℕ) (ys : List Expr) → AllByRecursion (Walks w X) ys → Walks w X (x.Call at home name ys)
    E-Call at home name ys h bs guarded known a c free =
        let e : Expr = x.Call at home name ys in
        let all = exprs_walk ys h bs guarded known (parts_at e ys (call e at home name ys refl) bs guarded a) c
        (λ n. free_right w known (in_exprs home) (in_exprs ys) (free_moved w known (expr_spans e) (in_exprs home ++ in_exprs ys) (expr-Call at home name ys) (free n))) in (
          subst (λ (z : Read). IsScoped known z.tree) (sym (expr_read-Call (reader w) at home name ys)) all.0,
          λ k t. call_test at home name ys a.scope (record { expr = e; is = refl; stands = record { function = w.function; among = w.among; stands = a.stands } }) (a.guards ∙ t) (all.1 k t),
        )

    -- ---- Bit expressions

    abbrev SizeFine : List ℕ → Bool → Option Tree → Type 0
    SizeFine known guarded None = Unit {0}
    SizeFine known guarded (Some t) = IsFine w known guarded X t

    abbrev PieceFine : List ℕ → Bool → Piece → Type 0
    PieceFine known guarded q = IsFine w known guarded X q.value.tree × SizeFine known guarded q.size

    abbrev ReadFine : List ℕ → Bool → Option Read → Type 0
    ReadFine known guarded None = Unit {0}
    ReadFine known guarded (Some rd) = IsFine w known guarded X rd.tree

    module _ (known : List ℕ) (guarded : Bool) where
      piece_fine : (size : Option Read) (words : List Spec) (value : Read) → ReadFine known guarded size → IsFine w known guarded X value.tree → PieceFine known guarded (piece size words value)
      piece_fine None words value g h = (h, tt)
      piece_fine (Some rd) words value g h = (h, g)

      letters_fine : (letters : List ℕ) (size : Option Read) (words : List Spec) → ReadFine known guarded size → AllByRecursion (PieceFine known guarded) (map (λ c. piece size words (literal (VInt (pos c)))) letters)
      letters_fine [] size words g = tt
      letters_fine (c ∷ letters) size words g = (piece_fine size words (literal (VInt (pos c))) g (tt, λ k e. tt), letters_fine letters size words g)

      pieces_by : (letters : Option (List ℕ)) (size : Option Read) (words : List Spec) (value : Read) → ReadFine known guarded size → IsFine w known guarded X value.tree → AllByRecursion (PieceFine known guarded) (pieces_of letters size words value)
      pieces_by None size words value g h = (piece_fine size words value g h, tt)
      pieces_by (Some letters) size words value g h = letters_fine letters size words g

      pieces_append : (ps qs : List Piece) → AllByRecursion (PieceFine known guarded) ps → AllByRecursion (PieceFine known guarded) qs → AllByRecursion (PieceFine known guarded) (ps ++ qs)
      pieces_append [] qs h g = g
      pieces_append (q ∷ ps) qs h g = (h.0, pieces_append ps qs h.1 g)

      sized_fine : (size : Option Tree) (ts : Trees) → SizeFine known guarded size → AreFine known guarded X ts → AreFine known guarded X (before_size size ts)
      sized_fine None ts h g = g
      sized_fine (Some t) ts h g = ((h.0, g.0), λ k e. (h.1 k e, g.1 k e))

      parts_fine : (ps : List Piece) → AllByRecursion (PieceFine known guarded) ps → AreFine known guarded X (parts ps)
      parts_fine [] h = (tt, λ k e. tt)
      parts_fine (q ∷ ps) h = (let rest = sized_fine q.size (parts ps) h.0.1 (parts_fine ps h.1) in ((h.0.0.0, rest.0), λ k e. (h.0.0.1 k e, rest.1 k e)))

    -- a segment of a bit expression: its value, and its size
    abbrev BuiltAt : List Bound → Bool → List Segment → Type 0
    BuiltAt bs guarded sgs = (front : List Segment) (sg : Segment) (back : List Segment) → sgs ≡ front ++ sg ∷ back → ExprAt w bs guarded sg.value × ((y : Expr) → sg.size ≡ Some y → ExprAt w bs guarded y)

    by_size : (bs : List Bound) (guarded : Bool) (known : List ℕ) (size : Option Expr) → OfSome (Walks w X) size → ((y : Expr) → size ≡ Some y → ExprAt w bs guarded y) → Covers w bs known →
        ((X → ⊥) → Free w known (in_size size)) → ReadFine known guarded (optional_read (reader w) size)
    by_size bs guarded known None h at c free = tt
    by_size bs guarded known (Some y) h at c free = h bs guarded known (at y refl) c free

    built_walk : (sgs : List Segment) → AllByRecursion (SegmentWalks w X) sgs → (bs : List Bound) (guarded : Bool) (known : List ℕ) → BuiltAt bs guarded sgs → Covers w bs known →
        ((X → ⊥) → Free w known (in_segments sgs)) → AllByRecursion (PieceFine known guarded) (pieces_read (reader w) sgs)
    built_walk [] h bs guarded known at c free = tt
    built_walk (sg ∷ sgs) h bs guarded known at c free =
        let a = at [] sg sgs refl in
        let own : (X → ⊥) → Free w known (expr_spans sg.value ++ in_size sg.size) = λ n. free_moved w known (segment_spans sg) (expr_spans sg.value ++ in_size sg.size) (segment-of sg.at sg.value sg.size sg.specs)
        (free_left w known (segment_spans sg) (in_segments sgs) (free n)) in
        let value = h.0.0 bs guarded known a.0 c (λ n. free_left w known (expr_spans sg.value) (in_size sg.size) (own n)) in
        let size = by_size bs guarded known sg.size h.0.1 a.1 c (λ n. free_right w known (expr_spans sg.value) (in_size sg.size) (own n)) in
        let read = expr_read (reader w) sg.value in
        let one = subst (AllByRecursion (PieceFine known guarded)) (sym (segment_read-parts (reader w) sg)) (pieces_by known guarded read.letters (optional_read (reader w) sg.size) sg.specs read size value) in
        let rest = built_walk sgs h.1 bs guarded known (λ front z back e. at (sg ∷ front) z back (ap (λ zs. sg ∷ zs) e)) c (λ n. free_right w known (segment_spans sg) (in_segments sgs) (free n)) in
        pieces_append known guarded (segment_read (reader w) sg) (pieces_read (reader w) sgs) one rest

    built_at : (at : Span) (sgs : List Segment) (bs : List Bound) (guarded : Bool) → ExprAt w bs guarded (x.Bits at sgs) → BuiltAt bs guarded sgs
    built_at at sgs bs guarded a front sg back i =
        let s : Scope = behind (flat_map (λ g. g.value ∷ sizes_of g) front) a.scope in
        let st = segment a.scope (x.Bits at sgs) at sgs front sg back a.stands refl i in (
          record { scope = s; knows = a.knows; guards = a.guards; stands = segment_value s (is_empty back) sg st },
          λ y e. record { scope = behind (sg.value ∷ []) s; knows = a.knows; guards = a.guards; stands = segment_size s (is_empty back) sg y st e },
        )

    pub E-Bits : (at : Span) (sgs : List Segment) → AllByRecursion (SegmentWalks w X) sgs → Walks w X (x.Bits at sgs)
    E-Bits at sgs h = by_read (x.Bits at sgs) (expression (built_from (pieces_read (reader w) sgs))) (in_segments sgs) (expr_read-Bits (reader w) at sgs) (expr-Bits at sgs)
        (λ bs guarded known a c free. parts_fine known guarded (pieces_read (reader w) sgs) (built_walk sgs h bs guarded known (built_at at sgs bs guarded a) c free))
