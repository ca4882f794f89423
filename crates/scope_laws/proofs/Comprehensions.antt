-- The comprehensions of a function of an accepted module: the variables of generators are new ones, and the row sees them all.
use Rattle.std.proofs.Common.{◌≡◌, ℕ, Bool, List, [], ◌∷◌, ◌++◌, map, refl, sym, ap, subst, ◌∙◌, inl, inr, append_assoc, append-nil}
use Rattle.std.specs.List.{AllByRecursion, Contains}
use Rattle.std.proofs.lemmas.List.Elements.{Contains-append_left, Contains-append_right}
use Rattle.erl_syntax.specs.Bindings.{Bound, targets, segment_targets, new_names}
use Rattle.erl_syntax.specs.Scopes.{Scope, Comprehends, HasSource, list, bits, items, filter, generated, past_quals, past_row, past_segments, to_generate, is_empty, row, source, generator, bit_generator}
use Rattle.erl_syntax.specs.declared.span.Span.{Span}
use Rattle.erl_syntax.specs.declared.expr.Expr.{Expr}
use Rattle.erl_syntax.specs.declared.expr.Expr.TheVariants as x
use Rattle.erl_syntax.specs.declared.pattern.Pattern.{Pattern}
use Rattle.erl_syntax.specs.declared.qual.Qual.{Qual}
use Rattle.erl_syntax.specs.declared.qual.Qual.TheVariants as q
use Rattle.erl_syntax.specs.declared.segment.Segment.{Segment}
use Rattle.erl_syntax.specs.declared.typing.SideUse.TheVariants as side
use Rattle.term_value.specs.Tree.{Items, Bits, Tree, Gather, Generator, InList, bottom, Segments}
use Rattle.term_value.specs.Rows.{bits_generator}
use Rattle.term_value.specs.Read.{expression, segments, Qualifier, Generates, Filters, qualified}
use Rattle.term_value.specs.ReadTrees.{tree_of, pattern_of}
use Rattle.term_laws.specs.Scoped.{generator_names, AreNew, IsScoped, IsGeneratorScoped, AreQualsScoped}
use Rattle.term_layers.proofs.Readings.{qual_read, pieces_read, expr_read-ListFor, expr_read-BitsFor, qual_read-Items, qual_read-Bits, qual_read-Filter}
use Rattle.term_laws.proofs.ScopedLaws.{shape_scoped}
use Rattle.module_check.proofs.Chained.{found_joined}
use Rattle.module_check.proofs.Left.{items_new, bits_new, filter_new}
use Rattle.module_check.proofs.Spots.{Contains-head, none_in}
use Rattle.module_laws.specs.Variables.{expr_spans, pattern_spans, qual_spans}
use Rattle.module_laws.proofs.VariableForms.{in_segments, in_quals, expr-OneListFor, expr-OneBitsFor, qual-Items, qual-Bits, qual-Filter}
use Rattle.scope_laws.proofs.Numbering.{Numbering, number, reader, Covers, Comes}
use Rattle.scope_laws.proofs.Known.{Free, Grows, covers_none, free_left, free_right, free_turned, free_moved, free_after, new_apart}
use Rattle.scope_laws.proofs.Segments.{ExprAt, PatternAt, SegmentWalks, SegmentsAt, Walks, pattern_segments}
use Rattle.scope_laws.proofs.Patterns.{PatternWalks}
use Rattle.scope_laws.proofs.Expressions.{by_read}
use Rattle.scope_laws.proofs.Bodies.{opens}

past_known : (gs : List Qual) (t : Scope) → (past_quals gs t).known ≡ generated gs t.known
past_known [] t = refl
past_known (g ∷ gs) t = past_known gs _

past_guarded : (gs : List Qual) (t : Scope) → (past_quals gs t).guarded ≡ t.guarded
past_guarded [] t = refl
past_guarded (g ∷ gs) t = past_guarded gs _

module _ (w : Numbering) where
  -- where a qualifier stands
  pub record QualAt (bs : List Bound) (guarded : Bool) (g : Qual) : Type 0 where
    pub source : (y : Expr) → HasSource g y → ExprAt w bs guarded y
    pub items : (at : Span) (pt : Pattern) (y : Expr) → g ≡ q.Items at pt y → PatternAt w [] bs pt
    pub bits : (at : Span) (sgs : List Segment) (y : Expr) → g ≡ q.Bits at sgs y → SegmentsAt w [] bs [] side.Generator sgs

  abbrev pub IsQualScoped : List ℕ → Qualifier → Type 0
  IsQualScoped known (Generates t gen) = IsScoped known t × IsGeneratorScoped known gen × AreNew known (generator_names gen)
  IsQualScoped known (Filters t) = IsScoped known t

  abbrev pub qual_names : Qualifier → List ℕ
  qual_names (Generates t gen) = generator_names gen
  qual_names (Filters t) = []

  -- what is shown of a qualifier, with what it reads as
  pub record QualDone (bs : List Bound) (known : List ℕ) (g : Qual) (read : Qualifier) : Type 0 where
    pub scoped : IsQualScoped known read
    pub covers : Covers w (new_names g ++ bs) (qual_names read ++ known)
    pub comes : Comes w known (qual_names read) (qual_spans g)

  abbrev pub QualWalks : Qual → Type 0
  QualWalks g = (bs : List Bound) (guarded : Bool) (known : List ℕ) → QualAt bs guarded g → Covers w bs known → Free w known (qual_spans g) → QualDone bs known g (qual_read (reader w) g)

  -- variables that hide others
  hiding : (new bs : List Bound) (names known : List ℕ) → Covers w new (names ++ []) → Covers w bs known → Covers w (new ++ bs) (names ++ known)
  hiding new bs names known h c = λ name z f. elim (found_joined new bs name z f) [
    | inl k ↦ Contains-append_left names known (number w z) (subst (λ (ns : List ℕ). Contains ns (number w z)) (append-nil names) (h name z k))
    | inr k ↦ Contains-append_right names known (number w z) (c name z k.1)
  ]

  generates : (bs : List Bound) (known : List ℕ) (g : Qual) (t : Tree) (gen : Generator) (new : List Bound) (spans others : List Span) → new ≡ new_names g → qual_spans g ≡ spans ++ others →
      IsScoped known t → IsGeneratorScoped known gen → Grows w [] new [] (generator_names gen) spans → Covers w bs known → Free w known (spans ++ others) → QualDone bs known g (Generates t gen)
  generates bs known g t gen new spans others e d h k grown c free = record {
    scoped = (h, k, new_apart w known (generator_names gen) spans (free_left w known spans others free) grown.comes);
    covers = subst (λ (zs : List Bound). Covers w (zs ++ bs) (generator_names gen ++ known)) e (hiding new bs (generator_names gen) known grown.covers c);
    comes = λ n m. elim (grown.comes n m) [
      | inl i ↦ absurd (none_in n i)
      | inr b ↦ inr (record { place = b.place; binds = b.binds; is = b.is; stands = subst (λ (zs : List Span). Contains zs b.place) (sym d) (Contains-append_left spans others b.place b.stands) })
    ];
  }

  pub Q-Items : (X : Type 0) (at : Span) (pt : Pattern) (y : Expr) → PatternWalks w pt → Walks w X y → QualWalks (q.Items at pt y)
  Q-Items X at pt y hp hy bs guarded known a c free =
      let g : Qual = q.Items at pt y in
      let parts : Free w known (pattern_spans pt ++ expr_spans y) = free_moved w known (qual_spans g) (pattern_spans pt ++ expr_spans y) (qual-Items at pt y) free in
      let one = hp [] bs [] known (a.items at pt y refl) (covers_none w []) c in
      let t : IsScoped known (tree_of (reader w) y) = opens w X y hy bs guarded known (a.source y (items g at pt y refl)) c (free_right w known (pattern_spans pt) (expr_spans y) parts) in
      subst (QualDone bs known g) (sym (qual_read-Items (reader w) at pt y))
      (generates bs known g (tree_of (reader w) y) (InList (pattern_of (reader w) pt)) (targets pt) (pattern_spans pt) (expr_spans y) (items_new g at pt y refl) (qual-Items at pt y) t one.0 one.1 c parts)

  pub Q-Bits : (X Y : Type 0) (at : Span) (sgs : List Segment) (y : Expr) → X → AllByRecursion (SegmentWalks w X) sgs → Walks w Y y → QualWalks (q.Bits at sgs y)
  Q-Bits X Y at sgs y k hs hy bs guarded known a c free =
      let g : Qual = q.Bits at sgs y in
      let parts : Free w known (in_segments sgs ++ expr_spans y) = free_moved w known (qual_spans g) (in_segments sgs ++ expr_spans y) (qual-Bits at sgs y) free in
      let ss : Segments = segments (pieces_read (reader w) sgs) in
      let one = pattern_segments w X sgs hs k side.Generator (λ e. cc e) [] bs [] known (a.bits at sgs y refl) (covers_none w []) c in
      let t : IsScoped known (tree_of (reader w) y) = opens w Y y hy bs guarded known (a.source y (bits g at sgs y refl)) c (free_right w known (in_segments sgs) (expr_spans y) parts) in
      subst (QualDone bs known g) (sym (qual_read-Bits (reader w) at sgs y))
      (generates bs known g (tree_of (reader w) y) (bits_generator ss) (segment_targets sgs) (in_segments sgs) (expr_spans y) (bits_new g at sgs y refl) (qual-Bits at sgs y) t (one.0, shape_scoped known ss one.0) one.1 c parts)

  pub Q-Filter : (X : Type 0) (at : Span) (y : Expr) → Walks w X y → QualWalks (q.Filter at y)
  Q-Filter X at y hy bs guarded known a c free =
      let g : Qual = q.Filter at y in
      subst (QualDone bs known g) (sym (qual_read-Filter (reader w) at y)) (record {
        scoped = opens w X y hy bs guarded known (a.source y (filter g at y refl)) c (free_moved w known (qual_spans g) (expr_spans y) (qual-Filter at y) free);
        covers = subst (λ (zs : List Bound). Covers w (zs ++ bs) known) (filter_new g at y refl) c;
        comes = λ n m. absurd (none_in n m);
      })

  -- ---- Qualifiers one behind another, and the row

  qual_step : (known : List ℕ) (read : Qualifier) (qs : List Qualifier) (t : Tree) → IsQualScoped known read → AreQualsScoped (qual_names read ++ known) (qualified qs t) → AreQualsScoped known (qualified (read ∷ qs) t)
  qual_step known (Generates s gen) qs t h g = (h.0, h.1, h.2, g)
  qual_step known (Filters s) qs t h g = (h, g)

  abbrev QualsAt : List Bound → Bool → List Qual → Type 0
  QualsAt bs guarded gs = (front : List Qual) (g : Qual) (back : List Qual) → gs ≡ front ++ g ∷ back → QualAt (generated front bs) guarded g

  quals_walk : (gs : List Qual) → AllByRecursion QualWalks gs → (bs : List Bound) (guarded : Bool) (known : List ℕ) → QualsAt bs guarded gs → Covers w bs known → (rest : List Span) → Free w known (in_quals gs ++ rest) →
      (t : Tree) → ((all : List ℕ) → Covers w (generated gs bs) all → Free w all rest → IsScoped all t) → AreQualsScoped known (qualified (map (qual_read (reader w)) gs) t)
  quals_walk [] h bs guarded known at c rest free t k = k known c free
  quals_walk (g ∷ gs) h bs guarded known at c rest free t k =
      let read : Qualifier = qual_read (reader w) g in
      let parts : Free w known (qual_spans g ++ (in_quals gs ++ rest)) = free_moved w known ((qual_spans g ++ in_quals gs) ++ rest) (qual_spans g ++ (in_quals gs ++ rest)) (append_assoc (qual_spans g) (in_quals gs) rest) free in
      let one = h.0 bs guarded known (at [] g gs refl) c (free_left w known (qual_spans g) (in_quals gs ++ rest) parts) in
      let more = quals_walk gs h.1 (new_names g ++ bs) guarded (qual_names read ++ known) (λ front z back e. at (g ∷ front) z back (ap (λ zs. g ∷ zs) e)) one.covers rest
      (free_after w known (qual_names read) (qual_spans g) (in_quals gs ++ rest) parts one.comes) t k in
      qual_step known read (map (qual_read (reader w)) gs) t one.scoped more

  quals_at : (e : Expr) (ys : List Expr) (quals : List Qual) → Comprehends e ys quals → (bs : List Bound) (guarded : Bool) → ExprAt w bs guarded e → QualsAt bs guarded quals
  quals_at e ys quals co bs guarded a front g back i =
      let s : Scope = a.scope in
      let t : Scope = past_quals front (past_row ys quals s) in
      let knows : t.known ≡ generated front bs = past_known front (past_row ys quals s) ∙ ap (generated front) a.knows in
      record {
        source = λ y h. record { scope = t; knows = knows; guards = past_guarded front (past_row ys quals s) ∙ a.guards; stands = source s e ys quals front g back y a.stands co i h };
        items = λ at pt y h. record { scope = to_generate t; knows = refl; sees = knows; stands = generator s e ys quals front g back at pt y a.stands co i h };
        bits = λ at sgs y h left sg right d. record {
          scope = past_segments left (to_generate t);
          last = is_empty right;
          knows = refl;
          sees = knows;
          passed = refl;
          stands = bit_generator s e ys quals front g back at sgs left sg right y a.stands co i h d;
        };
      }

  module _ (X : Type 0) (y : Expr) (gs : List Qual) (n : X → ⊥) (h : Walks w X y) (k : AllByRecursion QualWalks gs) where
    comprehension : (e : Expr) → Comprehends e (y ∷ []) gs → (bs : List Bound) (guarded : Bool) (known : List ℕ) → ExprAt w bs guarded e → Covers w bs known → Free w known (expr_spans y ++ in_quals gs) →
        AreQualsScoped known (qualified (map (qual_read (reader w)) gs) (tree_of (reader w) y))
    comprehension e co bs guarded known a c free =
        let s : Scope = a.scope in
        let there : ExprAt w (generated gs bs) guarded y = record {
          scope = record s { known = generated gs s.known };
          knows = ap (generated gs) a.knows;
          guards = a.guards;
          stands = row s e (y ∷ []) gs y a.stands co (Contains-head y []);
        } in
        quals_walk gs k bs guarded known (quals_at e (y ∷ []) gs co bs guarded a) c (expr_spans y) (free_turned w known (expr_spans y) (in_quals gs) free) (tree_of (reader w) y)
        (λ all d f. opens w X y h (generated gs bs) guarded all there d f)

    pub E-ListFor : (at : Span) → Walks w X (x.ListFor at (y ∷ []) gs)
    E-ListFor at = by_read w X e (expression (Gather (Items []) (qualified (map (qual_read (reader w)) gs) (tree_of (reader w) y)) bottom)) (expr_spans y ++ in_quals gs) (expr_read-ListFor (reader w) at (y ∷ []) gs) (expr-OneListFor at y gs)
        (λ bs guarded known a c free. ((comprehension e (list e at (y ∷ []) gs refl) bs guarded known a c (free n), tt), λ m t. absurd (n m)))
      where
        e : Expr
        e = x.ListFor at (y ∷ []) gs

    pub E-BitsFor : (at : Span) → Walks w X (x.BitsFor at (y ∷ []) gs)
    E-BitsFor at = by_read w X e (expression (Gather (Bits []) (qualified (map (qual_read (reader w)) gs) (tree_of (reader w) y)) bottom)) (expr_spans y ++ in_quals gs) (expr_read-BitsFor (reader w) at (y ∷ []) gs) (expr-OneBitsFor at y gs)
        (λ bs guarded known a c free. ((comprehension e (bits e at (y ∷ []) gs refl) bs guarded known a c (free n), tt), λ m t. absurd (n m)))
      where
        e : Expr
        e = x.BitsFor at (y ∷ []) gs
