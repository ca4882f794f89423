-- The guards, bodies, clauses and comprehensions of a function of an accepted module: the sizes inside have their form.
use Rattle.std.proofs.Common.{◌≡◌, List, [], ◌∷◌, ◌++◌, map, reverse, refl, sym, ap, subst}
use Rattle.std.specs.List.{AllByRecursion, Contains}
use Rattle.erl_syntax.specs.Bindings.{targets, targets_of, segment_targets}
use Rattle.erl_syntax.specs.Grammar.{Mode, InBody, InGuard}
use Rattle.erl_syntax.specs.Scopes.{Scope, AnExpr, APattern, ABody, Chooses, Comprehends, HasSource, IsAlt, IsBranch as IsBranchOf, case, receive, list, bits, items, filter, with_known, behind, in_guard, to_match, to_generate, generated, past_items, past_quals, past_row, past_segments, is_empty, item_value, item_pattern, alt_pattern, alt_guard, alt_body, if_guard, if_body, row, source, generator, bit_generator}
use Rattle.erl_syntax.specs.declared.span.Span.{Span}
use Rattle.erl_syntax.specs.declared.expr.Expr.{Expr}
use Rattle.erl_syntax.specs.declared.expr.Expr.TheVariants as x
use Rattle.erl_syntax.specs.declared.expr.Expr.TheOpen as O
use Rattle.erl_syntax.specs.declared.pattern.Pattern.{Pattern}
use Rattle.erl_syntax.specs.declared.qual.Qual.{Qual}
use Rattle.erl_syntax.specs.declared.qual.Qual.TheVariants as q
use Rattle.erl_syntax.specs.declared.segment.Segment.{Segment}
use Rattle.erl_syntax.specs.declared.clause.Guard.{Guard}
use Rattle.erl_syntax.specs.declared.clause.Item.{Item}
use Rattle.erl_syntax.specs.declared.clause.Alt.{Alt, roll-Alt, out-roll-Alt}
use Rattle.erl_syntax.specs.declared.clause.Branch.{Branch, roll-Branch, out-roll-Branch}
use Rattle.erl_syntax.specs.declared.typing.SideUse.TheVariants as side
use Rattle.module_check.proofs.Spots.{Contains-head, Contains-tail, cut_in}
use Rattle.module_check.proofs.Standing.{left_known}
use Rattle.term_layers.proofs.Readings.{expr_read, qual_read, alt_read, branch_read, pieces_read as segments_pieces, expr_read-Case, expr_read-Receive, expr_read-If, expr_read-ListFor, expr_read-BitsFor, qual_read-Items, qual_read-Bits, qual_read-Filter, alt_read-parts, branch_read-parts, guard_tree-parts, line_of-parts}
use Rattle.term_value.specs.Tree.{Items, Bits, First, Choose, Receive, Gather, Alts, bottom, no_pattern, pattern_and}
use Rattle.term_value.specs.Read.{expression, Line, segments, body, clauses, qualified}
use Rattle.term_value.specs.Read as r
use Rattle.term_value.specs.ReadTrees.{tree_of, pattern_of, guard_tree, line_of}
use Rattle.size_laws.specs.SizeForms.{HasSizes, HasTestSizes, HaveQualSizes}
use Rattle.size_laws.proofs.ReadSizes.{IsRead, IsLine, IsBranch, IsQualifier, bits_read, segments_read, body_read, guard_read, clauses_read, qualified_read}
use Rattle.size_laws.proofs.SizedExpressions.{Source, reader, IsFormed, Placed, EachPatternPlaced, EachSegmentPlaced, Sized, ExprSized, PatternSized, PatternSegmentSized, no_body, parts_placed, exprs_sized, by_read, patterns_sized, segments_sized}

contains_one : {X : Type 0} (ys front : List X) (y : X) (back : List X) → ys ≡ front ++ y ∷ back → Contains ys y
contains_one {X} ys front y back e = subst (λ (zs : List X). Contains zs y) (sym e) (cut_in front y back)

module _ (w : Source) where
  -- ---- Guards

  abbrev pub TestsPlaced : Guard → Type 0
  TestsPlaced g = (tests : List Expr) (y : Expr) → Contains g.alternatives tests → Contains tests y → Placed w (AnExpr y)

  abbrev pub GuardSized : Guard → Type 0
  GuardSized g = TestsPlaced g → HasTestSizes IsFormed (guard_tree (reader w) g)

  abbrev all_read : List (List Expr) → List (List r.Read)
  all_read tests = map (map (expr_read (reader w))) tests

  alternatives_sized : (tests : List (List Expr)) → AllByRecursion (AllByRecursion (ExprSized w InGuard)) tests → ((ts : List Expr) (y : Expr) → Contains tests ts → Contains ts y → Placed w (AnExpr y)) →
      AllByRecursion (AllByRecursion (IsRead IsFormed)) (all_read tests)
  alternatives_sized [] h at = tt
  alternatives_sized (ts ∷ tests) h at = (
    exprs_sized w InGuard ts h.0 (λ front y back e. at ts y (Contains-head ts tests) (contains_one ts front y back e)),
    alternatives_sized tests h.1 (λ us y m. at us y (Contains-tail ts tests us m)),
  )

  pub G-none : GuardSized (record { alternatives = [] })
  G-none at = (let g : Guard = record { alternatives = [] } in subst (HasTestSizes IsFormed) (sym (guard_tree-parts (reader w) g)) (tt, tt))

  pub G-of : (tests : List (List Expr)) → AllByRecursion (AllByRecursion (ExprSized w InGuard)) tests → GuardSized (record { alternatives = tests })
  G-of tests h at = (let g : Guard = record { alternatives = tests } in
      subst (HasTestSizes IsFormed) (sym (guard_tree-parts (reader w) g)) (guard_read IsFormed (all_read tests) (alternatives_sized tests h at)))

  -- ---- Items

  abbrev pub ItemSized : Item → Type 0
  ItemSized i = AllByRecursion (PatternSized w) i.patterns × Sized w i.value

  abbrev ItemPlaced : Item → Type 0
  ItemPlaced i = Placed w (AnExpr i.value) × EachPatternPlaced w i.patterns

  abbrev lines : List Item → List Line
  lines is = map (line_of (reader w)) is

  lines_sized : (is : List Item) → AllByRecursion ItemSized is → ((front : List Item) (i : Item) (back : List Item) → is ≡ front ++ i ∷ back → ItemPlaced i) → AllByRecursion (IsLine IsFormed) (lines is)
  lines_sized [] h at = tt
  lines_sized (i ∷ is) h at =
      let a = at [] i is refl in
      let one : IsLine IsFormed (line_of (reader w) i) = subst (IsLine IsFormed) (sym (line_of-parts (reader w) i)) (patterns_sized w i.patterns h.0.0 a.1, h.0.1 a.0) in
      (one, lines_sized is h.1 (λ front j back e. at (i ∷ front) j back (ap (λ zs. i ∷ zs) e)))

  pub body_sized : (is : List Item) → AllByRecursion ItemSized is → Placed w (ABody is) → HasSizes IsFormed (body (lines is))
  body_sized is h a = body_read IsFormed (lines is) (lines_sized is h (λ front i back e. (
    record { scope = past_items front a.scope; stands = item_value a.scope is front i back a.stands e },
    λ left pt right d. record { scope = to_match (with_known (targets_of (reverse right)) (past_items front a.scope)); stands = item_pattern a.scope is front i back left pt right a.stands e d },
  )))

  -- ---- Clauses of `case` and `receive`, and of `if`

  abbrev AltPlaced : Alt → Type 0
  AltPlaced a = (at : Span) (pt : Pattern) (g : Guard) (is : List Item) → a ≡ roll-Alt (record { at = at; pattern = pt; guard = g; body = is }) →
      Placed w (APattern pt) × TestsPlaced g × Placed w (ABody is)

  abbrev pub AltSized : Alt → Type 0
  AltSized a = AltPlaced a → IsBranch IsFormed (alt_read (reader w) a)

  abbrev AltLayer : Type 0
  AltLayer = O.Alt-F Expr Pattern Qual Alt Branch Guard Item Segment

  abbrev alt_parts : AltLayer → r.Branch
  alt_parts v = record { heads = pattern_and (pattern_of (reader w) v.pattern) no_pattern; guard = guard_tree (reader w) v.guard; lines = lines v.body }

  pub A-of : (at : Span) (pt : Pattern) (g : Guard) (is : List Item) → PatternSized w pt → GuardSized g → AllByRecursion ItemSized is → AltSized (roll-Alt (record { at = at; pattern = pt; guard = g; body = is }))
  A-of at pt g is hp hg hi places =
      let layer : AltLayer = record { at = at; pattern = pt; guard = g; body = is } in
      let a = places at pt g is refl in
      let done : IsBranch IsFormed (alt_parts layer) = ((hp a.0, tt), hg a.1, body_sized is hi a.2) in
      subst (IsBranch IsFormed) (sym (alt_read-parts (reader w) (roll-Alt layer))) (subst (λ (v : AltLayer). IsBranch IsFormed (alt_parts v)) (sym (out-roll-Alt layer)) done)

  abbrev BranchPlaced : Branch → Type 0
  BranchPlaced b = (at : Span) (g : Guard) (is : List Item) → b ≡ roll-Branch (record { at = at; guard = g; body = is }) → TestsPlaced g × Placed w (ABody is)

  abbrev pub BranchSized : Branch → Type 0
  BranchSized b = BranchPlaced b → IsBranch IsFormed (branch_read (reader w) b)

  abbrev BranchLayer : Type 0
  BranchLayer = O.Branch-F Expr Pattern Qual Alt Branch Guard Item Segment

  abbrev branch_parts : BranchLayer → r.Branch
  branch_parts v = record { heads = no_pattern; guard = guard_tree (reader w) v.guard; lines = lines v.body }

  pub B-of : (at : Span) (g : Guard) (is : List Item) → GuardSized g → AllByRecursion ItemSized is → BranchSized (roll-Branch (record { at = at; guard = g; body = is }))
  B-of at g is hg hi places =
      let layer : BranchLayer = record { at = at; guard = g; body = is } in
      let a = places at g is refl in
      let done : IsBranch IsFormed (branch_parts layer) = (tt, hg a.0, body_sized is hi a.1) in
      subst (IsBranch IsFormed) (sym (branch_read-parts (reader w) (roll-Branch layer))) (subst (λ (v : BranchLayer). IsBranch IsFormed (branch_parts v)) (sym (out-roll-Branch layer)) done)

  alts_sized : (alts : List Alt) → AllByRecursion AltSized alts → ((a : Alt) → Contains alts a → AltPlaced a) → AllByRecursion (IsBranch IsFormed) (map (alt_read (reader w)) alts)
  alts_sized [] h at = tt
  alts_sized (a ∷ alts) h at = (h.0 (at a (Contains-head a alts)), alts_sized alts h.1 (λ b k. at b (Contains-tail a alts b k)))

  branches_sized : (bs : List Branch) → AllByRecursion BranchSized bs → ((b : Branch) → Contains bs b → BranchPlaced b) → AllByRecursion (IsBranch IsFormed) (map (branch_read (reader w)) bs)
  branches_sized [] h at = tt
  branches_sized (b ∷ bs) h at = (h.0 (at b (Contains-head b bs)), branches_sized bs h.1 (λ d k. at d (Contains-tail b bs d k)))

  alts_placed : (e : Expr) (ys : List Expr) (alts : List Alt) → Chooses e ys alts → Placed w (AnExpr e) → (a : Alt) → Contains alts a → AltPlaced a
  alts_placed e ys alts chosen place a k at pt g is i =
      let s : Scope = place.scope in
      let among : IsAlt alts at pt g is = subst (λ (z : Alt). Contains alts z) i k in (
        record { scope = to_match (behind ys s); stands = alt_pattern s e ys alts at pt g is place.stands chosen among },
        λ tests y ht hy. record { scope = in_guard (with_known (targets pt) (behind ys s)); stands = alt_guard s e ys alts at pt g is tests y place.stands chosen among ht hy },
        record { scope = with_known (targets pt) (behind ys s); stands = alt_body s e ys alts at pt g is place.stands chosen among },
      )

  branches_placed : (e : Expr) (az : Span) (bs : List Branch) → e ≡ x.If az bs → Placed w (AnExpr e) → (b : Branch) → Contains bs b → BranchPlaced b
  branches_placed e az bs h place b k at g is i =
      let among : IsBranchOf bs at g is = subst (λ (z : Branch). Contains bs z) i k in (
        λ tests y ht hy. record { scope = in_guard place.scope; stands = if_guard place.scope e az bs at g is tests y place.stands h among ht hy },
        record { scope = place.scope; stands = if_body place.scope e az bs at g is place.stands h among },
      )

  module _ (m : Mode) where
    pub E-Case : (at : Span) (y : Expr) (alts : List Alt) → m ≡ InBody → ExprSized w m y → AllByRecursion AltSized alts → ExprSized w m (x.Case at (y ∷ []) alts)
    E-Case at y alts n h g = by_read w m e (expression (First (tree_of (reader w) y) (Alts (clauses (map (alt_read (reader w)) alts))))) (expr_read-Case (reader w) at (y ∷ []) alts)
        (λ a. (
          h.0 (parts_placed w e (y ∷ []) (case e at (y ∷ []) alts refl) a [] y [] refl),
          clauses_read IsFormed (map (alt_read (reader w)) alts) (alts_sized alts g (alts_placed e (y ∷ []) alts (case e at (y ∷ []) alts refl) a)),
        ))
        (λ k a. absurd (no_body m n k))
      where
        e : Expr
        e = x.Case at (y ∷ []) alts

    pub E-Receive : (at : Span) (alts : List Alt) → m ≡ InBody → AllByRecursion AltSized alts → ExprSized w m (x.Receive at alts)
    E-Receive at alts n g = by_read w m e (expression (Receive (clauses (map (alt_read (reader w)) alts)))) (expr_read-Receive (reader w) at alts)
        (λ a. clauses_read IsFormed (map (alt_read (reader w)) alts) (alts_sized alts g (alts_placed e [] alts (receive e at alts refl) a))) (λ k a. absurd (no_body m n k))
      where
        e : Expr
        e = x.Receive at alts

    pub E-If : (at : Span) (bs : List Branch) → m ≡ InBody → AllByRecursion BranchSized bs → ExprSized w m (x.If at bs)
    E-If at bs n g = by_read w m (x.If at bs) (expression (Choose (clauses (map (branch_read (reader w)) bs)))) (expr_read-If (reader w) at bs)
        (λ a. clauses_read IsFormed (map (branch_read (reader w)) bs) (branches_sized bs g (branches_placed (x.If at bs) at bs refl a))) (λ k a. absurd (no_body m n k))

  -- ---- Comprehensions

  -- where a qualifier stands
  pub record QualPlaced (g : Qual) : Type 0 where
    pub source : (y : Expr) → HasSource g y → Placed w (AnExpr y)
    pub items : (at : Span) (pt : Pattern) (y : Expr) → g ≡ q.Items at pt y → Placed w (APattern pt)
    pub bits : (at : Span) (sgs : List Segment) (y : Expr) → g ≡ q.Bits at sgs y → EachSegmentPlaced w sgs

  abbrev pub QualSized : Qual → Type 0
  QualSized g = QualPlaced g → IsQualifier IsFormed (qual_read (reader w) g)

  pub Q-Items : (m : Mode) (at : Span) (pt : Pattern) (y : Expr) → PatternSized w pt → ExprSized w m y → QualSized (q.Items at pt y)
  Q-Items m at pt y hp hy a = (let g : Qual = q.Items at pt y in
      subst (IsQualifier IsFormed) (sym (qual_read-Items (reader w) at pt y)) (hy.0 (a.source y (items g at pt y refl)), hp (a.items at pt y refl)))

  pub Q-Bits : (m : Mode) (at : Span) (sgs : List Segment) (y : Expr) → AllByRecursion (PatternSegmentSized w) sgs → ExprSized w m y → QualSized (q.Bits at sgs y)
  Q-Bits m at sgs y hs hy a =
      let g : Qual = q.Bits at sgs y in
      let ps = segments_pieces (reader w) sgs in
      subst (IsQualifier IsFormed) (sym (qual_read-Bits (reader w) at sgs y))
      (hy.0 (a.source y (bits g at sgs y refl)), bits_read IsFormed (segments ps) (segments_read IsFormed ps (segments_sized w sgs hs (a.bits at sgs y refl))))

  pub Q-Filter : (m : Mode) (at : Span) (y : Expr) → ExprSized w m y → QualSized (q.Filter at y)
  Q-Filter m at y hy a = (let g : Qual = q.Filter at y in subst (IsQualifier IsFormed) (sym (qual_read-Filter (reader w) at y)) (hy.0 (a.source y (filter g at y refl))))

  quals_sized : (gs : List Qual) → AllByRecursion QualSized gs → ((front : List Qual) (g : Qual) (back : List Qual) → gs ≡ front ++ g ∷ back → QualPlaced g) →
      AllByRecursion (IsQualifier IsFormed) (map (qual_read (reader w)) gs)
  quals_sized [] h at = tt
  quals_sized (g ∷ gs) h at = (h.0 (at [] g gs refl), quals_sized gs h.1 (λ front z back e. at (g ∷ front) z back (ap (λ zs. g ∷ zs) e)))

  quals_placed : (e : Expr) (ys : List Expr) (quals : List Qual) → Comprehends e ys quals → Placed w (AnExpr e) → (front : List Qual) (g : Qual) (back : List Qual) → quals ≡ front ++ g ∷ back → QualPlaced g
  quals_placed e ys quals among a front g back i =
      let s : Scope = a.scope in
      let t : Scope = past_quals front (past_row ys quals s) in
      record {
        source = λ y h. record { scope = t; stands = source s e ys quals front g back y a.stands among i h };
        items = λ at pt y h. record { scope = to_generate t; stands = generator s e ys quals front g back at pt y a.stands among i h };
        bits = λ at sgs y h left sg right d. record {
          scope = past_segments left (to_generate t);
          on = side.Generator;
          last = is_empty right;
          matches = λ j. cc j;
          left = left_known [] (segment_targets left);
          stands = bit_generator s e ys quals front g back at sgs left sg right y a.stands among i h d;
        };
      }

  comprehension : (m : Mode) (e y : Expr) (gs : List Qual) → Comprehends e (y ∷ []) gs → ExprSized w m y → AllByRecursion QualSized gs → Placed w (AnExpr e) →
      HaveQualSizes IsFormed (qualified (map (qual_read (reader w)) gs) (tree_of (reader w) y))
  comprehension m e y gs among h k a =
      let s : Scope = a.scope in
      let there : Placed w (AnExpr y) = record { scope = record s { known = generated gs s.known }; stands = row s e (y ∷ []) gs y a.stands among (Contains-head y []) } in
      qualified_read IsFormed (map (qual_read (reader w)) gs) (tree_of (reader w) y) (quals_sized gs k (quals_placed e (y ∷ []) gs among a)) (h.0 there)

  module _ (m : Mode) (at : Span) (y : Expr) (gs : List Qual) (n : m ≡ InBody) (h : ExprSized w m y) (k : AllByRecursion QualSized gs) where
    pub E-ListFor : ExprSized w m (x.ListFor at (y ∷ []) gs)
    E-ListFor = by_read w m e (expression (Gather (Items []) (qualified (map (qual_read (reader w)) gs) (tree_of (reader w) y)) bottom)) (expr_read-ListFor (reader w) at (y ∷ []) gs)
        (λ a. (comprehension m e y gs (list e at (y ∷ []) gs refl) h k a, tt)) (λ j a. absurd (no_body m n j))
      where
        e : Expr
        e = x.ListFor at (y ∷ []) gs

    pub E-BitsFor : ExprSized w m (x.BitsFor at (y ∷ []) gs)
    E-BitsFor = by_read w m e (expression (Gather (Bits []) (qualified (map (qual_read (reader w)) gs) (tree_of (reader w) y)) bottom)) (expr_read-BitsFor (reader w) at (y ∷ []) gs)
        (λ a. (comprehension m e y gs (bits e at (y ∷ []) gs refl) h k a, tt)) (λ j a. absurd (no_body m n j))
      where
        e : Expr
        e = x.BitsFor at (y ∷ []) gs
