-- The guards, bodies and clauses of a function of an accepted module.
use Rattle.std.proofs.Common.{◌≡◌, ℕ, Bool, true, List, [], ◌∷◌, ◌++◌, map, reverse, refl, sym, ap, subst, ◌∙◌, inl, inr, append-nil}
use mathlib.Core.List.{reverse_aux}
use Rattle.std.specs.List.{AllByRecursion, Contains}
use Rattle.std.proofs.lemmas.List.{reverse-reverse}
use Rattle.std.proofs.lemmas.List.Elements.{Contains-append_left, Contains-append_right, Contains-append_cases}
use Rattle.erl_syntax.specs.Bindings.{Bound, targets, targets_of}
use Rattle.erl_syntax.specs.Scopes.{Scope, AnExpr, APattern, ABody, Stands, Chooses, IsAlt, IsBranch, case, receive, with_known, behind, in_guard, to_match, past_items, item_targets, item_value, item_pattern, alt_pattern, alt_guard, alt_body, if_guard, if_body}
use Rattle.erl_syntax.specs.declared.span.Span.{Span}
use Rattle.erl_syntax.specs.declared.expr.Expr.{Expr}
use Rattle.erl_syntax.specs.declared.expr.Expr.TheVariants as x
use Rattle.erl_syntax.specs.declared.expr.Expr.TheOpen as O
use Rattle.erl_syntax.specs.declared.pattern.Pattern.{Pattern}
use Rattle.erl_syntax.specs.declared.qual.Qual.{Qual}
use Rattle.erl_syntax.specs.declared.segment.Segment.{Segment}
use Rattle.erl_syntax.specs.declared.clause.Guard.{Guard}
use Rattle.erl_syntax.specs.declared.clause.Item.{Item}
use Rattle.erl_syntax.specs.declared.clause.Alt.{Alt, roll-Alt, out-roll-Alt}
use Rattle.erl_syntax.specs.declared.clause.Branch.{Branch, roll-Branch, out-roll-Branch}
use Rattle.term_value.specs.Tree.{Tree, First, Choose, Receive, Last, Alts, no_pattern, pattern_and}
use Rattle.term_value.specs.Tree as tree
use Rattle.term_value.specs.Read.{Read, expression, trees, Line, patterns, from_right, last_line, body, alternatives, guard_of, clauses}
use Rattle.term_value.specs.Read as r
use Rattle.term_value.specs.ReadTrees.{tree_of, pattern_of, guard_tree, line_of}
use Rattle.term_laws.specs.Scoped.{pattern_names, patterns_names, IsScoped, IsGuardScoped, AreClausesScoped, ArePatternsScoped, AreScopedInTurn}
use Rattle.term_layers.proofs.Readings.{expr_read, alt_read, branch_read, expr_read-Case, expr_read-Receive, expr_read-If, alt_read-parts, branch_read-parts, guard_tree-parts, line_of-parts}
use Rattle.module_check.proofs.Complete.{reversed}
use Rattle.module_check.proofs.Spots.{Contains-head, Contains-tail, cut_in}
use Rattle.module_laws.specs.Variables.{expr_spans, pattern_spans, guard_spans, item_spans, alt_spans, branch_spans}
use Rattle.module_laws.proofs.VariableForms.{in_patterns, in_items, in_alts, in_branches, expr-OneCase, expr-Receive, expr-If, item-of, alt-of, branch-of}
use Rattle.scope_laws.proofs.Numbering.{Numbering, reader, Covers, Comes, covers_moved}
use Rattle.scope_laws.proofs.Known.{Free, Grows, free_left, free_right, free_moved, free_after, comes_more, grows_moved}
use Rattle.scope_laws.proofs.Segments.{ExprAt, PatternAt, Walks}
use Rattle.scope_laws.proofs.Patterns.{PatternWalks, InTurnAt, in_turn_walk}
use Rattle.scope_laws.proofs.Expressions.{exprs_walk, parts_at, by_read}

contains_one : {X : Type 0} (ys front : List X) (y : X) (back : List X) → ys ≡ front ++ y ∷ back → Contains ys y
contains_one {X} ys front y back e = subst (λ (zs : List X). Contains zs y) (sym e) (cut_in front y back)

each_turned : {X : Type 0} (H : X → Type 0) (ps qs : List X) → AllByRecursion H ps → AllByRecursion H qs → AllByRecursion H (reverse_aux ps qs)
each_turned H [] qs h g = g
each_turned H (q ∷ ps) qs h g = each_turned H ps (q ∷ qs) h.1 (h.0, g)

map_turned : {X Y : Type 0} (f : X → Y) (ps qs : List X) → reverse_aux (map f ps) (map f qs) ≡ map f (reverse_aux ps qs)
map_turned f [] qs = refl
map_turned f (q ∷ ps) qs = map_turned f ps (q ∷ qs)

spans_turned : (ps qs : List Pattern) (c : Span) → Contains (in_patterns (reverse_aux ps qs)) c → Contains (in_patterns ps ++ in_patterns qs) c
spans_turned [] qs c h = h
spans_turned (q ∷ ps) qs c h = elim (Contains-append_cases (in_patterns ps) (in_patterns (q ∷ qs)) c (spans_turned ps (q ∷ qs) c h)) [
  | inl k ↦ Contains-append_left (in_patterns (q ∷ ps)) (in_patterns qs) c (Contains-append_right (pattern_spans q) (in_patterns ps) c k)
  | inr k ↦ elim (Contains-append_cases (pattern_spans q) (in_patterns qs) c k) [
    | inl m ↦ Contains-append_left (in_patterns (q ∷ ps)) (in_patterns qs) c (Contains-append_left (pattern_spans q) (in_patterns ps) c m)
    | inr m ↦ Contains-append_right (in_patterns (q ∷ ps)) (in_patterns qs) c m
  ]
]

spans_of_reversed : (ps : List Pattern) (c : Span) → Contains (in_patterns (reverse ps)) c → Contains (in_patterns ps) c
spans_of_reversed ps c h = subst (λ (zs : List Span). Contains zs c) (append-nil (in_patterns ps)) (spans_turned ps [] c h)

module _ (w : Numbering) where
  -- ---- Guards

  abbrev pub GuardAt : List Bound → Guard → Type 0
  GuardAt bs g = (tests : List Expr) (y : Expr) → Contains g.alternatives tests → Contains tests y → ExprAt w bs true y

  abbrev pub GuardWalks : Guard → Type 0
  GuardWalks g = (bs : List Bound) (known : List ℕ) → GuardAt bs g → Covers w bs known → IsGuardScoped known (guard_tree (reader w) g)

  abbrev all_read : List (List Expr) → List (List Read)
  all_read tests = map (map (expr_read (reader w))) tests

  alternatives_walk : (X : Type 0) (tests : List (List Expr)) → X → AllByRecursion (AllByRecursion (Walks w X)) tests → (bs : List Bound) (known : List ℕ) →
      ((ts : List Expr) (y : Expr) → Contains tests ts → Contains ts y → ExprAt w bs true y) → Covers w bs known → IsGuardScoped known (alternatives (map trees (all_read tests)))
  alternatives_walk X [] k h bs known at c = tt
  alternatives_walk X (ts ∷ tests) k h bs known at c =
      let one = exprs_walk w X ts h.0 bs true known (λ front y back e. at ts y (Contains-head ts tests) (contains_one ts front y back e)) c (λ n. absurd (n k)) in
      (one.1 k refl, one.0, alternatives_walk X tests k h.1 bs known (λ us y m. at us y (Contains-tail ts tests us m)) c)

  guard_by : (tests : List (List Expr)) (known : List ℕ) → IsGuardScoped known (alternatives (map trees (all_read tests))) → IsGuardScoped known (guard_of (all_read tests))
  guard_by [] known h = (tt, tt, tt)
  guard_by (ts ∷ tests) known h = h

  pub G-none : GuardWalks (record { alternatives = [] })
  G-none bs known at c = (let g : Guard = record { alternatives = [] } in subst (IsGuardScoped known) (sym (guard_tree-parts (reader w) g)) (tt, tt, tt))

  pub G-of : (X : Type 0) (tests : List (List Expr)) → X → AllByRecursion (AllByRecursion (Walks w X)) tests → GuardWalks (record { alternatives = tests })
  G-of X tests k h bs known at c = (let g : Guard = record { alternatives = tests } in
      subst (IsGuardScoped known) (sym (guard_tree-parts (reader w) g)) (guard_by tests known (alternatives_walk X tests k h bs known at c)))

  -- ---- Items

  -- an expression in no guard
  abbrev pub Opens : Expr → Type 0
  Opens e = (bs : List Bound) (guarded : Bool) (known : List ℕ) → ExprAt w bs guarded e → Covers w bs known → Free w known (expr_spans e) → IsScoped known (tree_of (reader w) e)

  pub opens : (X : Type 0) (e : Expr) → Walks w X e → Opens e
  opens X e h bs guarded known at c free = (h bs guarded known at c (λ n. free)).0

  abbrev pub ItemWalks : Item → Type 0
  ItemWalks i = AllByRecursion (PatternWalks w) i.patterns × Opens i.value

  abbrev ItemStands : Scope → Item → Type 0
  ItemStands s i = Stands w.function s (AnExpr i.value)
      × ((left : List Pattern) (pt : Pattern) (right : List Pattern) → i.patterns ≡ left ++ pt ∷ right → Stands w.function (to_match (with_known (targets_of (reverse right)) s)) (APattern pt))

  -- those further right are matched before
  from_the_right : (s : Scope) (i : Item) → ItemStands s i → InTurnAt w s.known (reverse i.patterns)
  from_the_right s i st front pt back e =
      let turned : i.patterns ≡ reverse back ++ pt ∷ reverse front = sym (reverse-reverse i.patterns) ∙ ap reverse e ∙ reversed front pt back in
      record {
        scope = to_match (with_known (targets_of front) s);
        knows = refl;
        sees = refl;
        stands = subst (λ (zs : List Pattern). Stands w.function (to_match (with_known (targets_of zs) s)) (APattern pt)) (reverse-reverse front) (st.1 (reverse back) pt (reverse front) turned);
      }

  abbrev heads : Item → tree.Patterns
  heads i = from_right (map (pattern_of (reader w)) i.patterns)

  -- an item: its value, its patterns, and what is known behind it
  record ItemDone (s : Scope) (i : Item) (known : List ℕ) : Type 0 where
    pub value : IsScoped known (tree_of (reader w) i.value)
    pub matched : AreScopedInTurn known (heads i)
    pub covers : Covers w (s.known ++ item_targets i) (patterns_names (heads i) ++ known)
    pub comes : Comes w known (patterns_names (heads i)) (item_spans i)

  item_walk : (s : Scope) (i : Item) → ItemWalks i → ItemStands s i → (known : List ℕ) → Covers w s.known known → Free w known (item_spans i) → ItemDone s i known
  item_walk s i h st known c free =
      let ps : List Pattern = i.patterns in
      let spans : item_spans i ≡ in_patterns ps ++ expr_spans i.value = item-of ps i.value in
      let one = in_turn_walk w (reverse ps) (each_turned (PatternWalks w) ps [] h.0 tt) s.known known (from_the_right s i st) c in
      let same : patterns (map (pattern_of (reader w)) (reverse ps)) ≡ heads i = ap patterns (sym (map_turned (pattern_of (reader w)) ps [])) in
      let grown : Grows w s.known (item_targets i) known (patterns_names (heads i)) (in_patterns (reverse ps)) = subst (λ (t : tree.Patterns). Grows w s.known (item_targets i) known (patterns_names t) (in_patterns (reverse ps))) same one.1 in
      record {
        value = h.1 s.known s.guarded known (record { scope = s; knows = refl; guards = refl; stands = st.0 }) c
            (free_right w known (in_patterns ps) (expr_spans i.value) (free_moved w known (item_spans i) (in_patterns ps ++ expr_spans i.value) spans free));
        matched = subst (AreScopedInTurn known) same one.0;
        covers = grown.covers;
        comes = comes_more w known (patterns_names (heads i)) (in_patterns (reverse ps)) (item_spans i)
            (λ z m. subst (λ (zs : List Span). Contains zs z) (sym spans) (Contains-append_left (in_patterns ps) (expr_spans i.value) z (spans_of_reversed ps z m))) grown.comes;
      }

  last_scoped : (known : List ℕ) (ps : List tree.Pattern) (t : Tree) → IsScoped known t → AreScopedInTurn known (from_right ps) → IsScoped known (last_line ps t)
  last_scoped known [] t h g = h
  last_scoped known (q ∷ ps) t h g = (h, g)

  abbrev ItemsStand : Scope → List Item → Type 0
  ItemsStand s is = (front : List Item) (i : Item) (back : List Item) → is ≡ front ++ i ∷ back → ItemStands (past_items front s) i

  abbrev lines : List Item → List Line
  lines is = map (line_of (reader w)) is

  body_walk : (is : List Item) → AllByRecursion ItemWalks is → (s : Scope) → ItemsStand s is → (known : List ℕ) → Covers w s.known known → Free w known (in_items is) → IsScoped known (body (lines is))
  body_walk [] h s st known c free = tt
  body_walk (i ∷ []) h s st known c free =
      let one = item_walk s i h.0 (st [] i [] refl) known c (free_left w known (item_spans i) [] free) in
      subst (λ (l : Line). IsScoped known (last_line l.patterns l.value)) (sym (line_of-parts (reader w) i)) (last_scoped known (map (pattern_of (reader w)) i.patterns) (tree_of (reader w) i.value) one.value one.matched)
  body_walk (i ∷ next ∷ is) h s st known c free =
      let one = item_walk s i h.0 (st [] i (next ∷ is) refl) known c (free_left w known (item_spans i) (in_items (next ∷ is)) free) in
      let t : Scope = with_known (item_targets i) (behind (i.value ∷ []) s) in
      let rest = body_walk (next ∷ is) h.1 t (λ front j back e. st (i ∷ front) j back (ap (λ zs. i ∷ zs) e)) (patterns_names (heads i) ++ known) one.covers
      (free_after w known (patterns_names (heads i)) (item_spans i) (in_items (next ∷ is)) free one.comes) in
      subst (λ (l : Line). IsScoped known l.value × (AreScopedInTurn known (from_right l.patterns) × IsScoped (patterns_names (from_right l.patterns) ++ known) (body (lines (next ∷ is))))) (sym (line_of-parts (reader w) i))
      (one.value, (one.matched, rest))

  pub record BodyAt (bs : List Bound) (is : List Item) : Type 0 where
    pub scope : Scope
    pub knows : scope.known ≡ bs
    pub stands : Stands w.function scope (ABody is)

  pub body_scoped : (bs : List Bound) (is : List Item) → AllByRecursion ItemWalks is → BodyAt bs is → (known : List ℕ) → Covers w bs known → Free w known (in_items is) → IsScoped known (body (map (line_of (reader w)) is))
  body_scoped bs is h at known c free =
      body_walk is h at.scope (λ front i back e. (item_value at.scope is front i back at.stands e, λ left pt right d. item_pattern at.scope is front i back left pt right at.stands e d))
      known (covers_moved w bs at.scope.known known (sym at.knows) c) free

  -- ---- Clauses of `case` and `receive`, and of `if`

  abbrev IsBranchScoped : List ℕ → r.Branch → Type 0
  IsBranchScoped known b = ArePatternsScoped known b.heads × IsGuardScoped (patterns_names b.heads ++ known) b.guard × IsScoped (patterns_names b.heads ++ known) (body b.lines)

  abbrev AltAt : List Bound → Alt → Type 0
  AltAt bs a = (at : Span) (pt : Pattern) (g : Guard) (is : List Item) → a ≡ roll-Alt (record { at = at; pattern = pt; guard = g; body = is }) →
      PatternAt w bs bs pt × GuardAt (bs ++ targets pt) g × BodyAt (bs ++ targets pt) is

  abbrev pub AltWalks : Alt → Type 0
  AltWalks a = (bs : List Bound) (known : List ℕ) → AltAt bs a → Covers w bs known → Free w known (alt_spans a) → IsBranchScoped known (alt_read (reader w) a)

  abbrev AltLayer : Type 0
  AltLayer = O.Alt-F Expr Pattern Qual Alt Branch Guard Item Segment

  abbrev alt_parts : AltLayer → r.Branch
  alt_parts v = record { heads = pattern_and (pattern_of (reader w) v.pattern) no_pattern; guard = guard_tree (reader w) v.guard; lines = lines v.body }

  pub A-of : (at : Span) (pt : Pattern) (g : Guard) (is : List Item) → PatternWalks w pt → GuardWalks g → AllByRecursion ItemWalks is → AltWalks (roll-Alt (record { at = at; pattern = pt; guard = g; body = is }))
  A-of at pt g is hp hg hi bs known places c free =
      let layer : AltLayer = record { at = at; pattern = pt; guard = g; body = is } in
      let p = places at pt g is refl in
      let read = pattern_of (reader w) pt in
      let names : List ℕ = pattern_names read ++ [] in
      let one = hp bs bs known known p.0 c c in
      let grown : Grows w bs (targets pt) known names (pattern_spans pt) = grows_moved w bs (targets pt) (targets pt) known (pattern_names read) names (pattern_spans pt) (pattern_spans pt) refl (sym (append-nil (pattern_names read))) refl one.1 in
      let rest : Free w (names ++ known) (guard_spans g ++ in_items is) = free_after w known names (pattern_spans pt) (guard_spans g ++ in_items is)
      (free_moved w known (alt_spans (roll-Alt layer)) (pattern_spans pt ++ (guard_spans g ++ in_items is)) (alt-of at pt g is) free) grown.comes in
      let done : IsBranchScoped known (alt_parts layer) = (
        (one.0, tt),
        hg (bs ++ targets pt) (names ++ known) p.1 grown.covers,
        body_scoped (bs ++ targets pt) is hi p.2 (names ++ known) grown.covers (free_right w (names ++ known) (guard_spans g) (in_items is) rest),
      ) in
      subst (IsBranchScoped known) (sym (alt_read-parts (reader w) (roll-Alt layer))) (subst (λ (v : AltLayer). IsBranchScoped known (alt_parts v)) (sym (out-roll-Alt layer)) done)

  abbrev BranchAt : List Bound → Branch → Type 0
  BranchAt bs b = (at : Span) (g : Guard) (is : List Item) → b ≡ roll-Branch (record { at = at; guard = g; body = is }) → GuardAt bs g × BodyAt bs is

  abbrev pub BranchWalks : Branch → Type 0
  BranchWalks b = (bs : List Bound) (known : List ℕ) → BranchAt bs b → Covers w bs known → Free w known (branch_spans b) → IsBranchScoped known (branch_read (reader w) b)

  abbrev BranchLayer : Type 0
  BranchLayer = O.Branch-F Expr Pattern Qual Alt Branch Guard Item Segment

  abbrev branch_parts : BranchLayer → r.Branch
  branch_parts v = record { heads = no_pattern; guard = guard_tree (reader w) v.guard; lines = lines v.body }

  pub B-of : (at : Span) (g : Guard) (is : List Item) → GuardWalks g → AllByRecursion ItemWalks is → BranchWalks (roll-Branch (record { at = at; guard = g; body = is }))
  B-of at g is hg hi bs known places c free =
      let layer : BranchLayer = record { at = at; guard = g; body = is } in
      let p = places at g is refl in
      let items : Free w known (in_items is) = free_right w known (guard_spans g) (in_items is) (free_moved w known (branch_spans (roll-Branch layer)) (guard_spans g ++ in_items is) (branch-of at g is) free) in
      let done : IsBranchScoped known (branch_parts layer) = (tt, hg bs known p.0 c, body_scoped bs is hi p.1 known c items) in
      subst (IsBranchScoped known) (sym (branch_read-parts (reader w) (roll-Branch layer))) (subst (λ (v : BranchLayer). IsBranchScoped known (branch_parts v)) (sym (out-roll-Branch layer)) done)

  alts_walk : (alts : List Alt) → AllByRecursion AltWalks alts → (bs : List Bound) (known : List ℕ) → ((a : Alt) → Contains alts a → AltAt bs a) → Covers w bs known → Free w known (in_alts alts) →
      AreClausesScoped known (clauses (map (alt_read (reader w)) alts))
  alts_walk [] h bs known at c free = tt
  alts_walk (a ∷ alts) h bs known at c free =
      let one = h.0 bs known (at a (Contains-head a alts)) c (free_left w known (alt_spans a) (in_alts alts) free) in
      (one.0, one.1, one.2, alts_walk alts h.1 bs known (λ b m. at b (Contains-tail a alts b m)) c (free_right w known (alt_spans a) (in_alts alts) free))

  branches_walk : (bs : List Branch) → AllByRecursion BranchWalks bs → (binds : List Bound) (known : List ℕ) → ((b : Branch) → Contains bs b → BranchAt binds b) → Covers w binds known → Free w known (in_branches bs) →
      AreClausesScoped known (clauses (map (branch_read (reader w)) bs))
  branches_walk [] h binds known at c free = tt
  branches_walk (b ∷ bs) h binds known at c free =
      let one = h.0 binds known (at b (Contains-head b bs)) c (free_left w known (branch_spans b) (in_branches bs) free) in
      (one.0, one.1, one.2, branches_walk bs h.1 binds known (λ d m. at d (Contains-tail b bs d m)) c (free_right w known (branch_spans b) (in_branches bs) free))

  alts_at : (e : Expr) (ys : List Expr) (alts : List Alt) → Chooses e ys alts → (bs : List Bound) (guarded : Bool) → ExprAt w bs guarded e → (a : Alt) → Contains alts a → AltAt bs a
  alts_at e ys alts ch bs guarded place a m at pt g is i =
      let s : Scope = place.scope in
      let among : IsAlt alts at pt g is = subst (λ (z : Alt). Contains alts z) i m in
      let knows = ap (λ (zs : List Bound). zs ++ targets pt) place.knows in (
        record { scope = to_match (behind ys s); knows = place.knows; sees = place.knows; stands = alt_pattern s e ys alts at pt g is place.stands ch among },
        λ tests y ht hy. record { scope = in_guard (with_known (targets pt) (behind ys s)); knows = knows; guards = refl; stands = alt_guard s e ys alts at pt g is tests y place.stands ch among ht hy },
        record { scope = with_known (targets pt) (behind ys s); knows = knows; stands = alt_body s e ys alts at pt g is place.stands ch among },
      )

  branches_at : (e : Expr) (az : Span) (bs : List Branch) → e ≡ x.If az bs → (binds : List Bound) (guarded : Bool) → ExprAt w binds guarded e → (b : Branch) → Contains bs b → BranchAt binds b
  branches_at e az bs h binds guarded place b m at g is i =
      let among : IsBranch bs at g is = subst (λ (z : Branch). Contains bs z) i m in (
        λ tests y ht hy. record { scope = in_guard place.scope; knows = place.knows; guards = refl; stands = if_guard place.scope e az bs at g is tests y place.stands h among ht hy },
        record { scope = place.scope; knows = place.knows; stands = if_body place.scope e az bs at g is place.stands h among },
      )

  module _ (X : Type 0) where
    pub E-Case : (at : Span) (y : Expr) (alts : List Alt) → (X → ⊥) → Walks w X y → AllByRecursion AltWalks alts → Walks w X (x.Case at (y ∷ []) alts)
    E-Case at y alts n h g = by_read w X e (expression (First (tree_of (reader w) y) (Alts (clauses (map (alt_read (reader w)) alts))))) (expr_spans y ++ in_alts alts) (expr_read-Case (reader w) at (y ∷ []) alts) (expr-OneCase at y alts)
        (λ bs guarded known a c free. (
          (
            opens X y h bs guarded known (parts_at w X e (y ∷ []) (case e at (y ∷ []) alts refl) bs guarded a [] y [] refl) c (free_left w known (expr_spans y) (in_alts alts) (free n)),
            alts_walk alts g bs known (alts_at e (y ∷ []) alts (case e at (y ∷ []) alts refl) bs guarded a) c (free_right w known (expr_spans y) (in_alts alts) (free n)),
          ),
          λ k t. absurd (n k),
        ))
      where
        e : Expr
        e = x.Case at (y ∷ []) alts

    pub E-Receive : (at : Span) (alts : List Alt) → (X → ⊥) → AllByRecursion AltWalks alts → Walks w X (x.Receive at alts)
    E-Receive at alts n g = by_read w X e (expression (Receive (clauses (map (alt_read (reader w)) alts)))) (in_alts alts) (expr_read-Receive (reader w) at alts) (expr-Receive at alts)
        (λ bs guarded known a c free. (alts_walk alts g bs known (alts_at e [] alts (receive e at alts refl) bs guarded a) c (free n), λ k t. absurd (n k)))
      where
        e : Expr
        e = x.Receive at alts

    pub E-If : (at : Span) (bs : List Branch) → (X → ⊥) → AllByRecursion BranchWalks bs → Walks w X (x.If at bs)
    E-If at bs n g = by_read w X e (expression (Choose (clauses (map (branch_read (reader w)) bs)))) (in_branches bs) (expr_read-If (reader w) at bs) (expr-If at bs)
        (λ binds guarded known a c free. (branches_walk bs g binds known (branches_at e at bs refl binds guarded a) c (free n), λ k t. absurd (n k)))
      where
        e : Expr
        e = x.If at bs
