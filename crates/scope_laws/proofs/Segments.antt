-- Where a part of a function stands, and the segments of a bit pattern: each size sees only what is known there.
use Rattle.std.proofs.Common.{◌≡◌, ◌≢◌, ℕ, pos, Bool, true, List, [], ◌∷◌, ◌++◌, map, Option, Some, None, refl, sym, ap, subst, ◌∙◌, ◌⊎◌, inl, inr, append_assoc, append-nil}
use Rattle.std.specs.List.{AllByRecursion, Contains}
use Rattle.std.proofs.lemmas.List.{map-append}
use Rattle.std.proofs.lemmas.List.Elements.{Contains-append_left, Contains-append_right, Contains-append_cases}
use Rattle.erl_syntax.specs.Bindings.{Bound, Vars, Row, names, expr_layer, pattern_layer, qual_layer, alt_layer, branch_layer, guard_layer, item_layer, segment_layer, vars_of, vars_of_segment, segment_targets}
use Rattle.erl_syntax.specs.Checking.{IsTarget, in_segment}
use Rattle.erl_syntax.specs.Scopes.{Scope, AnExpr, APattern, ASegment, Stands, Found, IsKnown, IsSizeScope, pattern_size}
use Rattle.erl_syntax.specs.declared.span.Span.{Span}
use Rattle.erl_syntax.specs.declared.expr.Expr.{Expr, out-Expr, roll-Expr, roll-out-Expr}
use Rattle.erl_syntax.specs.declared.expr.Expr.TheVariants as x
use Rattle.erl_syntax.specs.declared.expr.Expr.TheOpen as O
use Rattle.erl_syntax.specs.declared.expr.Expr.TheFolds.{fold-roll-Expr}
use Rattle.erl_syntax.specs.declared.expr.Prefix.{Prefix}
use Rattle.erl_syntax.specs.declared.expr.Prefix.TheVariants as prefix
use Rattle.erl_syntax.specs.declared.pattern.Pattern.{Pattern}
use Rattle.erl_syntax.specs.declared.qual.Qual.{Qual}
use Rattle.erl_syntax.specs.declared.segment.Segment.{Segment}
use Rattle.erl_syntax.specs.declared.segment.Spec.{Spec}
use Rattle.erl_syntax.specs.declared.clause.Guard.{Guard}
use Rattle.erl_syntax.specs.declared.clause.Item.{Item}
use Rattle.erl_syntax.specs.declared.clause.Alt.{Alt}
use Rattle.erl_syntax.specs.declared.clause.Branch.{Branch}
use Rattle.erl_syntax.specs.declared.typing.SideUse.{SideUse}
use Rattle.erl_syntax.specs.declared.typing.SideUse.TheVariants as side
use Rattle.term_value.specs.Value.{VInt}
use Rattle.term_value.specs.Tree.{Target, Anything, Variable, Equal, Tree, Trees, end, and}
use Rattle.term_value.specs.Tree as tree
use Rattle.term_laws.specs.GuardLaws.{IsTest}
use Rattle.term_value.specs.Read.{Read, literal, Piece, piece, pieces, pieces_of, before_size, segments, signed_target, target_of, Line, Qualifier}
use Rattle.term_value.specs.Read as r
use Rattle.term_value.specs.ReadTrees.{variable, tree_of}
use Rattle.term_value.specs.ReadTrees as read_trees
use Rattle.term_laws.specs.Scoped.{target_names, segment_names, IsScoped, AreSegmentsScoped}
use Rattle.term_layers.proofs.Readings.{expr_read, segment_read, pieces_read, optional_read, expr_read-Var, segment_read-parts}
use Rattle.module_check.specs.Spots.{place_of, shown, size_scope}
use Rattle.module_check.proofs.Chained.{found_joined}
use Rattle.module_check.proofs.Left.{own_value, own_var}
use Rattle.module_check.proofs.Spots.{Contains-head, Contains-tail, none_in, only_one}
use Rattle.module_check.proofs.Standing.{known_found, a_size_scope}
use Rattle.module_laws.specs.Variables.{expr_spans, segment_spans}
use Rattle.module_laws.proofs.VariableForms.{in_segments, in_size, expr-Var, segment-of}
use Rattle.scope_laws.proofs.Numbering.{Numbering, number, reader, Covers, BoundAt, target_number, target_covers, target_comes}
use Rattle.scope_laws.proofs.Known.{Free, Grows, grows_none, grows_then, grows_moved}
use Rattle.module_laws.proofs.SpeltForms.{OfSome}

-- ---- Names of bindings

in_names : (bs cs : List Bound) (name : List ℕ) → Contains (names (bs ++ cs)) name → Contains (names bs) name ⊎ Contains (names cs) name
in_names bs cs name h = Contains-append_cases (names bs) (names cs) name (subst (λ (ns : List (List ℕ)). Contains ns name) (map-append (λ b. b.name) bs cs) h)

names_left : (bs cs : List Bound) (name : List ℕ) → Contains (names bs) name → Contains (names (bs ++ cs)) name
names_left bs cs name h = subst (λ (ns : List (List ℕ)). Contains ns name) (sym (map-append (λ b. b.name) bs cs)) (Contains-append_left (names bs) (names cs) name h)

names_right : (bs cs : List Bound) (name : List ℕ) → Contains (names cs) name → Contains (names (bs ++ cs)) name
names_right bs cs name h = subst (λ (ns : List (List ℕ)). Contains ns name) (sym (map-append (λ b. b.name) bs cs)) (Contains-append_right (names bs) (names cs) name h)

named : (bs : List Bound) (b : Bound) → Contains bs b → Contains (names bs) b.name
named [] b h = absurd (none_in b h)
named (a ∷ bs) b h = elim (Contains-append_cases (a ∷ []) bs b h) [
  | inl k ↦ subst (λ (z : Bound). Contains (a.name ∷ names bs) z.name) (only_one a b k) (Contains-head a.name (names bs))
  | inr k ↦ Contains-tail a.name (names bs) b.name (named bs b k)
]

-- what a size sees of the segments further left
shown_found : (known left : List Bound) → ((name : List ℕ) → IsKnown left name → IsKnown known name) → (name : List ℕ) (c : Span) →
    Found (map (λ b. record { name = b.name; at = place_of known b.name b.at }) left) name c → IsKnown left name × Found known name c
shown_found known [] has name c h = absurd h
shown_found known (b ∷ left) has name c (inl k) = (
  subst (λ (n : List ℕ). IsKnown (b ∷ left) n) k.0 (Contains-head b.name (names left)),
  subst (λ (n : List ℕ). Found known n c) k.0 (subst (λ (z : Span). Found known b.name z) k.1 (known_found known b.name b.at (has b.name (Contains-head b.name (names left))))),
)
shown_found known (b ∷ left) has name c (inr k) =
    let rest = shown_found known left (λ n m. has n (Contains-tail b.name (names left) n m)) name c k.1 in
    (Contains-tail b.name (names left) name rest.0, rest.1)

signed_none : (op : Prefix) (target : Target) → target_names (signed_target op target) ≡ []
signed_none prefix.Minus (Equal (VInt n)) = refl
signed_none prefix.Plus (Equal (VInt n)) = refl
signed_none _ _ = refl

module _ (w : Numbering) where
  -- ---- Where parts stand

  pub record ExprAt (bs : List Bound) (guarded : Bool) (e : Expr) : Type 0 where
    pub scope : Scope
    pub knows : scope.known ≡ bs
    pub guards : scope.guarded ≡ guarded
    pub stands : Stands w.function scope (AnExpr e)

  pub record PatternAt (bs os : List Bound) (pt : Pattern) : Type 0 where
    pub scope : Scope
    pub knows : scope.known ≡ bs
    pub sees : scope.outer ≡ os
    pub stands : Stands w.function scope (APattern pt)

  pub record SegmentAt (bs os left : List Bound) (on : SideUse) (sg : Segment) : Type 0 where
    pub scope : Scope
    pub last : Bool
    pub knows : scope.known ≡ bs
    pub sees : scope.outer ≡ os
    pub passed : scope.left ≡ left
    pub stands : Stands w.function scope (ASegment on last sg)

  -- ---- Expressions: what is shown of each. Where `X` holds, it stands in a guard or is a size.

  abbrev pub IsFine : List ℕ → Bool → Type 0 → Tree → Type 0
  IsFine known guarded X t = IsScoped known t × (X → guarded ≡ true → IsTest t)

  abbrev pub Walks : Type 0 → Expr → Type 0
  Walks X e = (bs : List Bound) (guarded : Bool) (known : List ℕ) → ExprAt bs guarded e → Covers w bs known → ((X → ⊥) → Free w known (expr_spans e)) → IsFine known guarded X (tree_of (reader w) e)

  abbrev pub SegmentWalks : Type 0 → Segment → Type 0
  SegmentWalks X sg = Walks X sg.value × OfSome (Walks X) sg.size

  -- ---- What the value of a segment wants: a variable, or none

  record IsVariable (e : Expr) : Type 0 where
    pub at : Span
    pub name : List ℕ
    pub is : e ≡ x.Var at name

  abbrev IsNone : Expr → Type 0
  IsNone e = ((vars_of e).own ≡ []) × (target_names (expr_read (reader w) e).target ≡ [])

  own_of : (e : Expr) (v : O.Expr-F Expr Pattern Qual Alt Branch Guard Item Segment) → e ≡ roll-Expr v → IsVariable e ⊎ IsNone e
  own_of e (O.Expr::Var at name) h = inl (record { at = at; name = name; is = h ∙ x.rolls-Var at name })
  own_of e (O.Unary at op ys) h = inr (
    ap (λ z. (vars_of z).own) h ∙ ap (λ z. z.own) (fold-roll-Expr Vars (List Bound) Row (List (List ℕ)) (List (List ℕ)) (Unit {0}) (List (List ℕ)) Vars expr_layer pattern_layer qual_layer alt_layer branch_layer guard_layer item_layer segment_layer (O.Unary at op ys)),
    ap (λ z. target_names (expr_read (reader w) z).target) h
        ∙ ap (λ (z : Read). target_names z.target) (fold-roll-Expr Read tree.Pattern Qualifier r.Branch r.Branch tree.Guard Line (List Piece) (read_trees.expr_layer (reader w)) (read_trees.pattern_layer (reader w)) read_trees.qual_layer read_trees.alt_layer read_trees.branch_layer read_trees.guard_layer read_trees.item_layer read_trees.segment_layer (O.Unary at op ys))
        ∙ signed_none op (target_of (map (expr_read (reader w)) ys)),
  )
  own_of e v h = inr (
    ap (λ z. (vars_of z).own) h ∙ ap (λ z. z.own) (fold-roll-Expr Vars (List Bound) Row (List (List ℕ)) (List (List ℕ)) (Unit {0}) (List (List ℕ)) Vars expr_layer pattern_layer qual_layer alt_layer branch_layer guard_layer item_layer segment_layer v),
    ap (λ z. target_names (expr_read (reader w) z).target) h
        ∙ ap (λ (z : Read). target_names z.target) (fold-roll-Expr Read tree.Pattern Qualifier r.Branch r.Branch tree.Guard Line (List Piece) (read_trees.expr_layer (reader w)) (read_trees.pattern_layer (reader w)) read_trees.qual_layer read_trees.alt_layer read_trees.branch_layer read_trees.guard_layer read_trees.item_layer read_trees.segment_layer v),
  )

  wants : (e : Expr) → IsVariable e ⊎ IsNone e
  wants e = own_of e (out-Expr e) (sym (roll-out-Expr e))

  -- ---- Sizes

  -- what a size sees, where these variables are known by number
  pub record Sees (bs os left : List Bound) (known : List ℕ) : Type 0 where
    pub outer : Covers w os known
    pub passed : (name : List ℕ) (c : Span) → IsKnown left name → Found bs name c → Contains known (number w c)
    pub has : (name : List ℕ) → IsKnown left name → IsKnown bs name

  sees_none : (bs os : List Bound) (known : List ℕ) → Covers w os known → Sees bs os [] known
  sees_none bs os known h = record { outer = h; passed = λ name c k f. absurd (none_in name k); has = λ name k. absurd (none_in name k) }

  sees_size : (s : Scope) (known : List ℕ) → Sees s.known s.outer s.left known → Covers w (shown s ++ s.outer) known
  sees_size s known h = λ name c f. elim (found_joined (shown s) s.outer name c f) [
    | inl k ↦ (let m = shown_found s.known s.left h.has name c k in h.passed name c m.0 m.1)
    | inr k ↦ h.outer name c k.1
  ]

  -- behind a segment that binds or compares a variable
  sees_target : (s : Scope) (at : Span) (name : List ℕ) (t : IsTarget w.function s at name) (known : List ℕ) → Sees s.known s.outer s.left known →
      (let target : List Bound = record { name = name; at = at } ∷ [] in Sees (s.known ++ target) s.outer (s.left ++ target) (number w at ∷ known))
  sees_target s at name t known h =
      let target : List Bound = record { name = name; at = at } ∷ [] in
      record {
        outer = λ n c f. Contains-tail (number w at) known (number w c) (h.outer n c f);
        passed = λ n c k f. elim (in_names s.left target n k) [
          | inl m ↦ elim (found_joined s.known target n c f) [
            | inl i ↦ Contains-tail (number w at) known (number w c) (h.passed n c m i)
            | inr i ↦ absurd (i.0 (h.has n m))
          ]
          | inr m ↦ (let g : Found (s.known ++ target) name c = subst (λ (z : List ℕ). Found (s.known ++ target) z c) (sym (only_one name n m)) f in
              subst (λ (z : ℕ). Contains (number w at ∷ known) z) (target_number w s at name t c g) (Contains-head (number w at) known))
        ];
        has = λ n k. elim (in_names s.left target n k) [
          | inl m ↦ names_left s.known target n (h.has n m)
          | inr m ↦ names_right s.known target n m
        ];
      }

  -- ---- One segment

  abbrev SizeIsFine : List ℕ → Option Read → Type 0
  SizeIsFine known None = Unit {0}
  SizeIsFine known (Some z) = IsTest z.tree × IsScoped known z.tree

  size_fine : (X : Type 0) (s : Scope) (on : SideUse) (last : Bool) (sg : Segment) (known : List ℕ) → X → on ≢ side.Build → Stands w.function s (ASegment on last sg) → Sees s.known s.outer s.left known →
      (o : Option Expr) → sg.size ≡ o → OfSome (Walks X) o → SizeIsFine known (optional_read (reader w) o)
  size_fine X s on last sg known k ne st see None e h = tt
  size_fine X s on last sg known k ne st see (Some y) e h =
      let t : IsSizeScope s (size_scope s) = a_size_scope s (λ b m. see.has b.name (named s.left b m)) in
      let a : ExprAt (shown s ++ s.outer) true y = record { scope = size_scope s; knows = refl; guards = refl; stands = pattern_size s (size_scope s) on last sg y st ne e t } in
      let r : IsFine known true X (tree_of (reader w) y) = h (shown s ++ s.outer) true known a (sees_size s known see) (λ n. absurd (n k)) in
      (r.1 k refl, r.0)

  front_scoped : (known : List ℕ) (size : Option Read) (words : List Spec) (value : Read) (qs : List Piece) → SizeIsFine known size → AreSegmentsScoped (target_names value.target ++ known) (segments qs) →
      AreSegmentsScoped known (segments (piece size words value ∷ qs))
  front_scoped known None words value qs k h = (tt, tt, h)
  front_scoped known (Some z) words value qs k h = ((k.0, tt), (k.1, tt), h)

  front_names : (size : Option Read) (words : List Spec) (value : Read) (qs : List Piece) → segment_names (segments (piece size words value ∷ qs)) ≡ target_names value.target ++ segment_names (segments qs)
  front_names None words value qs = refl
  front_names (Some z) words value qs = refl

  letters_scoped : (known : List ℕ) (letters : List ℕ) (size : Option Read) (words : List Spec) (qs : List Piece) → SizeIsFine known size → AreSegmentsScoped known (segments qs) →
      AreSegmentsScoped known (segments (map (λ c. piece size words (literal (VInt (pos c)))) letters ++ qs))
  letters_scoped known [] size words qs k h = h
  letters_scoped known (c ∷ letters) size words qs k h =
      front_scoped known size words (literal (VInt (pos c))) (map (λ c. piece size words (literal (VInt (pos c)))) letters ++ qs) k (letters_scoped known letters size words qs k h)

  letters_names : (letters : List ℕ) (size : Option Read) (words : List Spec) (qs : List Piece) → segment_names (segments (map (λ c. piece size words (literal (VInt (pos c)))) letters ++ qs)) ≡ segment_names (segments qs)
  letters_names [] size words qs = refl
  letters_names (c ∷ letters) size words qs =
      front_names size words (literal (VInt (pos c))) (map (λ c. piece size words (literal (VInt (pos c)))) letters ++ qs) ∙ letters_names letters size words qs

  -- a segment whose value is no variable
  quiet_scoped : (known : List ℕ) (letters : Option (List ℕ)) (size : Option Read) (words : List Spec) (value : Read) (qs : List Piece) → target_names value.target ≡ [] → SizeIsFine known size →
      AreSegmentsScoped known (segments qs) → AreSegmentsScoped known (segments (pieces_of letters size words value ++ qs))
  quiet_scoped known None size words value qs e k h = front_scoped known size words value qs k (subst (λ (ns : List ℕ). AreSegmentsScoped (ns ++ known) (segments qs)) (sym e) h)
  quiet_scoped known (Some letters) size words value qs e k h = letters_scoped known letters size words qs k h

  quiet_names : (letters : Option (List ℕ)) (size : Option Read) (words : List Spec) (value : Read) (qs : List Piece) → target_names value.target ≡ [] →
      segment_names (segments (pieces_of letters size words value ++ qs)) ≡ segment_names (segments qs)
  quiet_names None size words value qs e = front_names size words value qs ∙ ap (λ (ns : List ℕ). ns ++ segment_names (segments qs)) e
  quiet_names (Some letters) size words value qs e = letters_names letters size words qs

  -- what a segment that binds or compares these names makes of those behind it
  record Front (known names : List ℕ) (ps : List Piece) : Type 0 where
    pub scoped : (qs : List Piece) → AreSegmentsScoped (names ++ known) (segments qs) → AreSegmentsScoped known (segments (ps ++ qs))
    pub named : (qs : List Piece) → segment_names (segments (ps ++ qs)) ≡ names ++ segment_names (segments qs)

  -- `new`: its variables
  record Step (bs os left new : List Bound) (known seen : List ℕ) (sg : Segment) : Type 0 where
    pub names : List ℕ
    pub grows : Grows w bs new known names (segment_spans sg)
    pub sees : Sees (bs ++ new) os (left ++ new) (names ++ seen)
    pub front : Front seen names (segment_read (reader w) sg)

  module _ (X : Type 0) (sg : Segment) (h : SegmentWalks X sg) (k : X) (on : SideUse) (ne : on ≢ side.Build) where
    in_spans : (at : Span) (name : List ℕ) → sg.value ≡ x.Var at name → (c : Span) → Contains (at ∷ []) c → Contains (segment_spans sg) c
    in_spans at name e c i =
        let spans : segment_spans sg ≡ expr_spans sg.value ++ in_size sg.size = segment-of sg.at sg.value sg.size sg.specs in
        let value : expr_spans sg.value ≡ at ∷ [] = ap expr_spans e ∙ expr-Var at name in
        subst (λ (zs : List Span). Contains zs c) (sym spans) (Contains-append_left (expr_spans sg.value) (in_size sg.size) c (subst (λ (zs : List Span). Contains zs c) (sym value) i))

    of_variable : (s : Scope) (last : Bool) (known seen : List ℕ) → Stands w.function s (ASegment on last sg) → Covers w s.known known → Sees s.known s.outer s.left seen → (v : IsVariable sg.value) →
        Step s.known s.outer s.left (record { name = v.name; at = v.at } ∷ []) known seen sg
    of_variable s last known seen st c see v =
        let t : IsTarget w.function s v.at v.name = in_segment s on last sg v.at v.name st ne v.is in
        let n : ℕ = number w v.at in
        let size = optional_read (reader w) sg.size in
        let is : segment_read (reader w) sg ≡ piece size sg.specs (variable n) ∷ [] =
        segment_read-parts (reader w) sg ∙ ap (λ (z : Read). pieces z size sg.specs) (ap (expr_read (reader w)) v.is ∙ expr_read-Var (reader w) v.at v.name) in
        let fine : SizeIsFine seen size = size_fine X s on last sg seen k ne st see sg.size refl h.1 in
        record {
          names = n ∷ [];
          grows = record {
            covers = target_covers w s v.at v.name t known c;
            comes = λ m i. subst (λ (z : ℕ). Contains known z ⊎ BoundAt w (segment_spans sg) z) (only_one n m i) (elim (target_comes w s v.at v.name t known c) [
              | inl j ↦ inl j
              | inr b ↦ inr (record { place = b.place; binds = b.binds; is = b.is; stands = in_spans v.at v.name v.is b.place b.stands })
            ]);
          };
          sees = sees_target s v.at v.name t seen see;
          front = record {
            scoped = λ qs g. subst (λ (ps : List Piece). AreSegmentsScoped seen (segments (ps ++ qs))) (sym is) (front_scoped seen size sg.specs (variable n) qs fine g);
            named = λ qs. subst (λ (ps : List Piece). segment_names (segments (ps ++ qs)) ≡ n ∷ segment_names (segments qs)) (sym is) (front_names size sg.specs (variable n) qs);
          };
        }

    of_none : (s : Scope) (last : Bool) (known seen : List ℕ) → Stands w.function s (ASegment on last sg) → Covers w s.known known → Sees s.known s.outer s.left seen → IsNone sg.value →
        Step s.known s.outer s.left [] known seen sg
    of_none s last known seen st c see v =
        let size = optional_read (reader w) sg.size in
        let value = expr_read (reader w) sg.value in
        let is : segment_read (reader w) sg ≡ pieces value size sg.specs = segment_read-parts (reader w) sg in
        let fine : SizeIsFine seen size = size_fine X s on last sg seen k ne st see sg.size refl h.1 in
        record {
          names = [];
          grows = record { covers = (grows_none w s.known known c).covers; comes = λ m i. absurd (none_in m i) };
          sees = subst (λ (bs : List Bound). Sees bs s.outer (s.left ++ []) seen) (sym (append-nil s.known)) (subst (λ (bs : List Bound). Sees s.known s.outer bs seen) (sym (append-nil s.left)) see);
          front = record {
            scoped = λ qs g. subst (λ (ps : List Piece). AreSegmentsScoped seen (segments (ps ++ qs))) (sym is) (quiet_scoped seen value.letters size sg.specs value qs v.1 fine g);
            named = λ qs. subst (λ (ps : List Piece). segment_names (segments (ps ++ qs)) ≡ segment_names (segments qs)) (sym is) (quiet_names value.letters size sg.specs value qs v.1);
          };
        }

    step : (s : Scope) (last : Bool) (known seen : List ℕ) → Stands w.function s (ASegment on last sg) → Covers w s.known known → Sees s.known s.outer s.left seen →
        Step s.known s.outer s.left (vars_of_segment sg).own known seen sg
    step s last known seen st c see = elim (wants sg.value) [
      | inl v ↦ subst (λ (new : List Bound). Step s.known s.outer s.left new known seen sg) (own_var sg.value v.at v.name v.is ∙ own_value sg) (of_variable s last known seen st c see v)
      | inr v ↦ subst (λ (new : List Bound). Step s.known s.outer s.left new known seen sg) (sym v.0 ∙ own_value sg) (of_none s last known seen st c see v)
    ]

    abbrev Steps : List Bound → List Bound → List Bound → Type 0
    Steps bs os left = (known seen : List ℕ) → Covers w bs known → Sees bs os left seen → Step bs os left (vars_of_segment sg).own known seen sg

    step_at : (bs os left : List Bound) → SegmentAt bs os left on sg → Steps bs os left
    step_at bs os left a =
        let here : Steps a.scope.known a.scope.outer a.scope.left = λ known seen c see. step a.scope a.last known seen a.stands c see in
        subst (λ (zs : List Bound). Steps bs os zs) a.passed (subst (λ (zs : List Bound). Steps bs zs a.scope.left) a.sees (subst (λ (zs : List Bound). Steps zs a.scope.outer a.scope.left) a.knows here))

  -- ---- The segments of a bit pattern

  abbrev pub SegmentsAt : List Bound → List Bound → List Bound → SideUse → List Segment → Type 0
  SegmentsAt bs os left on sgs = (front : List Segment) (sg : Segment) (back : List Segment) → sgs ≡ front ++ sg ∷ back → SegmentAt (bs ++ segment_targets front) os (left ++ segment_targets front) on sg

  here_at : (bs os left : List Bound) (on : SideUse) (sg : Segment) (sgs : List Segment) → SegmentsAt bs os left on (sg ∷ sgs) → SegmentAt bs os left on sg
  here_at bs os left on sg sgs at = (let a = at [] sg sgs refl in
      record { scope = a.scope; last = a.last; knows = a.knows ∙ append-nil bs; sees = a.sees; passed = a.passed ∙ append-nil left; stands = a.stands })

  past_at : (bs os left : List Bound) (on : SideUse) (sg : Segment) (sgs : List Segment) → SegmentsAt bs os left on (sg ∷ sgs) → SegmentsAt (bs ++ (vars_of_segment sg).own) os (left ++ (vars_of_segment sg).own) on sgs
  past_at bs os left on sg sgs at = λ front z back e. (let a = at (sg ∷ front) z back (ap (λ zs. sg ∷ zs) e) in
      let own : List Bound = (vars_of_segment sg).own in
      record {
        scope = a.scope;
        last = a.last;
        knows = a.knows ∙ sym (append_assoc bs own (segment_targets front));
        sees = a.sees;
        passed = a.passed ∙ sym (append_assoc left own (segment_targets front));
        stands = a.stands;
      })

  pub segments_walk : (X : Type 0) (sgs : List Segment) → AllByRecursion (SegmentWalks X) sgs → X → (on : SideUse) → on ≢ side.Build → (bs os left : List Bound) (known seen : List ℕ) →
      SegmentsAt bs os left on sgs → Covers w bs known → Sees bs os left seen →
      (let ss = segments (pieces_read (reader w) sgs) in AreSegmentsScoped seen ss × Grows w bs (segment_targets sgs) known (segment_names ss) (in_segments sgs))
  segments_walk X [] h k on ne bs os left known seen at c see = (tt, grows_none w bs known c)
  segments_walk X (sg ∷ sgs) h k on ne bs os left known seen at c see =
      let own : List Bound = (vars_of_segment sg).own in
      let one = step_at X sg h.0 k on ne bs os left (here_at bs os left on sg sgs at) known seen c see in
      let rest = segments_walk X sgs h.1 k on ne (bs ++ own) os (left ++ own) (one.names ++ known) (one.names ++ seen) (past_at bs os left on sg sgs at) one.grows.covers one.sees in
      let behind : List Piece = pieces_read (reader w) sgs in
      let grown = grows_then w bs own (segment_targets sgs) known one.names (segment_names (segments behind)) (segment_spans sg) (in_segments sgs) one.grows rest.1 in (
        one.front.scoped behind rest.0,
        grows_moved w bs (own ++ segment_targets sgs) (own ++ segment_targets sgs) known (one.names ++ segment_names (segments behind)) (segment_names (segments (segment_read (reader w) sg ++ behind))) (segment_spans sg ++ in_segments sgs) (segment_spans sg ++ in_segments sgs)
            refl (sym (one.front.named behind)) refl grown,
      )

  pub pattern_segments : (X : Type 0) (sgs : List Segment) → AllByRecursion (SegmentWalks X) sgs → X → (on : SideUse) → on ≢ side.Build → (bs os : List Bound) (known seen : List ℕ) →
      SegmentsAt bs os [] on sgs → Covers w bs known → Covers w os seen →
      (let ss = segments (pieces_read (reader w) sgs) in AreSegmentsScoped seen ss × Grows w bs (segment_targets sgs) known (segment_names ss) (in_segments sgs))
  pattern_segments X sgs h k on ne bs os known seen at c d = segments_walk X sgs h k on ne bs os [] known seen at c (sees_none bs os seen d)
