-- The patterns of a function: their sizes see only what is known there, and behind a pattern its variables are known too.
use Rattle.std.proofs.Common.{◌≡◌, ℕ, ℤ, pos, List, [], ◌∷◌, ◌++◌, map, refl, sym, ap, subst, ◌∙◌, ◌⊎◌, append_assoc, append-nil}
use Rattle.std.specs.List.{AllByRecursion, Contains}
use Rattle.std.proofs.lemmas.Grind.{flat_map-append}
use Rattle.erl_syntax.specs.Bindings.{Bound, Vars, Row, expr_layer, pattern_layer, qual_layer, alt_layer, branch_layer, guard_layer, item_layer, segment_layer, targets, targets_of, segment_targets}
use Rattle.erl_syntax.specs.Checking.{IsTarget, in_pattern}
use Rattle.erl_syntax.specs.Scopes.{Scope, PatternParts, tuple, list, same, past_patterns, past_segments, is_empty, pattern_part, pattern_segment}
use Rattle.erl_syntax.specs.declared.span.Span.{Span}
use Rattle.erl_syntax.specs.declared.expr.Expr.TheOpen as O
use Rattle.erl_syntax.specs.declared.expr.Expr.TheFolds.{fold-roll-Pattern}
use Rattle.erl_syntax.specs.declared.pattern.Pattern.{Pattern}
use Rattle.erl_syntax.specs.declared.pattern.Pattern.TheVariants as p
use Rattle.erl_syntax.specs.declared.segment.Segment.{Segment}
use Rattle.erl_syntax.specs.declared.typing.SideUse.TheVariants as side
use Rattle.term_value.specs.Value.{VInt, VAtom, VList}
use Rattle.term_value.specs.BuiltIns.{integers}
use Rattle.term_value.specs.Tree.{PWild, PVar, PVal, PTuple, PList, PListOn, PBits, PSame, no_pattern, pattern_and}
use Rattle.term_value.specs.Tree as tree
use Rattle.term_value.specs.Read.{patterns, pattern_list, segments}
use Rattle.term_value.specs.ReadTrees.{pattern_of}
use Rattle.term_laws.specs.Scoped.{pattern_names, patterns_names, IsPatternScoped, ArePatternsScoped, AreScopedInTurn}
use Rattle.term_layers.proofs.Readings.{pieces_read, pattern_of-Var, pattern_of-Wild, pattern_of-Int, pattern_of-Char, pattern_of-Atom, pattern_of-Str, pattern_of-Tuple, pattern_of-List, pattern_of-Bits, pattern_of-Same}
use Rattle.module_check.proofs.Left.{tuple_targets, list_targets, bits_targets, same_targets}
use Rattle.module_check.proofs.Spots.{only_one}
use Rattle.module_laws.specs.Variables.{pattern_spans}
use Rattle.module_laws.proofs.VariableForms.{in_patterns, in_segments, pattern-Var, pattern-Wild, pattern-Int, pattern-Char, pattern-Atom, pattern-Str, pattern-Tuple, pattern-List, pattern-Bits, pattern-Same}
use Rattle.scope_laws.proofs.Numbering.{Numbering, number, reader, Covers, BoundAt, target_covers, target_comes}
use Rattle.scope_laws.proofs.Known.{Grows, grows_none, grows_then, grows_moved}
use Rattle.scope_laws.proofs.Segments.{PatternAt, SegmentWalks, SegmentsAt, pattern_segments}
use Rattle.module_laws.proofs.SpeltForms.{Short}

targets-Wild : (at : Span) → targets (p.Wild at) ≡ []
targets-Wild at = ap targets (sym (p.rolls-Wild at)) ∙ fold-roll-Pattern Vars (List Bound) Row (List (List ℕ)) (List (List ℕ)) (Unit {0}) (List (List ℕ)) Vars expr_layer pattern_layer qual_layer alt_layer branch_layer guard_layer item_layer segment_layer (O.Pattern::Wild at)

targets-Int : (at : Span) (n : ℤ) → targets (p.Int at n) ≡ []
targets-Int at n = ap targets (sym (p.rolls-Int at n)) ∙ fold-roll-Pattern Vars (List Bound) Row (List (List ℕ)) (List (List ℕ)) (Unit {0}) (List (List ℕ)) Vars expr_layer pattern_layer qual_layer alt_layer branch_layer guard_layer item_layer segment_layer (O.Pattern::Int at n)

targets-Char : (at : Span) (n : ℕ) → targets (p.Char at n) ≡ []
targets-Char at n = ap targets (sym (p.rolls-Char at n)) ∙ fold-roll-Pattern Vars (List Bound) Row (List (List ℕ)) (List (List ℕ)) (Unit {0}) (List (List ℕ)) Vars expr_layer pattern_layer qual_layer alt_layer branch_layer guard_layer item_layer segment_layer (O.Pattern::Char at n)

targets-Atom : (at : Span) (n : ℕ) → targets (p.Atom at n) ≡ []
targets-Atom at n = ap targets (sym (p.rolls-Atom at n)) ∙ fold-roll-Pattern Vars (List Bound) Row (List (List ℕ)) (List (List ℕ)) (Unit {0}) (List (List ℕ)) Vars expr_layer pattern_layer qual_layer alt_layer branch_layer guard_layer item_layer segment_layer (O.Pattern::Atom at n)

targets-Str : (at : Span) (chars : List ℕ) → targets (p.Str at chars) ≡ []
targets-Str at chars = ap targets (sym (p.rolls-Str at chars)) ∙ fold-roll-Pattern Vars (List Bound) Row (List (List ℕ)) (List (List ℕ)) (Unit {0}) (List (List ℕ)) Vars expr_layer pattern_layer qual_layer alt_layer branch_layer guard_layer item_layer segment_layer (O.Pattern::Str at chars)

targets-Var : (at : Span) (name : List ℕ) → targets (p.Var at name) ≡ record { name = name; at = at } ∷ []
targets-Var at name = ap targets (sym (p.rolls-Var at name)) ∙ fold-roll-Pattern Vars (List Bound) Row (List (List ℕ)) (List (List ℕ)) (Unit {0}) (List (List ℕ)) Vars expr_layer pattern_layer qual_layer alt_layer branch_layer guard_layer item_layer segment_layer (O.Pattern::Var at name)

module _ (w : Numbering) where
  -- what is shown of a pattern that stands where these variables are known, and whose sizes see the others
  abbrev pub PatternWalks : Pattern → Type 0
  PatternWalks pt = (bs os : List Bound) (known seen : List ℕ) → PatternAt w bs os pt → Covers w bs known → Covers w os seen →
      IsPatternScoped seen (pattern_of (reader w) pt) × Grows w bs (targets pt) known (pattern_names (pattern_of (reader w) pt)) (pattern_spans pt)

  abbrev pub PatternsAt : List Bound → List Bound → List Pattern → Type 0
  PatternsAt bs os ps = (front : List Pattern) (pt : Pattern) (back : List Pattern) → ps ≡ front ++ pt ∷ back → PatternAt w (bs ++ targets_of front) os pt

  abbrev of_all : List Pattern → tree.Patterns
  of_all ps = patterns (map (pattern_of (reader w)) ps)

  pub patterns_walk : (ps : List Pattern) → AllByRecursion PatternWalks ps → (bs os : List Bound) (known seen : List ℕ) → PatternsAt bs os ps → Covers w bs known → Covers w os seen →
      ArePatternsScoped seen (of_all ps) × Grows w bs (targets_of ps) known (patterns_names (of_all ps)) (in_patterns ps)
  patterns_walk [] h bs os known seen at c d = (tt, grows_none w bs known c)
  patterns_walk (pt ∷ ps) h bs os known seen at c d =
      let a = at [] pt ps refl in
      let one = h.0 bs os known seen (record { scope = a.scope; knows = a.knows ∙ append-nil bs; sees = a.sees; stands = a.stands }) c d in
      let named = pattern_names (pattern_of (reader w) pt) in
      let rest = patterns_walk ps h.1 (bs ++ targets pt) os (named ++ known) seen (λ front y back e. (let b = at (pt ∷ front) y back (ap (λ zs. pt ∷ zs) e) in
      record { scope = b.scope; knows = b.knows ∙ sym (append_assoc bs (targets pt) (targets_of front)); sees = b.sees; stands = b.stands })) one.1.covers d in
      ((one.0, rest.0), grows_then w bs (targets pt) (targets_of ps) known named (patterns_names (of_all ps)) (pattern_spans pt) (in_patterns ps) one.1 rest.1)

  -- patterns that are matched one behind another, as those of an item: the sizes of the later ones see what the earlier ones bind
  abbrev pub InTurnAt : List Bound → List Pattern → Type 0
  InTurnAt bs ps = (front : List Pattern) (pt : Pattern) (back : List Pattern) → ps ≡ front ++ pt ∷ back → PatternAt w (bs ++ targets_of front) (bs ++ targets_of front) pt

  pub in_turn_walk : (ps : List Pattern) → AllByRecursion PatternWalks ps → (bs : List Bound) (known : List ℕ) → InTurnAt bs ps → Covers w bs known →
      AreScopedInTurn known (of_all ps) × Grows w bs (targets_of ps) known (patterns_names (of_all ps)) (in_patterns ps)
  in_turn_walk [] h bs known at c = (tt, grows_none w bs known c)
  in_turn_walk (pt ∷ ps) h bs known at c =
      let a = at [] pt ps refl in
      let one = h.0 bs bs known known (record { scope = a.scope; knows = a.knows ∙ append-nil bs; sees = a.sees ∙ append-nil bs; stands = a.stands }) c c in
      let named = pattern_names (pattern_of (reader w) pt) in
      let rest = in_turn_walk ps h.1 (bs ++ targets pt) (named ++ known) (λ front y back e. (let b = at (pt ∷ front) y back (ap (λ zs. pt ∷ zs) e) in
      let i = sym (append_assoc bs (targets pt) (targets_of front)) in
      record { scope = b.scope; knows = b.knows ∙ i; sees = b.sees ∙ i; stands = b.stands })) one.1.covers in
      ((one.0, rest.0), grows_then w bs (targets pt) (targets_of ps) known named (patterns_names (of_all ps)) (pattern_spans pt) (in_patterns ps) one.1 rest.1)

  -- ---- Forms

  -- by what the pattern is read as
  by_reading : (pt : Pattern) (read : tree.Pattern) (new : List Bound) (spans : List Span) → pattern_of (reader w) pt ≡ read → new ≡ targets pt → pattern_spans pt ≡ spans →
      ((bs os : List Bound) (known seen : List ℕ) → PatternAt w bs os pt → Covers w bs known → Covers w os seen → IsPatternScoped seen read × Grows w bs new known (pattern_names read) spans) → PatternWalks pt
  by_reading pt read new spans e d i h bs os known seen at c k =
      let r = h bs os known seen at c k in
      (subst (IsPatternScoped seen) (sym e) r.0, grows_moved w bs new (targets pt) known (pattern_names read) (pattern_names (pattern_of (reader w) pt)) spans (pattern_spans pt) d (sym (ap pattern_names e)) (sym i) r.1)

  by_parts : (pt : Pattern) (ps : List Pattern) → PatternParts pt ps → (bs os : List Bound) → PatternAt w bs os pt → PatternsAt bs os ps
  by_parts pt ps h bs os a front y back e = record {
    scope = past_patterns front a.scope;
    knows = ap (λ (zs : List Bound). zs ++ targets_of front) a.knows;
    sees = a.sees;
    stands = pattern_part a.scope pt ps front y back a.stands h e;
  }

  -- a pattern with no variable in it
  leaf : (pt : Pattern) (read : tree.Pattern) → pattern_of (reader w) pt ≡ read → targets pt ≡ [] → pattern_spans pt ≡ [] → pattern_names read ≡ [] → ((seen : List ℕ) → IsPatternScoped seen read) → PatternWalks pt
  leaf pt read e d i n h = by_reading pt read [] [] e (sym d) i (λ bs os known seen at c k.
      (h seen, grows_moved w bs [] [] known [] (pattern_names read) [] [] refl (sym n) refl (grows_none w bs known c)))

  abbrev VarGrows : Span → List ℕ → List ℕ → List Bound → Type 0
  VarGrows at name known bs = Covers w bs known → Grows w bs (record { name = name; at = at } ∷ []) known (number w at ∷ []) (at ∷ [])

  var_grows : (s : Scope) (at : Span) (name : List ℕ) (known : List ℕ) → IsTarget w.function s at name → VarGrows at name known s.known
  var_grows s at name known t c = record {
    covers = target_covers w s at name t known c;
    comes = λ m i. subst (λ (z : ℕ). Contains known z ⊎ BoundAt w (at ∷ []) z) (only_one (number w at) m i) (target_comes w s at name t known c);
  }

  pub P-Var : (at : Span) (name : List ℕ) → PatternWalks (p.Var at name)
  P-Var at name = by_reading (p.Var at name) (PVar (number w at)) (record { name = name; at = at } ∷ []) (at ∷ []) (pattern_of-Var (reader w) at name) (sym (targets-Var at name)) (pattern-Var at name)
      (λ bs os known seen a c k. (tt, subst (VarGrows at name known) a.knows (var_grows a.scope at name known (in_pattern a.scope (p.Var at name) at name a.stands refl)) c))

  pub P-Wild : (at : Span) → PatternWalks (p.Wild at)
  P-Wild at = leaf (p.Wild at) PWild (pattern_of-Wild (reader w) at) (targets-Wild at) (pattern-Wild at) refl (λ seen. tt)

  pub P-Int : (at : Span) (n : ℤ) → PatternWalks (p.Int at n)
  P-Int at n = leaf (p.Int at n) (PVal (VInt n)) (pattern_of-Int (reader w) at n) (targets-Int at n) (pattern-Int at n) refl (λ seen. tt)

  pub P-Char : (at : Span) (n : ℕ) → PatternWalks (p.Char at n)
  P-Char at n = leaf (p.Char at n) (PVal (VInt (pos n))) (pattern_of-Char (reader w) at n) (targets-Char at n) (pattern-Char at n) refl (λ seen. tt)

  pub P-Atom : (at : Span) (n : ℕ) → PatternWalks (p.Atom at n)
  P-Atom at n = leaf (p.Atom at n) (PVal (VAtom n)) (pattern_of-Atom (reader w) at n) (targets-Atom at n) (pattern-Atom at n) refl (λ seen. tt)

  pub P-Str : (at : Span) (chars : List ℕ) → PatternWalks (p.Str at chars)
  P-Str at chars = leaf (p.Str at chars) (PVal (VList (integers chars))) (pattern_of-Str (reader w) at chars) (targets-Str at chars) (pattern-Str at chars) refl (λ seen. tt)

  pub P-Tuple : (at : Span) (ps : List Pattern) → AllByRecursion PatternWalks ps → PatternWalks (p.Tuple at ps)
  P-Tuple at ps h = by_reading (p.Tuple at ps) (PTuple (of_all ps)) (targets_of ps) (in_patterns ps) (pattern_of-Tuple (reader w) at ps) (tuple_targets (p.Tuple at ps) at ps refl) (pattern-Tuple at ps)
      (λ bs os known seen a c k. patterns_walk ps h bs os known seen (by_parts (p.Tuple at ps) ps (tuple (p.Tuple at ps) at ps refl) bs os a) c k)

  pub P-Same : (at : Span) (ps : List Pattern) → AllByRecursion PatternWalks ps → PatternWalks (p.Same at ps)
  P-Same at ps h = by_reading (p.Same at ps) (PSame (of_all ps)) (targets_of ps) (in_patterns ps) (pattern_of-Same (reader w) at ps) (same_targets (p.Same at ps) at ps refl) (pattern-Same at ps)
      (λ bs os known seen a c k. patterns_walk ps h bs os known seen (by_parts (p.Same at ps) ps (same (p.Same at ps) at ps refl) bs os a) c k)

  -- the tail, of which there is at most one, in the list
  list_scoped : (seen : List ℕ) (ps tail : List Pattern) → Short tail → ArePatternsScoped seen (of_all ps) → ArePatternsScoped seen (of_all tail) →
      IsPatternScoped seen (pattern_list (map (pattern_of (reader w)) ps) (map (pattern_of (reader w)) tail))
  list_scoped seen ps [] s h g = h
  list_scoped seen ps (y ∷ []) s h g = (h, g.0)
  list_scoped seen ps (y ∷ z ∷ tail) s h g = absurd s

  list_names : (ps tail : List Pattern) → Short tail → patterns_names (of_all ps) ++ patterns_names (of_all tail) ≡ pattern_names (pattern_list (map (pattern_of (reader w)) ps) (map (pattern_of (reader w)) tail))
  list_names ps [] s = append-nil (patterns_names (of_all ps))
  list_names ps (y ∷ []) s = ap (λ (ns : List ℕ). patterns_names (of_all ps) ++ ns) (append-nil (pattern_names (pattern_of (reader w) y)))
  list_names ps (y ∷ z ∷ tail) s = absurd s

  pub P-List : (at : Span) (ps tail : List Pattern) → AllByRecursion PatternWalks ps → AllByRecursion PatternWalks tail → Short tail → PatternWalks (p.List at ps tail)
  P-List at ps tail h g s = by_reading (p.List at ps tail) (pattern_list (map (pattern_of (reader w)) ps) (map (pattern_of (reader w)) tail)) (targets_of ps ++ targets_of tail) (in_patterns ps ++ in_patterns tail)
      (pattern_of-List (reader w) at ps tail) (list_targets (p.List at ps tail) at ps tail refl) (pattern-List at ps tail) walk
    where
      walk : (bs os : List Bound) (known seen : List ℕ) → PatternAt w bs os (p.List at ps tail) → Covers w bs known → Covers w os seen →
          (let read = pattern_list (map (pattern_of (reader w)) ps) (map (pattern_of (reader w)) tail) in
          IsPatternScoped seen read × Grows w bs (targets_of ps ++ targets_of tail) known (pattern_names read) (in_patterns ps ++ in_patterns tail))
      walk bs os known seen a c k =
          let all : PatternsAt bs os (ps ++ tail) = by_parts (p.List at ps tail) (ps ++ tail) (list (p.List at ps tail) at ps tail refl) bs os a in
          let one = patterns_walk ps h bs os known seen (λ front y back e. all front y (back ++ tail) (ap (λ (zs : List Pattern). zs ++ tail) e ∙ append_assoc front (y ∷ back) tail)) c k in
          let rest = patterns_walk tail g (bs ++ targets_of ps) os (patterns_names (of_all ps) ++ known) seen (λ front y back e.
          (let b = all (ps ++ front) y back (ap (λ (zs : List Pattern). ps ++ zs) e ∙ sym (append_assoc ps front (y ∷ back))) in
          record {
            scope = b.scope;
            knows = b.knows ∙ ap (λ (zs : List Bound). bs ++ zs) (flat_map-append targets ps front) ∙ sym (append_assoc bs (targets_of ps) (targets_of front));
            sees = b.sees;
            stands = b.stands;
          })) one.1.covers k in
          let grown = grows_then w bs (targets_of ps) (targets_of tail) known (patterns_names (of_all ps)) (patterns_names (of_all tail)) (in_patterns ps) (in_patterns tail) one.1 rest.1 in (
            list_scoped seen ps tail s one.0 rest.0,
            grows_moved w bs (targets_of ps ++ targets_of tail) (targets_of ps ++ targets_of tail) known (patterns_names (of_all ps) ++ patterns_names (of_all tail)) (pattern_names (pattern_list (map (pattern_of (reader w)) ps) (map (pattern_of (reader w)) tail)))
                (in_patterns ps ++ in_patterns tail) (in_patterns ps ++ in_patterns tail) refl (list_names ps tail s) refl grown,
          )

  pub P-Bits : (X : Type 0) (at : Span) (sgs : List Segment) → X → AllByRecursion (SegmentWalks w X) sgs → PatternWalks (p.Bits at sgs)
  P-Bits X at sgs k h = by_reading (p.Bits at sgs) (PBits (segments (pieces_read (reader w) sgs))) (segment_targets sgs) (in_segments sgs) (pattern_of-Bits (reader w) at sgs) (bits_targets (p.Bits at sgs) at sgs refl) (pattern-Bits at sgs)
      (λ bs os known seen a c d. pattern_segments w X sgs h k side.Match (λ e. cc e) bs os known seen (at_segments bs os a) c d)
    where
      at_segments : (bs os : List Bound) → PatternAt w bs os (p.Bits at sgs) → SegmentsAt w bs os [] side.Match sgs
      at_segments bs os a front sg back e = record {
        scope = past_segments front a.scope;
        last = is_empty back;
        knows = ap (λ (zs : List Bound). zs ++ segment_targets front) a.knows;
        sees = a.sees;
        passed = refl;
        stands = pattern_segment a.scope (p.Bits at sgs) at sgs front sg back a.stands refl e;
      }
