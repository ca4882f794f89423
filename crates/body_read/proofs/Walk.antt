-- Depths of brackets: walking over the tokens of a part, brackets and block words open and shut, and at the end as many are
-- open as the part leaves. A mark of a match or of a generator (`=`, `<-`, `<=`) stands behind an open bracket.
use Rattle.std.proofs.Common.{◌≡◌, ℕ, ℤ, List, [], ◌∷◌, ◌++◌, Option, Some, None, refl, sym, ap, subst, ◌∙◌}
use Rattle.erl_syntax.specs.declared.token.TokenKind.{TokenKind}
use Rattle.erl_syntax.specs.declared.token.TokenKind.TheVariants as k
use Rattle.erl_syntax.specs.declared.expr.Op.{Op}
use Rattle.erl_syntax.specs.declared.expr.Prefix.{Prefix}
use Rattle.erl_syntax.specs.Word.{Word}
use Rattle.erl_syntax.specs.Operators.{operator_of, prefix_of}
use Rattle.erl_syntax.specs.Names.{Signed, plus, minus}
use Rattle.erl_syntax.specs.Grammar.{Limits, Goal, Mark, At, The, Of, Part, Level, Tail, Operand, Common, AfterAtom, Qualified, Exprs, MoreExprs, ListRest, AfterFirst, ListItems, BitsRest, AfterValue, Prefixed, ASegment, MoreSegments, Simple, SegmentRest, SegmentType, ASpec, MoreSpecs, Quals, MoreQuals, AQual, APattern, SameTail, MoreSame, Pat, Patterns, MorePatterns, PatternList, PatternItems, PatternBits, MorePatternSegments, PatternSegment, PatternValue, PatternSegmentRest, PatternSize, Guarded, Tests, MoreTests, Body, MoreItems, AnItem, Alts, MoreAlts, AnAlt, Branches, MoreBranches, ABranch, level, operand, alone, right, left, prefix, atom, macro, tuple, list, case, receive, if_, common, variable, integer, character, string, bits, paren, call, no_call, unqualified, qualified, no_exprs, exprs, more_exprs, end_exprs, no_list, list_first, list_for, list_items, next_item, list_tail, end_list, no_bits, bits_prefixed, bits_first, bits_for, bits_segments, more_segments, end_segments, segment_prefixed, segment, prefixed, simple_atom, simple, sized, unsized, typed, untyped, more_specs, end_specs, spec, unit, any_spec, quals, more_quals, end_quals, generator, bits_generator, filter, pattern, not_same, same, more_same, end_same, pat_variable, pat_wild, pat_integer, pat_signed, pat_character, pat_atom, pat_string, pat_paren, pat_tuple, pat_list, pat_bits, no_patterns, patterns, more_patterns, end_patterns, no_pattern_list, pattern_list, next_pattern, pattern_tail, end_pattern_list, no_pattern_bits, pattern_bits, more_pattern_segments, end_pattern_segments, pattern_segment, value_variable, value_wild, value_integer, value_signed, value_character, value_string, pattern_sized, pattern_unsized, size_integer, size_variable, size_paren, unguarded, guarded, tests, next_test, next_alternative, end_tests, body, more_items, end_items, item_match, item_value, alts, more_alts, end_alts, alt, branches, more_branches, end_branches, branch, no_forms, head, export, skipped, any_form, function, end_skipped, skips, no_names, names, more_names, end_names, name, more_clauses, end_clauses, clause, Produces, Spells, ends, takes, begins, this, expands}

-- what a token or a part does to the open brackets: `Barred` and what it holds stand inside one, `Never` is not walked over
pub data Shape : Type 0 where
  Plain : Shape
  Opens : Shape
  Shuts : Shape
  Barred : Shape
  Never : Shape

-- Where a walk stands: behind its last bracket, at its start, where nothing is open, or inside one bracket more.
pub data State : Type 0 where
  Floor : State
  Bare : State
  Inside : State → State

abbrev pub shape : TokenKind → Shape
shape k.LeftParen = Opens
shape k.LeftBracket = Opens
shape k.LeftBrace = Opens
shape k.LeftBits = Opens
shape k.Case = Opens
shape k.Receive = Opens
shape k.If = Opens
shape k.RightParen = Shuts
shape k.RightBracket = Shuts
shape k.RightBrace = Shuts
shape k.RightBits = Shuts
shape k.End = Shuts
shape k.Match = Barred
shape k.LeftArrow = Barred
shape k.DoubleLeftArrow = Barred
shape _ = Plain

-- of a part that ends with a bracket
abbrev pub closing : Shape → Shape
closing Shuts = Shuts
closing _ = Never

abbrev pub part_shape : Part → Shape
part_shape (Level _ _ _ _ _) = Plain
part_shape (Tail _ _ _ _ _ _ _) = Plain
part_shape (Operand _ _ _ _) = Plain
part_shape (Common _ _ _ _) = Plain
part_shape (AfterAtom _ _ _ _ _) = Plain
part_shape (Qualified _ _ _ _ _) = Plain
part_shape (Exprs close _ _ _) = closing (shape close)
part_shape (MoreExprs close _ _ _) = closing (shape close)
part_shape (ListRest _ _ _ _) = Shuts
part_shape (AfterFirst _ _ _ _ _ _) = Shuts
part_shape (ListItems _ _ _ _) = Shuts
part_shape (BitsRest _ _ _ _) = Shuts
part_shape (AfterValue _ _ _ _ _ _ _) = Shuts
part_shape (Prefixed _ _ _) = Plain
part_shape (ASegment _ _ _) = Plain
part_shape (MoreSegments _ _ _) = Shuts
part_shape (Simple _ _ _ _) = Plain
part_shape (SegmentRest _ _ _ _ _ _) = Plain
part_shape (SegmentType _ _ _ _) = Plain
part_shape (ASpec _) = Plain
part_shape (MoreSpecs _) = Plain
part_shape (Quals close _ _ _) = closing (shape close)
part_shape (MoreQuals close _ _ _) = closing (shape close)
part_shape (AQual _ _ _) = Barred
part_shape (APattern _ _ _ _) = Barred
part_shape (SameTail _ _ _ _ _ _) = Barred
part_shape (MoreSame _ _ _) = Barred
part_shape (Pat _ _ _ _) = Plain
part_shape (Patterns close _ _ _) = closing (shape close)
part_shape (MorePatterns close _ _ _) = closing (shape close)
part_shape (PatternList _ _ _ _) = Shuts
part_shape (PatternItems _ _ _ _) = Shuts
part_shape (PatternBits _ _ _) = Shuts
part_shape (MorePatternSegments _ _ _) = Shuts
part_shape (PatternSegment _ _ _) = Plain
part_shape (PatternValue _ _ _ _) = Plain
part_shape (PatternSegmentRest _ _ _ _ _ _) = Plain
part_shape (PatternSize _ _ _) = Plain
part_shape (Guarded _ _ _) = Plain
part_shape (Tests _ _ _ _) = Plain
part_shape (MoreTests _ _ _ _) = Plain
part_shape (Body _ _ _) = Barred
part_shape (MoreItems _ _ _) = Barred
part_shape (AnItem _ _ _) = Barred
part_shape (Alts _ _ _) = Shuts
part_shape (MoreAlts _ _ _) = Shuts
part_shape (AnAlt _ _ _) = Barred
part_shape (Branches _ _ _) = Shuts
part_shape (MoreBranches _ _ _) = Shuts
part_shape (ABranch _ _ _) = Barred
part_shape _ = Never

abbrev pub goal_shape : Goal → Shape
goal_shape (Mark kind) = shape kind
goal_shape (At kind at) = shape kind
goal_shape (The t) = shape t.kind
goal_shape (Of p) = part_shape p

abbrev pub goal_shapes : List Goal → List Shape
goal_shapes [] = []
goal_shapes (g ∷ gs) = goal_shape g ∷ goal_shapes gs

abbrev pub shapes : List Word → List Shape
shapes [] = []
shapes (t ∷ w) = shape t.kind ∷ shapes w

abbrev pub step : State → Shape → Option State
step Floor _ = None
step Bare Plain = Some Bare
step Bare Opens = Some (Inside Bare)
step Bare _ = None
step (Inside s) Plain = Some (Inside s)
step (Inside s) Opens = Some (Inside (Inside s))
step (Inside s) Shuts = Some s
step (Inside s) Barred = Some (Inside s)
step (Inside s) Never = None

abbrev pub walk : List Shape → State → Option State
walk [] s = Some s
walk (x ∷ xs) s = elim (step s x) as (λ o. Option State) [ None ↦ None | Some t ↦ walk xs t ]

-- ---- What each production's goals do

abbrev Claim : Shape → List Shape → Type 0
Claim Plain ss = (walk ss Bare ≡ Some Bare) × ((s : State) → walk ss (Inside s) ≡ Some (Inside s))
Claim Opens ss = ⊥
Claim Shuts ss = (s : State) → walk ss (Inside s) ≡ Some s
Claim Barred ss = (s : State) → walk ss (Inside s) ≡ Some (Inside s)
Claim Never ss = Unit {0}

close_alone : (x : Shape) → Claim (closing x) (x ∷ [])
close_alone Shuts = λ s. refl
close_alone _ = tt

close_one : (x : Shape) → Claim (closing x) (Plain ∷ closing x ∷ [])
close_one Shuts = λ s. refl
close_one _ = tt

close_two : (x : Shape) → Claim (closing x) (Plain ∷ Plain ∷ closing x ∷ [])
close_two Shuts = λ s. refl
close_two _ = tt

close_barred : (x : Shape) → Claim (closing x) (Barred ∷ closing x ∷ [])
close_barred Shuts = λ s. refl
close_barred _ = tt

close_more : (x : Shape) → Claim (closing x) (Plain ∷ Barred ∷ closing x ∷ [])
close_more Shuts = λ s. refl
close_more _ = tt

pub operator_plain : {op : Op} (kind : TokenKind) → operator_of kind ≡ Some op → shape kind ≡ Plain
operator_plain k.LeftParen h = cc
operator_plain k.LeftBracket h = cc
operator_plain k.LeftBrace h = cc
operator_plain k.LeftBits h = cc
operator_plain k.Case h = cc
operator_plain k.Receive h = cc
operator_plain k.If h = cc
operator_plain k.RightParen h = cc
operator_plain k.RightBracket h = cc
operator_plain k.RightBrace h = cc
operator_plain k.RightBits h = cc
operator_plain k.End h = cc
operator_plain k.Match h = cc
operator_plain k.LeftArrow h = cc
operator_plain k.DoubleLeftArrow h = cc
operator_plain _ h = refl

pub prefix_plain : {op : Prefix} (kind : TokenKind) → prefix_of kind ≡ Some op → shape kind ≡ Plain
prefix_plain k.LeftParen h = cc
prefix_plain k.LeftBracket h = cc
prefix_plain k.LeftBrace h = cc
prefix_plain k.LeftBits h = cc
prefix_plain k.Case h = cc
prefix_plain k.Receive h = cc
prefix_plain k.If h = cc
prefix_plain k.RightParen h = cc
prefix_plain k.RightBracket h = cc
prefix_plain k.RightBrace h = cc
prefix_plain k.RightBits h = cc
prefix_plain k.End h = cc
prefix_plain k.Match h = cc
prefix_plain k.LeftArrow h = cc
prefix_plain k.DoubleLeftArrow h = cc
prefix_plain _ h = refl

signed_plain : {kind : TokenKind} {n : ℕ} {z : ℤ} → Signed kind n z → shape kind ≡ Plain
signed_plain (plus kind n z e f) = ap shape e
signed_plain (minus kind n z e f) = ap shape e

-- a plain token of a claim
bare_plain : (x : Shape) (ss : List Shape) (o : Option State) → x ≡ Plain → walk ss Bare ≡ o → walk (x ∷ ss) Bare ≡ o
bare_plain x ss o e h = let P : Shape → Type 0 = λ v. walk (v ∷ ss) Bare ≡ o in subst P (sym e) h

in_plain : (x : Shape) (ss : List Shape) (s : State) (o : Option State) → x ≡ Plain → walk ss (Inside s) ≡ o → walk (x ∷ ss) (Inside s) ≡ o
in_plain x ss s o e h = let P : Shape → Type 0 = λ v. walk (v ∷ ss) (Inside s) ≡ o in subst P (sym e) h

produces : {l : Limits} {g : Part} {goals : List Goal} → Produces l g goals → Claim (part_shape g) (goal_shapes goals)
produces (level _ _ _ _ _ _ _ q0) = (refl, λ s. refl)
produces (operand _ _ _ _ _ q0) = (refl, λ s. refl)
produces (alone _ _ _ _ _ _ _ q0 q1) = (refl, λ s. refl)
produces (right _ _ _ _ _ _ _ t _ _ _ _ q0 q1 q2 q3 q4 q5 q6) = (bare_plain (shape t.kind) (Plain ∷ []) (Some Bare) (operator_plain t.kind q1) refl, λ s. in_plain (shape t.kind) (Plain ∷ []) s (Some (Inside s)) (operator_plain t.kind q1) refl)
produces (left _ _ _ _ _ _ _ t _ _ _ _ q0 q1 q2 q3) = (bare_plain (shape t.kind) (Plain ∷ Plain ∷ []) (Some Bare) (operator_plain t.kind q1) refl, λ s. in_plain (shape t.kind) (Plain ∷ Plain ∷ []) s (Some (Inside s)) (operator_plain t.kind q1) refl)
produces (prefix _ _ _ _ t _ _ _ _ q0 q1 q2 q3 q4) = (bare_plain (shape t.kind) (Plain ∷ []) (Some Bare) (prefix_plain t.kind q0) refl, λ s. in_plain (shape t.kind) (Plain ∷ []) s (Some (Inside s)) (prefix_plain t.kind q0) refl)
produces (atom _ _ _ _ t q0 q1) = (bare_plain (shape t.kind) (Plain ∷ []) (Some Bare) (ap shape q0) refl, λ s. in_plain (shape t.kind) (Plain ∷ []) s (Some (Inside s)) (ap shape q0) refl)
produces (macro _ _ _ _ t q0 q1) = (bare_plain (shape t.kind) (Plain ∷ []) (Some Bare) (ap shape q0) refl, λ s. in_plain (shape t.kind) (Plain ∷ []) s (Some (Inside s)) (ap shape q0) refl)
produces (tuple _ _ _ _ _ _ q0 q1 q2 q3) = (refl, λ s. refl)
produces (list _ _ _ _ q0 q1) = (refl, λ s. refl)
produces (case _ _ _ _ _ _ _ _ _ q0 q1 q2 q3 q4) = (refl, λ s. refl)
produces (receive _ _ _ _ _ _ q0 q1 q2 q3 q4) = (refl, λ s. refl)
produces (if_ _ _ _ _ _ _ q0 q1 q2 q3 q4) = (refl, λ s. refl)
produces (common _ _ _ _) = (refl, λ s. refl)
produces (variable _ _ _ _ t q0 q1 q2 q3) = (bare_plain (shape t.kind) [] (Some Bare) (ap shape q0) refl, λ s. in_plain (shape t.kind) [] s (Some (Inside s)) (ap shape q0) refl)
produces (integer _ _ _ _ t q0 q1 q2 q3) = (bare_plain (shape t.kind) [] (Some Bare) (ap shape q0) refl, λ s. in_plain (shape t.kind) [] s (Some (Inside s)) (ap shape q0) refl)
produces (character _ _ _ _ t q0 q1 q2 q3) = (bare_plain (shape t.kind) [] (Some Bare) (ap shape q0) refl, λ s. in_plain (shape t.kind) [] s (Some (Inside s)) (ap shape q0) refl)
produces (string _ _ _ _ t q0 q1 q2 q3 q4) = (bare_plain (shape t.kind) [] (Some Bare) (ap shape q1) refl, λ s. in_plain (shape t.kind) [] s (Some (Inside s)) (ap shape q1) refl)
produces (bits _ _ _ _ q0 q1) = (refl, λ s. refl)
produces (paren _ _ _ _ _ q0) = (refl, λ s. refl)
produces (call _ _ _ _ _ _ _ q0 q1 q2) = (refl, λ s. refl)
produces (no_call _ _ _ _ _) = (refl, λ s. refl)
produces (unqualified _ _ _ _ _ q0 q1) = (refl, λ s. refl)
produces (qualified _ _ _ _ _ t _ _ q0 q1 q2 q3 q4) = (bare_plain (shape t.kind) (Opens ∷ Shuts ∷ []) (Some Bare) (ap shape q2) refl, λ s. in_plain (shape t.kind) (Opens ∷ Shuts ∷ []) s (Some (Inside s)) (ap shape q2) refl)
produces (no_exprs close _ _ q0) = close_alone (shape close)
produces (exprs close _ _ _ _ _ _ _ q0 q1) = close_one (shape close)
produces (more_exprs close _ _ _ _ _ _ _ q0) = close_two (shape close)
produces (end_exprs close _ _ q0) = close_alone (shape close)
produces (no_list _ _ _ _ q0 q1) = λ s. refl
produces (list_first _ _ _ _ _ _ _ q0) = λ s. refl
produces (list_for _ _ _ _ _ _ _ _ q0 q1 q2) = λ s. refl
produces (list_items _ _ _ _ _ _ _ _ _ q0 q1) = λ s. refl
produces (next_item _ _ _ _ _ _ _ _ q0) = λ s. refl
produces (list_tail _ _ _ _) = λ s. refl
produces (end_list _ _ q0) = λ s. refl
produces (no_bits _ _ _ _ q0 q1) = λ s. refl
produces (bits_prefixed _ _ _ _ _ _ _ _ q0 q1 q2) = λ s. refl
produces (bits_first _ _ _ _ _ _ _ q0) = λ s. refl
produces (bits_for _ _ _ _ _ _ _ _ _ q0 q1 q2) = λ s. refl
produces (bits_segments _ _ _ _ _ _ _ _ _ _ _ q0 q1) = λ s. refl
produces (more_segments _ _ _ _ _ _ q0) = λ s. refl
produces (end_segments _ _ q0) = λ s. refl
produces (segment_prefixed _ _ _) = (refl, λ s. refl)
produces (segment _ _ _ _ _ _) = (refl, λ s. refl)
produces (prefixed _ _ _ t _ _ _ _ q0 q1) = (bare_plain (shape t.kind) (Plain ∷ Plain ∷ []) (Some Bare) (prefix_plain t.kind q0) refl, λ s. in_plain (shape t.kind) (Plain ∷ Plain ∷ []) s (Some (Inside s)) (prefix_plain t.kind q0) refl)
produces (simple_atom _ _ _ _ t q0 q1 q2 q3) = (bare_plain (shape t.kind) [] (Some Bare) (ap shape q0) refl, λ s. in_plain (shape t.kind) [] s (Some (Inside s)) (ap shape q0) refl)
produces (simple _ _ _ _) = (refl, λ s. refl)
produces (sized _ _ _ _ _ _ _ _ _ q0) = (refl, λ s. refl)
produces (unsized _ _ _ _ _ _ q0) = (refl, λ s. refl)
produces (typed _ _ _ _ _ _ q0) = (refl, λ s. refl)
produces (untyped _ _ _ _ q0) = (refl, λ s. refl)
produces (more_specs _ _) = (refl, λ s. refl)
produces end_specs = (refl, λ s. refl)
produces (spec _ t q0 q1) = (bare_plain (shape t.kind) [] (Some Bare) (ap shape q0) refl, λ s. in_plain (shape t.kind) [] s (Some (Inside s)) (ap shape q0) refl)
produces (unit _ t n q0 q1 q2 q3) = (bare_plain (shape t.kind) (Plain ∷ shape n.kind ∷ []) (Some Bare) (ap shape q0) (bare_plain (shape n.kind) [] (Some Bare) (ap shape q2) refl), λ s. in_plain (shape t.kind) (Plain ∷ shape n.kind ∷ []) s (Some (Inside s)) (ap shape q0) (in_plain (shape n.kind) [] s (Some (Inside s)) (ap shape q2) refl))
produces (any_spec _ t q0 q1 q2 q3) = (bare_plain (shape t.kind) [] (Some Bare) (ap shape q1) refl, λ s. in_plain (shape t.kind) [] s (Some (Inside s)) (ap shape q1) refl)
produces (quals close _ _ _ _ _ _ q0) = close_barred (shape close)
produces (more_quals close _ _ _ _ _ _ q0) = close_more (shape close)
produces (end_quals close _ _ q0) = close_alone (shape close)
produces (generator _ _ _ _ _ _ _ _ _ q0 q1) = λ s. refl
produces (bits_generator _ _ _ _ _ _ _ _ _ q0 q1 q2) = λ s. refl
produces (filter _ _ _ _ _ q0) = λ s. refl
produces (pattern _ _ _ _ _ _) = λ s. refl
produces (not_same _ _ _ _ _ _ q0 q1) = λ s. refl
produces (same _ _ _ _ _ _ _ _ _ _ _ q0 q1 q2) = λ s. refl
produces (more_same _ _ _ _ _ _ _ q0) = λ s. refl
produces (end_same _ _ q0) = λ s. refl
produces (pat_variable _ _ _ _ t q0 q1 q2 q3) = (bare_plain (shape t.kind) [] (Some Bare) (ap shape q0) refl, λ s. in_plain (shape t.kind) [] s (Some (Inside s)) (ap shape q0) refl)
produces (pat_wild _ _ _ _ q0 q1) = (refl, λ s. refl)
produces (pat_integer _ _ _ _ t q0 q1 q2 q3) = (bare_plain (shape t.kind) [] (Some Bare) (ap shape q0) refl, λ s. in_plain (shape t.kind) [] s (Some (Inside s)) (ap shape q0) refl)
produces (pat_signed _ _ _ _ t n _ q0 q1 q2 q3 q4) = (bare_plain (shape t.kind) (shape n.kind ∷ []) (Some Bare) (signed_plain q2) (bare_plain (shape n.kind) [] (Some Bare) (ap shape q1) refl), λ s. in_plain (shape t.kind) (shape n.kind ∷ []) s (Some (Inside s)) (signed_plain q2) (in_plain (shape n.kind) [] s (Some (Inside s)) (ap shape q1) refl))
produces (pat_character _ _ _ _ t q0 q1 q2 q3) = (bare_plain (shape t.kind) [] (Some Bare) (ap shape q0) refl, λ s. in_plain (shape t.kind) [] s (Some (Inside s)) (ap shape q0) refl)
produces (pat_atom _ _ _ _ t q0 q1 q2 q3) = (bare_plain (shape t.kind) [] (Some Bare) (ap shape q0) refl, λ s. in_plain (shape t.kind) [] s (Some (Inside s)) (ap shape q0) refl)
produces (pat_string _ _ _ _ t q0 q1 q2 q3) = (bare_plain (shape t.kind) [] (Some Bare) (ap shape q0) refl, λ s. in_plain (shape t.kind) [] s (Some (Inside s)) (ap shape q0) refl)
produces (pat_paren _ _ _ _ _ q0) = (refl, λ s. refl)
produces (pat_tuple _ _ _ _ _ _ q0 q1 q2) = (refl, λ s. refl)
produces (pat_list _ _ _ _ _ _ _ q0 q1 q2) = (refl, λ s. refl)
produces (pat_bits _ _ _ _ _ q0 q1) = (refl, λ s. refl)
produces (no_patterns close _ _ q0) = close_alone (shape close)
produces (patterns close _ _ _ _ _ _ _ q0 q1) = close_barred (shape close)
produces (more_patterns close _ _ _ _ _ _ _ q0) = close_more (shape close)
produces (end_patterns close _ _ q0) = close_alone (shape close)
produces (no_pattern_list _ _ q0) = λ s. refl
produces (pattern_list _ _ _ _ _ _ _ _ q0 q1) = λ s. refl
produces (next_pattern _ _ _ _ _ _ _ _ q0) = λ s. refl
produces (pattern_tail _ _ _ _) = λ s. refl
produces (end_pattern_list _ _ q0) = λ s. refl
produces (no_pattern_bits _ _ q0) = λ s. refl
produces (pattern_bits _ _ _ _ _ _ q0 q1) = λ s. refl
produces (more_pattern_segments _ _ _ _ _ _ q0) = λ s. refl
produces (end_pattern_segments _ _ q0) = λ s. refl
produces (pattern_segment _ _ _ _ _ _) = (refl, λ s. refl)
produces (value_variable _ _ _ _ t q0 q1 q2 q3) = (bare_plain (shape t.kind) [] (Some Bare) (ap shape q0) refl, λ s. in_plain (shape t.kind) [] s (Some (Inside s)) (ap shape q0) refl)
produces (value_wild _ _ _ _ q0 q1) = (refl, λ s. refl)
produces (value_integer _ _ _ _ t q0 q1 q2 q3) = (bare_plain (shape t.kind) [] (Some Bare) (ap shape q0) refl, λ s. in_plain (shape t.kind) [] s (Some (Inside s)) (ap shape q0) refl)
produces (value_signed _ _ _ _ t n _ q0 q1 q2 q3 q4 q5 q6) = (bare_plain (shape t.kind) (shape n.kind ∷ []) (Some Bare) (prefix_plain t.kind q1) (bare_plain (shape n.kind) [] (Some Bare) (ap shape q4) refl), λ s. in_plain (shape t.kind) (shape n.kind ∷ []) s (Some (Inside s)) (prefix_plain t.kind q1) (in_plain (shape n.kind) [] s (Some (Inside s)) (ap shape q4) refl))
produces (value_character _ _ _ _ t q0 q1 q2 q3) = (bare_plain (shape t.kind) [] (Some Bare) (ap shape q0) refl, λ s. in_plain (shape t.kind) [] s (Some (Inside s)) (ap shape q0) refl)
produces (value_string _ _ _ _ t q0 q1 q2 q3) = (bare_plain (shape t.kind) [] (Some Bare) (ap shape q0) refl, λ s. in_plain (shape t.kind) [] s (Some (Inside s)) (ap shape q0) refl)
produces (pattern_sized _ _ _ _ _ _ _ _ q0) = (refl, λ s. refl)
produces (pattern_unsized _ _ _ _ _ _ q0) = (refl, λ s. refl)
produces (size_integer _ _ _ t q0 q1 q2) = (bare_plain (shape t.kind) [] (Some Bare) (ap shape q0) refl, λ s. in_plain (shape t.kind) [] s (Some (Inside s)) (ap shape q0) refl)
produces (size_variable _ _ _ t q0 q1 q2) = (bare_plain (shape t.kind) [] (Some Bare) (ap shape q0) refl, λ s. in_plain (shape t.kind) [] s (Some (Inside s)) (ap shape q0) refl)
produces (size_paren _ _ _ _ q0) = (refl, λ s. refl)
produces (unguarded _ _ _ q0 q1) = (refl, λ s. refl)
produces (guarded _ _ _ _ _ q0) = (refl, λ s. refl)
produces (tests _ _ _ _ _ _ _ _ q0) = (refl, λ s. refl)
produces (next_test _ _ _ _ _ _ _ _ q0) = (refl, λ s. refl)
produces (next_alternative _ _ _ _ _ _ _ _ q0) = (refl, λ s. refl)
produces (end_tests _ _ q0) = (refl, λ s. refl)
produces (body _ _ _ _ _ _ q0) = λ s. refl
produces (more_items _ _ _ _ _ _ q0) = λ s. refl
produces (end_items _ _ q0) = λ s. refl
produces (item_match _ _ _ _ _ _ _ _ _ q0 q1) = λ s. refl
produces (item_value _ _ _ _ _ q0) = λ s. refl
produces (alts _ _ _ _ _ _ q0) = λ s. refl
produces (more_alts _ _ _ _ _ _ q0) = λ s. refl
produces (end_alts _ _ q0) = λ s. refl
produces (alt _ _ _ _ _ _ _ _ _ _ q0 q1) = λ s. refl
produces (branches _ _ _ _ _ _ q0) = λ s. refl
produces (more_branches _ _ _ _ _ _ q0) = λ s. refl
produces (end_branches _ _ q0) = λ s. refl
produces (branch _ _ _ _ _ _ _ _ q0 q1) = λ s. refl
produces no_forms = tt
produces (head _ _ _ _ _ _ _ q0 q1 q2 q3) = tt
produces (export _ _ _ _ _ _ q0 q1 q2) = tt
produces (skipped _ _ _ _ q0 q1) = tt
produces (any_form _ _ _ _ q0 q1 q2) = tt
produces (function _ _ _ _ _ _ q0) = tt
produces end_skipped = tt
produces (skips _ q0) = tt
produces no_names = tt
produces (names _ _) = tt
produces (more_names _ _) = tt
produces end_names = tt
produces (name _ _ _ q0 q1 q2) = tt
produces (more_clauses _ _) = tt
produces end_clauses = tt
produces (clause _ _ _ _ _ _ _ _ q0 q1) = tt

-- ---- A walk over goals is one over their tokens

by_claim : (x : Shape) (ss : List Shape) → Claim x ss → (s t : State) → step s x ≡ Some t → walk ss s ≡ Some t
by_claim Plain ss c Floor t h = cc
by_claim Plain ss c Bare t h = c.0 ∙ h
by_claim Plain ss c (Inside s) t h = c.1 s ∙ h
by_claim Opens ss c s t h = absurd c
by_claim Shuts ss c Floor t h = cc
by_claim Shuts ss c Bare t h = cc
by_claim Shuts ss c (Inside s) t h = c s ∙ h
by_claim Barred ss c Floor t h = cc
by_claim Barred ss c Bare t h = cc
by_claim Barred ss c (Inside s) t h = c s ∙ h
by_claim Never ss c Floor t h = cc
by_claim Never ss c Bare t h = cc
by_claim Never ss c (Inside s) t h = cc

abbrev pub going : Option State → List Shape → Option State
going o xs = elim o as (λ v. Option State) [ None ↦ None | Some t ↦ walk xs t ]

pub going_on : (o : Option State) (xs ys : List Shape) (t : State) → ((r : State) → o ≡ Some r → walk xs r ≡ Some t → walk ys r ≡ Some t) → going o xs ≡ Some t → going o ys ≡ Some t
going_on None xs ys t f h = cc
going_on (Some r) xs ys t f h = f r refl h

both_after : (o : Option State) (xs ys : List Shape) → ((r : State) → walk (xs ++ ys) r ≡ going (walk xs r) ys) → going o (xs ++ ys) ≡ going (going o xs) ys
both_after None xs ys f = refl
both_after (Some r) xs ys f = f r

pub walk_both : (xs ys : List Shape) (s : State) → walk (xs ++ ys) s ≡ going (walk xs s) ys
walk_both [] ys s = refl
walk_both (x ∷ xs) ys s = both_after (step s x) xs ys (walk_both xs ys)

shapes_of_goals : (gs hs : List Goal) → goal_shapes (gs ++ hs) ≡ goal_shapes gs ++ goal_shapes hs
shapes_of_goals [] hs = refl
shapes_of_goals (g ∷ gs) hs = ap (λ v. goal_shape g ∷ v) (shapes_of_goals gs hs)

of_kind : (x y : Shape) (ss : List Shape) (s t : State) → y ≡ x → walk (x ∷ ss) s ≡ Some t → walk (y ∷ ss) s ≡ Some t
of_kind x y ss s t e h = let P : Shape → Type 0 = λ v. walk (v ∷ ss) s ≡ Some t in subst P (sym e) h

stepped : (o p : Option State) (ss : List Shape) (t : State) → ((r : State) → o ≡ Some r → p ≡ Some r) → going o ss ≡ Some t → going p ss ≡ Some t
stepped None p ss t f h = cc
stepped (Some r) p ss t f h = ap (λ v. going v ss) (f r refl) ∙ h

expanded : (x : Shape) (goals gs : List Goal) → Claim x (goal_shapes goals) → (s t : State) → walk (x ∷ goal_shapes gs) s ≡ Some t → walk (goal_shapes (goals ++ gs)) s ≡ Some t
expanded x goals gs c s t h = ap (λ v. walk v s) (shapes_of_goals goals gs) ∙ walk_both (goal_shapes goals) (goal_shapes gs) s ∙ stepped (step s x) (walk (goal_shapes goals) s) (goal_shapes gs) t (λ r e. by_claim x (goal_shapes goals) c s r e) h

pub walks : {l : Limits} {gs : List Goal} {w : List Word} → Spells l gs w → (s t : State) → walk (goal_shapes gs) s ≡ Some t → walk (shapes w) s ≡ Some t
walks ends s t h = h
walks (takes {kind = kind} {gs = gs} {w = w} u e d) s t h = going_on (step s (shape u.kind)) (goal_shapes gs) (shapes w) t (λ r i j. walks d r t j) (of_kind (shape kind) (shape u.kind) (goal_shapes gs) s t (ap shape e) h)
walks (begins {kind = kind} {gs = gs} {w = w} u e f d) s t h = going_on (step s (shape u.kind)) (goal_shapes gs) (shapes w) t (λ r i j. walks d r t j) (of_kind (shape kind) (shape u.kind) (goal_shapes gs) s t (ap shape e) h)
walks (this {t = u} {gs = gs} {w = w} d) s t h = going_on (step s (shape u.kind)) (goal_shapes gs) (shapes w) t (λ r i j. walks d r t j) h
walks (expands {g = g} {gs = gs} goals p d) s t h = walks d s t (expanded (part_shape g) goals gs (produces p) s t h)
