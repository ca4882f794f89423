-- The variables of what tokens spell stand where these tokens do, in their order: one line a production of the grammar.
use Rattle.std.proofs.Common.{◌≡◌, pos, List, [], ◌∷◌, ◌++◌, map, sym, ap, subst, ◌∙◌, append_assoc, append-nil}
use Rattle.std.specs.List.{AllByRecursion}
use Rattle.std.proofs.lemmas.List.Elements.{All-from_recursion, recursion_from_All}
use Rattle.erl_syntax.specs.Checking.{IsBefore, RisingBy}
use Rattle.erl_syntax.specs.declared.span.Span.{Span}
use Rattle.erl_syntax.specs.declared.expr.Expr.TheVariants as x
use Rattle.erl_syntax.specs.declared.module.Function.{Function}
use Rattle.erl_syntax.specs.declared.module.Head.{Head}
use Rattle.erl_syntax.specs.declared.module.Name.{Name}
use Rattle.erl_syntax.specs.Word.{Word}
use Rattle.erl_syntax.specs.Grammar.{Limits, Goal, Mark, At, The, Of, Part, Level, Tail, Operand, Common, AfterAtom, Qualified, Exprs, MoreExprs, ListRest, AfterFirst, ListItems, BitsRest, AfterValue, Prefixed, ASegment, MoreSegments, Simple, SegmentRest, SegmentType, ASpec, MoreSpecs, Quals, MoreQuals, AQual, APattern, SameTail, MoreSame, Pat, Patterns, MorePatterns, PatternList, PatternItems, PatternBits, MorePatternSegments, PatternSegment, PatternValue, PatternSegmentRest, PatternSize, Guarded, Tests, MoreTests, Body, MoreItems, AnItem, Alts, MoreAlts, AnAlt, Branches, MoreBranches, ABranch, Forms, Skipped, Names, MoreNames, AName, MoreClauses, AClause, level, operand, alone, right, left, prefix, atom, macro, tuple, list, case, receive, if_, common, variable, integer, character, string, bits, paren, call, no_call, unqualified, qualified, no_exprs, exprs, more_exprs, end_exprs, no_list, list_first, list_for, list_items, next_item, list_tail, end_list, no_bits, bits_prefixed, bits_first, bits_for, bits_segments, more_segments, end_segments, segment_prefixed, segment, prefixed, simple_atom, simple, sized, unsized, typed, untyped, more_specs, end_specs, spec, unit, any_spec, quals, more_quals, end_quals, generator, bits_generator, filter, pattern, not_same, same, more_same, end_same, pat_variable, pat_wild, pat_integer, pat_signed, pat_character, pat_atom, pat_string, pat_paren, pat_tuple, pat_list, pat_bits, no_patterns, patterns, more_patterns, end_patterns, no_pattern_list, pattern_list, next_pattern, pattern_tail, end_pattern_list, no_pattern_bits, pattern_bits, more_pattern_segments, end_pattern_segments, pattern_segment, value_variable, value_wild, value_integer, value_signed, value_character, value_string, pattern_sized, pattern_unsized, size_integer, size_variable, size_paren, unguarded, guarded, tests, next_test, next_alternative, end_tests, body, more_items, end_items, item_match, item_value, alts, more_alts, end_alts, alt, branches, more_branches, end_branches, branch, no_forms, head, export, skipped, any_form, function, end_skipped, skips, no_names, names, more_names, end_names, name, more_clauses, end_clauses, clause, Produces, Spells, ends, takes, begins, this, expands}
use Rattle.module_laws.specs.Variables.{expr_spans, pattern_spans, qual_spans, alt_spans, branch_spans, guard_spans, item_spans, segment_spans, clause_spans, function_spans}
use Rattle.module_laws.proofs.VariableForms.{in_exprs, in_segments, in_quals, in_alts, in_branches, in_patterns, in_items, in_tests, in_size, in_clauses, expr-Var, expr-Wild, expr-Int, expr-Char, expr-Atom, expr-ModuleName, expr-Str, expr-Tuple, expr-List, expr-Bits, expr-Call, expr-Receive, expr-If, expr-One, expr-Two, expr-OneCase, expr-OneCall, expr-OneListFor, expr-OneBitsFor, expr-MoreList, pattern-Var, pattern-Wild, pattern-Int, pattern-Char, pattern-Atom, pattern-Str, pattern-Tuple, pattern-List, pattern-Bits, pattern-Same, qual-Items, qual-Bits, qual-Filter, guard-of, item-of, item-More, segment-of, alt-of, branch-of}

-- ---- Some of a list, in its order

pub data Some_of : List Span → List Span → Type 0 where
  nothing : Some_of [] []
  left_out : (y : Span) (xs ys : List Span) → Some_of xs ys → Some_of xs (y ∷ ys)
  taken : (y : Span) (xs ys : List Span) → Some_of xs ys → Some_of (y ∷ xs) (y ∷ ys)

none_of : (ys : List Span) → Some_of [] ys
none_of [] = nothing
none_of (y ∷ ys) = left_out y [] ys (none_of ys)

abbrev rest : List Span → List Span
rest [] = []
rest (y ∷ ys) = ys

but_first : (xs ys : List Span) → Some_of xs ys → Some_of (rest xs) ys
but_first _ _ nothing = nothing
but_first _ _ (left_out y xs ys s) = left_out y (rest xs) ys (but_first xs ys s)
but_first _ _ (taken y xs ys s) = left_out y xs ys s

backs_of : (xs tail ys : List Span) → Some_of (xs ++ tail) ys → Some_of tail ys
backs_of [] tail ys s = s
backs_of (y ∷ xs) tail ys s = backs_of xs tail ys (but_first (y ∷ (xs ++ tail)) ys s)

-- these places stand in the one list before the other, which ends it
record Has (xs from_ to_ : List Span) : Type 0 where
  pub holds : (tail : List Span) → Some_of tail to_ → Some_of (xs ++ tail) from_

here : {us : List Span} → Has [] us us
here = record { holds = λ tail s. s }

past_one : (y : Span) (us : List Span) → Has [] (y ∷ us) us
past_one y us = record { holds = λ tail s. left_out y tail us s }

this_one : (y : Span) (us : List Span) → Has (y ∷ []) (y ∷ us) us
this_one y us = record { holds = λ tail s. taken y tail us s }

joins : {xs ys us vs ws : List Span} → Has xs us vs → Has ys vs ws → Has (xs ++ ys) us ws
joins {xs = xs} {ys = ys} {us = us} h g = record { holds = λ tail s. subst (λ (zs : List Span). Some_of zs us) (sym (append_assoc xs ys tail)) (h.holds (ys ++ tail) (g.holds tail s)) }

upto : {xs us vs ws : List Span} → Has xs us vs → Has [] vs ws → Has xs us ws
upto h g = record { holds = λ tail s. h.holds tail (g.holds tail s) }

past : {xs us vs ws : List Span} → Has [] us vs → Has xs vs ws → Has xs us ws
past {xs = xs} h g = record { holds = λ tail s. h.holds (xs ++ tail) (g.holds tail s) }

dropped : {xs us vs : List Span} → Has xs us vs → Has [] us vs
dropped {xs = xs} {us = us} h = record { holds = λ tail s. backs_of xs tail us (h.holds tail s) }

same_as : {xs ys us vs : List Span} → xs ≡ ys → Has ys us vs → Has xs us vs
same_as {us = us} {vs = vs} e h = subst (λ (zs : List Span). Has zs us vs) (sym e) h

-- the places of each function's variables are some of these
abbrev pub EachWithin : List Span → List Function → Type 0
EachWithin us [] = Unit {0}
EachWithin us (f ∷ fs) = Some_of (function_spans f) us × EachWithin us fs

widen : {us vs : List Span} (fs : List Function) → Has [] us vs → EachWithin vs fs → EachWithin us fs
widen [] h g = tt
widen (f ∷ fs) h g = (h.holds (function_spans f) g.0, widen fs h g.1)

whole_sub : {xs ys us vs : List Span} → xs ≡ ys → Has ys us vs → Some_of xs us
whole_sub {xs = xs} {ys = ys} {us = us} {vs = vs} e h = subst (λ (zs : List Span). Some_of zs us) (append-nil ys ∙ sym e) (h.holds [] (none_of vs))

-- ---- Productions

abbrev Good : Part → List Span → List Span → Type 0
Good (Level n c at e d) u v = Has (expr_spans e) u v
Good (Tail n c at y dy e d) u v = (f : List Span) → Has (expr_spans y) f u → Has (expr_spans e) f v
Good (Operand c at e d) u v = Has (expr_spans e) u v
Good (Common c at e d) u v = Has (expr_spans e) u v
Good (AfterAtom c at n e d) u v = Has (expr_spans e) u v
Good (Qualified c at y e d) u v = (f : List Span) → Has (expr_spans y) f u → Has (expr_spans e) f v
Good (Exprs close c ys d) u v = Has (in_exprs ys) u v
Good (MoreExprs close c ys d) u v = Has (in_exprs ys) u v
Good (ListRest c at e d) u v = Has (expr_spans e) u v
Good (AfterFirst c at y dy e d) u v = (f : List Span) → Has (expr_spans y) f u → Has (expr_spans e) f v
Good (ListItems c ys tail d) u v = Has (in_exprs ys ++ in_exprs tail) u v
Good (BitsRest c at e d) u v = Has (expr_spans e) u v
Good (AfterValue c at ay y dy e d) u v = (f : List Span) → Has (expr_spans y) f u → Has (expr_spans e) f v
Good (Prefixed c sg d) u v = Has (segment_spans sg) u v
Good (ASegment c sg d) u v = Has (segment_spans sg) u v
Good (MoreSegments c sgs d) u v = Has (in_segments sgs) u v
Good (Simple c at e d) u v = Has (expr_spans e) u v
Good (SegmentRest c at y dy sg d) u v = (f : List Span) → Has (expr_spans y) f u → Has (segment_spans sg) f v
Good (SegmentType at y size sg) u v = (f : List Span) → Has (expr_spans y ++ in_size size) f u → Has (segment_spans sg) f v
Good (ASpec sp) u v = Has [] u v
Good (MoreSpecs sps) u v = Has [] u v
Good (Quals close c gs d) u v = Has (in_quals gs) u v
Good (MoreQuals close c gs d) u v = Has (in_quals gs) u v
Good (AQual c g d) u v = Has (qual_spans g) u v
Good (APattern c at pt d) u v = Has (pattern_spans pt) u v
Good (SameTail c at y dy pt d) u v = (f : List Span) → Has (pattern_spans y) f u → Has (pattern_spans pt) f v
Good (MoreSame c ps d) u v = Has (in_patterns ps) u v
Good (Pat c at pt d) u v = Has (pattern_spans pt) u v
Good (Patterns close c ps d) u v = Has (in_patterns ps) u v
Good (MorePatterns close c ps d) u v = Has (in_patterns ps) u v
Good (PatternList c ps tail d) u v = Has (in_patterns ps ++ in_patterns tail) u v
Good (PatternItems c ps tail d) u v = Has (in_patterns ps ++ in_patterns tail) u v
Good (PatternBits c sgs d) u v = Has (in_segments sgs) u v
Good (MorePatternSegments c sgs d) u v = Has (in_segments sgs) u v
Good (PatternSegment c sg d) u v = Has (segment_spans sg) u v
Good (PatternValue c at e d) u v = Has (expr_spans e) u v
Good (PatternSegmentRest c at y dy sg d) u v = (f : List Span) → Has (expr_spans y) f u → Has (segment_spans sg) f v
Good (PatternSize c e d) u v = Has (expr_spans e) u v
Good (Guarded c g d) u v = Has (guard_spans g) u v
Good (Tests c at ts d) u v = Has (in_tests ts) u v
Good (MoreTests c ys ts d) u v = Has (in_exprs ys ++ in_tests ts) u v
Good (Body c is d) u v = Has (in_items is) u v
Good (MoreItems c is d) u v = Has (in_items is) u v
Good (AnItem c i d) u v = Has (item_spans i) u v
Good (Alts c as_ d) u v = Has (in_alts as_) u v
Good (MoreAlts c as_ d) u v = Has (in_alts as_) u v
Good (AnAlt c a d) u v = Has (alt_spans a) u v
Good (Branches c bs d) u v = Has (in_branches bs) u v
Good (MoreBranches c bs d) u v = Has (in_branches bs) u v
Good (ABranch c b d) u v = Has (branch_spans b) u v
Good (Forms hs es fs) u v = EachWithin u fs
Good Skipped u v = Has [] u v
Good (Names ns) u v = Has [] u v
Good (MoreNames ns) u v = Has [] u v
Good (AName n) u v = Has [] u v
Good (MoreClauses cs) u v = Has (in_clauses cs) u v
Good (AClause c) u v = Has (clause_spans c) u v

abbrev AreGood : List Goal → List Span → List Span → Type 0
AreGood [] u v = Has [] u v
AreGood (Mark kind ∷ gs) u v = (w : List Span) × Has [] u w × AreGood gs w v
AreGood (At kind at ∷ gs) u v = (w : List Span) × Has [] u w × AreGood gs w v
AreGood (The t ∷ gs) u v = (w : List Span) × (Has (t.at ∷ []) u w × Has [] u w) × AreGood gs w v
AreGood (Of g ∷ gs) u v = (w : List Span) × Good g u w × AreGood gs w v

parted : (gs more : List Goal) (u v : List Span) → AreGood (gs ++ more) u v → (w : List Span) × AreGood gs u w × AreGood more w v
parted [] more u v h = (u, here, h)
parted (Mark kind ∷ gs) more u v h = let r = parted gs more h.0 v h.2 in (r.0, (h.0, h.1, r.1), r.2)
parted (At kind at ∷ gs) more u v h = let r = parted gs more h.0 v h.2 in (r.0, (h.0, h.1, r.1), r.2)
parted (The t ∷ gs) more u v h = let r = parted gs more h.0 v h.2 in (r.0, (h.0, h.1, r.1), r.2)
parted (Of g ∷ gs) more u v h = let r = parted gs more h.0 v h.2 in (r.0, (h.0, h.1, r.1), r.2)

part_good : (l : Limits) (g : Part) (goals : List Goal) → Produces l g goals → (u v : List Span) → AreGood goals u v → Good g u v
part_good l _ _ (level n c at y dy e d q0) u0 v0 gs = upto (gs.2.1 _ gs.1) gs.2.2
part_good l _ _ (operand n c at e d q0) u0 v0 gs = upto gs.1 gs.2
part_good l _ _ (alone n c at y dy e d q0 q1) u0 v0 gs = λ f h. same_as (ap expr_spans q0) (upto h gs)
part_good l _ _ (right n c at y dy e d t op az z dz q0 q1 q2 q3 q4 q5 q6) u0 v0 gs = λ f h. same_as (ap expr_spans q5 ∙ expr-Two at op y z) (joins h (past gs.1.1 (upto gs.2.1 gs.2.2)))
part_good l _ _ (left n c at y dy e d t op az z dz q0 q1 q2 q3) u0 v0 gs = λ f h. upto (gs.2.2.1 f (same_as (expr-Two at op y z) (joins h (past gs.1.1 gs.2.1)))) gs.2.2.2
part_good l _ _ (prefix c at e d t op ay y dy q0 q1 q2 q3 q4) u0 v0 gs = same_as (ap expr_spans q3 ∙ expr-One at op y) (past gs.1.1 (upto gs.2.1 gs.2.2))
part_good l _ _ (atom c at e d t q0 q1) u0 v0 gs = past gs.1.1 (upto gs.2.1 gs.2.2)
part_good l _ _ (macro c at e d t q0 q1) u0 v0 gs = upto (gs.2.2.1 _ (same_as (expr-ModuleName at) (past gs.1 gs.2.1.1))) gs.2.2.2
part_good l _ _ (tuple c at e d ys dys q0 q1 q2 q3) u0 v0 gs = same_as (ap expr_spans q2 ∙ expr-Tuple at ys) (past gs.1 (upto gs.2.1 gs.2.2))
part_good l _ _ (list c at e d q0 q1) u0 v0 gs = past gs.1 (upto gs.2.1 gs.2.2)
part_good l _ _ (case c at e d ay y dy alts_ da q0 q1 q2 q3 q4) u0 v0 gs = same_as (ap expr_spans q3 ∙ expr-OneCase at y alts_) (past gs.1 (joins gs.2.1 (past gs.2.2.1 (upto gs.2.2.2.1 gs.2.2.2.2))))
part_good l _ _ (receive c at e d alts_ da q0 q1 q2 q3 q4) u0 v0 gs = same_as (ap expr_spans q3 ∙ expr-Receive at alts_) (past gs.1 (upto gs.2.1 gs.2.2))
part_good l _ _ (if_ c at e d bs db q0 q1 q2 q3 q4) u0 v0 gs = same_as (ap expr_spans q3 ∙ expr-If at bs) (past gs.1 (upto gs.2.1 gs.2.2))
part_good l _ _ (common c at e d) u0 v0 gs = upto gs.1 gs.2
part_good l _ _ (variable c at e d t q0 q1 q2 q3) u0 v0 gs = same_as (ap expr_spans q2 ∙ expr-Var at t.chars ∙ ap (λ (w : Span). w ∷ []) q1) (upto gs.1.0 gs.2)
part_good l _ _ (integer c at e d t q0 q1 q2 q3) u0 v0 gs = same_as (ap expr_spans q2 ∙ expr-Int at (pos t.number)) (past gs.1.1 gs.2)
part_good l _ _ (character c at e d t q0 q1 q2 q3) u0 v0 gs = same_as (ap expr_spans q2 ∙ expr-Char at t.number) (past gs.1.1 gs.2)
part_good l _ _ (string c at e d t q0 q1 q2 q3 q4) u0 v0 gs = same_as (ap expr_spans q3 ∙ expr-Str at t.chars) (past gs.1.1 gs.2)
part_good l _ _ (bits c at e d q0 q1) u0 v0 gs = past gs.1 (upto gs.2.1 gs.2.2)
part_good l _ _ (paren c at e d ay q0) u0 v0 gs = past gs.1 (upto gs.2.1 (past gs.2.2.1 gs.2.2.2))
part_good l _ _ (call c at n e d ys dys q0 q1 q2) u0 v0 gs = same_as (ap expr_spans q1 ∙ expr-Call at [] n ys) (past gs.1 (upto gs.2.1 gs.2.2))
part_good l _ _ (no_call c at n e d) u0 v0 gs = upto (gs.1 _ (same_as (expr-Atom at n) here)) gs.2
part_good l _ _ (unqualified c at y e d q0 q1) u0 v0 gs = λ f h. same_as (ap expr_spans q0) (upto h gs)
part_good l _ _ (qualified c at y e d t ys dys q0 q1 q2 q3 q4) u0 v0 gs = λ f h. same_as (ap expr_spans q3 ∙ expr-OneCall at y t.number ys) (joins h (past gs.1 (past gs.2.1.1 (past gs.2.2.1 (upto gs.2.2.2.1 gs.2.2.2.2)))))
part_good l _ _ (no_exprs close c d q0) u0 v0 gs = past gs.1 gs.2
part_good l _ _ (exprs close c ay y dy ys dys d q0 q1) u0 v0 gs = joins gs.1 (upto gs.2.1 gs.2.2)
part_good l _ _ (more_exprs close c ay y dy ys dys d q0) u0 v0 gs = past gs.1 (joins gs.2.1 (upto gs.2.2.1 gs.2.2.2))
part_good l _ _ (end_exprs close c d q0) u0 v0 gs = past gs.1 gs.2
part_good l _ _ (no_list c at e d q0 q1) u0 v0 gs = same_as (ap expr_spans q0 ∙ expr-List at [] []) (past gs.1 gs.2)
part_good l _ _ (list_first c at e d ay y dy q0) u0 v0 gs = upto (gs.2.1 _ gs.1) gs.2.2
part_good l _ _ (list_for c at y dy e d qs dq q0 q1 q2) u0 v0 gs = λ f h. same_as (ap expr_spans q1 ∙ expr-OneListFor at y qs) (joins h (past gs.1 (upto gs.2.1 gs.2.2)))
part_good l _ _ (list_items c at y dy e d ys tail dys q0 q1) u0 v0 gs = λ f h. same_as (ap expr_spans q0 ∙ expr-MoreList at y ys tail) (joins h (upto gs.1 gs.2))
part_good l _ _ (next_item c ay y dy ys tail dys d q0) u0 v0 gs = same_as (append_assoc (expr_spans y) (in_exprs ys) (in_exprs tail)) (past gs.1 (joins gs.2.1 (upto gs.2.2.1 gs.2.2.2)))
part_good l _ _ (list_tail c ay y d) u0 v0 gs = same_as (append-nil (expr_spans y)) (past gs.1 (upto gs.2.1 (past gs.2.2.1 gs.2.2.2)))
part_good l _ _ (end_list c d q0) u0 v0 gs = past gs.1 gs.2
part_good l _ _ (no_bits c at e d q0 q1) u0 v0 gs = same_as (ap expr_spans q0 ∙ expr-Bits at []) (past gs.1 gs.2)
part_good l _ _ (bits_prefixed c at e d sg ds sgs dss q0 q1 q2) u0 v0 gs = same_as (ap expr_spans q1 ∙ expr-Bits at (sg ∷ sgs)) (joins gs.1 (upto gs.2.1 gs.2.2))
part_good l _ _ (bits_first c at e d ay y dy q0) u0 v0 gs = upto (gs.2.1 _ gs.1) gs.2.2
part_good l _ _ (bits_for c at ay y dy e d qs dq q0 q1 q2) u0 v0 gs = λ f h. same_as (ap expr_spans q1 ∙ expr-OneBitsFor at y qs) (joins h (past gs.1 (upto gs.2.1 gs.2.2)))
part_good l _ _ (bits_segments c at ay y dy e d sg ds sgs dss q0 q1) u0 v0 gs = λ f h. same_as (ap expr_spans q0 ∙ expr-Bits at (sg ∷ sgs)) (joins (gs.1 f h) (upto gs.2.1 gs.2.2))
part_good l _ _ (more_segments c sg ds sgs dss d q0) u0 v0 gs = past gs.1 (joins gs.2.1 (upto gs.2.2.1 gs.2.2.2))
part_good l _ _ (end_segments c d q0) u0 v0 gs = past gs.1 gs.2
part_good l _ _ (segment_prefixed c sg d) u0 v0 gs = upto gs.1 gs.2
part_good l _ _ (segment c sg d ay y dy) u0 v0 gs = upto (gs.2.1 _ gs.1) gs.2.2
part_good l _ _ (prefixed c sg d t op ay y dy q0 q1) u0 v0 gs = upto (gs.2.2.1 _ (same_as (expr-One t.at op y) (past gs.1.1 gs.2.1))) gs.2.2.2
part_good l _ _ (simple_atom c at e d t q0 q1 q2 q3) u0 v0 gs = same_as (ap expr_spans q2 ∙ expr-Atom at t.number) (past gs.1.1 gs.2)
part_good l _ _ (simple c at e d) u0 v0 gs = upto gs.1 gs.2
part_good l _ _ (sized c at y dy sg d az z dz q0) u0 v0 gs = λ f h. upto (gs.2.2.1 f (joins h (past gs.1 gs.2.1))) gs.2.2.2
part_good l _ _ (unsized c at y dy sg d q0) u0 v0 gs = λ f h. upto (gs.1 f (same_as (append-nil (expr_spans y)) h)) gs.2
part_good l _ _ (typed at y size sg sp sps q0) u0 v0 gs = λ f h. same_as (ap segment_spans q0 ∙ segment-of at y size (sp ∷ sps)) (upto h (past gs.1 (joins gs.2.1 (upto gs.2.2.1 gs.2.2.2))))
part_good l _ _ (untyped at y size sg q0) u0 v0 gs = λ f h. same_as (ap segment_spans q0 ∙ segment-of at y size []) (upto h gs)
part_good l _ _ (more_specs sp sps) u0 v0 gs = past gs.1 (joins gs.2.1 (upto gs.2.2.1 gs.2.2.2))
part_good l _ _ end_specs u0 v0 gs = gs
part_good l _ _ (spec sp t q0 q1) u0 v0 gs = past gs.1.1 gs.2
part_good l _ _ (unit sp t n q0 q1 q2 q3) u0 v0 gs = past gs.1.1 (past gs.2.1 (past gs.2.2.1.1 gs.2.2.2))
part_good l _ _ (any_spec sp t q0 q1 q2 q3) u0 v0 gs = past gs.1.1 gs.2
part_good l _ _ (quals close c ql dq qs dqs d q0) u0 v0 gs = joins gs.1 (upto gs.2.1 gs.2.2)
part_good l _ _ (more_quals close c ql dq qs dqs d q0) u0 v0 gs = past gs.1 (joins gs.2.1 (upto gs.2.2.1 gs.2.2.2))
part_good l _ _ (end_quals close c d q0) u0 v0 gs = past gs.1 gs.2
part_good l _ _ (generator c ql d at pt dp az z dz q0 q1) u0 v0 gs = same_as (ap qual_spans q0 ∙ qual-Items at pt z) (joins gs.1 (past gs.2.1 (upto gs.2.2.1 gs.2.2.2)))
part_good l _ _ (bits_generator c ql d at sgs ds az z dz q0 q1 q2) u0 v0 gs = same_as (ap qual_spans q1 ∙ qual-Bits at sgs z) (past gs.1 (joins gs.2.1 (past gs.2.2.1 (upto gs.2.2.2.1 gs.2.2.2.2))))
part_good l _ _ (filter c ql d at y q0) u0 v0 gs = same_as (ap qual_spans q0 ∙ qual-Filter at y) (upto gs.1 gs.2)
part_good l _ _ (pattern c at e d y dy) u0 v0 gs = upto (gs.2.1 _ gs.1) gs.2.2
part_good l _ _ (not_same c at y dy e d q0 q1) u0 v0 gs = λ f h. same_as (ap pattern_spans q0) (upto h gs)
part_good l _ _ (same c at y dy e d az z dz zs dzs q0 q1 q2) u0 v0 gs = λ f h. same_as (ap pattern_spans q1 ∙ pattern-Same at (y ∷ z ∷ zs)) (joins h (past gs.1 (joins gs.2.1 (upto gs.2.2.1 gs.2.2.2))))
part_good l _ _ (more_same c az z dz zs dzs d q0) u0 v0 gs = past gs.1 (joins gs.2.1 (upto gs.2.2.1 gs.2.2.2))
part_good l _ _ (end_same c d q0) u0 v0 gs = gs
part_good l _ _ (pat_variable c at e d t q0 q1 q2 q3) u0 v0 gs = same_as (ap pattern_spans q2 ∙ pattern-Var at t.chars ∙ ap (λ (w : Span). w ∷ []) q1) (upto gs.1.0 gs.2)
part_good l _ _ (pat_wild c at e d q0 q1) u0 v0 gs = same_as (ap pattern_spans q0 ∙ pattern-Wild at) (past gs.1 gs.2)
part_good l _ _ (pat_integer c at e d t q0 q1 q2 q3) u0 v0 gs = same_as (ap pattern_spans q2 ∙ pattern-Int at (pos t.number)) (past gs.1.1 gs.2)
part_good l _ _ (pat_signed c at e d t n z q0 q1 q2 q3 q4) u0 v0 gs = same_as (ap pattern_spans q3 ∙ pattern-Int at z) (past gs.1.1 (past gs.2.1.1 gs.2.2))
part_good l _ _ (pat_character c at e d t q0 q1 q2 q3) u0 v0 gs = same_as (ap pattern_spans q2 ∙ pattern-Char at t.number) (past gs.1.1 gs.2)
part_good l _ _ (pat_atom c at e d t q0 q1 q2 q3) u0 v0 gs = same_as (ap pattern_spans q2 ∙ pattern-Atom at t.number) (past gs.1.1 gs.2)
part_good l _ _ (pat_string c at e d t q0 q1 q2 q3) u0 v0 gs = same_as (ap pattern_spans q2 ∙ pattern-Str at t.chars) (past gs.1.1 gs.2)
part_good l _ _ (pat_paren c at e d ay q0) u0 v0 gs = past gs.1 (upto gs.2.1 (past gs.2.2.1 gs.2.2.2))
part_good l _ _ (pat_tuple c at e d ys dys q0 q1 q2) u0 v0 gs = same_as (ap pattern_spans q1 ∙ pattern-Tuple at ys) (past gs.1 (upto gs.2.1 gs.2.2))
part_good l _ _ (pat_list c at e d ys tail dys q0 q1 q2) u0 v0 gs = same_as (ap pattern_spans q1 ∙ pattern-List at ys tail) (past gs.1 (upto gs.2.1 gs.2.2))
part_good l _ _ (pat_bits c at e d sgs q0 q1) u0 v0 gs = same_as (ap pattern_spans q1 ∙ pattern-Bits at sgs) (past gs.1 (upto gs.2.1 gs.2.2))
part_good l _ _ (no_patterns close c d q0) u0 v0 gs = past gs.1 gs.2
part_good l _ _ (patterns close c ay y dy ys dys d q0 q1) u0 v0 gs = joins gs.1 (upto gs.2.1 gs.2.2)
part_good l _ _ (more_patterns close c ay y dy ys dys d q0) u0 v0 gs = past gs.1 (joins gs.2.1 (upto gs.2.2.1 gs.2.2.2))
part_good l _ _ (end_patterns close c d q0) u0 v0 gs = past gs.1 gs.2
part_good l _ _ (no_pattern_list c d q0) u0 v0 gs = past gs.1 gs.2
part_good l _ _ (pattern_list c ay y dy ys tail dys d q0 q1) u0 v0 gs = same_as (append_assoc (pattern_spans y) (in_patterns ys) (in_patterns tail)) (joins gs.1 (upto gs.2.1 gs.2.2))
part_good l _ _ (next_pattern c ay y dy ys tail dys d q0) u0 v0 gs = same_as (append_assoc (pattern_spans y) (in_patterns ys) (in_patterns tail)) (past gs.1 (joins gs.2.1 (upto gs.2.2.1 gs.2.2.2)))
part_good l _ _ (pattern_tail c ay y d) u0 v0 gs = same_as (append-nil (pattern_spans y)) (past gs.1 (upto gs.2.1 (past gs.2.2.1 gs.2.2.2)))
part_good l _ _ (end_pattern_list c d q0) u0 v0 gs = past gs.1 gs.2
part_good l _ _ (no_pattern_bits c d q0) u0 v0 gs = past gs.1 gs.2
part_good l _ _ (pattern_bits c sg ds sgs dss d q0 q1) u0 v0 gs = joins gs.1 (upto gs.2.1 gs.2.2)
part_good l _ _ (more_pattern_segments c sg ds sgs dss d q0) u0 v0 gs = past gs.1 (joins gs.2.1 (upto gs.2.2.1 gs.2.2.2))
part_good l _ _ (end_pattern_segments c d q0) u0 v0 gs = past gs.1 gs.2
part_good l _ _ (pattern_segment c sg d ay y dy) u0 v0 gs = upto (gs.2.1 _ gs.1) gs.2.2
part_good l _ _ (value_variable c at e d t q0 q1 q2 q3) u0 v0 gs = same_as (ap expr_spans q2 ∙ expr-Var at t.chars ∙ ap (λ (w : Span). w ∷ []) q1) (upto gs.1.0 gs.2)
part_good l _ _ (value_wild c at e d q0 q1) u0 v0 gs = same_as (ap expr_spans q0 ∙ expr-Wild at) (past gs.1 gs.2)
part_good l _ _ (value_integer c at e d t q0 q1 q2 q3) u0 v0 gs = same_as (ap expr_spans q2 ∙ expr-Int at (pos t.number)) (past gs.1.1 gs.2)
part_good l _ _ (value_signed c at e d t n op q0 q1 q2 q3 q4 q5 q6) u0 v0 gs = same_as (ap expr_spans q5 ∙ expr-One at op (x.Int n.at (pos n.number)) ∙ expr-Int n.at (pos n.number)) (past gs.1.1 (past gs.2.1.1 gs.2.2))
part_good l _ _ (value_character c at e d t q0 q1 q2 q3) u0 v0 gs = same_as (ap expr_spans q2 ∙ expr-Char at t.number) (past gs.1.1 gs.2)
part_good l _ _ (value_string c at e d t q0 q1 q2 q3) u0 v0 gs = same_as (ap expr_spans q2 ∙ expr-Str at t.chars) (past gs.1.1 gs.2)
part_good l _ _ (pattern_sized c at y dy sg d z dz q0) u0 v0 gs = λ f h. upto (gs.2.2.1 f (joins h (past gs.1 gs.2.1))) gs.2.2.2
part_good l _ _ (pattern_unsized c at y dy sg d q0) u0 v0 gs = λ f h. upto (gs.1 f (same_as (append-nil (expr_spans y)) h)) gs.2
part_good l _ _ (size_integer c e d t q0 q1 q2) u0 v0 gs = same_as (ap expr_spans q1 ∙ expr-Int t.at (pos t.number)) (past gs.1.1 gs.2)
part_good l _ _ (size_variable c e d t q0 q1 q2) u0 v0 gs = same_as (ap expr_spans q1 ∙ expr-Var t.at t.chars) (upto gs.1.0 gs.2)
part_good l _ _ (size_paren c e d ay q0) u0 v0 gs = past gs.1 (upto gs.2.1 (past gs.2.2.1 gs.2.2.2))
part_good l _ _ (unguarded c g d q0 q1) u0 v0 gs = same_as (ap guard_spans q0 ∙ guard-of []) (past gs.1 gs.2)
part_good l _ _ (guarded c g d at ts q0) u0 v0 gs = same_as (ap guard_spans q0 ∙ guard-of ts) (past gs.1 (upto gs.2.1 gs.2.2))
part_good l _ _ (tests c at y dy ys more dm d q0) u0 v0 gs = same_as (append_assoc (expr_spans y) (in_exprs ys) (in_tests more)) (joins gs.1 (upto gs.2.1 gs.2.2))
part_good l _ _ (next_test c ay y dy ys more dm d q0) u0 v0 gs = same_as (append_assoc (expr_spans y) (in_exprs ys) (in_tests more)) (past gs.1 (joins gs.2.1 (upto gs.2.2.1 gs.2.2.2)))
part_good l _ _ (next_alternative c ay y dy ys more dm d q0) u0 v0 gs = same_as (append_assoc (expr_spans y) (in_exprs ys) (in_tests more)) (past gs.1 (joins gs.2.1 (upto gs.2.2.1 gs.2.2.2)))
part_good l _ _ (end_tests c d q0) u0 v0 gs = past gs.1 gs.2
part_good l _ _ (body c i di is dis d q0) u0 v0 gs = joins gs.1 (upto gs.2.1 gs.2.2)
part_good l _ _ (more_items c i di is dis d q0) u0 v0 gs = past gs.1 (joins gs.2.1 (upto gs.2.2.1 gs.2.2.2))
part_good l _ _ (end_items c d q0) u0 v0 gs = gs
part_good l _ _ (item_match c ps value i d at pt dp di q0 q1) u0 v0 gs = same_as (ap item_spans q0 ∙ item-More pt ps value) (joins gs.1 (past gs.2.1 (upto gs.2.2.1 gs.2.2.2)))
part_good l _ _ (item_value c i d at y q0) u0 v0 gs = same_as (ap item_spans q0 ∙ item-of [] y) (upto gs.1 gs.2)
part_good l _ _ (alts c a da as_ das d q0) u0 v0 gs = joins gs.1 (upto gs.2.1 gs.2.2)
part_good l _ _ (more_alts c a da as_ das d q0) u0 v0 gs = past gs.1 (joins gs.2.1 (upto gs.2.2.1 gs.2.2.2))
part_good l _ _ (end_alts c d q0) u0 v0 gs = past gs.1 gs.2
part_good l _ _ (alt c a d at pt dp g dg is di q0 q1) u0 v0 gs = same_as (ap alt_spans q0 ∙ alt-of at pt g is) (joins gs.1 (joins gs.2.1 (upto gs.2.2.1 gs.2.2.2)))
part_good l _ _ (branches c b db bs dbs d q0) u0 v0 gs = joins gs.1 (upto gs.2.1 gs.2.2)
part_good l _ _ (more_branches c b db bs dbs d q0) u0 v0 gs = past gs.1 (joins gs.2.1 (upto gs.2.2.1 gs.2.2.2))
part_good l _ _ (end_branches c d q0) u0 v0 gs = past gs.1 gs.2
part_good l _ _ (branch c b d at ts dt is di q0 q1) u0 v0 gs = same_as (ap branch_spans q0 ∙ branch-of at (record { alternatives = ts }) is ∙ ap (λ (w : List Span). w ++ in_items is) (guard-of ts)) (joins gs.1 (upto gs.2.1 gs.2.2))
part_good l _ _ no_forms u0 v0 gs = tt
part_good l _ _ (head h hs es fs at t n q0 q1 q2 q3) u0 v0 gs = widen fs (past gs.1 (past gs.2.1.1 (past gs.2.2.1 (past gs.2.2.2.1.1 (past gs.2.2.2.2.1 (past gs.2.2.2.2.2.1 here)))))) (gs.2.2.2.2.2.2.1)
part_good l _ _ (export hs es ns more fs t q0 q1 q2) u0 v0 gs = widen fs (past gs.1 (past gs.2.1.1 (past gs.2.2.1 (past gs.2.2.2.1 (past gs.2.2.2.2.1 (past gs.2.2.2.2.2.1 (past gs.2.2.2.2.2.2.1 here))))))) (gs.2.2.2.2.2.2.2.1)
part_good l _ _ (skipped hs es fs t q0 q1) u0 v0 gs = widen fs (past gs.1 (past gs.2.1.1 (past gs.2.2.1 here))) (gs.2.2.2.1)
part_good l _ _ (any_form hs es fs t q0 q1 q2) u0 v0 gs = widen fs (past gs.1 (past gs.2.1.1 (past gs.2.2.1 here))) (gs.2.2.2.1)
part_good l _ _ (function hs es f fs cl cls q0) u0 v0 gs = (whole_sub (ap (λ (w : Function). in_clauses w.clauses) q0) (joins gs.1 gs.2.1), widen fs (dropped (joins gs.1 gs.2.1)) gs.2.2.1)
part_good l _ _ end_skipped u0 v0 gs = past gs.1 gs.2
part_good l _ _ (skips t q0) u0 v0 gs = past gs.1.1 (upto gs.2.1 gs.2.2)
part_good l _ _ no_names u0 v0 gs = past gs.1 gs.2
part_good l _ _ (names n ns) u0 v0 gs = joins gs.1 (upto gs.2.1 gs.2.2)
part_good l _ _ (more_names n ns) u0 v0 gs = past gs.1 (joins gs.2.1 (upto gs.2.2.1 gs.2.2.2))
part_good l _ _ end_names u0 v0 gs = past gs.1 gs.2
part_good l _ _ (name n t i q0 q1 q2) u0 v0 gs = past gs.1.1 (past gs.2.1 (past gs.2.2.1.1 gs.2.2.2))
part_good l _ _ (more_clauses cl cls) u0 v0 gs = past gs.1 (joins gs.2.1 (upto gs.2.2.1 gs.2.2.2))
part_good l _ _ end_clauses u0 v0 gs = past gs.1 gs.2
part_good l _ _ (clause cl t ps dp g dg is di q0 q1) u0 v0 gs = same_as (ap clause_spans q1) (past gs.1.1 (past gs.2.1 (joins gs.2.2.1 (joins gs.2.2.2.1 (upto gs.2.2.2.2.1 gs.2.2.2.2.2)))))

abbrev pub places : List Word → List Span
places w = map (λ (t : Word). t.at) w

goals_good : (l : Limits) (gs : List Goal) (w : List Word) → Spells l gs w → AreGood gs (places w) []
goals_good l _ _ ends = here
goals_good l _ _ (takes {gs = gs} {w = w} t q0 z) = (places w, past_one t.at (places w), goals_good l gs w z)
goals_good l _ _ (begins {gs = gs} {w = w} t q0 q1 z) = (places w, past_one t.at (places w), goals_good l gs w z)
goals_good l _ _ (this {t = t} {gs = gs} {w = w} z) = (places w, (this_one t.at (places w), past_one t.at (places w)), goals_good l gs w z)
goals_good l _ _ (expands {g = g} {gs = gs} {w = w} goals p z) =
    let r = parted goals gs (places w) [] (goals_good l (goals ++ gs) w z) in
    (r.0, part_good l g goals p (places w) r.0 r.1, r.2)

pub functions_within : (l : Limits) (hs : List Head) (es : List Name) (fs : List Function) (w : List Word) → Spells l (Of (Forms hs es fs) ∷ []) w → EachWithin (places w) fs
functions_within l hs es fs w z = (goals_good l (Of (Forms hs es fs) ∷ []) w z).1

-- ---- What rises

behind : (at : Span) (xs ys : List Span) → Some_of xs ys → AllByRecursion (IsBefore at) ys → AllByRecursion (IsBefore at) xs
behind at _ _ nothing h = tt
behind at _ _ (left_out y xs ys s) h = behind at xs ys s h.1
behind at _ _ (taken y xs ys s) h = (h.0, behind at xs ys s h.1)

pub some_rises : (xs ys : List Span) → Some_of xs ys → RisingBy (λ (at : Span). at) ys → RisingBy (λ (at : Span). at) xs
some_rises _ _ nothing h = tt
some_rises _ _ (left_out y xs ys s) h = some_rises xs ys s h.1
some_rises _ _ (taken y xs ys s) h = (All-from_recursion (IsBefore y) xs (behind y xs ys s (recursion_from_All (IsBefore y) ys h.0)), some_rises xs ys s h.1)
