-- What holds of each form of a module's text where it holds of its parts, holds of what tokens spell: one line a production of the
-- grammar. What holds of an expression goes by where it stands: in a body, in a guard or in a size.
use Rattle.std.proofs.Common.{◌≡◌, ◌≢◌, ℕ, ℤ, pos, ◌-ℤ◌, ◌≤◌, ◌⊎◌, inl, inr, List, [], ◌∷◌, ◌++◌, Option, Some, None, refl, sym, ap, subst, arith}
use Rattle.std.specs.List.{AllByRecursion}
use Rattle.erl_syntax.specs.Operators.{level_of}
use Rattle.erl_syntax.specs.declared.span.Span.{Span}
use Rattle.erl_syntax.specs.declared.expr.Expr.{Expr}
use Rattle.erl_syntax.specs.declared.expr.Expr.TheVariants as x
use Rattle.erl_syntax.specs.declared.expr.Op.{Op}
use Rattle.erl_syntax.specs.declared.expr.Op.TheVariants as o
use Rattle.erl_syntax.specs.declared.expr.Prefix.{Prefix}
use Rattle.erl_syntax.specs.declared.pattern.Pattern.{Pattern}
use Rattle.erl_syntax.specs.declared.pattern.Pattern.TheVariants as p
use Rattle.erl_syntax.specs.declared.qual.Qual.{Qual}
use Rattle.erl_syntax.specs.declared.qual.Qual.TheVariants as q
use Rattle.erl_syntax.specs.declared.segment.Segment.{Segment}
use Rattle.erl_syntax.specs.declared.segment.Spec.{Spec}
use Rattle.erl_syntax.specs.declared.clause.Guard.{Guard}
use Rattle.erl_syntax.specs.declared.clause.Item.{Item}
use Rattle.erl_syntax.specs.declared.clause.Alt.{Alt, roll-Alt}
use Rattle.erl_syntax.specs.declared.clause.Branch.{Branch, roll-Branch}
use Rattle.erl_syntax.specs.declared.module.Clause.{Clause}
use Rattle.erl_syntax.specs.declared.module.Function.{Function}
use Rattle.erl_syntax.specs.declared.module.Head.{Head}
use Rattle.erl_syntax.specs.declared.module.Name.{Name}
use Rattle.erl_syntax.specs.declared.token.TokenKind.{TokenKind}
use Rattle.erl_syntax.specs.declared.token.TokenKind.TheVariants as k
use Rattle.erl_syntax.specs.Names.{Signed, plus, minus}
use Rattle.erl_syntax.specs.Word.{Word}
use Rattle.erl_syntax.specs.Grammar.{Mode, InBody, InGuard, InSize, Limits, Goal, Mark, At, The, Of, Part, Level, Tail, Operand, Common, AfterAtom, Qualified, Exprs, MoreExprs, ListRest, AfterFirst, ListItems, BitsRest, AfterValue, Prefixed, ASegment, MoreSegments, Simple, SegmentRest, SegmentType, ASpec, MoreSpecs, Quals, MoreQuals, AQual, APattern, SameTail, MoreSame, Pat, Patterns, MorePatterns, PatternList, PatternItems, PatternBits, MorePatternSegments, PatternSegment, PatternValue, PatternSegmentRest, PatternSize, Guarded, Tests, MoreTests, Body, MoreItems, AnItem, Alts, MoreAlts, AnAlt, Branches, MoreBranches, ABranch, Forms, Skipped, Names, MoreNames, AName, MoreClauses, AClause, level, operand, alone, right, left, prefix, atom, macro, tuple, list, case, receive, if_, common, variable, integer, character, string, bits, paren, call, no_call, unqualified, qualified, no_exprs, exprs, more_exprs, end_exprs, no_list, list_first, list_for, list_items, next_item, list_tail, end_list, no_bits, bits_prefixed, bits_first, bits_for, bits_segments, more_segments, end_segments, segment_prefixed, segment, prefixed, simple_atom, simple, sized, unsized, typed, untyped, more_specs, end_specs, spec, unit, any_spec, quals, more_quals, end_quals, generator, bits_generator, filter, pattern, not_same, same, more_same, end_same, pat_variable, pat_wild, pat_integer, pat_signed, pat_character, pat_atom, pat_string, pat_paren, pat_tuple, pat_list, pat_bits, no_patterns, patterns, more_patterns, end_patterns, no_pattern_list, pattern_list, next_pattern, pattern_tail, end_pattern_list, no_pattern_bits, pattern_bits, more_pattern_segments, end_pattern_segments, pattern_segment, value_variable, value_wild, value_integer, value_signed, value_character, value_string, pattern_sized, pattern_unsized, size_integer, size_variable, size_paren, unguarded, guarded, tests, next_test, next_alternative, end_tests, body, more_items, end_items, item_match, item_value, alts, more_alts, end_alts, alt, branches, more_branches, end_branches, branch, no_forms, head, export, skipped, any_form, function, end_skipped, skips, no_names, names, more_names, end_names, name, more_clauses, end_clauses, clause, Produces, Spells, ends, takes, begins, this, expands}

-- at most one
abbrev pub Short : List Pattern → Type 0
Short [] = Unit {0}
Short (y ∷ []) = Unit {0}
Short _ = ⊥

abbrev pub OfSome : (Expr → Type 0) → Option Expr → Type 0
OfSome H None = Unit {0}
OfSome H (Some e) = H e

-- A property of each kind of part, which a form has where its parts have it. `S` is of a segment of a bit expression, `R` of one of a
-- bit pattern and `V` of the value in that. `N` is of the integers and the characters that are written, `T` of the strings.
pub record Properties : Type 1 where
  pub N : ℤ → Type 0
  pub T : List ℕ → Type 0
  pub E : Mode → Expr → Type 0
  pub V : Expr → Type 0
  pub P : Pattern → Type 0
  pub Q : Qual → Type 0
  pub S : Mode → Segment → Type 0
  pub R : Segment → Type 0
  pub G : Guard → Type 0
  pub I : Item → Type 0
  pub A : Alt → Type 0
  pub B : Branch → Type 0
  pub N-minus : (n : ℕ) → N (pos n) → N (pos 0 -ℤ pos n)
  pub E-Var : (m : Mode) (at : Span) (name : List ℕ) → E m (x.Var at name)
  pub E-Int : (m : Mode) (at : Span) (n : ℤ) → N n → E m (x.Int at n)
  pub E-Char : (m : Mode) (at : Span) (n : ℕ) → N (pos n) → E m (x.Char at n)
  pub E-Atom : (m : Mode) (at : Span) (n : ℕ) → E m (x.Atom at n)
  pub E-ModuleName : (m : Mode) (at : Span) → E m (x.ModuleName at)
  pub E-Str : (m : Mode) (at : Span) (chars : List ℕ) → m ≢ InSize → T chars → E m (x.Str at chars)
  pub E-Tuple : (m : Mode) (at : Span) (ys : List Expr) → m ≢ InSize → AllByRecursion (E m) ys → E m (x.Tuple at ys)
  pub E-List : (m : Mode) (at : Span) (ys tail : List Expr) → m ≢ InSize → AllByRecursion (E m) ys → AllByRecursion (E m) tail → E m (x.List at ys tail)
  pub E-Bits : (m : Mode) (at : Span) (sgs : List Segment) → m ≢ InSize → AllByRecursion (S m) sgs → E m (x.Bits at sgs)
  pub E-ListFor : (m : Mode) (at : Span) (y : Expr) (gs : List Qual) → m ≡ InBody → E m y → AllByRecursion Q gs → E m (x.ListFor at (y ∷ []) gs)
  pub E-BitsFor : (m : Mode) (at : Span) (y : Expr) (gs : List Qual) → m ≡ InBody → E m y → AllByRecursion Q gs → E m (x.BitsFor at (y ∷ []) gs)
  pub E-Call : (m : Mode) (at : Span) (home : List Expr) (name : ℕ) (ys : List Expr) → AllByRecursion (E m) ys → E m (x.Call at home name ys)
  pub E-Case : (m : Mode) (at : Span) (y : Expr) (alts : List Alt) → m ≡ InBody → E m y → AllByRecursion A alts → E m (x.Case at (y ∷ []) alts)
  pub E-Receive : (m : Mode) (at : Span) (alts : List Alt) → m ≡ InBody → AllByRecursion A alts → E m (x.Receive at alts)
  pub E-If : (m : Mode) (at : Span) (bs : List Branch) → m ≡ InBody → AllByRecursion B bs → E m (x.If at bs)
  pub E-Unary : (m : Mode) (at : Span) (op : Prefix) (y : Expr) → E m y → E m (x.Unary at op (y ∷ []))
  pub E-Binary : (m : Mode) (at : Span) (op : Op) (y z : Expr) → (m ≡ InBody ⊎ op ≢ o.Send) → E m y → E m z → E m (x.Binary at op (y ∷ z ∷ []))
  pub V-Var : (at : Span) (name : List ℕ) → V (x.Var at name)
  pub V-Wild : (at : Span) → V (x.Wild at)
  pub V-Int : (at : Span) (n : ℤ) → N n → V (x.Int at n)
  pub V-Char : (at : Span) (n : ℕ) → N (pos n) → V (x.Char at n)
  pub V-Str : (at : Span) (chars : List ℕ) → T chars → V (x.Str at chars)
  pub V-Unary : (at : Span) (op : Prefix) (y : Expr) → V y → V (x.Unary at op (y ∷ []))
  pub P-Var : (at : Span) (name : List ℕ) → P (p.Var at name)
  pub P-Wild : (at : Span) → P (p.Wild at)
  pub P-Int : (at : Span) (n : ℤ) → N n → P (p.Int at n)
  pub P-Char : (at : Span) (n : ℕ) → N (pos n) → P (p.Char at n)
  pub P-Atom : (at : Span) (n : ℕ) → P (p.Atom at n)
  pub P-Str : (at : Span) (chars : List ℕ) → T chars → P (p.Str at chars)
  pub P-Tuple : (at : Span) (ps : List Pattern) → AllByRecursion P ps → P (p.Tuple at ps)
  pub P-List : (at : Span) (ps tail : List Pattern) → AllByRecursion P ps → AllByRecursion P tail → Short tail → P (p.List at ps tail)
  pub P-Bits : (at : Span) (sgs : List Segment) → AllByRecursion R sgs → P (p.Bits at sgs)
  pub P-Same : (at : Span) (ps : List Pattern) → AllByRecursion P ps → P (p.Same at ps)
  pub Q-Items : (m : Mode) (at : Span) (pt : Pattern) (y : Expr) → P pt → E m y → Q (q.Items at pt y)
  pub Q-Bits : (m : Mode) (at : Span) (sgs : List Segment) (y : Expr) → AllByRecursion R sgs → E m y → Q (q.Bits at sgs y)
  pub Q-Filter : (m : Mode) (at : Span) (y : Expr) → E m y → Q (q.Filter at y)
  pub S-of : (m : Mode) (at : Span) (y : Expr) (size : Option Expr) (specs : List Spec) → E m y → OfSome (E m) size → S m (record { at = at; value = y; size = size; specs = specs })
  pub R-of : (at : Span) (y : Expr) (size : Option Expr) (specs : List Spec) → V y → OfSome (E InSize) size → R (record { at = at; value = y; size = size; specs = specs })
  pub G-none : G (record { alternatives = [] })
  pub G-of : (tests : List (List Expr)) → AllByRecursion (AllByRecursion (E InGuard)) tests → G (record { alternatives = tests })
  pub I-of : (m : Mode) (y : Expr) → E m y → I (record { patterns = []; value = y })
  pub I-more : (pt : Pattern) (ps : List Pattern) (y : Expr) → P pt → I (record { patterns = ps; value = y }) → I (record { patterns = pt ∷ ps; value = y })
  pub A-of : (at : Span) (pt : Pattern) (g : Guard) (is : List Item) → P pt → G g → AllByRecursion I is → A (roll-Alt (record { at = at; pattern = pt; guard = g; body = is }))
  pub B-of : (at : Span) (g : Guard) (is : List Item) → G g → AllByRecursion I is → B (roll-Branch (record { at = at; guard = g; body = is }))

-- a guard or a size
abbrev pub Within : Mode → Type 0
Within m = m ≢ InBody

pub not_sent : (m : Mode) (op : Op) → (m ≡ InBody ⊎ op ≢ o.Send) → Within m → op ≢ o.Send
not_sent m op (inl e) k = absurd (k e)
not_sent m op (inr f) k = f

-- an operator of sums or products
not_send : (op : Op) (n : ℕ) → 4 ≤ n → level_of op ≡ n → op ≢ o.Send
not_send op n h e s = omega (arith, h, e, ap level_of s)

module _ (F : Properties) where
  abbrev Es : Mode → List Expr → Type 0
  Es m ys = AllByRecursion (F.E m) ys

  abbrev OptionE : Mode → Option Expr → Type 0
  OptionE m size = OfSome (F.E m) size

  abbrev Ps : List Pattern → Type 0
  Ps ps = AllByRecursion F.P ps

  abbrev Ss : Mode → List Segment → Type 0
  Ss m sgs = AllByRecursion (F.S m) sgs

  abbrev Rs : List Segment → Type 0
  Rs sgs = AllByRecursion F.R sgs

  abbrev Qs : List Qual → Type 0
  Qs gs = AllByRecursion F.Q gs

  abbrev Ts : Mode → List (List Expr) → Type 0
  Ts m ts = AllByRecursion (AllByRecursion (F.E m)) ts

  abbrev Is : List Item → Type 0
  Is is = AllByRecursion F.I is

  abbrev As : List Alt → Type 0
  As as_ = AllByRecursion F.A as_

  abbrev Bs : List Branch → Type 0
  Bs bs = AllByRecursion F.B bs

  abbrev pub C : Clause → Type 0
  C c = Ps c.patterns × F.G c.guard × Is c.body

  abbrev pub Cs : List Clause → Type 0
  Cs cs = AllByRecursion C cs

  abbrev Fs : List Function → Type 0
  Fs fs = AllByRecursion (λ (f : Function). Cs f.clauses) fs

  -- what a token stands for, where that is an integer, a character or a string
  abbrev pub IsWord : Word → Type 0
  IsWord t = (t.kind ≡ k.Integer → F.N (pos t.number)) × (t.kind ≡ k.Character → F.N (pos t.number)) × (t.kind ≡ k.Str → F.T t.chars)

  signed : (kind : TokenKind) (n : ℕ) (z : ℤ) → Signed kind n z → F.N (pos n) → F.N z
  signed kind n z (plus _ _ _ q0 q1) h = subst F.N (sym q1) h
  signed kind n z (minus _ _ _ q0 q1) h = subst F.N (sym q1) (F.N-minus n h)

  -- What is spelled has it. What stands behind something else has it where that has.
  abbrev Good : Part → Type 0
  Good (Level n c at e d) = F.E c.mode e
  Good (Tail n c at y dy e d) = F.E c.mode y → F.E c.mode e
  Good (Operand c at e d) = F.E c.mode e
  Good (Common c at e d) = F.E c.mode e
  Good (AfterAtom c at n e d) = F.E c.mode e
  Good (Qualified c at y e d) = F.E c.mode y → F.E c.mode e
  Good (Exprs close c ys d) = Es c.mode ys
  Good (MoreExprs close c ys d) = Es c.mode ys
  Good (ListRest c at e d) = c.mode ≢ InSize → F.E c.mode e
  Good (AfterFirst c at y dy e d) = c.mode ≢ InSize → F.E c.mode y → F.E c.mode e
  Good (ListItems c ys tail d) = Es c.mode ys × Es c.mode tail
  Good (BitsRest c at e d) = c.mode ≢ InSize → F.E c.mode e
  Good (AfterValue c at ay y dy e d) = c.mode ≢ InSize → F.E c.mode y → F.E c.mode e
  Good (Prefixed c sg d) = F.S c.mode sg
  Good (ASegment c sg d) = F.S c.mode sg
  Good (MoreSegments c sgs d) = Ss c.mode sgs
  Good (Simple c at e d) = F.E c.mode e
  Good (SegmentRest c at y dy sg d) = F.E c.mode y → F.S c.mode sg
  Good (SegmentType at y size sg) = ((m : Mode) → F.E m y → OptionE m size → F.S m sg) × (F.V y → OptionE InSize size → F.R sg)
  Good (ASpec sp) = Unit {0}
  Good (MoreSpecs sps) = Unit {0}
  Good (Quals close c gs d) = Qs gs
  Good (MoreQuals close c gs d) = Qs gs
  Good (AQual c g d) = F.Q g
  Good (APattern c at pt d) = c.mode ≡ InSize → F.P pt
  Good (SameTail c at y dy pt d) = c.mode ≡ InSize → F.P y → F.P pt
  Good (MoreSame c ps d) = c.mode ≡ InSize → Ps ps
  Good (Pat c at pt d) = c.mode ≡ InSize → F.P pt
  Good (Patterns close c ps d) = c.mode ≡ InSize → Ps ps
  Good (MorePatterns close c ps d) = c.mode ≡ InSize → Ps ps
  Good (PatternList c ps tail d) = c.mode ≡ InSize → Ps ps × Ps tail × Short tail
  Good (PatternItems c ps tail d) = c.mode ≡ InSize → Ps ps × Ps tail × Short tail
  Good (PatternBits c sgs d) = c.mode ≡ InSize → Rs sgs
  Good (MorePatternSegments c sgs d) = c.mode ≡ InSize → Rs sgs
  Good (PatternSegment c sg d) = c.mode ≡ InSize → F.R sg
  Good (PatternValue c at e d) = F.V e
  Good (PatternSegmentRest c at y dy sg d) = c.mode ≡ InSize → F.V y → F.R sg
  Good (PatternSize c e d) = F.E c.mode e
  Good (Guarded c g d) = F.G g
  Good (Tests c at ts d) = Ts c.mode ts
  Good (MoreTests c ys ts d) = Es c.mode ys × Ts c.mode ts
  Good (Body c is d) = Is is
  Good (MoreItems c is d) = Is is
  Good (AnItem c i d) = F.I i
  Good (Alts c as_ d) = As as_
  Good (MoreAlts c as_ d) = As as_
  Good (AnAlt c a d) = F.A a
  Good (Branches c bs d) = Bs bs
  Good (MoreBranches c bs d) = Bs bs
  Good (ABranch c b d) = F.B b
  Good (Forms hs es fs) = Fs fs
  Good Skipped = Unit {0}
  Good (Names ns) = Unit {0}
  Good (MoreNames ns) = Unit {0}
  Good (AName n) = Unit {0}
  Good (MoreClauses cs) = Cs cs
  Good (AClause c) = C c

  abbrev AreGood : List Goal → Type 0
  AreGood [] = Unit {0}
  AreGood (Mark kind ∷ gs) = AreGood gs
  AreGood (At kind at ∷ gs) = AreGood gs
  AreGood (The t ∷ gs) = IsWord t × AreGood gs
  AreGood (Of g ∷ gs) = Good g × AreGood gs

  fronts : (gs more : List Goal) → AreGood (gs ++ more) → AreGood gs
  fronts [] more h = tt
  fronts (Mark kind ∷ gs) more h = fronts gs more h
  fronts (At kind at ∷ gs) more h = fronts gs more h
  fronts (The t ∷ gs) more h = (h.0, fronts gs more h.1)
  fronts (Of g ∷ gs) more h = (h.0, fronts gs more h.1)

  backs : (gs more : List Goal) → AreGood (gs ++ more) → AreGood more
  backs [] more h = h
  backs (Mark kind ∷ gs) more h = backs gs more h
  backs (At kind at ∷ gs) more h = backs gs more h
  backs (The t ∷ gs) more h = backs gs more h.1
  backs (Of g ∷ gs) more h = backs gs more h.1

  part_good : (l : Limits) (g : Part) (goals : List Goal) → Produces l g goals → AreGood goals → Good g
  part_good l _ _ (level n c at y dy e d q0) gs = gs.1.0 gs.0
  part_good l _ _ (operand n c at e d q0) gs = gs.0
  part_good l _ _ (alone n c at y dy e d q0 q1) gs = λ h. subst (F.E c.mode) (sym q0) h
  part_good l _ _ (right n c at y dy e d t op az z dz q0 q1 q2 q3 q4 q5 q6) gs = λ h. subst (F.E c.mode) (sym q5) (F.E-Binary c.mode at op y z q3 h gs.1.0)
  part_good l _ _ (left n c at y dy e d t op az z dz q0 q1 q2 q3) gs = λ h. gs.1.1.0 (F.E-Binary c.mode at op y z (inr (not_send op n q0 q2)) h gs.1.0)
  part_good l _ _ (prefix c at e d t op ay y dy q0 q1 q2 q3 q4) gs = subst (F.E c.mode) (sym q3) (F.E-Unary c.mode at op y gs.1.0)
  part_good l _ _ (atom c at e d t q0 q1) gs = gs.1.0
  part_good l _ _ (macro c at e d t q0 q1) gs = gs.1.0 (F.E-ModuleName c.mode at)
  part_good l _ _ (tuple c at e d ys dys q0 q1 q2 q3) gs = subst (F.E c.mode) (sym q2) (F.E-Tuple c.mode at ys q0 gs.0)
  part_good l _ _ (list c at e d q0 q1) gs = gs.0 q0
  part_good l _ _ (case c at e d ay y dy alts_ da q0 q1 q2 q3 q4) gs = subst (F.E c.mode) (sym q3) (F.E-Case c.mode at y alts_ q0 gs.0 gs.1.0)
  part_good l _ _ (receive c at e d alts_ da q0 q1 q2 q3 q4) gs = subst (F.E c.mode) (sym q3) (F.E-Receive c.mode at alts_ q0 gs.0)
  part_good l _ _ (if_ c at e d bs db q0 q1 q2 q3 q4) gs = subst (F.E c.mode) (sym q3) (F.E-If c.mode at bs q0 gs.0)
  part_good l _ _ (common c at e d) gs = gs.0
  part_good l _ _ (variable c at e d t q0 q1 q2 q3) gs = subst (F.E c.mode) (sym q2) (F.E-Var c.mode at t.chars)
  part_good l _ _ (integer c at e d t q0 q1 q2 q3) gs = subst (F.E c.mode) (sym q2) (F.E-Int c.mode at (pos t.number) (gs.0.0 q0))
  part_good l _ _ (character c at e d t q0 q1 q2 q3) gs = subst (F.E c.mode) (sym q2) (F.E-Char c.mode at t.number (gs.0.1 q0))
  part_good l _ _ (string c at e d t q0 q1 q2 q3 q4) gs = subst (F.E c.mode) (sym q3) (F.E-Str c.mode at t.chars q0 (gs.0.2 q1))
  part_good l _ _ (bits c at e d q0 q1) gs = gs.0 q0
  part_good l _ _ (paren c at e d ay q0) gs = gs.0
  part_good l _ _ (call c at n e d ys dys q0 q1 q2) gs = subst (F.E c.mode) (sym q1) (F.E-Call c.mode at [] n ys gs.0)
  part_good l _ _ (no_call c at n e d) gs = gs.0 (F.E-Atom c.mode at n)
  part_good l _ _ (unqualified c at y e d q0 q1) gs = λ h. subst (F.E c.mode) (sym q0) h
  part_good l _ _ (qualified c at y e d t ys dys q0 q1 q2 q3 q4) gs = λ h. subst (F.E c.mode) (sym q3) (F.E-Call c.mode at (y ∷ []) t.number ys gs.1.0)
  part_good l _ _ (no_exprs close c d q0) gs = tt
  part_good l _ _ (exprs close c ay y dy ys dys d q0 q1) gs = (gs.0, gs.1.0)
  part_good l _ _ (more_exprs close c ay y dy ys dys d q0) gs = (gs.0, gs.1.0)
  part_good l _ _ (end_exprs close c d q0) gs = tt
  part_good l _ _ (no_list c at e d q0 q1) gs = λ k. subst (F.E c.mode) (sym q0) (F.E-List c.mode at [] [] k tt tt)
  part_good l _ _ (list_first c at e d ay y dy q0) gs = λ k. gs.1.0 k gs.0
  part_good l _ _ (list_for c at y dy e d qs dq q0 q1 q2) gs = λ k h. subst (F.E c.mode) (sym q1) (F.E-ListFor c.mode at y qs q0 h gs.0)
  part_good l _ _ (list_items c at y dy e d ys tail dys q0 q1) gs = λ k h. subst (F.E c.mode) (sym q0) (F.E-List c.mode at (y ∷ ys) tail k (h, gs.0.0) gs.0.1)
  part_good l _ _ (next_item c ay y dy ys tail dys d q0) gs = ((gs.0, gs.1.0.0), gs.1.0.1)
  part_good l _ _ (list_tail c ay y d) gs = (tt, (gs.0, tt))
  part_good l _ _ (end_list c d q0) gs = (tt, tt)
  part_good l _ _ (no_bits c at e d q0 q1) gs = λ k. subst (F.E c.mode) (sym q0) (F.E-Bits c.mode at [] k tt)
  part_good l _ _ (bits_prefixed c at e d sg ds sgs dss q0 q1 q2) gs = λ k. subst (F.E c.mode) (sym q1) (F.E-Bits c.mode at (sg ∷ sgs) k (gs.0, gs.1.0))
  part_good l _ _ (bits_first c at e d ay y dy q0) gs = λ k. gs.1.0 k gs.0
  part_good l _ _ (bits_for c at ay y dy e d qs dq q0 q1 q2) gs = λ k h. subst (F.E c.mode) (sym q1) (F.E-BitsFor c.mode at y qs q0 h gs.0)
  part_good l _ _ (bits_segments c at ay y dy e d sg ds sgs dss q0 q1) gs = λ k h. subst (F.E c.mode) (sym q0) (F.E-Bits c.mode at (sg ∷ sgs) k (gs.0 h, gs.1.0))
  part_good l _ _ (more_segments c sg ds sgs dss d q0) gs = (gs.0, gs.1.0)
  part_good l _ _ (end_segments c d q0) gs = tt
  part_good l _ _ (segment_prefixed c sg d) gs = gs.0
  part_good l _ _ (segment c sg d ay y dy) gs = gs.1.0 gs.0
  part_good l _ _ (prefixed c sg d t op ay y dy q0 q1) gs = gs.1.1.0 (F.E-Unary c.mode t.at op y gs.1.0)
  part_good l _ _ (simple_atom c at e d t q0 q1 q2 q3) gs = subst (F.E c.mode) (sym q2) (F.E-Atom c.mode at t.number)
  part_good l _ _ (simple c at e d) gs = gs.0
  part_good l _ _ (sized c at y dy sg d az z dz q0) gs = λ h. gs.1.0.0 c.mode h gs.0
  part_good l _ _ (unsized c at y dy sg d q0) gs = λ h. gs.0.0 c.mode h tt
  part_good l _ _ (typed at y size sg sp sps q0) gs = (λ m h s. subst (F.S m) (sym q0) (F.S-of m at y size (sp ∷ sps) h s), λ v s. subst F.R (sym q0) (F.R-of at y size (sp ∷ sps) v s))
  part_good l _ _ (untyped at y size sg q0) gs = (λ m h s. subst (F.S m) (sym q0) (F.S-of m at y size [] h s), λ v s. subst F.R (sym q0) (F.R-of at y size [] v s))
  part_good l _ _ (more_specs sp sps) gs = tt
  part_good l _ _ end_specs gs = tt
  part_good l _ _ (spec sp t q0 q1) gs = tt
  part_good l _ _ (unit sp t n q0 q1 q2 q3) gs = tt
  part_good l _ _ (any_spec sp t q0 q1 q2 q3) gs = tt
  part_good l _ _ (quals close c ql dq qs dqs d q0) gs = (gs.0, gs.1.0)
  part_good l _ _ (more_quals close c ql dq qs dqs d q0) gs = (gs.0, gs.1.0)
  part_good l _ _ (end_quals close c d q0) gs = tt
  part_good l _ _ (generator c ql d at pt dp az z dz q0 q1) gs = subst F.Q (sym q0) (F.Q-Items c.mode at pt z (gs.0 refl) gs.1.0)
  part_good l _ _ (bits_generator c ql d at sgs ds az z dz q0 q1 q2) gs = subst F.Q (sym q1) (F.Q-Bits c.mode at sgs z (gs.0 refl) gs.1.0)
  part_good l _ _ (filter c ql d at y q0) gs = subst F.Q (sym q0) (F.Q-Filter c.mode at y gs.0)
  part_good l _ _ (pattern c at e d y dy) gs = λ k. gs.1.0 k (gs.0 k)
  part_good l _ _ (not_same c at y dy e d q0 q1) gs = λ k h. subst F.P (sym q0) h
  part_good l _ _ (same c at y dy e d az z dz zs dzs q0 q1 q2) gs = λ k h. subst F.P (sym q1) (F.P-Same at (y ∷ z ∷ zs) (h, (gs.0 k, gs.1.0 k)))
  part_good l _ _ (more_same c az z dz zs dzs d q0) gs = λ k. (gs.0 k, gs.1.0 k)
  part_good l _ _ (end_same c d q0) gs = λ k. tt
  part_good l _ _ (pat_variable c at e d t q0 q1 q2 q3) gs = λ k. subst F.P (sym q2) (F.P-Var at t.chars)
  part_good l _ _ (pat_wild c at e d q0 q1) gs = λ k. subst F.P (sym q0) (F.P-Wild at)
  part_good l _ _ (pat_integer c at e d t q0 q1 q2 q3) gs = λ k. subst F.P (sym q2) (F.P-Int at (pos t.number) (gs.0.0 q0))
  part_good l _ _ (pat_signed c at e d t n z q0 q1 q2 q3 q4) gs = λ k. subst F.P (sym q3) (F.P-Int at z (signed t.kind n.number z q2 (gs.1.0.0 q1)))
  part_good l _ _ (pat_character c at e d t q0 q1 q2 q3) gs = λ k. subst F.P (sym q2) (F.P-Char at t.number (gs.0.1 q0))
  part_good l _ _ (pat_atom c at e d t q0 q1 q2 q3) gs = λ k. subst F.P (sym q2) (F.P-Atom at t.number)
  part_good l _ _ (pat_string c at e d t q0 q1 q2 q3) gs = λ k. subst F.P (sym q2) (F.P-Str at t.chars (gs.0.2 q0))
  part_good l _ _ (pat_paren c at e d ay q0) gs = gs.0
  part_good l _ _ (pat_tuple c at e d ys dys q0 q1 q2) gs = λ k. subst F.P (sym q1) (F.P-Tuple at ys (gs.0 k))
  part_good l _ _ (pat_list c at e d ys tail dys q0 q1 q2) gs = λ k. subst F.P (sym q1) (F.P-List at ys tail (gs.0 k).0 (gs.0 k).1 (gs.0 k).2)
  part_good l _ _ (pat_bits c at e d sgs q0 q1) gs = λ k. subst F.P (sym q1) (F.P-Bits at sgs (gs.0 k))
  part_good l _ _ (no_patterns close c d q0) gs = λ k. tt
  part_good l _ _ (patterns close c ay y dy ys dys d q0 q1) gs = λ k. (gs.0 k, gs.1.0 k)
  part_good l _ _ (more_patterns close c ay y dy ys dys d q0) gs = λ k. (gs.0 k, gs.1.0 k)
  part_good l _ _ (end_patterns close c d q0) gs = λ k. tt
  part_good l _ _ (no_pattern_list c d q0) gs = λ k. (tt, tt, tt)
  part_good l _ _ (pattern_list c ay y dy ys tail dys d q0 q1) gs = λ k. ((gs.0 k, (gs.1.0 k).0), (gs.1.0 k).1, (gs.1.0 k).2)
  part_good l _ _ (next_pattern c ay y dy ys tail dys d q0) gs = λ k. ((gs.0 k, (gs.1.0 k).0), (gs.1.0 k).1, (gs.1.0 k).2)
  part_good l _ _ (pattern_tail c ay y d) gs = λ k. (tt, (gs.0 k, tt), tt)
  part_good l _ _ (end_pattern_list c d q0) gs = λ k. (tt, tt, tt)
  part_good l _ _ (no_pattern_bits c d q0) gs = λ k. tt
  part_good l _ _ (pattern_bits c sg ds sgs dss d q0 q1) gs = λ k. (gs.0 k, gs.1.0 k)
  part_good l _ _ (more_pattern_segments c sg ds sgs dss d q0) gs = λ k. (gs.0 k, gs.1.0 k)
  part_good l _ _ (end_pattern_segments c d q0) gs = λ k. tt
  part_good l _ _ (pattern_segment c sg d ay y dy) gs = λ k. gs.1.0 k gs.0
  part_good l _ _ (value_variable c at e d t q0 q1 q2 q3) gs = subst F.V (sym q2) (F.V-Var at t.chars)
  part_good l _ _ (value_wild c at e d q0 q1) gs = subst F.V (sym q0) (F.V-Wild at)
  part_good l _ _ (value_integer c at e d t q0 q1 q2 q3) gs = subst F.V (sym q2) (F.V-Int at (pos t.number) (gs.0.0 q0))
  part_good l _ _ (value_signed c at e d t n op q0 q1 q2 q3 q4 q5 q6) gs = subst F.V (sym q5) (F.V-Unary at op (x.Int n.at (pos n.number)) (F.V-Int n.at (pos n.number) (gs.1.0.0 q4)))
  part_good l _ _ (value_character c at e d t q0 q1 q2 q3) gs = subst F.V (sym q2) (F.V-Char at t.number (gs.0.1 q0))
  part_good l _ _ (value_string c at e d t q0 q1 q2 q3) gs = subst F.V (sym q2) (F.V-Str at t.chars (gs.0.2 q0))
  part_good l _ _ (pattern_sized c at y dy sg d z dz q0) gs = λ k v. gs.1.0.1 v (subst (λ (m : Mode). F.E m z) k gs.0)
  part_good l _ _ (pattern_unsized c at y dy sg d q0) gs = λ k v. gs.0.1 v tt
  part_good l _ _ (size_integer c e d t q0 q1 q2) gs = subst (F.E c.mode) (sym q1) (F.E-Int c.mode t.at (pos t.number) (gs.0.0 q0))
  part_good l _ _ (size_variable c e d t q0 q1 q2) gs = subst (F.E c.mode) (sym q1) (F.E-Var c.mode t.at t.chars)
  part_good l _ _ (size_paren c e d ay q0) gs = gs.0
  part_good l _ _ (unguarded c g d q0 q1) gs = subst F.G (sym q0) (F.G-none)
  part_good l _ _ (guarded c g d at ts q0) gs = subst F.G (sym q0) (F.G-of ts gs.0)
  part_good l _ _ (tests c at y dy ys more dm d q0) gs = ((gs.0, gs.1.0.0), gs.1.0.1)
  part_good l _ _ (next_test c ay y dy ys more dm d q0) gs = ((gs.0, gs.1.0.0), gs.1.0.1)
  part_good l _ _ (next_alternative c ay y dy ys more dm d q0) gs = (tt, ((gs.0, gs.1.0.0), gs.1.0.1))
  part_good l _ _ (end_tests c d q0) gs = (tt, tt)
  part_good l _ _ (body c i di is dis d q0) gs = (gs.0, gs.1.0)
  part_good l _ _ (more_items c i di is dis d q0) gs = (gs.0, gs.1.0)
  part_good l _ _ (end_items c d q0) gs = tt
  part_good l _ _ (item_match c ps value i d at pt dp di q0 q1) gs = subst F.I (sym q0) (F.I-more pt ps value (gs.0 refl) gs.1.0)
  part_good l _ _ (item_value c i d at y q0) gs = subst F.I (sym q0) (F.I-of c.mode y gs.0)
  part_good l _ _ (alts c a da as_ das d q0) gs = (gs.0, gs.1.0)
  part_good l _ _ (more_alts c a da as_ das d q0) gs = (gs.0, gs.1.0)
  part_good l _ _ (end_alts c d q0) gs = tt
  part_good l _ _ (alt c a d at pt dp g dg is di q0 q1) gs = subst F.A (sym q0) (F.A-of at pt g is (gs.0 refl) gs.1.0 gs.1.1.0)
  part_good l _ _ (branches c b db bs dbs d q0) gs = (gs.0, gs.1.0)
  part_good l _ _ (more_branches c b db bs dbs d q0) gs = (gs.0, gs.1.0)
  part_good l _ _ (end_branches c d q0) gs = tt
  part_good l _ _ (branch c b d at ts dt is di q0 q1) gs = subst F.B (sym q0) (F.B-of at (record { alternatives = ts }) is (F.G-of ts gs.0) gs.1.0)
  part_good l _ _ no_forms gs = tt
  part_good l _ _ (head h hs es fs at t n q0 q1 q2 q3) gs = gs.1.1.0
  part_good l _ _ (export hs es ns more fs t q0 q1 q2) gs = gs.1.1.0
  part_good l _ _ (skipped hs es fs t q0 q1) gs = gs.1.1.0
  part_good l _ _ (any_form hs es fs t q0 q1 q2) gs = gs.1.1.0
  part_good l _ _ (function hs es f fs cl cls q0) gs = (subst Cs (sym (ap (λ (u : Function). u.clauses) q0)) (gs.0, gs.1.0), gs.1.1.0)
  part_good l _ _ end_skipped gs = tt
  part_good l _ _ (skips t q0) gs = tt
  part_good l _ _ no_names gs = tt
  part_good l _ _ (names n ns) gs = tt
  part_good l _ _ (more_names n ns) gs = tt
  part_good l _ _ end_names gs = tt
  part_good l _ _ (name n t i q0 q1 q2) gs = tt
  part_good l _ _ (more_clauses cl cls) gs = (gs.0, gs.1.0)
  part_good l _ _ end_clauses gs = tt
  part_good l _ _ (clause cl t ps dp g dg is di q0 q1) gs = subst C (sym q1) (gs.1.0 refl, gs.1.1.0, gs.1.1.1.0)

  goals_good : (l : Limits) (gs : List Goal) (w : List Word) → Spells l gs w → AllByRecursion IsWord w → AreGood gs
  goals_good l _ _ ends h = tt
  goals_good l _ _ (takes {gs = gs} {w = w} t q0 z) h = goals_good l gs w z h.1
  goals_good l _ _ (begins {gs = gs} {w = w} t q0 q1 z) h = goals_good l gs w z h.1
  goals_good l _ _ (this {t = t} {gs = gs} {w = w} z) h = (h.0, goals_good l gs w z h.1)
  goals_good l _ _ (expands {g = g} {gs = gs} {w = w} goals p z) h =
      let a : AreGood (goals ++ gs) = goals_good l (goals ++ gs) w z h in
      (part_good l g goals p (fronts goals gs a), backs goals gs a)

  -- what the parts of each function of a module have that tokens spell
  pub functions_have : (l : Limits) (hs : List Head) (es : List Name) (fs : List Function) (w : List Word) → Spells l (Of (Forms hs es fs) ∷ []) w → AllByRecursion IsWord w → AllByRecursion (λ (f : Function). Cs f.clauses) fs
  functions_have l hs es fs w z h = (goals_good l (Of (Forms hs es fs) ∷ []) w z h).0

  -- tokens stand for what it asks for where it asks for nothing
  pub words_have : ((n : ℤ) → F.N n) → ((chars : List ℕ) → F.T chars) → (w : List Word) → AllByRecursion IsWord w
  words_have n c [] = tt
  words_have n c (t ∷ w) = ((λ _. n (pos t.number), λ _. n (pos t.number), λ _. c t.chars), words_have n c w)
