-- What a form of a module's text is read as has its literals within the bounds where its parts have, and where the numbers and the
-- strings that its tokens stand for are small: a line a form.
use Rattle.std.proofs.Common.{◌≡◌, ℕ, ℤ, zero, suc, pos, negsuc, ◌-◌, ◌-ℤ◌, Bool, true, false, cond, ◌<◌, ◌≤◌, ◌^◌, List, [], ◌∷◌, length, map, Option, Some, None, refl, sym, subst, arith}
use Rattle.std.specs.List.{AllByRecursion}
use Rattle.erl_syntax.specs.declared.span.Span.{Span}
use Rattle.erl_syntax.specs.declared.expr.Expr.{Expr}
use Rattle.erl_syntax.specs.declared.expr.Expr.TheVariants as x
use Rattle.erl_syntax.specs.declared.expr.Expr.TheOpen as O
use Rattle.erl_syntax.specs.declared.expr.Op.{Op}
use Rattle.erl_syntax.specs.declared.expr.Prefix.{Prefix}
use Rattle.erl_syntax.specs.declared.pattern.Pattern.{Pattern}
use Rattle.erl_syntax.specs.declared.pattern.Pattern.TheVariants as p
use Rattle.erl_syntax.specs.declared.qual.Qual.{Qual}
use Rattle.erl_syntax.specs.declared.qual.Qual.TheVariants as q
use Rattle.erl_syntax.specs.declared.segment.Segment.{Segment}
use Rattle.erl_syntax.specs.declared.segment.Spec.{Spec}
use Rattle.erl_syntax.specs.declared.clause.Guard.{Guard}
use Rattle.erl_syntax.specs.declared.clause.Item.{Item}
use Rattle.erl_syntax.specs.declared.clause.Alt.{Alt, roll-Alt, out-roll-Alt}
use Rattle.erl_syntax.specs.declared.clause.Branch.{Branch, roll-Branch, out-roll-Branch}
use Rattle.erl_syntax.specs.declared.module.Clause.{Clause}
use Rattle.erl_syntax.specs.declared.token.TokenKind.{TokenKind}
use Rattle.erl_syntax.specs.declared.token.TokenKind.TheVariants as k
use Rattle.erl_syntax.specs.Grammar.{Mode}
use Rattle.erl_syntax.specs.Word.{Word}
use Rattle.term_value.specs.Value.{VInt, VAtom}
use Rattle.term_value.specs.Read as r
use Rattle.term_value.specs.Read.{Reading, Read, segments}
use Rattle.term_value.specs.ReadTrees.{pattern_of, guard_tree, line_of, function_clauses}
use Rattle.term_laws.specs.Inside.{InClauses, InGuard, InPattern, IsBounded}
use Rattle.term_layers.proofs.Readings.{expr_read, qual_read, alt_read, branch_read, segment_read, pieces_read as read_pieces, optional_read, expr_read-Var, expr_read-Wild, expr_read-Int, expr_read-Char, expr_read-Atom, expr_read-ModuleName, expr_read-Str, expr_read-Tuple, expr_read-List, expr_read-Bits, expr_read-ListFor, expr_read-BitsFor, expr_read-Call, expr_read-Case, expr_read-Receive, expr_read-If, expr_read-Unary, expr_read-Binary, pattern_of-Var, pattern_of-Wild, pattern_of-Int, pattern_of-Char, pattern_of-Atom, pattern_of-Str, pattern_of-Tuple, pattern_of-List, pattern_of-Bits, pattern_of-Same, qual_read-Items, qual_read-Bits, qual_read-Filter, alt_read-parts, branch_read-parts, guard_tree-parts, line_of-parts, segment_read-parts}
use Rattle.module_laws.proofs.Each.{each_map, each_piece}
use Rattle.module_laws.proofs.ReadLiterals.{IsNear, AreNear, IsRead, AreRead, OfRead, IsPiece, ArePieces, EachPattern, IsLine, EachLine, EachTest, IsBranch, EachBranch, IsQualifier, EachQualifier, near_bounded, string_bounded, number_read, trees_read, listed_read, operation_read, prefixed_read, pieces_read, built_read, segments_read, bits_read, patterns_read, pattern_list_read, body_read, guard_read, clauses_read, qualified_read}
use Rattle.module_laws.proofs.SpeltForms.{Cs, IsWord, OfSome, Properties}

-- a string that is short, of characters whose numbers are small
abbrev pub IsShort : List ℕ → Type 0
IsShort cs = (length cs ≤ 2 ^ 20) × AreNear cs

-- what a token of a kind stands for is small
abbrev pub IsSmall : TokenKind → ℕ → List ℕ → Type 0
IsSmall k.Integer n cs = n < 2 ^ 127
IsSmall k.Character n cs = n < 2 ^ 127
IsSmall k.Str n cs = IsShort cs
IsSmall _ n cs = Unit {0}

abbrev pub IsSmallWord : Word → Type 0
IsSmallWord t = IsSmall t.kind t.number t.chars

abbrev pub AreSmallWords : List Word → Type 0
AreSmallWords [] = Unit {0}
AreSmallWords (t ∷ w) = IsSmallWord t × AreSmallWords w

negated_by : (b : Bool) (n : ℕ) → n < 2 ^ 127 → 0 < n → IsNear (cond b (negsuc (n - 1)) (pos (0 - n)))
negated_by true n h g = omega (arith, h, g)
negated_by false n h g = omega (arith, h, g)

negated_near : (n : ℕ) → n < 2 ^ 127 → IsNear (pos 0 -ℤ pos n)
negated_near zero h = h
negated_near (suc n) h = negated_by _ (suc n) h (omega arith)

module _ (rd : Reading) where
  abbrev E : Expr → Type 0
  E e = IsRead (expr_read rd e)

  abbrev P : Pattern → Type 0
  P pt = InPattern IsBounded (pattern_of rd pt)

  abbrev S : Segment → Type 0
  S sg = ArePieces (segment_read rd sg)

  abbrev G : Guard → Type 0
  G g = InGuard IsBounded (guard_tree rd g)

  abbrev I : Item → Type 0
  I i = IsLine (line_of rd i)

  abbrev OfAlt : O.Alt-F Expr Pattern Qual Alt Branch Guard Item Segment → Type 0
  OfAlt a = P a.pattern × G a.guard × AllByRecursion I a.body

  abbrev OfBranch : O.Branch-F Expr Pattern Qual Alt Branch Guard Item Segment → Type 0
  OfBranch b = G b.guard × AllByRecursion I b.body

  exprs : (ys : List Expr) → AllByRecursion E ys → AreRead (map (expr_read rd) ys)
  exprs ys h = each_map IsRead (expr_read rd) ys h

  tests_read : (tests : List (List Expr)) → AllByRecursion (AllByRecursion E) tests → EachTest (map (map (expr_read rd)) tests)
  tests_read [] h = tt
  tests_read (ys ∷ tests) h = (exprs ys h.0, tests_read tests h.1)

  size_read : (size : Option Expr) → OfSome E size → OfRead (optional_read rd size)
  size_read None h = tt
  size_read (Some e) h = h

  segment_bounded : (at : Span) (y : Expr) (size : Option Expr) (specs : List Spec) → E y → OfSome E size → S (record { at = at; value = y; size = size; specs = specs })
  segment_bounded at y size specs h g =
      let s : Segment = record { at = at; value = y; size = size; specs = specs } in
      subst ArePieces (sym (segment_read-parts rd s)) (pieces_read (expr_read rd y) (optional_read rd size) specs h (size_read size g))

  all_pieces : (sgs : List Segment) → AllByRecursion S sgs → ArePieces (read_pieces rd sgs)
  all_pieces sgs h = each_piece IsPiece rd sgs h

  all_patterns : (ps : List Pattern) → AllByRecursion P ps → EachPattern (map (pattern_of rd) ps)
  all_patterns ps h = each_map (InPattern IsBounded) (pattern_of rd) ps h

  all_quals : (gs : List Qual) → AllByRecursion (λ g. IsQualifier (qual_read rd g)) gs → EachQualifier (map (qual_read rd) gs)
  all_quals gs h = each_map IsQualifier (qual_read rd) gs h

  lines : (is : List Item) → AllByRecursion I is → EachLine (map (line_of rd) is)
  lines is h = each_map IsLine (line_of rd) is h

  by_alts : (alts : List Alt) → AllByRecursion (λ a. IsBranch (alt_read rd a)) alts → InClauses IsBounded (r.clauses (map (alt_read rd) alts))
  by_alts alts h = clauses_read (map (alt_read rd) alts) (each_map IsBranch (alt_read rd) alts h)

  by_branches : (bs : List Branch) → AllByRecursion (λ b. IsBranch (branch_read rd b)) bs → InClauses IsBounded (r.clauses (map (branch_read rd) bs))
  by_branches bs h = clauses_read (map (branch_read rd) bs) (each_map IsBranch (branch_read rd) bs h)

  expr : (e : Expr) (read : Read) → expr_read rd e ≡ read → IsRead read → E e
  expr e read q h = subst IsRead (sym q) h

  item_bounded : (pt : Pattern) (ps : List Pattern) (y : Expr) → P pt → I (record { patterns = ps; value = y }) → I (record { patterns = pt ∷ ps; value = y })
  item_bounded pt ps y h g =
      let i : Item = record { patterns = ps; value = y } in
      let j : Item = record { patterns = pt ∷ ps; value = y } in
      let k : IsLine (record { patterns = map (pattern_of rd) ps; value = (expr_read rd y).tree }) = subst IsLine (line_of-parts rd i) g in
      subst IsLine (sym (line_of-parts rd j)) ((h, k.0), k.1)

  alt_bounded : (at : Span) (pt : Pattern) (g : Guard) (is : List Item) → P pt → G g → AllByRecursion I is → IsBranch (alt_read rd (roll-Alt (record { at = at; pattern = pt; guard = g; body = is })))
  alt_bounded at pt g is h k l =
      let layer : O.Alt-F Expr Pattern Qual Alt Branch Guard Item Segment = record { at = at; pattern = pt; guard = g; body = is } in
      let w = subst OfAlt (sym (out-roll-Alt layer)) (h, k, l) in
      subst IsBranch (sym (alt_read-parts rd (roll-Alt layer))) ((w.0, tt), w.1, lines _ w.2)

  branch_bounded : (at : Span) (g : Guard) (is : List Item) → G g → AllByRecursion I is → IsBranch (branch_read rd (roll-Branch (record { at = at; guard = g; body = is })))
  branch_bounded at g is k l =
      let layer : O.Branch-F Expr Pattern Qual Alt Branch Guard Item Segment = record { at = at; guard = g; body = is } in
      let w = subst OfBranch (sym (out-roll-Branch layer)) (k, l) in
      subst IsBranch (sym (branch_read-parts rd (roll-Branch layer))) (tt, w.0, lines _ w.1)

  guard_bounded : (tests : List (List Expr)) → AllByRecursion (AllByRecursion E) tests → G (record { alternatives = tests })
  guard_bounded tests h =
      let g : Guard = record { alternatives = tests } in
      subst (InGuard IsBounded) (sym (guard_tree-parts rd g)) (guard_read (map (map (expr_read rd)) tests) (tests_read tests h))

  pub forms : Properties
  forms = record {
    N = IsNear;
    T = IsShort;
    E = λ m. E;
    V = E;
    P = P;
    Q = λ g. IsQualifier (qual_read rd g);
    S = λ m. S;
    R = S;
    G = G;
    I = I;
    A = λ a. IsBranch (alt_read rd a);
    B = λ b. IsBranch (branch_read rd b);
    N-minus = negated_near;
    E-Var = λ m at name. expr _ _ (expr_read-Var rd at name) (tt, tt, tt);
    E-Int = λ m at n h. expr _ _ (expr_read-Int rd at n) (number_read (VInt n) h);
    E-Char = λ m at n h. expr _ _ (expr_read-Char rd at n) (number_read (VInt (pos n)) h);
    E-Atom = λ m at n. expr _ _ (expr_read-Atom rd at n) (number_read (VAtom n) tt);
    E-ModuleName = λ m at. expr _ _ (expr_read-ModuleName rd at) (tt, tt, tt);
    E-Str = λ m at chars _ h. expr _ _ (expr_read-Str rd at chars) (string_bounded chars h.0 h.1, tt, h.1);
    E-Tuple = λ m at ys _ h. expr _ _ (expr_read-Tuple rd at ys) (trees_read (map (expr_read rd) ys) (exprs ys h), tt, tt);
    E-List = λ m at ys tail _ h g. expr _ _ (expr_read-List rd at ys tail) (listed_read (map (expr_read rd) ys) (map (expr_read rd) tail) (exprs ys h) (exprs tail g), tt, tt);
    E-Bits = λ m at sgs _ h. expr _ _ (expr_read-Bits rd at sgs) (built_read (read_pieces rd sgs) (all_pieces sgs h));
    E-ListFor = λ m at y gs _ h g. expr _ _ (expr_read-ListFor rd at (y ∷ []) gs) (((refl, tt), qualified_read (map (qual_read rd) gs) (expr_read rd y).tree (all_quals gs g) h.0, tt), tt, tt);
    E-BitsFor = λ m at y gs _ h g. expr _ _ (expr_read-BitsFor rd at (y ∷ []) gs) ((refl, qualified_read (map (qual_read rd) gs) (expr_read rd y).tree (all_quals gs g) h.0, tt), tt, tt);
    E-Call = λ m at home name ys h. expr _ _ (expr_read-Call rd at home name ys) (trees_read (map (expr_read rd) ys) (exprs ys h), tt, tt);
    E-Case = λ m at y alts _ h g. expr _ _ (expr_read-Case rd at (y ∷ []) alts) ((h.0, by_alts alts g), tt, tt);
    E-Receive = λ m at alts _ g. expr _ _ (expr_read-Receive rd at alts) (by_alts alts g, tt, tt);
    E-If = λ m at bs _ g. expr _ _ (expr_read-If rd at bs) (by_branches bs g, tt, tt);
    E-Unary = λ m at op y h. expr _ _ (expr_read-Unary rd at op (y ∷ [])) (prefixed_read op (expr_read rd y) h);
    E-Binary = λ m at op y z _ h g. expr _ _ (expr_read-Binary rd at op (y ∷ z ∷ [])) (operation_read op (expr_read rd y) (expr_read rd z) h g, tt, tt);
    V-Var = λ at name. expr _ _ (expr_read-Var rd at name) (tt, tt, tt);
    V-Wild = λ at. expr _ _ (expr_read-Wild rd at) (tt, tt, tt);
    V-Int = λ at n h. expr _ _ (expr_read-Int rd at n) (number_read (VInt n) h);
    V-Char = λ at n h. expr _ _ (expr_read-Char rd at n) (number_read (VInt (pos n)) h);
    V-Str = λ at chars h. expr _ _ (expr_read-Str rd at chars) (string_bounded chars h.0 h.1, tt, h.1);
    V-Unary = λ at op y h. expr _ _ (expr_read-Unary rd at op (y ∷ [])) (prefixed_read op (expr_read rd y) h);
    P-Var = λ at name. subst (InPattern IsBounded) (sym (pattern_of-Var rd at name)) tt;
    P-Wild = λ at. subst (InPattern IsBounded) (sym (pattern_of-Wild rd at)) tt;
    P-Int = λ at n h. subst (InPattern IsBounded) (sym (pattern_of-Int rd at n)) (near_bounded n h);
    P-Char = λ at n h. subst (InPattern IsBounded) (sym (pattern_of-Char rd at n)) (near_bounded (pos n) h);
    P-Atom = λ at n. subst (InPattern IsBounded) (sym (pattern_of-Atom rd at n)) tt;
    P-Str = λ at chars h. subst (InPattern IsBounded) (sym (pattern_of-Str rd at chars)) (string_bounded chars h.0 h.1);
    P-Tuple = λ at ps h. subst (InPattern IsBounded) (sym (pattern_of-Tuple rd at ps)) (patterns_read (map (pattern_of rd) ps) (all_patterns ps h));
    P-List = λ at ps tail h g _. subst (InPattern IsBounded) (sym (pattern_of-List rd at ps tail)) (pattern_list_read (map (pattern_of rd) ps) (map (pattern_of rd) tail) (all_patterns ps h) (all_patterns tail g));
    P-Bits = λ at sgs h. subst (InPattern IsBounded) (sym (pattern_of-Bits rd at sgs)) (segments_read (read_pieces rd sgs) (all_pieces sgs h));
    P-Same = λ at ps h. subst (InPattern IsBounded) (sym (pattern_of-Same rd at ps)) (patterns_read (map (pattern_of rd) ps) (all_patterns ps h));
    Q-Items = λ m at pt y h g. subst IsQualifier (sym (qual_read-Items rd at pt y)) (g.0, h);
    Q-Bits = λ m at sgs y h g. subst IsQualifier (sym (qual_read-Bits rd at sgs y)) (g.0, bits_read (segments (read_pieces rd sgs)) (segments_read (read_pieces rd sgs) (all_pieces sgs h)));
    Q-Filter = λ m at y g. subst IsQualifier (sym (qual_read-Filter rd at y)) g.0;
    S-of = λ m. segment_bounded;
    R-of = segment_bounded;
    G-none = guard_bounded [] tt;
    G-of = guard_bounded;
    I-of = λ m y h. subst IsLine (sym (line_of-parts rd (record { patterns = []; value = y }))) (tt, h.0);
    I-more = item_bounded;
    A-of = alt_bounded;
    B-of = branch_bounded;
  }

  pub words_near : (w : List Word) → AreSmallWords w → AllByRecursion (IsWord forms) w
  unfolding forms
  words_near [] h = tt
  words_near (t ∷ w) h =
      let small : (kind : TokenKind) → t.kind ≡ kind → IsSmall kind t.number t.chars = λ kind e. subst (λ (kind : TokenKind). IsSmall kind t.number t.chars) e h.0 in
      ((small k.Integer, small k.Character, small k.Str), words_near w h.1)

  pub clauses_bounded : (cs : List Clause) → Cs forms cs → InClauses IsBounded (function_clauses rd cs)
  unfolding forms
  clauses_bounded [] h = tt
  clauses_bounded (c ∷ cs) h = (patterns_read (map (pattern_of rd) c.patterns) (all_patterns c.patterns h.0.0), h.0.1, body_read (map (line_of rd) c.body) (lines c.body h.0.2), clauses_bounded cs h.1)
