-- What a form of a module's text is read as has its guards and sizes in the form of guard expressions where its parts have: a line a
-- form. In a guard and in a size it has that form itself.
use Rattle.std.proofs.Common.{◌≡◌, ◌≢◌, ℕ, ℤ, List, [], ◌∷◌, length, map, Option, Some, None, refl, sym, subst}
use Rattle.std.specs.List.{AllByRecursion, find}
use Rattle.erl_syntax.specs.declared.span.Span.{Span}
use Rattle.erl_syntax.specs.declared.expr.Expr.{Expr}
use Rattle.erl_syntax.specs.declared.expr.Expr.TheVariants as x
use Rattle.erl_syntax.specs.declared.expr.Expr.TheOpen as O
use Rattle.erl_syntax.specs.declared.expr.Op.{Op}
use Rattle.erl_syntax.specs.declared.expr.Op.TheVariants as o
use Rattle.erl_syntax.specs.declared.expr.Prefix.{Prefix}
use Rattle.erl_syntax.specs.declared.pattern.Pattern.{Pattern}
use Rattle.erl_syntax.specs.declared.pattern.Pattern.TheVariants as p
use Rattle.erl_syntax.specs.declared.qual.Qual.{Qual}
use Rattle.erl_syntax.specs.declared.qual.Qual.TheVariants as q
use Rattle.erl_syntax.specs.declared.segment.Segment.{Segment}
use Rattle.erl_syntax.specs.declared.segment.Spec.{Spec}
use Rattle.erl_syntax.specs.declared.clause.Guard.{Guard}
use Rattle.erl_syntax.specs.declared.clause.Item.{Item}
use Rattle.erl_syntax.specs.declared.clause.Alt.{Alt, roll-Alt, out-roll-Alt}
use Rattle.erl_syntax.specs.declared.clause.Branch.{Branch, roll-Branch, out-roll-Branch}
use Rattle.erl_syntax.specs.declared.module.Clause.{Clause}
use Rattle.erl_syntax.specs.Grammar.{InGuard, InSize, Mode}
use Rattle.erl_syntax.specs.Word.{Word}
use Rattle.std.specs.Prelude.{bytes_eq, ◌&&◌}
use Rattle.erl_syntax.specs.BuiltIns.{is_bare, home_of}
use Rattle.erl_syntax.specs.declared.built_in.BuiltIn.{BuiltIn}
use Rattle.erl_syntax.specs.declared.built_in.BuiltIn.TheVariants as built
use Rattle.erl_syntax.specs.declared.built_in.TheConstants.{BUILT_INS}
use Rattle.term_value.specs.Tree.{Form, Send}
use Rattle.term_value.specs.Read as r
use Rattle.term_value.specs.Read.{Reading, Read, expression, literal, trees, Piece, segments, Line, Qualifier}
use Rattle.term_value.specs.ReadTrees.{pattern_of, guard_tree, line_of, function_clauses}
use Rattle.term_layers.proofs.Readings.{expr_read, qual_read, alt_read, branch_read, segment_read, pieces_read as read_pieces, optional_read, expr_read-Var, expr_read-Wild, expr_read-Int, expr_read-Char, expr_read-Atom, expr_read-ModuleName, expr_read-Str, expr_read-Tuple, expr_read-List, expr_read-Bits, expr_read-ListFor, expr_read-BitsFor, expr_read-Call, expr_read-Case, expr_read-Receive, expr_read-If, expr_read-Unary, expr_read-Binary, pattern_of-Var, pattern_of-Wild, pattern_of-Int, pattern_of-Char, pattern_of-Atom, pattern_of-Str, pattern_of-Tuple, pattern_of-List, pattern_of-Bits, pattern_of-Same, qual_read-Items, qual_read-Bits, qual_read-Filter, alt_read-parts, branch_read-parts, guard_tree-parts, line_of-parts, segment_read-parts}
use Rattle.term_value.specs.Calls.{is_named, form_of, form_or_call, called}
use Rattle.module_laws.specs.GuardForms.{HasGuardForms, HaveClauseForms, HasTestForms, HasPatternForms}
use Rattle.module_laws.proofs.Each.{each_map, each_piece}
use Rattle.module_laws.proofs.ReadGuards.{IsRead, AreRead, IsPiece, ArePieces, EachPattern, IsLine, EachLine, EachTest, IsBranch, EachBranch, IsQualifier, EachQualifier, OfRead, trees_read, listed_read, call_read, operation_read, prefixed_read, pieces_read, built_read, segments_read, bits_read, patterns_read, pattern_list_read, body_read, guard_read, clauses_read, qualified_read}
use Rattle.module_laws.proofs.SpeltForms.{Cs, IsWord, OfSome, Properties, Within, not_sent, words_have}

form_no_send : (f : BuiltIn) → form_of f ≢ Send
form_no_send built.Display e = cc e
form_no_send built.Spawn e = cc e
form_no_send _ e = cc e

either_no_send : (f : Option BuiltIn) (place : ℕ) → form_or_call f place ≢ Send
either_no_send None place e = cc e
either_no_send (Some f) place e = form_no_send f e

called_no_send : (home : Option (List ℕ)) (name : List ℕ) (arity place : ℕ) → called home name arity place ≢ Send
called_no_send None name arity place e = either_no_send (find (λ f. is_bare f && is_named name arity f) BUILT_INS) place e
called_no_send (Some home) name arity place e = either_no_send (find (λ f. bytes_eq (home_of f) home && is_named name arity f) BUILT_INS) place e

module _ (rd : Reading) where
  abbrev E : Mode → Expr → Type 0
  E m e = IsRead (Within m) (expr_read rd e)

  abbrev P : Pattern → Type 0
  P pt = HasPatternForms (pattern_of rd pt)

  abbrev S : Mode → Segment → Type 0
  S m sg = ArePieces (Within m) (segment_read rd sg)

  abbrev G : Guard → Type 0
  G g = HasTestForms (guard_tree rd g)

  abbrev I : Item → Type 0
  I i = IsLine (line_of rd i)

  abbrev OfAlt : O.Alt-F Expr Pattern Qual Alt Branch Guard Item Segment → Type 0
  OfAlt a = P a.pattern × G a.guard × AllByRecursion I a.body

  abbrev OfBranch : O.Branch-F Expr Pattern Qual Alt Branch Guard Item Segment → Type 0
  OfBranch b = G b.guard × AllByRecursion I b.body

  exprs : (m : Mode) (ys : List Expr) → AllByRecursion (E m) ys → AreRead (Within m) (map (expr_read rd) ys)
  exprs m ys h = each_map (IsRead (Within m)) (expr_read rd) ys h

  tests_read : (m : Mode) (tests : List (List Expr)) → AllByRecursion (AllByRecursion (E m)) tests → EachTest (Within m) (map (map (expr_read rd)) tests)
  tests_read m [] h = tt
  tests_read m (ys ∷ tests) h = (exprs m ys h.0, tests_read m tests h.1)

  size_read : (m : Mode) (size : Option Expr) → OfSome (E m) size → OfRead (Within m) (optional_read rd size)
  size_read m None h = tt
  size_read m (Some e) h = h

  segment_formed : (m : Mode) (at : Span) (y : Expr) (size : Option Expr) (specs : List Spec) → E m y → OfSome (E m) size → S m (record { at = at; value = y; size = size; specs = specs })
  segment_formed m at y size specs h g =
      let s : Segment = record { at = at; value = y; size = size; specs = specs } in
      subst (ArePieces (Within m)) (sym (segment_read-parts rd s)) (pieces_read (Within m) (expr_read rd y) (optional_read rd size) specs h (size_read m size g))

  all_pieces : (m : Mode) (sgs : List Segment) → AllByRecursion (S m) sgs → ArePieces (Within m) (read_pieces rd sgs)
  all_pieces m sgs h = each_piece (IsPiece (Within m)) rd sgs h

  all_patterns : (ps : List Pattern) → AllByRecursion P ps → EachPattern (map (pattern_of rd) ps)
  all_patterns ps h = each_map HasPatternForms (pattern_of rd) ps h

  all_quals : (gs : List Qual) → AllByRecursion (λ g. IsQualifier (qual_read rd g)) gs → EachQualifier (map (qual_read rd) gs)
  all_quals gs h = each_map IsQualifier (qual_read rd) gs h

  lines : (is : List Item) → AllByRecursion I is → EachLine (map (line_of rd) is)
  lines is h = each_map IsLine (line_of rd) is h

  by_alts : (alts : List Alt) → AllByRecursion (λ a. IsBranch (alt_read rd a)) alts → HaveClauseForms (r.clauses (map (alt_read rd) alts))
  by_alts alts h = clauses_read (map (alt_read rd) alts) (each_map IsBranch (alt_read rd) alts h)

  by_branches : (bs : List Branch) → AllByRecursion (λ b. IsBranch (branch_read rd b)) bs → HaveClauseForms (r.clauses (map (branch_read rd) bs))
  by_branches bs h = clauses_read (map (branch_read rd) bs) (each_map IsBranch (branch_read rd) bs h)

  expr : (m : Mode) (e : Expr) (read : Read) → expr_read rd e ≡ read → IsRead (Within m) read → E m e
  expr m e read q h = subst (IsRead (Within m)) (sym q) h

  call_formed : (m : Mode) (at : Span) (home : List Expr) (name : ℕ) (ys : List Expr) → AllByRecursion (E m) ys → E m (x.Call at home name ys)
  call_formed m at home name ys h =
      let reads : List Read = map (expr_read rd) ys in
      let of_module : Option (List ℕ) = r.called_module rd (map (expr_read rd) home) in
      let place : ℕ = rd.place name (length reads) in
      expr m _ _ (expr_read-Call rd at home name ys) (call_read (Within m) (called of_module (rd.names name) (length reads) place) reads (called_no_send of_module (rd.names name) (length reads) place) (exprs m ys h))

  item_formed : (pt : Pattern) (ps : List Pattern) (y : Expr) → P pt → I (record { patterns = ps; value = y }) → I (record { patterns = pt ∷ ps; value = y })
  item_formed pt ps y h g =
      let i : Item = record { patterns = ps; value = y } in
      let j : Item = record { patterns = pt ∷ ps; value = y } in
      let k : IsLine (record { patterns = map (pattern_of rd) ps; value = (expr_read rd y).tree }) = subst IsLine (line_of-parts rd i) g in
      subst IsLine (sym (line_of-parts rd j)) ((h, k.0), k.1)

  alt_formed : (at : Span) (pt : Pattern) (g : Guard) (is : List Item) → P pt → G g → AllByRecursion I is → IsBranch (alt_read rd (roll-Alt (record { at = at; pattern = pt; guard = g; body = is })))
  alt_formed at pt g is h k l =
      let layer : O.Alt-F Expr Pattern Qual Alt Branch Guard Item Segment = record { at = at; pattern = pt; guard = g; body = is } in
      let w = subst OfAlt (sym (out-roll-Alt layer)) (h, k, l) in
      subst IsBranch (sym (alt_read-parts rd (roll-Alt layer))) ((w.0, tt), w.1, lines _ w.2)

  branch_formed : (at : Span) (g : Guard) (is : List Item) → G g → AllByRecursion I is → IsBranch (branch_read rd (roll-Branch (record { at = at; guard = g; body = is })))
  branch_formed at g is k l =
      let layer : O.Branch-F Expr Pattern Qual Alt Branch Guard Item Segment = record { at = at; guard = g; body = is } in
      let w = subst OfBranch (sym (out-roll-Branch layer)) (k, l) in
      subst IsBranch (sym (branch_read-parts rd (roll-Branch layer))) (tt, w.0, lines _ w.1)

  guard_formed : (tests : List (List Expr)) → AllByRecursion (AllByRecursion (E InGuard)) tests → G (record { alternatives = tests })
  guard_formed tests h =
      let g : Guard = record { alternatives = tests } in
      subst HasTestForms (sym (guard_tree-parts rd g)) (guard_read (Within InGuard) (map (map (expr_read rd)) tests) (λ k. cc k) (tests_read InGuard tests h))

  pub forms : Properties
  forms = record {
    N = λ n. Unit {0};
    T = λ chars. Unit {0};
    E = E;
    V = E InSize;
    P = P;
    Q = λ g. IsQualifier (qual_read rd g);
    S = S;
    R = S InSize;
    G = G;
    I = I;
    A = λ a. IsBranch (alt_read rd a);
    B = λ b. IsBranch (branch_read rd b);
    N-minus = λ n h. tt;
    E-Var = λ m at name. expr m _ _ (expr_read-Var rd at name) (tt, λ _. tt);
    E-Int = λ m at n _. expr m _ _ (expr_read-Int rd at n) (tt, λ _. tt);
    E-Char = λ m at n _. expr m _ _ (expr_read-Char rd at n) (tt, λ _. tt);
    E-Atom = λ m at n. expr m _ _ (expr_read-Atom rd at n) (tt, λ _. tt);
    E-ModuleName = λ m at. expr m _ _ (expr_read-ModuleName rd at) (tt, λ _. tt);
    E-Str = λ m at chars _ _. expr m _ _ (expr_read-Str rd at chars) (tt, λ _. tt);
    E-Tuple = λ m at ys _ h. expr m _ _ (expr_read-Tuple rd at ys) (trees_read (Within m) (map (expr_read rd) ys) (exprs m ys h));
    E-List = λ m at ys tail _ h g. expr m _ _ (expr_read-List rd at ys tail) (listed_read (Within m) (map (expr_read rd) ys) (map (expr_read rd) tail) (exprs m ys h) (exprs m tail g));
    E-Bits = λ m at sgs _ h. expr m _ _ (expr_read-Bits rd at sgs) (built_read (Within m) (read_pieces rd sgs) (all_pieces m sgs h));
    E-ListFor = λ m at y gs i h g. expr m _ _ (expr_read-ListFor rd at (y ∷ []) gs) (qualified_read (map (qual_read rd) gs) (expr_read rd y).tree (all_quals gs g) h.0, λ k. absurd (k i));
    E-BitsFor = λ m at y gs i h g. expr m _ _ (expr_read-BitsFor rd at (y ∷ []) gs) (qualified_read (map (qual_read rd) gs) (expr_read rd y).tree (all_quals gs g) h.0, λ k. absurd (k i));
    E-Call = call_formed;
    E-Case = λ m at y alts i h g. expr m _ _ (expr_read-Case rd at (y ∷ []) alts) ((h.0, by_alts alts g), λ k. absurd (k i));
    E-Receive = λ m at alts i g. expr m _ _ (expr_read-Receive rd at alts) (by_alts alts g, λ k. absurd (k i));
    E-If = λ m at bs i g. expr m _ _ (expr_read-If rd at bs) (by_branches bs g, λ k. absurd (k i));
    E-Unary = λ m at op y h. expr m _ _ (expr_read-Unary rd at op (y ∷ [])) (prefixed_read (Within m) op (expr_read rd y) h);
    E-Binary = λ m at op y z f h g. expr m _ _ (expr_read-Binary rd at op (y ∷ z ∷ [])) (operation_read (Within m) op (expr_read rd y) (expr_read rd z) (not_sent m op f) h g);
    V-Var = λ at name. expr InSize _ _ (expr_read-Var rd at name) (tt, λ _. tt);
    V-Wild = λ at. expr InSize _ _ (expr_read-Wild rd at) (tt, λ _. tt);
    V-Int = λ at n _. expr InSize _ _ (expr_read-Int rd at n) (tt, λ _. tt);
    V-Char = λ at n _. expr InSize _ _ (expr_read-Char rd at n) (tt, λ _. tt);
    V-Str = λ at chars _. expr InSize _ _ (expr_read-Str rd at chars) (tt, λ _. tt);
    V-Unary = λ at op y h. expr InSize _ _ (expr_read-Unary rd at op (y ∷ [])) (prefixed_read (Within InSize) op (expr_read rd y) h);
    P-Var = λ at name. subst HasPatternForms (sym (pattern_of-Var rd at name)) tt;
    P-Wild = λ at. subst HasPatternForms (sym (pattern_of-Wild rd at)) tt;
    P-Int = λ at n _. subst HasPatternForms (sym (pattern_of-Int rd at n)) tt;
    P-Char = λ at n _. subst HasPatternForms (sym (pattern_of-Char rd at n)) tt;
    P-Atom = λ at n. subst HasPatternForms (sym (pattern_of-Atom rd at n)) tt;
    P-Str = λ at chars _. subst HasPatternForms (sym (pattern_of-Str rd at chars)) tt;
    P-Tuple = λ at ps h. subst HasPatternForms (sym (pattern_of-Tuple rd at ps)) (patterns_read (map (pattern_of rd) ps) (all_patterns ps h));
    P-List = λ at ps tail h g _. subst HasPatternForms (sym (pattern_of-List rd at ps tail)) (pattern_list_read (map (pattern_of rd) ps) (map (pattern_of rd) tail) (all_patterns ps h) (all_patterns tail g));
    P-Bits = λ at sgs h. subst HasPatternForms (sym (pattern_of-Bits rd at sgs)) (segments_read (Within InSize) (read_pieces rd sgs) (all_pieces InSize sgs h) (λ k. cc k));
    P-Same = λ at ps h. subst HasPatternForms (sym (pattern_of-Same rd at ps)) (patterns_read (map (pattern_of rd) ps) (all_patterns ps h));
    Q-Items = λ m at pt y h g. subst IsQualifier (sym (qual_read-Items rd at pt y)) (g.0, h);
    Q-Bits = λ m at sgs y h g. subst IsQualifier (sym (qual_read-Bits rd at sgs y)) (g.0, bits_read (segments (read_pieces rd sgs)) (segments_read (Within InSize) (read_pieces rd sgs) (all_pieces InSize sgs h) (λ k. cc k)));
    Q-Filter = λ m at y g. subst IsQualifier (sym (qual_read-Filter rd at y)) g.0;
    S-of = segment_formed;
    R-of = segment_formed InSize;
    G-none = subst HasTestForms (sym (guard_tree-parts rd (record { alternatives = [] }))) (tt, tt, tt);
    G-of = guard_formed;
    I-of = λ m y h. subst IsLine (sym (line_of-parts rd (record { patterns = []; value = y }))) (tt, h.0);
    I-more = item_formed;
    A-of = alt_formed;
    B-of = branch_formed;
  }

  pub words_formed : (w : List Word) → AllByRecursion (IsWord forms) w
  unfolding forms
  words_formed w = words_have forms (λ _. tt) (λ _. tt) w

  pub clauses_formed : (cs : List Clause) → Cs forms cs → HaveClauseForms (function_clauses rd cs)
  unfolding forms
  clauses_formed [] h = tt
  clauses_formed (c ∷ cs) h = (patterns_read (map (pattern_of rd) c.patterns) (all_patterns c.patterns h.0.0), h.0.1, body_read (map (line_of rd) c.body) (lines c.body h.0.2), clauses_formed cs h.1)
