-- The sizes of an accepted module that was read have their form.
use Rattle.std.proofs.Common.{ℕ, List, [], ◌∷◌, map}
use Rattle.std.specs.List.{All, AllByRecursion, Contains, zip}
use Rattle.std.proofs.lemmas.List.Elements.{All-nil, All-cons, All-contains, All-from_recursion}
use Rattle.erl_syntax.specs.Checking.{IsAccepted, number_at}
use Rattle.erl_syntax.specs.Grammar.{strict}
use Rattle.erl_syntax.specs.Reading.{Reads, words_of}
use Rattle.erl_syntax.specs.Scopes.{in_guard, nothing_known, past_patterns, to_match, head, head_guard, head_body}
use Rattle.erl_syntax.specs.declared.checking.VarUse.{VarUse}
use Rattle.erl_syntax.specs.declared.module.Clause.{Clause}
use Rattle.erl_syntax.specs.declared.module.Function.{Function}
use Rattle.erl_syntax.specs.declared.module.Module.{Module}
use Rattle.module_check.proofs.Spots.{Contains-head, Contains-tail}
use Rattle.term_value.specs.ReadTrees.{function_clauses, function_of, pattern_of, reading}
use Rattle.term_value.specs.Tree as tree
use Rattle.size_laws.specs.SizeForms.{HaveClauseSizes, SizesHaveForm}
use Rattle.size_laws.proofs.ReadSizes.{patterns_read}
use Rattle.size_laws.proofs.SizedExpressions as expressions
use Rattle.size_laws.proofs.SizedExpressions.{Source, reader, IsFormed, ExprSized, SegmentSized, PatternSegmentSized, PatternSized, patterns_sized}
use Rattle.size_laws.proofs.SizedBodies as bodies
use Rattle.size_laws.proofs.SizedBodies.{GuardSized, ItemSized, AltSized, BranchSized, QualSized, body_sized}
use Rattle.module_laws.proofs.SpeltForms.{Cs, Properties, functions_have, words_have}

-- what is shown of each kind of part, form by form
properties : Source → Properties
properties w = record {
  N = λ n. Unit {0};
  T = λ chars. Unit {0};
  E = ExprSized w;
  V = λ y. Unit {0};
  P = PatternSized w;
  Q = QualSized w;
  S = SegmentSized w;
  R = PatternSegmentSized w;
  G = GuardSized w;
  I = ItemSized w;
  A = AltSized w;
  B = BranchSized w;
  N-minus = λ n h. tt;
  E-Var = expressions.E-Var w;
  E-Int = λ m at n _. expressions.E-Int w m at n;
  E-Char = λ m at n _. expressions.E-Char w m at n;
  E-Atom = expressions.E-Atom w;
  E-ModuleName = expressions.E-ModuleName w;
  E-Str = λ m at chars n _. expressions.E-Str w m at chars n;
  E-Tuple = expressions.E-Tuple w;
  E-List = expressions.E-List w;
  E-Bits = expressions.E-Bits w;
  E-ListFor = bodies.E-ListFor w;
  E-BitsFor = bodies.E-BitsFor w;
  E-Call = expressions.E-Call w;
  E-Case = bodies.E-Case w;
  E-Receive = bodies.E-Receive w;
  E-If = bodies.E-If w;
  E-Unary = expressions.E-Unary w;
  E-Binary = expressions.E-Binary w;
  V-Var = λ at name. tt;
  V-Wild = λ at. tt;
  V-Int = λ at n h. tt;
  V-Char = λ at n h. tt;
  V-Str = λ at chars h. tt;
  V-Unary = λ at op y h. tt;
  P-Var = expressions.P-Var w;
  P-Wild = expressions.P-Wild w;
  P-Int = λ at n _. expressions.P-Int w at n;
  P-Char = λ at n _. expressions.P-Char w at n;
  P-Atom = expressions.P-Atom w;
  P-Str = λ at chars _. expressions.P-Str w at chars;
  P-Tuple = expressions.P-Tuple w;
  P-List = λ at ps tail h g _. expressions.P-List w at ps tail h g;
  P-Bits = expressions.P-Bits w;
  P-Same = expressions.P-Same w;
  Q-Items = bodies.Q-Items w;
  Q-Bits = bodies.Q-Bits w;
  Q-Filter = bodies.Q-Filter w;
  S-of = λ m at y size specs h k. (h, k);
  R-of = λ at y size specs _ h. expressions.R-of w at y size specs h;
  G-none = bodies.G-none w;
  G-of = bodies.G-of w;
  I-of = λ m y h. (tt, h.0);
  I-more = λ pt ps y h k. ((h, k.0), k.1);
  A-of = bodies.A-of w;
  B-of = bodies.B-of w;
}

module _ (w : Source) where
  abbrev ClauseSized : Clause → Type 0
  ClauseSized c = AllByRecursion (PatternSized w) c.patterns × GuardSized w c.guard × AllByRecursion (ItemSized w) c.body

  clauses_sized : (cs : List Clause) → AllByRecursion ClauseSized cs → ((c : Clause) → Contains cs c → Contains w.function.clauses c) → HaveClauseSizes IsFormed (function_clauses (reader w) cs)
  clauses_sized [] h among = tt
  clauses_sized (c ∷ cs) h among =
      let hc = among c (Contains-head c cs) in
      let ps = patterns_sized w c.patterns h.0.0 (λ front pt back e. record { scope = past_patterns front (to_match nothing_known); stands = head c front pt back hc e }) in
      let guard = h.0.1 (λ tests y ht hy. record { scope = in_guard (past_patterns c.patterns nothing_known); stands = head_guard c tests y hc ht hy }) in
      let body = body_sized w c.body h.0.2 (record { scope = past_patterns c.patterns nothing_known; stands = head_body c hc }) in
      (patterns_read IsFormed (map (pattern_of (reader w)) c.patterns) ps, guard, body, clauses_sized cs h.1 (λ k m. among k (Contains-tail c cs k m)))

module _ (text : List ℕ) (m : Module) (r : Reads text m) (accepted : IsAccepted m) where
  abbrev IsSized : tree.Function → Type 0
  IsSized f = HaveClauseSizes IsFormed f.clauses

  function_sized : (f : Function) (uses : List VarUse) → Contains m.functions f → IsSized (function_of (reading (number_at uses) m) m.exports f)
  unfolding properties
  function_sized f uses among =
      let w : Source = record { code = m; accepted = accepted; function = f; among = among; number_at = number_at uses } in
      let H : Function → Type 0 = λ g. Cs (properties w) g.clauses in
      let words = words_of text m.atoms r.tokens in
      let all : AllByRecursion H m.functions = functions_have (properties w) strict m.heads m.exports m.functions words r.spells (words_have (properties w) (λ _. tt) (λ _. tt) words) in
      let mine : H f = All-contains H m.functions f (All-from_recursion H m.functions all) among in
      clauses_sized w f.clauses mine (λ c h. h)

  each_sized : (fs : List Function) (uses : List (List VarUse)) → ((f : Function) → Contains fs f → Contains m.functions f) →
      All IsSized (map (λ f. function_of (reading (number_at f.1) m) m.exports f.0) (zip fs uses))
  each_sized [] uses among = All-nil IsSized
  each_sized (f ∷ fs) [] among = All-nil IsSized
  each_sized (f ∷ fs) (u ∷ uses) among =
      All-cons IsSized (function_of (reading (number_at u) m) m.exports f) (map (λ f. function_of (reading (number_at f.1) m) m.exports f.0) (zip fs uses))
      (function_sized f u (among f (Contains-head f fs))) (each_sized fs uses (λ g h. among g (Contains-tail f fs g h)))

pub sizes_have_form : SizesHaveForm
sizes_have_form text m uses r accepted = each_sized text m r accepted m.functions uses (λ f h. h)
