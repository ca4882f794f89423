-- An accepted module that was read is scoped, and no run of it meets an unbound variable.
use Rattle.std.proofs.Common.{ℕ, List, [], ◌∷◌, ◌++◌, map, refl, subst}
use Rattle.std.specs.List.{All, AllByRecursion, Contains, zip}
use Rattle.std.proofs.lemmas.List.Elements.{All-nil, All-cons, All-contains, All-from_recursion}
use Rattle.erl_syntax.specs.Bindings.{targets_of}
use Rattle.erl_syntax.specs.Checking.{AreNumbered, IsAccepted, IsNumbered, RisingBy, none, and_then, number_at}
use Rattle.erl_syntax.specs.Grammar.{InGuard, InSize, strict}
use Rattle.erl_syntax.specs.Reading.{Reads, words_of}
use Rattle.erl_syntax.specs.Scopes.{in_guard, nothing_known, past_patterns, to_match, head, head_guard, head_body}
use Rattle.erl_syntax.specs.declared.checking.VarUse.{VarUse}
use Rattle.erl_syntax.specs.declared.module.Clause.{Clause}
use Rattle.erl_syntax.specs.declared.module.Function.{Function}
use Rattle.erl_syntax.specs.declared.module.Module.{Module}
use Rattle.erl_syntax.specs.declared.span.Span.{Span}
use Rattle.term_value.specs.Machine.{Running, start_of}
use Rattle.term_value.specs.Read.{patterns}
use Rattle.term_value.specs.ReadTrees.{function_clauses, function_of, module_of, pattern_of, reading}
use Rattle.term_laws.specs.Scoped.{patterns_names, AreClausesScoped, IsFunctionScoped, IsCourseScoped, IsProcessScoped}
use Rattle.term_laws.proofs.ScopedLaws.{none_unbound}
use Rattle.term_laws.proofs.ScopedMachine.{start_scoped, leads_scoped, contracts_scoped}
use Rattle.module_check.proofs.Spots.{Contains-head, Contains-tail}
use Rattle.module_laws.specs.Variables.{clause_spans, function_spans, guard_spans}
use Rattle.module_laws.proofs.ModuleVariables.{variables_rise}
use Rattle.module_laws.proofs.SpeltForms.{Cs, Properties, Within, functions_have, not_sent, words_have}
use Rattle.module_laws.proofs.VariableForms.{in_clauses, in_items, in_patterns}
use Rattle.scope_laws.specs.Accepted.{AcceptedIsScoped, MachinesAreScoped, NoneMeetsUnbound}
use Rattle.scope_laws.proofs.Bodies as bodies
use Rattle.scope_laws.proofs.Bodies.{AltWalks, BranchWalks, GuardWalks, ItemWalks, body_scoped, opens}
use Rattle.scope_laws.proofs.Comprehensions as comprehensions
use Rattle.scope_laws.proofs.Comprehensions.{QualWalks}
use Rattle.scope_laws.proofs.Expressions as expressions
use Rattle.scope_laws.proofs.Known.{Free, apart_none, covers_none, differ_left, differ_right, free_after, free_right, rising_differ}
use Rattle.scope_laws.proofs.Numbering.{Differ, Numbering, reader}
use Rattle.scope_laws.proofs.Patterns as pats
use Rattle.scope_laws.proofs.Patterns.{PatternWalks, patterns_walk}
use Rattle.scope_laws.proofs.Segments.{SegmentWalks, Walks}

-- what is shown of each kind of part, form by form
properties : Numbering → Properties
properties w = record {
  N = λ n. Unit {0};
  T = λ chars. Unit {0};
  E = λ m. Walks w (Within m);
  V = Walks w (Within InSize);
  P = PatternWalks w;
  Q = QualWalks w;
  S = λ m. SegmentWalks w (Within m);
  R = SegmentWalks w (Within InSize);
  G = GuardWalks w;
  I = ItemWalks w;
  A = AltWalks w;
  B = BranchWalks w;
  N-minus = λ n h. tt;
  E-Var = λ m. expressions.E-Var w (Within m);
  E-Int = λ m at n _. expressions.E-Int w (Within m) at n;
  E-Char = λ m at n _. expressions.E-Char w (Within m) at n;
  E-Atom = λ m. expressions.E-Atom w (Within m);
  E-ModuleName = λ m. expressions.E-ModuleName w (Within m);
  E-Str = λ m at chars _ _. expressions.E-Str w (Within m) at chars;
  E-Tuple = λ m at ys _ h. expressions.E-Tuple w (Within m) at ys h;
  E-List = λ m at ys tail _ h k. expressions.E-List w (Within m) at ys tail h k;
  E-Bits = λ m at sgs _ h. expressions.E-Bits w (Within m) at sgs h;
  E-ListFor = λ m at y gs i h k. comprehensions.E-ListFor w (Within m) y gs (λ n. n i) h k at;
  E-BitsFor = λ m at y gs i h k. comprehensions.E-BitsFor w (Within m) y gs (λ n. n i) h k at;
  E-Call = λ m. expressions.E-Call w (Within m);
  E-Case = λ m at y alts i h k. bodies.E-Case w (Within m) at y alts (λ n. n i) h k;
  E-Receive = λ m at alts i k. bodies.E-Receive w (Within m) at alts (λ n. n i) k;
  E-If = λ m at bs i k. bodies.E-If w (Within m) at bs (λ n. n i) k;
  E-Unary = λ m. expressions.E-Unary w (Within m);
  E-Binary = λ m at op y z f h k. expressions.E-Binary w (Within m) at op y z (not_sent m op f) h k;
  V-Var = expressions.E-Var w (Within InSize);
  V-Wild = expressions.E-Wild w (Within InSize);
  V-Int = λ at n _. expressions.E-Int w (Within InSize) at n;
  V-Char = λ at n _. expressions.E-Char w (Within InSize) at n;
  V-Str = λ at chars _. expressions.E-Str w (Within InSize) at chars;
  V-Unary = expressions.E-Unary w (Within InSize);
  P-Var = pats.P-Var w;
  P-Wild = pats.P-Wild w;
  P-Int = λ at n _. pats.P-Int w at n;
  P-Char = λ at n _. pats.P-Char w at n;
  P-Atom = pats.P-Atom w;
  P-Str = λ at chars _. pats.P-Str w at chars;
  P-Tuple = pats.P-Tuple w;
  P-List = pats.P-List w;
  P-Bits = λ at sgs h. pats.P-Bits w (Within InSize) at sgs (λ k. cc k) h;
  P-Same = pats.P-Same w;
  Q-Items = λ m. comprehensions.Q-Items w (Within m);
  Q-Bits = λ m at sgs y h k. comprehensions.Q-Bits w (Within InSize) (Within m) at sgs y (λ i. cc i) h k;
  Q-Filter = λ m. comprehensions.Q-Filter w (Within m);
  S-of = λ m at y size specs h k. (h, k);
  R-of = λ at y size specs h k. (h, k);
  G-none = bodies.G-none w;
  G-of = λ tests h. bodies.G-of w (Within InGuard) tests (λ k. cc k) h;
  I-of = λ m y h. (tt, opens w (Within m) y h);
  I-more = λ pt ps y h k. ((h, k.0), k.1);
  A-of = bodies.A-of w;
  B-of = bodies.B-of w;
}

module _ (w : Numbering) where
  abbrev Clause_walks : Clause → Type 0
  Clause_walks c = AllByRecursion (PatternWalks w) c.patterns × GuardWalks w c.guard × AllByRecursion (ItemWalks w) c.body

  clauses_walk : (cs : List Clause) → AllByRecursion Clause_walks cs → ((c : Clause) → Contains cs c → Contains w.function.clauses c) → Differ (in_clauses cs) → AreClausesScoped [] (function_clauses (reader w) cs)
  clauses_walk [] h among d = tt
  clauses_walk (c ∷ cs) h among d =
      let hc = among c (Contains-head c cs) in
      let names : List ℕ = patterns_names (patterns (map (pattern_of (reader w)) c.patterns)) in
      let one = patterns_walk w c.patterns h.0.0 [] [] [] []
      (λ front pt back e. record { scope = past_patterns front (to_match nothing_known); knows = refl; sees = refl; stands = head c front pt back hc e })
      (covers_none w []) (covers_none w []) in
      let guard = h.0.1 (targets_of c.patterns) (names ++ [])
      (λ tests y ht hy. record { scope = in_guard (past_patterns c.patterns nothing_known); knows = refl; guards = refl; stands = head_guard c tests y hc ht hy }) one.1.covers in
      let whole : Free w [] (clause_spans c) = record { apart = apart_none w (clause_spans c); differ = differ_left (clause_spans c) (in_clauses cs) d } in
      let rest : Free w (names ++ []) (guard_spans c.guard ++ in_items c.body) = free_after w [] names (in_patterns c.patterns) (guard_spans c.guard ++ in_items c.body) whole one.1.comes in
      let body = body_scoped w (targets_of c.patterns) c.body h.0.2 (record { scope = past_patterns c.patterns nothing_known; knows = refl; stands = head_body c hc }) (names ++ []) one.1.covers
      (free_right w (names ++ []) (guard_spans c.guard) (in_items c.body) rest) in
      (one.0, guard, body, clauses_walk cs h.1 (λ k m. among k (Contains-tail c cs k m)) (differ_right (clause_spans c) (in_clauses cs) d))

module _ (text : List ℕ) (m : Module) (r : Reads text m) (accepted : IsAccepted m) where
  abbrev Rises : Function → Type 0
  Rises f = RisingBy (λ (at : Span). at) (function_spans f)

  function_scoped : (f : Function) (uses : List VarUse) → Contains m.functions f → IsNumbered f uses → IsFunctionScoped (function_of (reading (number_at uses) m) m.exports f)
  unfolding properties
  function_scoped f uses among numbered =
      let w : Numbering = record { code = m; accepted = accepted; function = f; among = among; uses = uses; numbered = numbered } in
      let H : Function → Type 0 = λ g. Cs (properties w) g.clauses in
      let words = words_of text m.atoms r.tokens in
      let all : AllByRecursion H m.functions = functions_have (properties w) strict m.heads m.exports m.functions words r.spells (words_have (properties w) (λ _. tt) (λ _. tt) words) in
      let mine : H f = All-contains H m.functions f (All-from_recursion H m.functions all) among in
      let rises : Rises f = All-contains Rises m.functions f (variables_rise text m r) among in
      clauses_walk w f.clauses mine (λ c h. h) (rising_differ (function_spans f) rises)

  each_scoped : (fs : List Function) (uses : List (List VarUse)) → AreNumbered fs uses → ((f : Function) → Contains fs f → Contains m.functions f) →
      All IsFunctionScoped (map (λ f. function_of (reading (number_at f.1) m) m.exports f.0) (zip fs uses))
  each_scoped _ _ none among = All-nil IsFunctionScoped
  each_scoped _ _ (and_then f fs uses more numbered rest) among =
      All-cons IsFunctionScoped (function_of (reading (number_at uses) m) m.exports f) (map (λ f. function_of (reading (number_at f.1) m) m.exports f.0) (zip fs more))
      (function_scoped f uses (among f (Contains-head f fs)) numbered) (each_scoped fs more rest (λ g h. among g (Contains-tail f fs g h)))

pub accepted_is_scoped : AcceptedIsScoped
accepted_is_scoped text m uses r accepted numbered = each_scoped text m r accepted m.functions uses numbered (λ f h. h)

pub machines_are_scoped : MachinesAreScoped
machines_are_scoped text m uses reductions n entries r accepted numbered leads =
    leads_scoped (start_of (module_of uses m) reductions) n entries leads (start_scoped (module_of uses m) reductions (accepted_is_scoped text m uses r accepted numbered))

pub none_meets_unbound : NoneMeetsUnbound
none_meets_unbound text m uses reductions n entries l k unseen cost made layers variable r accepted numbered leads among run is =
    let scoped = machines_are_scoped text m uses reductions n entries r accepted numbered leads in
    let process : IsCourseScoped l.course = All-contains IsProcessScoped n.processes (Running l unseen) scoped.processes among in
    let later : IsCourseScoped k.course = contracts_scoped (module_of uses m) l k cost made run (accepted_is_scoped text m uses r accepted numbered) process in
    none_unbound layers variable (subst IsCourseScoped is later)
