-- Guards and sizes are scoped when they are looked at.
use Rattle.std.proofs.Common.{◌≡◌, ℕ, Bool, List, [], ◌++◌, subst, inl, inr}
use Rattle.std.specs.List.{Contains}
use Rattle.std.proofs.lemmas.List.Elements.{Contains-append_cases}
use Rattle.erl_syntax.specs.declared.typing.Typed.{Typed}
use Rattle.term_value.specs.Value.{Values}
use Rattle.term_value.specs.Setting.{Setting}
use Rattle.term_value.specs.Tree.{Bound, Target, Trees, Guard, Patterns, Segments, segment}
use Rattle.term_value.specs.PutIn.{puts_in, in_target, in_guard}
use Rattle.term_value.specs.Decode.{Cut, reach, taken}
use Rattle.term_value.specs.Match.{Yes, each_matched}
use Rattle.term_laws.specs.Scoped.{variables, target_names, patterns_names, AreScoped, IsGuardScoped, AreSegmentsScoped}
use Rattle.term_laws.proofs.ScopedPut.{none_in, puts_scoped, guard_scoped}
use Rattle.term_laws.proofs.ScopedMatch.{has_value, Binds, MatchBinds, CutBinds, each_binds, target_wants, taken_binds}
use Rattle.term_laws.proofs.ScopedSteps.{fits_bound}

pub guards_have_values : (s : Setting) (ps : Patterns) (vs : Values) (bs : List Bound) (guard : Guard) → IsGuardScoped (patterns_names ps ++ []) guard → each_matched s ps vs [] ≡ Yes bs → IsGuardScoped [] (in_guard bs guard)
guards_have_values s ps vs bs guard h e =
    guard_scoped bs guard (patterns_names ps ++ []) [] (fits_bound (patterns_names ps) bs (subst (MatchBinds s (patterns_names ps) []) e (each_binds s ps vs []))) h

behind_segment : (target : Target) (known : List ℕ) (bs cs : List Bound) → Binds (target_names target) bs cs → ((x : ℕ) → Contains known x → Contains (variables bs) x) → (x : ℕ) → Contains (target_names target ++ known) x → Contains (variables cs) x
behind_segment target known bs cs b f x h = elim (Contains-append_cases (target_names target) known x h) [ inl k ↦ b.bound x k | inr k ↦ b.kept x (f x k) ]

pub sizes_have_values : (s : Setting) (typed : Typed) (target : Target) (size : Trees) (ss : Segments) (known : List ℕ) (bs : List Bound) (bits : List Bool)
    → ((x : ℕ) → Contains known x → Contains (variables bs) x) → AreSegmentsScoped known (segment typed target size ss)
    → AreScoped [] (puts_in bs size)
    × ((cs : List Bound) (rest : List Bool) → taken s typed target size bs bits ≡ Cut cs rest → (x : ℕ) → Contains (target_names target ++ known) x → Contains (variables cs) x)
sizes_have_values s typed target size ss known bs bits f h = (
  puts_scoped bs size known [] (record { covers = λ x k. inl (has_value bs x (f x k)); within = λ x k. absurd (none_in x k) }) h.1,
  λ cs rest e. behind_segment target known bs cs (subst (CutBinds s (target_names target) bs) e (taken_binds s (target_names target) bs typed (in_target bs target) bits (reach s typed bs size) (target_wants s bs target))) f,
)
