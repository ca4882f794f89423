-- In what is scoped no variable is open, and what else being scoped gives.
use Rattle.std.proofs.Common.{◌≡◌, ℕ, Bool, true, false, not, ◌&&◌, ◌||◌, List, [], ◌∷◌, ◌++◌, Option, Some, None, nat_eq, refl, subst, sym, ◌⊎◌, inl, inr, arith}
use Rattle.std.specs.List.{Contains, list_any}
use Rattle.std.specs.Prelude.{◌↔◌}
use Rattle.std.proofs.lemmas.Bool.Decides.{nat_tests}
use Rattle.std.proofs.lemmas.List.Elements.{Contains-append_left, Contains-append_right, Contains-append_cases}
use Rattle.term_value.specs.Value.{Value}
use Rattle.term_value.specs.Setting.{Setting}
use Rattle.term_value.specs.Tree.{Bound, Target, Anything, Variable, Equal, Table, Tree, Val, Var, All, First, Trees, end, and, AndAlso, OrElse, Pattern, Segments, no_segment, segment}
use Rattle.term_value.specs.PutIn.{value_in, tree_or_variable, put_in}
use Rattle.term_value.specs.Match.{Yes, matched}
use Rattle.term_value.specs.Rows.{mentions, one_mentions, uses, variable_where, shape_of_target, and_variable, shape_after}
use Rattle.term_laws.specs.GuardLaws.{IsTest, AreTests}
use Rattle.term_layers.specs.Layers.{Layer, Part, Before, Giving, Drawing, Testing, rewound, wrap, plug}
use Rattle.term_laws.specs.Scoped.{variables, target_names, pattern_names, IsScoped, AreScoped, AreSegmentsScoped}
use Rattle.term_laws.proofs.ScopedPut.{none_in, first_in, only_one, Has, put_scoped}
use Rattle.term_laws.proofs.ScopedMatch.{has_value, Binds, MatchBinds, matched_binds}

rewound_scoped : (vs : List Value) (ts : Trees) → AreScoped [] (rewound vs ts) → AreScoped [] ts
rewound_scoped [] ts h = h
rewound_scoped (v ∷ vs) ts h = (rewound_scoped vs (and (Val v) ts) h).1

wrapped_scoped : (layer : Layer) (t : Tree) → IsScoped [] (wrap layer t) → IsScoped [] t
wrapped_scoped (Part form vs ts) t h = (rewound_scoped vs (and t ts) h).0
wrapped_scoped (Before rest) t h = h.0
wrapped_scoped (Giving got levels) t h = h.0
wrapped_scoped (Drawing got g qs levels) t h = h.0.0
wrapped_scoped (Testing got qs levels) t h = h.0.0

-- the open part of what is scoped is scoped
pub plugged_scoped : (layers : List Layer) (t : Tree) → IsScoped [] (plug layers t) → IsScoped [] t
plugged_scoped [] t h = h
plugged_scoped (layer ∷ layers) t h = wrapped_scoped layer t (plugged_scoped layers (wrap layer t) h)

pub none_unbound : (layers : List Layer) (x : ℕ) → IsScoped [] (plug layers (Var x)) → ⊥
none_unbound layers x h = none_in x (plugged_scoped layers (Var x) h)

value_of : (o : Option Value) → Has o → (v : Value) × (o ≡ Some v)
value_of None h = absurd h
value_of (Some v) h = (v, refl)

pub known_value : (env : List Bound) (x : ℕ) → Contains (variables env) x → (v : Value) × (value_in env x ≡ Some v)
known_value env x h = value_of (value_in env x) (has_value env x h)

value_or_variable : (o : Option Value) (x : ℕ) → IsScoped [] (tree_or_variable o x) → (v : Value) × (o ≡ Some v)
value_or_variable None x h = absurd (none_in x h)
value_or_variable (Some v) x h = (v, refl)

pub open_value : (layers : List Layer) (env : List Bound) (x : ℕ) → IsScoped [] (plug layers (put_in env (Var x))) → (v : Value) × (value_in env x ≡ Some v)
open_value layers env x h = value_or_variable (value_in env x) x (plugged_scoped layers (put_in env (Var x)) h)

pub put_closes : (bs : List Bound) (t : Tree) → IsScoped (variables bs) t → IsScoped [] (put_in bs t)
put_closes bs t h = put_scoped bs t (variables bs) [] (record { covers = λ x k. inl (has_value bs x k); within = λ x k. absurd (none_in x k) }) h

pub match_names : (s : Setting) (p : Pattern) (v : Value) (bs cs : List Bound) → matched s p v bs ≡ Yes cs → (x : ℕ) → Contains (variables cs) x ↔ (Contains (pattern_names p) x ⊎ Contains (variables bs) x)
match_names s p v bs cs e x =
    let b : Binds (pattern_names p) bs cs = subst (MatchBinds s (pattern_names p) bs) e (matched_binds s p v bs) in
    (b.only x, either b)
  where
    either : Binds (pattern_names p) bs cs → Contains (pattern_names p) x ⊎ Contains (variables bs) x → Contains (variables cs) x
    either b (inl k) = b.bound x k
    either b (inr k) = b.kept x k

neither : (a b : Bool) → a ≡ false → b ≡ false → (a || b) ≡ false
neither true b h g = h
neither false b h g = g

mutual
  test_has_none : (x : ℕ) (t : Tree) → IsTest t → IsScoped [] t → mentions x t ≡ false
  test_has_none x (Val v) h k = refl
  test_has_none x (Var y) h k = absurd (none_in y k)
  test_has_none x (All (Table p) ts) h k = tests_have_none x ts h k
  test_has_none x (First t (AndAlso u)) h k = neither (mentions x t) (mentions x u) (test_has_none x t h.0 k.0) (test_has_none x u h.1 k.1)
  test_has_none x (First t (OrElse u)) h k = neither (mentions x t) (mentions x u) (test_has_none x t h.0 k.0) (test_has_none x u h.1 k.1)
  test_has_none x _ h k = absurd h

  pub tests_have_none : (x : ℕ) (ts : Trees) → AreTests ts → AreScoped [] ts → one_mentions x ts ≡ false
  tests_have_none x end h k = refl
  tests_have_none x (and t ts) h k = neither (mentions x t) (one_mentions x ts) (test_has_none x t h.0 k.0) (tests_have_none x ts h.1 k.1)

from_left : (a b : Bool) → a ≡ true → (a || b) ≡ true
from_left true b h = refl
from_left false b h = absurd (cc h)

from_right : (a b : Bool) → b ≡ true → (a || b) ≡ true
from_right true b h = refl
from_right false b h = h

same_number : (n : ℕ) → nat_eq n n ≡ true
same_number n = grind (arith, nat_tests)

-- a test wants only the variables that it mentions
mutual
  test_wants : (known fewer : List ℕ) (t : Tree) → IsTest t → IsScoped known t → ((x : ℕ) → Contains known x → mentions x t ≡ true → Contains fewer x) → IsScoped fewer t
  test_wants known fewer (Val v) h k f = tt
  test_wants known fewer (Var x) h k f = f x k (same_number x)
  test_wants known fewer (All (Table p) ts) h k f = tests_want known fewer ts h k f
  test_wants known fewer (First t (AndAlso u)) h k f =
      (test_wants known fewer t h.0 k.0 (λ x c e. f x c (from_left (mentions x t) (mentions x u) e)), test_wants known fewer u h.1 k.1 (λ x c e. f x c (from_right (mentions x t) (mentions x u) e)))
  test_wants known fewer (First t (OrElse u)) h k f =
      (test_wants known fewer t h.0 k.0 (λ x c e. f x c (from_left (mentions x t) (mentions x u) e)), test_wants known fewer u h.1 k.1 (λ x c e. f x c (from_right (mentions x t) (mentions x u) e)))
  test_wants known fewer _ h k f = absurd h

  tests_want : (known fewer : List ℕ) (ts : Trees) → AreTests ts → AreScoped known ts → ((x : ℕ) → Contains known x → one_mentions x ts ≡ true → Contains fewer x) → AreScoped fewer ts
  tests_want known fewer end h k f = tt
  tests_want known fewer (and t ts) h k f =
      (test_wants known fewer t h.0 k.0 (λ x c e. f x c (from_left (mentions x t) (one_mentions x ts) e)), tests_want known fewer ts h.1 k.1 (λ x c e. f x c (from_right (mentions x t) (one_mentions x ts) e)))

-- In front of some segments: what their sizes use is known to the shape, and the variables further left are known.
record Keeps (known fewer earlier : List ℕ) (ss : Segments) : Type 0 where
  pub used : (x : ℕ) → Contains known x → uses x ss ≡ true → Contains fewer x
  pub left : (x : ℕ) → list_any (nat_eq x) earlier ≡ true → Contains known x

keeps_same : (known fewer earlier : List ℕ) (size : Trees) (ss : Segments) → ((x : ℕ) → Contains known x → (one_mentions x size || uses x ss) ≡ true → Contains fewer x) → ((x : ℕ) → list_any (nat_eq x) earlier ≡ true → Contains known x) → Keeps known fewer earlier ss
keeps_same known fewer earlier size ss f g = record { used = λ x c e. f x c (from_right (one_mentions x size) (uses x ss) e); left = g }

keeps_variable : (known fewer earlier : List ℕ) (x : ℕ) (size : Trees) (ss : Segments) (a u : Bool) → a ≡ list_any (nat_eq x) earlier → u ≡ uses x ss
    → ((y : ℕ) → Contains known y → (one_mentions y size || uses y ss) ≡ true → Contains fewer y) → ((y : ℕ) → list_any (nat_eq y) earlier ≡ true → Contains known y)
    → Keeps (x ∷ known) (target_names (variable_where (not a && u) x) ++ fewer) (x ∷ earlier) ss
keeps_variable known fewer earlier x size ss a u ea eu f g = record { used = λ y c e. by_used y a u ea eu (Contains-append_cases (x ∷ []) known y c) e; left = λ y e. by_left y (nat_eq y x) refl e }
  where
    by_used : (y : ℕ) (a u : Bool) → a ≡ list_any (nat_eq x) earlier → u ≡ uses x ss → Contains (x ∷ []) y ⊎ Contains known y → uses y ss ≡ true → Contains (target_names (variable_where (not a && u) x) ++ fewer) y
    by_used y false true ea eu (inl c) e = Contains-append_left (x ∷ []) fewer y c
    by_used y false true ea eu (inr c) e = Contains-append_right (x ∷ []) fewer y (f y c (from_right (one_mentions y size) (uses y ss) e))
    by_used y false false ea eu (inl c) e = absurd (let P : ℕ → Type 0 = λ z. uses z ss ≡ true in cc (eu, subst P (sym (only_one x y c)) e))
    by_used y false false ea eu (inr c) e = f y c (from_right (one_mentions y size) (uses y ss) e)
    by_used y true u ea eu (inl c) e = (let P : ℕ → Type 0 = λ z. list_any (nat_eq z) earlier ≡ true in f y (g y (subst P (only_one x y c) (sym ea))) (from_right (one_mentions y size) (uses y ss) e))
    by_used y true u ea eu (inr c) e = f y c (from_right (one_mentions y size) (uses y ss) e)

    by_left : (y : ℕ) (b : Bool) → b ≡ nat_eq y x → (b || list_any (nat_eq y) earlier) ≡ true → Contains (x ∷ known) y
    by_left y true eb e = (let same_variable : y ≡ x = grind (arith, nat_tests, eb) in let P : ℕ → Type 0 = λ z. Contains (x ∷ known) z in subst P (sym same_variable) (first_in x known))
    by_left y false eb e = Contains-append_right (x ∷ []) known y (g y e)

keeps_target : (known fewer earlier : List ℕ) (target : Target) (size : Trees) (ss : Segments) → ((x : ℕ) → Contains known x → (one_mentions x size || uses x ss) ≡ true → Contains fewer x) → ((x : ℕ) → list_any (nat_eq x) earlier ≡ true → Contains known x)
    → Keeps (target_names target ++ known) (target_names (shape_of_target earlier ss target) ++ fewer) (and_variable earlier target) ss
keeps_target known fewer earlier Anything size ss f g = keeps_same known fewer earlier size ss f g
keeps_target known fewer earlier (Equal v) size ss f g = keeps_same known fewer earlier size ss f g
keeps_target known fewer earlier (Variable x) size ss f g = keeps_variable known fewer earlier x size ss (list_any (nat_eq x) earlier) (uses x ss) refl refl f g

after_scoped : (ss : Segments) (known fewer earlier : List ℕ) → Keeps known fewer earlier ss → AreSegmentsScoped known ss → AreSegmentsScoped fewer (shape_after earlier ss)
after_scoped no_segment known fewer earlier f h = tt
after_scoped (segment typed target size ss) known fewer earlier f h = (
  h.0,
  tests_want known fewer size h.0 h.1 (λ x c e. f.used x c (from_left (one_mentions x size) (uses x ss) e)),
  after_scoped ss _ _ _ (keeps_target known fewer earlier target size ss f.used f.left) h.2,
)

pub shape_scoped : (known : List ℕ) (ss : Segments) → AreSegmentsScoped known ss → AreSegmentsScoped known (shape_after [] ss)
shape_scoped known ss h = after_scoped ss known known [] (record { used = λ x c e. c; left = λ x e. absurd (cc e) }) h
