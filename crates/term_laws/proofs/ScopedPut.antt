-- What is known once values are put in.
use Rattle.std.proofs.Common.{◌≡◌, ℕ, zero, suc, List, [], ◌∷◌, ◌++◌, Option, Some, None, refl, subst, ◌⊎◌, inl, inr, arith}
use Rattle.std.specs.List.{Contains}
use Rattle.std.proofs.lemmas.List.Elements.{Contains-append_left, Contains-append_right, Contains-append_cases}
use Rattle.term_value.specs.Value.{Value}
use Rattle.term_value.specs.Tree.{Bound, Target, Anything, Variable, Equal, Table, Row, Found, Skipped, RowLimit, Tree, Val, Var, All, First, Choose, Receive, Gather, Trees, end, and, Shut, Then, Last, Alts, AndAlso, OrElse, Clauses, no_clause, clause, Guard, never, or, Quals, turn, give, from, test, Generator, InList, InBits, Levels, bottom, level, Pattern, PWild, PVar, PVal, PTuple, PList, PListOn, PBits, PSame, Patterns, no_pattern, pattern_and, Segments, no_segment, segment}
use Rattle.term_value.specs.PutIn.{value_in, tree_or_variable, pattern_or_variable, target_or_variable, in_target, put_in, puts_in, in_shut, in_clauses, in_guard, in_quals, in_generator, in_levels, in_pattern, in_patterns, in_segments}
use Rattle.term_laws.specs.GuardLaws.{IsTest, AreTests}
use Rattle.term_laws.specs.Scoped.{variables, target_names, segment_names, pattern_names, patterns_names, generator_names, EachRow, IsScoped, AreScoped, IsShutScoped, AreClausesScoped, IsGuardScoped, AreQualsScoped, IsGeneratorScoped, AreLevelsScoped, IsPatternScoped, ArePatternsScoped, AreScopedInTurn, AreSegmentsScoped}
use Rattle.term_layers.proofs.Nothing.{same, clauses_same, quals_same}

pub none_in : {X : Type 0} (x : X) → Contains [] x → ⊥
none_in x h = absurd (omega (arith, h.1))

pub first_in : {X : Type 0} (x : X) (xs : List X) → Contains (x ∷ xs) x
first_in x xs = (0, omega arith, refl)

pub only_one : {X : Type 0} (y x : X) → Contains (y ∷ []) x → y ≡ x
only_one {X} y x (zero, l, e) = e
only_one {X} y x (suc k, l, e) = absurd (omega (arith, l))

-- a variable has a value
abbrev pub Has : Option Value → Type 0
Has None = ⊥
Has (Some v) = Unit {0}

module _ (xs : List Bound) where
  -- once the values are put in, so many fewer variables need one
  pub record Fits (known fewer : List ℕ) : Type 0 where
    pub covers : (x : ℕ) → Contains known x → Has (value_in xs x) ⊎ Contains fewer x
    pub within : (x : ℕ) → Contains fewer x → Contains known x

  fits_none : Fits [] []
  fits_none = record { covers = λ x h. inr h; within = λ x h. h }

  pub fits_both : (a b c d : List ℕ) → Fits a c → Fits b d → Fits (a ++ b) (c ++ d)
  fits_both a b c d f g = record {
    covers = λ x h. elim (Contains-append_cases a b x h) [
      | inl k ↦ front x (f.covers x k)
      | inr k ↦ back x (g.covers x k)
    ];
    within = λ x h. elim (Contains-append_cases c d x h) [
      | inl k ↦ Contains-append_left a b x (f.within x k)
      | inr k ↦ Contains-append_right a b x (g.within x k)
    ];
  }
    where
      front : (x : ℕ) → Has (value_in xs x) ⊎ Contains c x → Has (value_in xs x) ⊎ Contains (c ++ d) x
      front x (inl k) = inl k
      front x (inr k) = inr (Contains-append_left c d x k)

      back : (x : ℕ) → Has (value_in xs x) ⊎ Contains d x → Has (value_in xs x) ⊎ Contains (c ++ d) x
      back x (inl k) = inl k
      back x (inr k) = inr (Contains-append_right c d x k)

  pub fits_same : (names : List ℕ) → Fits names names
  fits_same names = record { covers = λ x h. inr h; within = λ x h. h }

  fits_pattern_variable : (x : ℕ) (o : Option Value) → o ≡ value_in xs x → Fits (x ∷ []) (pattern_names (pattern_or_variable o x))
  fits_pattern_variable x None e = fits_same (x ∷ [])
  fits_pattern_variable x (Some v) e = record {
    covers = λ y h. inl (let P : ℕ → Type 0 = λ z. Has (value_in xs z) in subst P (only_one x y h) (subst Has e tt));
    within = λ y h. absurd (none_in y h);
  }

  fits_target_variable : (x : ℕ) (o : Option Value) → o ≡ value_in xs x → Fits (x ∷ []) (target_names (target_or_variable o x))
  fits_target_variable x None e = fits_same (x ∷ [])
  fits_target_variable x (Some v) e = record {
    covers = λ y h. inl (let P : ℕ → Type 0 = λ z. Has (value_in xs z) in subst P (only_one x y h) (subst Has e tt));
    within = λ y h. absurd (none_in y h);
  }

  target_fits : (target : Target) → Fits (target_names target) (target_names (in_target xs target))
  target_fits Anything = fits_none
  target_fits (Variable x) = fits_target_variable x (value_in xs x) refl
  target_fits (Equal v) = fits_none

  segments_fit : (ss : Segments) → Fits (segment_names ss) (segment_names (in_segments xs ss))
  segments_fit no_segment = fits_none
  segments_fit (segment typed target size ss) = fits_both _ _ _ _ (target_fits target) (segments_fit ss)

  mutual
    pattern_fits : (p : Pattern) → Fits (pattern_names p) (pattern_names (in_pattern xs p))
    pattern_fits PWild = fits_none
    pattern_fits (PVar x) = fits_pattern_variable x (value_in xs x) refl
    pattern_fits (PVal v) = fits_none
    pattern_fits (PTuple ps) = patterns_fit ps
    pattern_fits (PList ps) = patterns_fit ps
    pattern_fits (PListOn ps p) = fits_both _ _ _ _ (patterns_fit ps) (pattern_fits p)
    pattern_fits (PBits ss) = segments_fit ss
    pattern_fits (PSame ps) = patterns_fit ps

    patterns_fit : (ps : Patterns) → Fits (patterns_names ps) (patterns_names (in_patterns xs ps))
    patterns_fit no_pattern = fits_none
    patterns_fit (pattern_and p ps) = fits_both _ _ _ _ (pattern_fits p) (patterns_fit ps)

  generator_fits : (g : Generator) → Fits (generator_names g) (generator_names (in_generator xs g))
  generator_fits (InList p) = pattern_fits p
  generator_fits (InBits ss shape) = segments_fit ss

  test_of_variable : (o : Option Value) (x : ℕ) → IsTest (tree_or_variable o x)
  test_of_variable None x = tt
  test_of_variable (Some v) x = tt

  mutual
    test_put : (t : Tree) → IsTest t → IsTest (put_in xs t)
    test_put (Val v) h = tt
    test_put (Var x) h = test_of_variable (value_in xs x) x
    test_put (All (Table p) ts) h = tests_put ts h
    test_put (First t (AndAlso u)) h = (test_put t h.0, test_put u h.1)
    test_put (First t (OrElse u)) h = (test_put t h.0, test_put u h.1)
    test_put _ h = absurd h

    pub tests_put : (ts : Trees) → AreTests ts → AreTests (puts_in xs ts)
    tests_put end h = tt
    tests_put (and t ts) h = (test_put t h.0, tests_put ts h.1)

  variable_put : (o : Option Value) (x : ℕ) (fewer : List ℕ) → Has o ⊎ Contains fewer x → IsScoped fewer (tree_or_variable o x)
  variable_put None x fewer (inl h) = absurd h
  variable_put None x fewer (inr h) = h
  variable_put (Some v) x fewer h = tt

  pattern_variable : (o : Option Value) (x : ℕ) (fewer : List ℕ) → IsPatternScoped fewer (pattern_or_variable o x)
  pattern_variable None x fewer = tt
  pattern_variable (Some v) x fewer = tt

  rows_put : (rows : List Row) (P Q : List ℕ → Type 0) → ((names : List ℕ) → P names → Q names) → EachRow P rows → EachRow Q rows
  rows_put [] P Q f h = tt
  rows_put (Found bs ∷ rows) P Q f h = (f (variables bs) h.0, rows_put rows P Q f h.1)
  rows_put (Skipped ∷ rows) P Q f h = rows_put rows P Q f h
  rows_put (RowLimit ∷ rows) P Q f h = rows_put rows P Q f h

  mutual
    pub put_scoped : (t : Tree) (known fewer : List ℕ) → Fits known fewer → IsScoped known t → IsScoped fewer (put_in xs t)
    put_scoped (Val v) known fewer f h = tt
    put_scoped (Var x) known fewer f h = variable_put (value_in xs x) x fewer (f.covers x h)
    put_scoped (All form ts) known fewer f h = puts_scoped ts known fewer f h
    put_scoped (First t rest) known fewer f h = (put_scoped t known fewer f h.0, shut_scoped rest known fewer f h.1)
    put_scoped (Choose cs) known fewer f h = clauses_scoped cs known fewer f h
    put_scoped (Receive cs) known fewer f h = clauses_scoped cs known fewer f h
    put_scoped (Gather got now levels) known fewer f h = (quals_scoped now known fewer f h.0, levels_scoped levels known fewer f h.1)

    pub puts_scoped : (ts : Trees) (known fewer : List ℕ) → Fits known fewer → AreScoped known ts → AreScoped fewer (puts_in xs ts)
    puts_scoped end known fewer f h = tt
    puts_scoped (and t ts) known fewer f h = (put_scoped t known fewer f h.0, puts_scoped ts known fewer f h.1)

    shut_scoped : (rest : Shut) (known fewer : List ℕ) → Fits known fewer → IsShutScoped known rest → IsShutScoped fewer (in_shut xs rest)
    shut_scoped (Then ps t) known fewer f h = (in_turn_scoped ps known fewer f h.0, put_scoped t _ _ (fits_both _ _ _ _ (patterns_fit ps) f) h.1)
    shut_scoped (Last ps) known fewer f h = in_turn_scoped ps known fewer f h
    shut_scoped (Alts cs) known fewer f h = clauses_scoped cs known fewer f h
    shut_scoped (AndAlso t) known fewer f h = put_scoped t known fewer f h
    shut_scoped (OrElse t) known fewer f h = put_scoped t known fewer f h

    pub clauses_scoped : (cs : Clauses) (known fewer : List ℕ) → Fits known fewer → AreClausesScoped known cs → AreClausesScoped fewer (in_clauses xs cs)
    clauses_scoped no_clause known fewer f h = tt
    clauses_scoped (clause ps guard body cs) known fewer f h =
        let g = fits_both _ _ _ _ (patterns_fit ps) f in
        (patterns_scoped ps known fewer f h.0, guard_scoped guard _ _ g h.1, put_scoped body _ _ g h.2, clauses_scoped cs known fewer f h.3)

    pub guard_scoped : (guard : Guard) (known fewer : List ℕ) → Fits known fewer → IsGuardScoped known guard → IsGuardScoped fewer (in_guard xs guard)
    guard_scoped never known fewer f h = tt
    guard_scoped (or ts guard) known fewer f h = (tests_put ts h.0, puts_scoped ts known fewer f h.1, guard_scoped guard known fewer f h.2)

    pub quals_scoped : (qs : Quals) (known fewer : List ℕ) → Fits known fewer → AreQualsScoped known qs → AreQualsScoped fewer (in_quals xs qs)
    quals_scoped turn known fewer f h = tt
    quals_scoped (give t) known fewer f h = put_scoped t known fewer f h
    quals_scoped (from t g qs) known fewer f h =
        (put_scoped t known fewer f h.0, generator_scoped g known fewer f h.1, (λ x a b. h.2 x ((generator_fits g).within x a) (f.within x b)), quals_scoped qs _ _ (fits_both _ _ _ _ (generator_fits g) f) h.3)
    quals_scoped (test t qs) known fewer f h = (put_scoped t known fewer f h.0, quals_scoped qs known fewer f h.1)

    generator_scoped : (g : Generator) (known fewer : List ℕ) → Fits known fewer → IsGeneratorScoped known g → IsGeneratorScoped fewer (in_generator xs g)
    generator_scoped (InList p) known fewer f h = pattern_scoped p known fewer f h
    generator_scoped (InBits ss shape) known fewer f h = (segments_scoped ss known fewer f h.0, segments_scoped shape known fewer f h.1)

    pub levels_scoped : (levels : Levels) (known fewer : List ℕ) → Fits known fewer → AreLevelsScoped known levels → AreLevelsScoped fewer (in_levels xs levels)
    levels_scoped bottom known fewer f h = tt
    levels_scoped (level rows qs levels) known fewer f h =
        (rows_put rows (λ names. AreQualsScoped (names ++ known) qs) (λ names. AreQualsScoped (names ++ fewer) (in_quals xs qs)) (λ names k. quals_scoped qs _ _ (fits_both _ _ _ _ (fits_same names) f) k) h.0, levels_scoped levels known fewer f h.1)

    pattern_scoped : (p : Pattern) (known fewer : List ℕ) → Fits known fewer → IsPatternScoped known p → IsPatternScoped fewer (in_pattern xs p)
    pattern_scoped PWild known fewer f h = tt
    pattern_scoped (PVar x) known fewer f h = pattern_variable (value_in xs x) x fewer
    pattern_scoped (PVal v) known fewer f h = tt
    pattern_scoped (PTuple ps) known fewer f h = patterns_scoped ps known fewer f h
    pattern_scoped (PList ps) known fewer f h = patterns_scoped ps known fewer f h
    pattern_scoped (PListOn ps p) known fewer f h = (patterns_scoped ps known fewer f h.0, pattern_scoped p known fewer f h.1)
    pattern_scoped (PBits ss) known fewer f h = segments_scoped ss known fewer f h
    pattern_scoped (PSame ps) known fewer f h = patterns_scoped ps known fewer f h

    patterns_scoped : (ps : Patterns) (known fewer : List ℕ) → Fits known fewer → ArePatternsScoped known ps → ArePatternsScoped fewer (in_patterns xs ps)
    patterns_scoped no_pattern known fewer f h = tt
    patterns_scoped (pattern_and p ps) known fewer f h = (pattern_scoped p known fewer f h.0, patterns_scoped ps known fewer f h.1)

    in_turn_scoped : (ps : Patterns) (known fewer : List ℕ) → Fits known fewer → AreScopedInTurn known ps → AreScopedInTurn fewer (in_patterns xs ps)
    in_turn_scoped no_pattern known fewer f h = tt
    in_turn_scoped (pattern_and p ps) known fewer f h = (pattern_scoped p known fewer f h.0, in_turn_scoped ps _ _ (fits_both _ _ _ _ (pattern_fits p) f) h.1)

    segments_scoped : (ss : Segments) (known fewer : List ℕ) → Fits known fewer → AreSegmentsScoped known ss → AreSegmentsScoped fewer (in_segments xs ss)
    segments_scoped no_segment known fewer f h = tt
    segments_scoped (segment typed target size ss) known fewer f h =
        (tests_put size h.0, puts_scoped size known fewer f h.1, segments_scoped ss _ _ (fits_both _ _ _ _ (target_fits target) f) h.2)

-- only which variables are known counts
fits_alike : (known others : List ℕ) → ((x : ℕ) → Contains known x → Contains others x) → ((x : ℕ) → Contains others x → Contains known x) → Fits [] known others
fits_alike known others to back = record { covers = λ x h. inr (to x h); within = back }

pub quals_alike : (qs : Quals) (known others : List ℕ) → ((x : ℕ) → Contains known x → Contains others x) → ((x : ℕ) → Contains others x → Contains known x) → AreQualsScoped known qs → AreQualsScoped others qs
quals_alike qs known others to back h = subst (AreQualsScoped others) (quals_same qs) (quals_scoped [] qs known others (fits_alike known others to back) h)

pub scoped_alike : (t : Tree) (known others : List ℕ) → ((x : ℕ) → Contains known x → Contains others x) → ((x : ℕ) → Contains others x → Contains known x) → IsScoped known t → IsScoped others t
scoped_alike t known others to back h = subst (IsScoped others) (same t) (put_scoped [] t known others (fits_alike known others to back) h)

pub clauses_alike : (cs : Clauses) (known others : List ℕ) → ((x : ℕ) → Contains known x → Contains others x) → ((x : ℕ) → Contains others x → Contains known x) → AreClausesScoped known cs → AreClausesScoped others cs
clauses_alike cs known others to back h = subst (AreClausesScoped others) (clauses_same cs) (clauses_scoped [] cs known others (fits_alike known others to back) h)
