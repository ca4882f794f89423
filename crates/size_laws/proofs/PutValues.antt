-- What has the form of a size keeps it where values are put in, and is a guard expression.
use Rattle.std.proofs.Common.{◌≡◌, ℕ, List, [], ◌∷◌, Option, Some, None, Bool, true, false, cond}
use Rattle.std.specs.Prelude.{nat_eq}
use Rattle.std.specs.List.{All as Each}
use Rattle.std.proofs.lemmas.List.Elements.{All-head, All-tail}
use Rattle.term_laws.specs.GuardLaws.{IsTest, AreTests}
use Rattle.term_value.specs.PutIn.{value_in, tree_or_variable, pattern_or_variable, put_in, puts_in, in_shut, in_clauses, in_guard, in_quals, in_generator, in_levels, in_pattern, in_patterns, in_segments}
use Rattle.term_value.specs.Tree.{Bound, Operate, Prefixed, Native, Table, Tree, Val, Var, All, First, Choose, Receive, Gather, Trees, end, and, Shut, Then, Last, Alts, AndAlso, OrElse, Clauses, no_clause, clause, Guard, never, or, Quals, turn, give, from, test, Generator, InList, InBits, Levels, bottom, level, Pattern, PWild, PVar, PVal, PTuple, PList, PListOn, PBits, PSame, Patterns, no_pattern, pattern_and, Segments, no_segment, segment}
use Rattle.term_value.specs.Value.{Value}
use Rattle.size_laws.specs.SizeForms.{IsSizeForm, AreSizeForms, IsSize, HasSizes, HaveSizes, HasShutSizes, HaveClauseSizes, HasTestSizes, HaveQualSizes, HasGeneratorSizes, HaveLevelSizes, HasPatternSizes, HavePatternSizes, HaveSegmentSizes, FormsAdmitMore, ValuesKeepForm, ValuesKeepSizes, SizeFormsAreTests}

-- ---- The sizes inside an expression, where putting the values in keeps what each is

module _ (IsSuch : Trees → Type 0) (bs : List Bound) (kept : (size : Trees) → IsSuch size → IsSuch (puts_in bs size)) where
  variable_sizes : (o : Option Value) (x : ℕ) → HasSizes IsSuch (tree_or_variable o x)
  variable_sizes None x = tt
  variable_sizes (Some v) x = tt

  variable_pattern : (o : Option Value) (x : ℕ) → HasPatternSizes IsSuch (pattern_or_variable o x)
  variable_pattern None x = tt
  variable_pattern (Some v) x = tt

  segments_keep : (ss : Segments) → HaveSegmentSizes IsSuch ss → HaveSegmentSizes IsSuch (in_segments bs ss)
  segments_keep no_segment h = tt
  segments_keep (segment typed target size ss) h = (kept size h.0, segments_keep ss h.1)

  mutual
    pattern_keeps : (p : Pattern) → HasPatternSizes IsSuch p → HasPatternSizes IsSuch (in_pattern bs p)
    pattern_keeps PWild h = tt
    pattern_keeps (PVar x) h = variable_pattern (value_in bs x) x
    pattern_keeps (PVal v) h = tt
    pattern_keeps (PTuple ps) h = patterns_keep ps h
    pattern_keeps (PList ps) h = patterns_keep ps h
    pattern_keeps (PListOn ps p) h = (patterns_keep ps h.0, pattern_keeps p h.1)
    pattern_keeps (PBits ss) h = segments_keep ss h
    pattern_keeps (PSame ps) h = patterns_keep ps h

    patterns_keep : (ps : Patterns) → HavePatternSizes IsSuch ps → HavePatternSizes IsSuch (in_patterns bs ps)
    patterns_keep no_pattern h = tt
    patterns_keep (pattern_and p ps) h = (pattern_keeps p h.0, patterns_keep ps h.1)

  generator_keeps : (g : Generator) → HasGeneratorSizes IsSuch g → HasGeneratorSizes IsSuch (in_generator bs g)
  generator_keeps (InList p) h = pattern_keeps p h
  generator_keeps (InBits ss shape) h = (segments_keep ss h.0, segments_keep shape h.1)

  mutual
    sizes_keep : (t : Tree) → HasSizes IsSuch t → HasSizes IsSuch (put_in bs t)
    sizes_keep (Val v) h = tt
    sizes_keep (Var x) h = variable_sizes (value_in bs x) x
    sizes_keep (All form ts) h = trees_keep ts h
    sizes_keep (First t rest) h = (sizes_keep t h.0, shut_keeps rest h.1)
    sizes_keep (Choose cs) h = clauses_keep cs h
    sizes_keep (Receive cs) h = clauses_keep cs h
    sizes_keep (Gather got now levels) h = (quals_keep now h.0, levels_keep levels h.1)

    trees_keep : (ts : Trees) → HaveSizes IsSuch ts → HaveSizes IsSuch (puts_in bs ts)
    trees_keep end h = tt
    trees_keep (and t ts) h = (sizes_keep t h.0, trees_keep ts h.1)

    shut_keeps : (rest : Shut) → HasShutSizes IsSuch rest → HasShutSizes IsSuch (in_shut bs rest)
    shut_keeps (Then ps t) h = (patterns_keep ps h.0, sizes_keep t h.1)
    shut_keeps (Last ps) h = patterns_keep ps h
    shut_keeps (Alts cs) h = clauses_keep cs h
    shut_keeps (AndAlso t) h = sizes_keep t h
    shut_keeps (OrElse t) h = sizes_keep t h

    clauses_keep : (cs : Clauses) → HaveClauseSizes IsSuch cs → HaveClauseSizes IsSuch (in_clauses bs cs)
    clauses_keep no_clause h = tt
    clauses_keep (clause ps guard body cs) h = (patterns_keep ps h.0, guard_keeps guard h.1, sizes_keep body h.2, clauses_keep cs h.3)

    guard_keeps : (guard : Guard) → HasTestSizes IsSuch guard → HasTestSizes IsSuch (in_guard bs guard)
    guard_keeps never h = tt
    guard_keeps (or ts guard) h = (trees_keep ts h.0, guard_keeps guard h.1)

    quals_keep : (qs : Quals) → HaveQualSizes IsSuch qs → HaveQualSizes IsSuch (in_quals bs qs)
    quals_keep turn h = tt
    quals_keep (give t) h = sizes_keep t h
    quals_keep (from t g qs) h = (sizes_keep t h.0, generator_keeps g h.1, quals_keep qs h.2)
    quals_keep (test t qs) h = (sizes_keep t h.0, quals_keep qs h.1)

    levels_keep : (levels : Levels) → HaveLevelSizes IsSuch levels → HaveLevelSizes IsSuch (in_levels bs levels)
    levels_keep bottom h = tt
    levels_keep (level rows qs levels) h = (quals_keep qs h.0, levels_keep levels h.1)

-- ---- A size

module _ (is_such is_other : Value → Bool) (wider : (v : Value) → is_such v ≡ true → is_other v ≡ true) where
  mutual
    widens : (t : Tree) → IsSizeForm is_such t → IsSizeForm is_other t
    widens (Val v) g = wider v g
    widens (Var x) g = tt
    widens (All (Table (Operate op)) ts) g = widen ts g
    widens (All (Table (Prefixed op)) ts) g = widen ts g
    widens (All (Table (Native b)) ts) g = (g.0, widen ts g.1)
    widens (First t (AndAlso u)) g = (widens t g.0, widens u g.1)
    widens (First t (OrElse u)) g = (widens t g.0, widens u g.1)
    widens _ g = absurd g

    widen : (ts : Trees) → AreSizeForms is_such ts → AreSizeForms is_other ts
    widen end g = tt
    widen (and t ts) g = (widens t g.0, widen ts g.1)

module _ (is_such : Value → Bool) where
  abbrev OfValue : Option Value → Type 0
  OfValue None = Unit {0}
  OfValue (Some v) = is_such v ≡ true

  value_by : (b : Bool) (v : Value) (o : Option Value) → is_such v ≡ true → OfValue o → OfValue (cond b (Some v) o)
  value_by true v o h g = h
  value_by false v o h g = g

  abbrev IsBound : Bound → Type 0
  IsBound b = is_such b.value ≡ true

  value_such : (bs : List Bound) (x : ℕ) → Each IsBound bs → OfValue (value_in bs x)
  value_such [] x h = tt
  value_such (b ∷ bs) x h = value_by (nat_eq b.variable x) b.value (value_in bs x) (All-head IsBound b bs h) (value_such bs x (All-tail IsBound b bs h))

  variable_form : (o : Option Value) (x : ℕ) → OfValue o → IsSizeForm is_such (tree_or_variable o x)
  variable_form None x h = tt
  variable_form (Some v) x h = h

  module _ (bs : List Bound) (h : Each IsBound bs) where
    mutual
      keeps : (t : Tree) → IsSizeForm is_such t → IsSizeForm is_such (put_in bs t)
      keeps (Val v) g = g
      keeps (Var x) g = variable_form (value_in bs x) x (value_such bs x h)
      keeps (All (Table (Operate op)) ts) g = keep ts g
      keeps (All (Table (Prefixed op)) ts) g = keep ts g
      keeps (All (Table (Native b)) ts) g = (g.0, keep ts g.1)
      keeps (First t (AndAlso u)) g = (keeps t g.0, keeps u g.1)
      keeps (First t (OrElse u)) g = (keeps t g.0, keeps u g.1)
      keeps _ g = absurd g

      keep : (ts : Trees) → AreSizeForms is_such ts → AreSizeForms is_such (puts_in bs ts)
      keep end g = tt
      keep (and t ts) g = (keeps t g.0, keep ts g.1)

    size_keeps : (size : Trees) → IsSize is_such size → IsSize is_such (puts_in bs size)
    size_keeps end g = tt
    size_keeps (and t end) g = keeps t g
    size_keeps (and t (and u ts)) g = absurd g

  mutual
    is_test : (t : Tree) → IsSizeForm is_such t → IsTest t
    is_test (Val v) g = tt
    is_test (Var x) g = tt
    is_test (All (Table (Operate op)) ts) g = are_tests ts g
    is_test (All (Table (Prefixed op)) ts) g = are_tests ts g
    is_test (All (Table (Native b)) ts) g = are_tests ts g.1
    is_test (First t (AndAlso u)) g = (is_test t g.0, is_test u g.1)
    is_test (First t (OrElse u)) g = (is_test t g.0, is_test u g.1)
    is_test _ g = absurd g

    are_tests : (ts : Trees) → AreSizeForms is_such ts → AreTests ts
    are_tests end g = tt
    are_tests (and t ts) g = (is_test t g.0, are_tests ts g.1)

pub forms_admit_more : FormsAdmitMore
forms_admit_more is_such is_other t wider g = widens is_such is_other wider t g

pub put_in_keeps : ValuesKeepForm
put_in_keeps is_such bs t h g = keeps is_such bs h t g

pub put_in_keeps_sizes : ValuesKeepSizes
put_in_keeps_sizes is_such bs t h g = sizes_keep (IsSize is_such) bs (size_keeps is_such bs h) t g

pub size_forms_are_tests : SizeFormsAreTests
size_forms_are_tests is_such t g = is_test is_such t g
