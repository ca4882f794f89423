-- Values that have a property, put in for variables: each value in what comes of it has the property.
use Rattle.std.proofs.Common.{ℕ, Bool, true, false, List, [], ◌∷◌, ◌++◌, Option, Some, None, cond}
use Rattle.std.specs.Prelude.{nat_eq}
use Rattle.term_value.specs.Value.{Value}
use Rattle.term_value.specs.Tree.{Bound, Target, Anything, Variable, Equal, Tree, Val, Var, All, First, Choose, Receive, Gather, Trees, end, and, Shut, Then, Last, Alts, AndAlso, OrElse, Clauses, no_clause, clause, Guard, never, or, Quals, turn, give, from, test, Generator, InList, InBits, Levels, bottom, level, Pattern, PWild, PVar, PVal, PTuple, PList, PListOn, PBits, PSame, Patterns, no_pattern, pattern_and, Segments, no_segment, segment}
use Rattle.term_value.specs.PutIn.{value_in, tree_or_variable, pattern_or_variable, target_or_variable, in_target, put_in, puts_in, in_shut, in_clauses, in_guard, in_quals, in_generator, in_levels, in_pattern, in_patterns, in_segments}
use Rattle.term_laws.specs.Inside.{EachBound, EachRow, InGot, InTarget, InTree, InTrees, InShut, InClauses, InGuard, InQuals, InGenerator, InLevels, InPattern, InPatterns, InSegments}

-- the value, if there is one, has the property
abbrev pub OfSome : (Value → Type 0) → Option Value → Type 0
OfSome P None = Unit {0}
OfSome P (Some v) = P v

module _ (P : Value → Type 0) where
  one_of : (b : Bool) (v : Value) (o : Option Value) → P v → OfSome P o → OfSome P (cond b (Some v) o)
  one_of true v o h g = h
  one_of false v o h g = g

  found : (bs : List Bound) (x : ℕ) → EachBound P bs → OfSome P (value_in bs x)
  found [] x h = tt
  found (b ∷ bs) x h = one_of (nat_eq b.variable x) b.value (value_in bs x) h.0 (found bs x h.1)

  tree_found : (o : Option Value) (x : ℕ) → OfSome P o → InTree P (tree_or_variable o x)
  tree_found None x h = tt
  tree_found (Some v) x h = h

  pattern_found : (o : Option Value) (x : ℕ) → OfSome P o → InPattern P (pattern_or_variable o x)
  pattern_found None x h = tt
  pattern_found (Some v) x h = h

  target_found : (o : Option Value) (x : ℕ) → OfSome P o → InTarget P (target_or_variable o x)
  target_found None x h = tt
  target_found (Some v) x h = h

  pub target_kept : (bs : List Bound) (t : Target) → EachBound P bs → InTarget P t → InTarget P (in_target bs t)
  target_kept bs Anything h g = tt
  target_kept bs (Variable x) h g = target_found (value_in bs x) x (found bs x h)
  target_kept bs (Equal v) h g = g

  mutual
    pub put_kept : (bs : List Bound) (t : Tree) → EachBound P bs → InTree P t → InTree P (put_in bs t)
    put_kept bs (Val v) h g = g
    put_kept bs (Var x) h g = tree_found (value_in bs x) x (found bs x h)
    put_kept bs (All form ts) h g = puts_kept bs ts h g
    put_kept bs (First t rest) h g = (put_kept bs t h g.0, shut_kept bs rest h g.1)
    put_kept bs (Choose cs) h g = clauses_kept bs cs h g
    put_kept bs (Receive cs) h g = clauses_kept bs cs h g
    put_kept bs (Gather got now levels) h g = (g.0, quals_kept bs now h g.1, levels_kept bs levels h g.2)

    pub puts_kept : (bs : List Bound) (ts : Trees) → EachBound P bs → InTrees P ts → InTrees P (puts_in bs ts)
    puts_kept bs end h g = tt
    puts_kept bs (and t ts) h g = (put_kept bs t h g.0, puts_kept bs ts h g.1)

    pub shut_kept : (bs : List Bound) (s : Shut) → EachBound P bs → InShut P s → InShut P (in_shut bs s)
    shut_kept bs (Then ps t) h g = (patterns_kept bs ps h g.0, put_kept bs t h g.1)
    shut_kept bs (Last ps) h g = patterns_kept bs ps h g
    shut_kept bs (Alts cs) h g = clauses_kept bs cs h g
    shut_kept bs (AndAlso t) h g = put_kept bs t h g
    shut_kept bs (OrElse t) h g = put_kept bs t h g

    pub clauses_kept : (bs : List Bound) (cs : Clauses) → EachBound P bs → InClauses P cs → InClauses P (in_clauses bs cs)
    clauses_kept bs no_clause h g = tt
    clauses_kept bs (clause ps guard body cs) h g = (patterns_kept bs ps h g.0, guard_kept bs guard h g.1, put_kept bs body h g.2, clauses_kept bs cs h g.3)

    pub guard_kept : (bs : List Bound) (guard : Guard) → EachBound P bs → InGuard P guard → InGuard P (in_guard bs guard)
    guard_kept bs never h g = tt
    guard_kept bs (or ts guard) h g = (puts_kept bs ts h g.0, guard_kept bs guard h g.1)

    pub quals_kept : (bs : List Bound) (qs : Quals) → EachBound P bs → InQuals P qs → InQuals P (in_quals bs qs)
    quals_kept bs turn h g = tt
    quals_kept bs (give t) h g = put_kept bs t h g
    quals_kept bs (from t generator qs) h g = (put_kept bs t h g.0, generator_kept bs generator h g.1, quals_kept bs qs h g.2)
    quals_kept bs (test t qs) h g = (put_kept bs t h g.0, quals_kept bs qs h g.1)

    pub generator_kept : (bs : List Bound) (generator : Generator) → EachBound P bs → InGenerator P generator → InGenerator P (in_generator bs generator)
    generator_kept bs (InList p) h g = pattern_kept bs p h g
    generator_kept bs (InBits ss shape) h g = (segments_kept bs ss h g.0, segments_kept bs shape h g.1)

    pub levels_kept : (bs : List Bound) (levels : Levels) → EachBound P bs → InLevels P levels → InLevels P (in_levels bs levels)
    levels_kept bs bottom h g = tt
    levels_kept bs (level rows qs levels) h g = (g.0, quals_kept bs qs h g.1, levels_kept bs levels h g.2)

    pub pattern_kept : (bs : List Bound) (p : Pattern) → EachBound P bs → InPattern P p → InPattern P (in_pattern bs p)
    pattern_kept bs PWild h g = tt
    pattern_kept bs (PVar x) h g = pattern_found (value_in bs x) x (found bs x h)
    pattern_kept bs (PVal v) h g = g
    pattern_kept bs (PTuple ps) h g = patterns_kept bs ps h g
    pattern_kept bs (PList ps) h g = patterns_kept bs ps h g
    pattern_kept bs (PListOn ps p) h g = (patterns_kept bs ps h g.0, pattern_kept bs p h g.1)
    pattern_kept bs (PBits ss) h g = segments_kept bs ss h g
    pattern_kept bs (PSame ps) h g = patterns_kept bs ps h g

    pub patterns_kept : (bs : List Bound) (ps : Patterns) → EachBound P bs → InPatterns P ps → InPatterns P (in_patterns bs ps)
    patterns_kept bs no_pattern h g = tt
    patterns_kept bs (pattern_and p ps) h g = (pattern_kept bs p h g.0, patterns_kept bs ps h g.1)

    pub segments_kept : (bs : List Bound) (ss : Segments) → EachBound P bs → InSegments P ss → InSegments P (in_segments bs ss)
    segments_kept bs no_segment h g = tt
    segments_kept bs (segment typed target size ss) h g = (target_kept bs target h g.0, puts_kept bs size h g.1, segments_kept bs ss h g.2)

  pub bound_append : (bs cs : List Bound) → EachBound P bs → EachBound P cs → EachBound P (bs ++ cs)
  bound_append [] cs h g = g
  bound_append (b ∷ bs) cs h g = (h.0, bound_append bs cs h.1 g)
