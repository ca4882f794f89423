-- How the one next ask of a local state is computed: between two costs each contraction makes the expression smaller (this
-- project's own).
use Rattle.std.specs.Prelude.{ℕ, zero, suc, ◌+◌, Bool, true, false, Option, unwrap_or, nat_lt}
use Rattle.term_value.specs.Tree.{Tree, Val, Var, All, First, Choose, Receive, Gather, Trees, end, and, Shut, Then, Last, Alts, AndAlso, OrElse, Clauses, no_clause, clause, Quals, turn, give, from, test, Levels, bottom, level, Module}
use Rattle.term_value.specs.Local.{Local, Course, At, Fell, Next, On, next_of, NextAsk, Unfinished, asked}

-- a value or a list of rows counts one, and every other part two more than the parts in it
abbrev mutual
  pub size_of : Tree → ℕ
  size_of (Val v) = 1
  size_of (Var x) = 2
  size_of (All form ts) = sizes_of ts + 2
  size_of (First t rest) = size_of t + size_of_shut rest + 2
  size_of (Choose cs) = size_of_clauses cs + 2
  size_of (Receive cs) = size_of_clauses cs + 2
  size_of (Gather got now levels) = size_of_quals now + size_of_levels levels + 2

  pub sizes_of : Trees → ℕ
  sizes_of end = 0
  sizes_of (and t ts) = size_of t + sizes_of ts

  pub size_of_shut : Shut → ℕ
  size_of_shut (Then ps t) = size_of t
  size_of_shut (Last ps) = 0
  size_of_shut (Alts cs) = size_of_clauses cs
  size_of_shut (AndAlso t) = size_of t
  size_of_shut (OrElse t) = size_of t

  pub size_of_clauses : Clauses → ℕ
  size_of_clauses no_clause = 0
  size_of_clauses (clause ps guard body cs) = size_of body + size_of_clauses cs

  pub size_of_quals : Quals → ℕ
  size_of_quals turn = 0
  size_of_quals (give t) = size_of t + 2
  size_of_quals (from t g qs) = size_of t + size_of_quals qs + 2
  size_of_quals (test t qs) = size_of t + size_of_quals qs + 2

  pub size_of_levels : Levels → ℕ
  size_of_levels bottom = 0
  size_of_levels (level rows qs levels) = 1 + size_of_quals qs + size_of_levels levels

abbrev pub size_of_course : Course → ℕ
size_of_course (At t) = suc (size_of t)
size_of_course (Fell stop) = 0

-- by the state where fewer reductions are left, and by that where as many are
abbrev pub on_if : Bool → (Local → NextAsk) → (Local → NextAsk) → Local → NextAsk
on_if true same less l = less l
on_if false same less l = same l

-- as it goes on where the contraction cost nothing, and where it cost something; else what it asks for
abbrev pub onward : (Local → NextAsk) → (Local → NextAsk) → ℕ → Next → NextAsk
onward same less left (On cost made l) = on_if (nat_lt l.left left) same less l
onward same less left next = unwrap_or (asked next) Unfinished

-- at most so many contractions without a cost
abbrev pub walk : Module → (Local → NextAsk) → ℕ → Local → NextAsk
walk code less zero l = onward (λ k. Unfinished) less l.left (next_of code l)
walk code less (suc n) l = onward (walk code less n) less l.left (next_of code l)

-- at most so many contractions with a cost
abbrev pub outcome_in : Module → ℕ → Local → NextAsk
outcome_in code zero l = walk code (λ k. Unfinished) (size_of_course l.course) l
outcome_in code (suc left) l = walk code (outcome_in code left) (size_of_course l.course) l

-- the one next ask of a local state
abbrev pub ask_of : Module → Local → NextAsk
ask_of code l = outcome_in code l.left l
