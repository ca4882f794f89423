use Rattle.std.proofs.Common.{◌≡◌, ◌-◌, ◌≤◌, length, drop}
use Rattle.erl_syntax.specs.Tokens.{quoted}
use Rattle.erl_tokens.proofs.quotes.quoted.Given as goal

abbrev pub invariant-loop-at : goal.invariant-loop-at
invariant-loop-at l = record { begun : 1 ≤ l.at; within : l.at ≤ length l.bs; so_far : quoted l.mark l.kind l.cut 1 0 (drop 1 l.bs) ≡ quoted l.mark l.kind l.cut l.at 0 (drop l.at l.bs) }

abbrev pub decreases-loop-at : goal.decreases-loop-at
decreases-loop-at l = length l.bs - l.at
