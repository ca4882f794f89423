use Rattle.std.proofs.Common.{◌≡◌, ◌+◌, ◌-◌, ◌≤◌, length, drop}
use Rattle.erl_syntax.specs.Characters.{spelled}
use Rattle.erl_tokens.proofs.quotes.spelled_count.Given as goal

abbrev pub invariant-loop-at : goal.invariant-loop-at
invariant-loop-at l = record { within : l.at ≤ length l.bs; small : l.count ≤ l.at; so_far : length (spelled l.bs) ≡ l.count + length (spelled (drop l.at l.bs)) }

abbrev pub decreases-loop-at : goal.decreases-loop-at
decreases-loop-at l = length l.bs - l.at
