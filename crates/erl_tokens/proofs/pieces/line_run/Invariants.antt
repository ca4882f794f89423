use Rattle.std.proofs.Common.{◌≡◌, ◌+◌, ◌-◌, ◌≤◌, length, drop, ◌==◌, not}
use Rattle.std.specs.List.{prefix_len}
use Rattle.erl_tokens.proofs.pieces.line_run.Given as goal

abbrev pub invariant-loop-n : goal.invariant-loop-n
invariant-loop-n l = (l.n ≤ length l.bs) × (prefix_len (λ b. not (b == 10)) l.bs ≡ l.n + prefix_len (λ b. not (b == 10)) (drop l.n l.bs))

abbrev pub decreases-loop-n : goal.decreases-loop-n
decreases-loop-n l = length l.bs - l.n
