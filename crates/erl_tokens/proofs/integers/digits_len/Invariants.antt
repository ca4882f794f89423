use Rattle.std.proofs.Common.{◌≡◌, ◌+◌, ◌-◌, ◌≤◌, length, drop}
use Rattle.erl_syntax.specs.Tokens.{digits_len}
use Rattle.erl_tokens.proofs.integers.digits_len.Given as goal

abbrev pub invariant-loop-n : goal.invariant-loop-n
invariant-loop-n l = (l.n ≤ length l.bs) × (digits_len l.base l.bs ≡ l.n + digits_len l.base (drop l.n l.bs))

abbrev pub decreases-loop-n : goal.decreases-loop-n
decreases-loop-n l = length l.bs - l.n
