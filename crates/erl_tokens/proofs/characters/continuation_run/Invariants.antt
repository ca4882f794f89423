use Rattle.std.proofs.Common.{◌≡◌, ◌+◌, ◌-◌, ◌≤◌, length, drop}
use Rattle.std.specs.List.{prefix_len}
use Rattle.erl_syntax.specs.Characters.{is_continuation}
use Rattle.erl_tokens.proofs.characters.continuation_run.Given as goal

abbrev pub invariant-loop-n : goal.invariant-loop-n
invariant-loop-n l = (l.n ≤ length l.bs) × (prefix_len is_continuation l.bs ≡ l.n + prefix_len is_continuation (drop l.n l.bs))

abbrev pub decreases-loop-n : goal.decreases-loop-n
decreases-loop-n l = length l.bs - l.n
