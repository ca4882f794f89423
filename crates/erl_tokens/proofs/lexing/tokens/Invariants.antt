use Rattle.std.proofs.Common.{◌≡◌, ◌+◌, ◌-◌, ◌≤◌, length}
use Rattle.erl_syntax.specs.Tokens.{place}
use Rattle.erl_tokens.specs.Cutting.{Continues}
use Rattle.erl_tokens.proofs.lexing.tokens.Given as goal

abbrev pub invariant-loop-at : goal.invariant-loop-at
invariant-loop-at l = record {
  within : l.at ≤ length l.front;
  line : l.span.line ≤ l.at + 1;
  column : l.span.column ≤ l.at + 1;
  place : l.span ≡ place l.front l.at;
  found : Continues l.front l.cut l.at l.tokens.items;
}

abbrev pub decreases-loop-at : goal.decreases-loop-at
decreases-loop-at l = length l.front - l.at
