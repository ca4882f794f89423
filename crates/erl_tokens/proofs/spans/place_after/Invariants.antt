use Rattle.std.proofs.Common.{◌≡◌, ◌+◌, ◌-◌, ◌≤◌, length, drop}
use Rattle.erl_syntax.specs.Tokens.{place_from}
use Rattle.erl_tokens.proofs.spans.place_after.Given as goal

abbrev pub invariant-loop-b : goal.invariant-loop-b
invariant-loop-b l = record {
  line : l.place.line ≤ l.fn.at.line + l.b-index;
  column : l.place.column ≤ l.fn.at.column + l.b-index;
  so_far : place_from l.fn.at (length l.bs) l.bs ≡ place_from l.place (length l.bs - l.b-index) (drop l.b-index l.bs);
}
