use Rattle.std.proofs.Common.{◌≤◌, ◌<◌, ◌-◌, length, drop, get_or}
use Rattle.erl_syntax.specs.declared.token.Token.{Token}
use Rattle.clause_read.proofs.Strings.{IsOpen}
use Rattle.clause_read.proofs.numbering.string_at.Given as goal

abbrev pub invariant-loop-alloc : goal.invariant-loop-alloc
invariant-loop-alloc l = record {
  so_far : (d : Token) → IsOpen l.text (drop l.from l.tokens) (drop l.at l.tokens) (get_or l.tokens l.from d) l.chars.items;
  above : l.from < l.at;
  within : l.at ≤ length l.tokens;
}

abbrev pub decreases-loop-alloc : goal.decreases-loop-alloc
decreases-loop-alloc l = length l.tokens - l.at
