use Rattle.std.proofs.Common.{◌≡◌, ◌-◌, ◌≤◌, ◌++◌, length, drop, map, string_bytes, encode_utf8_all}
use Rattle.erl_syntax.specs.Characters.{spelled, as_character}
use Rattle.erl_tokens.proofs.values.atom_text.Given as goal

abbrev pub invariant-loop-at : goal.invariant-loop-at
invariant-loop-at l = record {
  within : l.at ≤ length l.bs;
  so_far : encode_utf8_all (map as_character (spelled l.bs)) ≡ string_bytes l.text ++ encode_utf8_all (map as_character (spelled (drop l.at l.bs)));
}

abbrev pub decreases-loop-at : goal.decreases-loop-at
decreases-loop-at l = length l.bs - l.at
