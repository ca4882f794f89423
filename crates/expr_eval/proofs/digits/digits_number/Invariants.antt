use Rattle.std.proofs.Common.{◌≡◌, ◌-◌, ◌^◌, true, min, take}
use Rattle.std.specs.List.{list_all}
use Rattle.erl_syntax.specs.Characters.{is_digit, number}
use Rattle.expr_eval.proofs.digits.digits_number.Given as goal

abbrev pub invariant-loop-byte : goal.invariant-loop-byte
invariant-loop-byte l = record {
  digits : list_all (is_digit 10) (take l.byte-index l.digits) ≡ true;
  number : l.number ≡ min (number 10 (take l.byte-index l.digits)) (2 ^ 128 - 1);
}
