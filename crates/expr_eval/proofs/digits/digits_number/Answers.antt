use Rattle.std.proofs.Common.{◌<◌, ◌+◌, ◌-◌, ◌^◌, ℕ, min, get_or, take, length, ap, sym, ◌∙◌, arith}
use Rattle.std.specs.Char.{digit_value}
use Rattle.erl_syntax.specs.Characters.{is_digit, number}
use Rattle.expr_eval.proofs.DecimalText.{is_some_digit, digits_next, number_next, saturates}
use Rattle.expr_eval.proofs.digits.digits_number.Goals as goal

pub loop-byte-preserved : goal.loop-byte-preserved
loop-byte-preserved c =
    let ds = c.args.digits.now in
    let i = c.loop-byte.byte-index in
    let byte = get_or ds i 0 in
    let largest = 2 ^ 128 - 1 in
    let inside : i < length ds = omega (arith, c.loop-byte-test.true) in
    let w = is_some_digit (is_digit 10 byte) (digit_value byte) c.in-Some.digit (sym c.in-Some.is ∙ c.digit.ensures) in
    record {
      digits = digits_next ds i inside c.loop-byte.invariant.digits w.0;
      number = saturates largest (number 10 (take i ds)) (digit_value byte) c.loop-byte.number c.saturating_mul.result c.saturating_add-number.result
          c.loop-byte.invariant.number c.saturating_mul.ensures (c.saturating_add-number.ensures ∙ ap (λ (d : ℕ). min (c.saturating_mul.result + d) largest) (c.from.ensures ∙ w.1))
          ∙ ap (λ (n : ℕ). min n largest) (sym (number_next ds i inside w.0));
    }
