use Rattle.std.proofs.Common.{◌≡◌, ℤ, ◌+◌, ◌-◌, ◌<◌, ◌^◌, ap, ◌∙◌, Option, length, arith}
use Rattle.bits_value.specs.Bits.{bit_list}
use Rattle.bits_value.specs.Number.{natural, bounded, with_sign, reordered}
use Rattle.bits_value.specs.Parts.{extended, sign_value}
use Rattle.bits_value.proofs.BitLists.{length-bit_list, natural-lt}
use Rattle.bits_value.proofs.Gathered.{natural-bound}
use Rattle.bits_value.proofs.Little.{length-reordered}
use Rattle.bits_value.proofs.Wide.{wide-big, wide-little}
use Rattle.bits_value.proofs.numbers.bounded_number.Goals as goal

pub value_of-value-requires-clause-fits : goal.value_of-value-requires-clause-fits
value_of-value-requires-clause-fits c = rw c.gather.ensures (natural-bound c.args.bytes.now (c.args.start + (c.args.count - c.min-low.result)) c.min-low.result)

pub value_of-value-requires-in-Little-clause-fits : goal.value_of-value-requires-in-Little-clause-fits
value_of-value-requires-in-Little-clause-fits c =
    let xs = reordered (bit_list c.args.bytes.now c.args.start c.min-low.result) in
    let h : natural xs < 2 ^ length xs = natural-lt xs in
    rw c.gather_little.ensures (rw (length-reordered (bit_list c.args.bytes.now c.args.start c.min-low.result), length-bit_list c.args.bytes.now c.args.start c.min-low.result) at h)

pub returns-in-Big : goal.returns-in-Big
returns-in-Big c =
    let low = c.min-low.result in
    let high = c.args.count - low in
    let whole : high + low ≡ c.args.count = omega arith in
    let bytes = c.args.bytes.now in
    let far : 0 < high → low ≡ 128 = λ h. omega arith in
    let v : c.value_of-value.result ≡ bounded (sign_value c.args.sign low (natural (bit_list bytes (c.args.start + high) low))) = c.value_of-value.ensures ∙ ap (λ n. bounded (sign_value c.args.sign low n)) c.gather.ensures in
    rw c.in-Big.is (c.widened.ensures ∙ ap (λ (o : Option ℤ). extended o high (natural (bit_list bytes c.args.start high))) v
    ∙ wide-big bytes c.args.start high low c.args.sign far ∙ ap (λ n. bounded (with_sign c.args.sign (bit_list bytes c.args.start n))) whole)

pub returns-in-Little : goal.returns-in-Little
returns-in-Little c =
    let low = c.min-low.result in
    let high = c.args.count - low in
    let whole : low + high ≡ c.args.count = omega arith in
    let bytes = c.args.bytes.now in
    let far : 0 < high → low ≡ 128 = λ h. omega arith in
    let v : c.value_of-value-in-Little.result ≡ bounded (sign_value c.args.sign low (natural (reordered (bit_list bytes c.args.start low))))
    = c.value_of-value-in-Little.ensures ∙ ap (λ n. bounded (sign_value c.args.sign low n)) c.gather_little.ensures in
    rw c.in-Little.is (c.widened-in-Little.ensures ∙ ap (λ (o : Option ℤ). extended o high (natural (bit_list bytes (c.args.start + low) high))) v
    ∙ wide-little bytes c.args.start high low c.args.sign far ∙ ap (λ n. bounded (with_sign c.args.sign (reordered (bit_list bytes c.args.start n)))) whole)
