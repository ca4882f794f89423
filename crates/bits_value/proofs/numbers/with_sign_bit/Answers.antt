use Rattle.std.proofs.Common.{◌≡◌, ℕ, ◌+◌, ◌-◌, ◌*◌, ◌^◌, ◌<◌, ◌≤◌, ◌%◌, ap, sym, ◌∙◌, negsuc, suc, arith}
use Rattle.std.proofs.lemmas.Int.{to_z_pos, to_z-of_z}
use Rattle.std.proofs.Math.Facts.{to_z-neg}
use Rattle.std.proofs.lemmas.Nat.{one_shl}
use Rattle.std.proofs.Math.Nat.{pow-le-pow_right, pow-suc}
use mir.Val.{to_z, of_z, SFits}
use mir.Syntax.{w128}
use Rattle.bits_value.proofs.Values.{value-low, value-high}
use Rattle.bits_value.proofs.numbers.with_sign_bit.Goals as goal

half-is : (k : ℕ) → 0 < k → k ≤ 128 → 1 * 2 ^ (k - 1) % 2 ^ 128 ≡ 2 ^ (k - 1)
half-is k h g = one_shl (k - 1) 128 (omega arith)

twice-half : (k : ℕ) → 0 < k → 2 ^ k ≡ 2 ^ (k - 1) * 2
twice-half k h = let e : k ≡ suc (k - 1) = omega arith in ap (λ n. 2 ^ n) e ∙ pow-suc 2 (k - 1)

half-lt : (k : ℕ) → 0 < k → k ≤ 128 → 2 ^ (k - 1) ≤ 2 ^ 127
half-lt k h g = let e : k - 1 ≤ 127 = omega arith in pow-le-pow_right (omega arith) e

pub overflow_cast-result : goal.overflow_cast-result
overflow_cast-result c =
    let some : 0 < c.args.count = omega arith in
    let e = half-is c.args.count some c.requires.narrow in
    let l = half-lt c.args.count some c.requires.narrow in
    record { sfits = omega arith }

pub overflow_mul-half : goal.overflow_mul-half
overflow_mul-half c =
    let some : 0 < c.args.count = omega arith in
    let e = half-is c.args.count some c.requires.narrow in
    let l = half-lt c.args.count some c.requires.narrow in
    record { fits = omega arith }

pub overflow_add-half : goal.overflow_add-half
overflow_add-half c =
    let some : 0 < c.args.count = omega arith in
    let e = half-is c.args.count some c.requires.narrow in
    let l = half-lt c.args.count some c.requires.narrow in
    record { fits = omega arith }

pub overflow_sub-half-else-low-half-2 : goal.overflow_sub-half-else-low-half-2
overflow_sub-half-else-low-half-2 c =
    let some : 0 < c.args.count = omega arith in
    let e = half-is c.args.count some c.requires.narrow in
    let t = twice-half c.args.count some in
    omega arith

pub returns-then-low-half : goal.returns-then-low-half
returns-then-low-half c =
    let some : 0 < c.args.count = omega arith in
    let e = half-is c.args.count some c.requires.narrow in
    let l = half-lt c.args.count some c.requires.narrow in
    let t = twice-half c.args.count some in
    let b : c.args.low < 2 ^ 127 = omega arith in
    let d : 2 * c.args.low < 2 ^ c.args.count = omega arith in
    to_z_pos w128 c.args.low b ∙ sym (value-low c.args.count c.args.low d)

pub returns-else-low-half : goal.returns-else-low-half
returns-else-low-half c =
    let k = c.args.count in
    let n = c.args.low in
    let some : 0 < k = omega arith in
    let e = half-is k some c.requires.narrow in
    let l = half-lt k some c.requires.narrow in
    let t = twice-half k some in
    let m = 2 ^ k - 1 - n in
    let b : m < 2 ^ 127 = omega arith in
    let f : SFits w128 (negsuc m) = record { sfits = b } in
    let bits : 2 ^ 128 - 1 - ((1 * 2 ^ (k - 1) % 2 ^ 128 - 1) * 2 + 1 - n) ≡ 2 ^ 128 - suc m = omega arith in
    let r : c.cast_signed.result ≡ negsuc m = c.cast_signed.ensures ∙ ap (to_z w128) bits ∙ to_z-neg w128 m b in
    ap (λ z. to_z w128 (of_z w128 z)) r ∙ to_z-of_z w128 (negsuc m) f ∙ sym (value-high k n (omega arith))
