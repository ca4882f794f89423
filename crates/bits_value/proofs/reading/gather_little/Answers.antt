use Rattle.std.proofs.Common.{◌≡◌, ◌+◌, ◌-◌, ◌*◌, ◌/◌, ◌%◌, ◌^◌, ◌≤◌, ◌<◌, ap, sym, ◌∙◌, List, Bool, ℕ, length, bit_or, min, refl, arith}
use Rattle.std.proofs.lemmas.Nat.{shl_whole, or_shifted}
use Rattle.bits_value.specs.Bits.{bit_list}
use Rattle.bits_value.specs.Number.{natural, reordered}
use Rattle.bits_value.proofs.BitLists.{length-bit_list, natural-lt, bit_list-append}
use Rattle.bits_value.proofs.Gathered.{natural-bound}
use Rattle.bits_value.proofs.Little.{little_step, length-reordered}
use Rattle.bits_value.proofs.reading.gather_little.Goals as goal

pub loop-done-init : goal.loop-done-init
unfolding bit_list reordered
loop-done-init c = record { within = omega arith; groups = λ h. refl; sum_is = refl }

little_more : (bytes : List ℕ) (s done k : ℕ) → done % 8 ≡ 0 → k ≤ 8 → done + k ≤ 128 →
    bit_or (natural (bit_list bytes (s + done) k) * 2 ^ done % 2 ^ 128) (natural (reordered (bit_list bytes s done))) ≡ natural (reordered (bit_list bytes s (done + k)))
little_more bytes s done k g h n =
    let xs = bit_list bytes s done in
    let ys = bit_list bytes (s + done) k in
    let lx : length xs ≡ 8 * (done / 8) = length-bit_list bytes s done ∙ omega arith in
    let ly : length ys ≤ 8 = let e = length-bit_list bytes (s + done) k in omega arith in
    let d : 8 * (done / 8) ≡ done = omega arith in
    let b : natural (reordered xs) < 2 ^ done = let c : natural (reordered xs) < 2 ^ length (reordered xs) = natural-lt (reordered xs) in rw (length-reordered xs, length-bit_list bytes s done) at c in
    rw (shl_whole (natural ys) k done 128 (natural-bound bytes (s + done) k) (omega arith)) (or_shifted (natural ys) done (natural (reordered xs)) b
    ∙ sym (ap (λ (w : List Bool). natural (reordered w)) (bit_list-append bytes s done k) ∙ little_step (done / 8) xs ys lx ly ∙ ap (λ m. natural ys * 2 ^ m + natural (reordered xs)) d))

pub loop-done-preserved : goal.loop-done-preserved
loop-done-preserved c =
    let whole : c.loop-done.done % 8 ≡ 0 = c.loop-done.invariant.groups c.loop-done-test.true in
    let m : c.min-step.result ≡ min (c.args.count - c.loop-done.done) 8 = c.min-step.ensures in
    record {
      within = omega arith;
      groups = λ h. omega arith;
      sum_is = rw (c.loop-done.invariant.sum_is, c.gather_bytes.ensures) (little_more c.args.bytes.now c.args.start c.loop-done.done c.min-step.result whole (omega arith) (omega arith));
    }
