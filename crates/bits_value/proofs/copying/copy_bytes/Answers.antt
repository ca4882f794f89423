use Rattle.std.proofs.Common.{◌≡◌, ◌+◌, ◌-◌, ◌*◌, ◌/◌, ap, sym, ◌∙◌, length, take, drop, arith}
use lib.Seq.{paste}
use Rattle.std.proofs.lemmas.List.{length-take-le, length-drop}
use Rattle.std.proofs.lemmas.Slice.{put_mid-paste}
use Rattle.bits_value.specs.Bits.{all_bits, bit_list}
use Rattle.bits_value.proofs.Copied.{copied_bytes}
use Rattle.bits_value.proofs.copying.copy_bytes.Goals as goal

pub returns-then-from-eq0 : goal.returns-then-from-eq0
returns-then-from-eq0 c =
    let a = c.args.off / 8 in
    let b = c.args.from / 8 in
    let k = c.args.count in
    let target = c.args.target.now in
    let source = c.args.source.now in
    let part = take k (drop b source) in
    let back : b + k - b ≡ k = omega arith in
    let same : c.copy_from_slice.new.self ≡ part = c.copy_from_slice.ensures.after ∙ ap (λ n. take n (drop b source)) back in
    let lp : k ≡ length part = sym (length-take-le k (drop b source) (omega (arith, length-drop b source))) in
    let long : k ≡ a + k - a = omega arith in
    let off : 8 * a ≡ c.args.off = omega arith in
    let from : 8 * b ≡ c.args.from = omega arith in
    ap all_bits (put_mid-paste a (a + k - a) target c.copy_from_slice.new.self part k same long lp)
    ∙ copied_bytes target source a b k (omega arith) (omega arith)
    ∙ ap (λ n. paste (all_bits target) n (bit_list source (8 * b) (8 * k)) (8 * k)) off ∙ ap (λ n. paste (all_bits target) c.args.off (bit_list source n (8 * k)) (8 * k)) from
