use Rattle.std.proofs.Common.{◌≡◌, ◌+◌, ◌-◌, ◌/◌, ◌^◌, ◌%◌, ◌∙◌, sym, ap, refl, arith}
use Rattle.std.proofs.lemmas.Int.{to_z-of_z}
use Rattle.std.specs.Int.{int_shr}
use mir.Val.{SFits, to_z, of_z}
use mir.Syntax.{w128}
use Rattle.bits_value.specs.Bits.{all_bits}
use Rattle.bits_value.specs.Number.{residue}
use Rattle.bits_value.proofs.Residues.{residue-part}
use Rattle.bits_value.proofs.Written.{put_step, length-all_bits, shr_nothing}
use Rattle.bits_value.proofs.writing.put_big.Goals as goal

pub loop-done-preserved : goal.loop-done-preserved
loop-done-preserved c =
    let f : SFits w128 c.args.value = c.ranges.value in
    let done = c.loop-done.done in
    let step = c.reach-step.result in
    let r = c.args.bits - (done + step) in
    let v = residue c.args.bits c.args.value in
    let near : c.args.bits - done - step ≡ r = omega arith in
    let far : c.args.bits - done ≡ r + step = omega arith in
    let la = length-all_bits c.args.target.now in
    let same : to_z w128 (of_z w128 c.args.value) ≡ c.args.value = to_z-of_z w128 c.args.value f in
    let part : c.piece_at-piece.result ≡ residue step (int_shr c.args.value r)
    = c.piece_at-piece.ensures ∙ ap (λ z. residue step (int_shr z (c.args.bits - done - step))) same ∙ ap (λ k. residue step (int_shr c.args.value k)) near in
    let m : c.piece_at-piece.result ≡ v / 2 ^ r % 2 ^ step = part ∙ sym (residue-part c.args.bits r step c.args.value (omega arith)) in
    record {
      within = omega arith;
      written = c.set_window.ensures ∙ rw (c.loop-done.invariant.written, m, same, far) (put_step (all_bits c.args.target.now) c.args.off v r done step (omega arith));
    }

pub returns : goal.returns
returns c =
    let done : c.loop-done.done ≡ c.args.bits = omega arith in
    let none : c.args.bits - c.args.bits ≡ 0 = omega arith in
    let f : SFits w128 c.args.value = c.ranges.value in
    let same : to_z w128 (of_z w128 c.args.value) ≡ c.args.value = to_z-of_z w128 c.args.value f in
    c.loop-done.invariant.written ∙ rw (done, none, shr_nothing, same) refl
