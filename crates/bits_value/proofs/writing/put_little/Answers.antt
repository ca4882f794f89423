use Rattle.std.proofs.Common.{◌≡◌, ◌-◌, ◌/◌, ◌^◌, ◌%◌, ◌∙◌, sym, ap, min, arith}
use Rattle.std.proofs.lemmas.Int.{to_z-of_z}
use Rattle.std.specs.Int.{int_shr}
use mir.Val.{SFits, to_z, of_z}
use mir.Syntax.{w128}
use Rattle.bits_value.specs.Bits.{all_bits}
use Rattle.bits_value.specs.Number.{residue}
use Rattle.bits_value.proofs.Residues.{residue-part, shr-min, shr-SFits}
use Rattle.bits_value.proofs.Little.{little_put_step}
use Rattle.bits_value.proofs.Written.{length-all_bits}
use Rattle.bits_value.proofs.writing.put_little.Goals as goal

pub loop-done-preserved : goal.loop-done-preserved
loop-done-preserved c =
    let f : SFits w128 c.args.value = c.ranges.value in
    let la = length-all_bits c.args.target.now in
    let done = c.loop-done.done in
    let step = c.min-step.result in
    let v = residue c.args.bits c.args.value in
    let m : step ≡ min (c.args.bits - done) 8 = c.min-step.ensures in
    let whole : done % 8 ≡ 0 = c.loop-done.invariant.groups c.loop-done-test.true in
    let same : to_z w128 (of_z w128 c.args.value) ≡ c.args.value = to_z-of_z w128 c.args.value f in
    let outer : to_z w128 (of_z w128 (int_shr c.args.value c.min.result)) ≡ int_shr c.args.value c.min.result = to_z-of_z w128 (int_shr c.args.value c.min.result) (shr-SFits c.args.value c.min.result f) in
    let part : residue step (to_z w128 (of_z w128 (int_shr (to_z w128 (of_z w128 c.args.value)) c.min.result))) ≡ v / 2 ^ done % 2 ^ step
    = ap (λ z. residue step (to_z w128 (of_z w128 (int_shr z c.min.result)))) same ∙ ap (residue step) outer
    ∙ ap (λ k. residue step (int_shr c.args.value k)) c.min.ensures ∙ ap (residue step) (shr-min c.args.value done f)
    ∙ sym (residue-part c.args.bits done step c.args.value (omega arith)) in
    record {
      within = omega arith;
      groups = λ h. omega arith;
      written = c.put_big.ensures ∙ rw (c.loop-done.invariant.written, part, same) (little_put_step (all_bits c.args.target.now) c.args.off v done step (omega arith) whole (omega arith));
    }
