use Rattle.std.proofs.Common.{◌≡◌, ◌+◌, ◌∙◌, refl, arith}
use Rattle.bits_value.specs.Bits.{all_bits, bit_list}
use Rattle.bits_value.proofs.BitLists.{length-bit_list, natural-lt}
use Rattle.bits_value.proofs.Written.{copy_step, length-all_bits}
use Rattle.bits_value.proofs.copying.copy_ends.Goals as goal

pub set_window-requires-clause-fits : goal.set_window-requires-clause-fits
set_window-requires-clause-fits c =
    let bits = bit_list c.args.source.now (c.args.from + c.loop-done.done) c.reach-step.result in
    rw c.window.ensures (rw (length-bit_list c.args.source.now (c.args.from + c.loop-done.done) c.reach-step.result) at (natural-lt bits))

pub loop-done-preserved : goal.loop-done-preserved
loop-done-preserved c =
    let la = length-all_bits c.args.target.now in
    record {
      within = omega arith;
      written = c.set_window.ensures ∙ rw (c.loop-done.invariant.written, c.window.ensures)
          (copy_step (all_bits c.args.target.now) c.args.off c.args.source.now c.args.from c.loop-done.done c.reach-step.result (omega arith));
    }

pub returns : goal.returns
returns c =
    let done : c.loop-done.done ≡ c.args.count = omega arith in
    c.loop-done.invariant.written ∙ rw done refl
