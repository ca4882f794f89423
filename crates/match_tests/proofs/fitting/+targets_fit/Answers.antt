use Rattle.std.proofs.Common.{refl, arith}
use Rattle.match_tests.proofs.Marks.{fits_from}
use Rattle.match_tests.proofs.fitting.+targets_fit.Goals as goal

pub returns-then-target_fits : goal.returns-then-target_fits
returns-then-target_fits t c = λ later. fits_from c.args.ops.now _ c.target.result c.args.marks.now c.target_fits.new.marks (omega (arith, c.in-len1-up.len_at_least)) c.target.ensures (c.if-target_fits.ensures.is refl) c.if-target_fits.ensures.count (c.if-target_fits.ensures.marks refl) (c.targets_fit.ensures later)
