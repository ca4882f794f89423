use Rattle.std.proofs.Common.{refl}
use Rattle.bits_top.proofs.program.top_plain.Goals as goal

pub returns-in-Check-clause-complete : goal.returns-in-Check-clause-complete
returns-in-Check-clause-complete g c = rw c.in-Check.is (c.checks_well.ensures c.check.result _ _ c.check.ensures.answer)

pub returns-in-Copy-clause-complete : goal.returns-in-Copy-clause-complete
returns-in-Copy-clause-complete g c = rw c.in-Copy.is (c.copies_well.ensures _ c.copy.result _ _ _ c.copy.ensures.answer)

pub returns-in-Gen-clause-answers : goal.returns-in-Gen-clause-answers
returns-in-Gen-clause-answers g c = rw c.in-Gen.is (c.write_generated.ensures, record { told = refl; count = refl }, record { told = refl; count = refl })

pub returns-in-Gen-clause-complete : goal.returns-in-Gen-clause-complete
returns-in-Gen-clause-complete g c = rw c.in-Gen.is (c.gens_well.ensures _ c.write_generated.result _ c.write_generated.ensures)
