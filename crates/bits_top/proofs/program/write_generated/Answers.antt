use Rattle.std.proofs.Common.{◌∙◌}
use Rattle.bits_top.proofs.Loads.{gen_answers}
use Rattle.bits_top.proofs.program.write_generated.Goals as goal

pub returns-in-Ok : goal.returns-in-Ok
returns-in-Ok g c = gen_answers c.deref.result.now _ c.reported.result _ (c.deref.ensures.value ∙ c.in-Ok.ensures) c.reported.ensures
