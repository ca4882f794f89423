use Rattle.std.proofs.Common.{refl, rules}
use Rattle.match_tests.proofs.Marks.{still_in_range}
use Rattle.match_tests.proofs.context_tests.variables_of_a_program_are_released.Goals as goal

pub release-requires : goal.release-requires
release-requires g c =
    let slots = c.in-Some-Some-Some.slots in
    let now = c.run-matched.new.env in
    let ops = c.in-Some-Some-Some.program.ops in
    still_in_range slots.values.items now.values.items slots.sizes.items now.sizes.items ops ops c.run-matched.ensures.kept refl (search rules)
