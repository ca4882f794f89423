use Rattle.std.proofs.Common.{arith, codes, refl}
use Rattle.term_value.specs.Orders.{too_long}
use Rattle.command_answers.proofs.Answers.{held_long}
use Rattle.command_answers.proofs.Commands.{bad_answers}
use Rattle.bits_top.specs.Copying.{code_of}
use Rattle.bits_top.proofs.copying.copy_checked.Goals as goal

pub returns-then-len-clause-answer : goal.returns-then-len-clause-answer
returns-then-len-clause-answer g c =
    let long = held_long _ _ _ 268_435_456 c.in-Ok.ensures.read.taken (omega arith) in
    bad_answers c.args.reductions c.reported.result _ _ (code_of c.args.checked.now) long.0 (codes "order: too long\n") long.1 (too_long _ long.0 _ long.2 refl) c.reported.ensures
