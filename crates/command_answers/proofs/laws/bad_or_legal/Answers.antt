use Rattle.command_answers.proofs.Commands.{bad_or_legal}
use Rattle.command_answers.proofs.laws.bad_or_legal.Goals as goal

pub returns : goal.returns
returns c = bad_or_legal c.one_order.ensures c.order_or_fault.ensures
