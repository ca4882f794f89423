use Rattle.std.proofs.Common.{sym, ap, ◌∙◌, arith}
use Rattle.term_value.specs.Terms.{seen, row_of}
use Rattle.copy_machine.proofs.Arities.{arity_is}
use Rattle.copy_machine.proofs.asks.arity.Goals as goal

pub returns-else-many : goal.returns-else-many
returns-else-many c = arity_is c.args.arguments.now (row_of c.in-List.items) _ (sym c.term.ensures.is ∙ ap seen c.in-List.is) c.length-many.ensures (omega arith)
