-- With what a process begins that is started by a call (Erlang Reference Manual, "Processes": Process Creation).
use Rattle.std.specs.Prelude.{◌≡◌, ℕ, nat_eq}
use Rattle.term_value.specs.Value.{count}
use Rattle.term_value.specs.Tree.{Module}
use Rattle.term_value.specs.Machine.{exported_in}
use Rattle.code_tree.specs.PlainTerms.{value}
use Rattle.process_acts.specs.declared.process.First.{First}
use Rattle.copy_machine.specs.declared.call.Call.{Call}
use Rattle.copy_machine.specs.Asks.{arguments_of}

pub record Begins (code : Module) (most own : ℕ) (call : Call) (first : First) : Type 0 where
  pub pid : first.pid ≡ own
  pub reductions : first.reductions ≡ most
  pub function : first.function ≡ exported_in (nat_eq call.module_name code.name) code call.function (count (arguments_of (value call.arguments)))
  pub arguments : first.arguments ≡ call.arguments
