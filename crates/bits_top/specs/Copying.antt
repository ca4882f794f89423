-- What the text of an order comes to (this project's own).
use Rattle.std.specs.Prelude.{◌≡◌, ℕ, List, codes}
use Rattle.module_check.specs.declared.checking.Checked.{Checked}
use Rattle.term_value.specs.Machine.{start_of}
use Rattle.term_value.specs.Orders.{BadOrder, order_line}
use Rattle.term_value.specs.ReadTrees.{module_of}
use Rattle.term_value.specs.Tree.{Module}
use Rattle.command_answers.specs.Whole.{IsReplayOf}
use Rattle.copy_machine.specs.declared.fault.CopyFault.{CopyFault}
use Rattle.copy_machine.specs.declared.fault.CopyFault.TheVariants as f
use Rattle.bits_top.specs.declared.copying.Copied.{Copied}
use Rattle.bits_top.specs.declared.copying.Copied.TheVariants as d

-- a checked module as the copying machine has it
abbrev pub code_of : Checked → Module
code_of checked = module_of checked.vars.items checked.tree

-- the line of an order that isn't legal and complete
abbrev pub IsFaultLine : CopyFault → List ℕ → Type 0
IsFaultLine (f.Illegal place) line = line ≡ order_line place (codes "not legal")
IsFaultLine f.Incomplete line = line ≡ codes "order: incomplete\n"
IsFaultLine f.NoMemory line = ⊥

-- the report that is due to the text of an order, or the line of its first fault
abbrev pub IsCopyOf : Module → ℕ → List ℕ → Copied → Type 0
IsCopyOf code reductions text (d.Report due) = IsReplayOf code reductions text due
IsCopyOf code reductions text (d.Fault line) = BadOrder (start_of code reductions) text line
