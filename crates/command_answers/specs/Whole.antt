-- The runs of a module and its replay of an order, by their texts (what an order and a report are is this project's own).
use Rattle.std.specs.Prelude.{◌≡◌, ℕ, List, All}
use Rattle.term_value.specs.Tree.{Module}
use Rattle.term_value.specs.Machine.{Machine, Leads, IsComplete, start_of}
use Rattle.term_value.specs.Orders.{IsOrderText, SharesNothing}
use Rattle.term_value.specs.Reports as reports
use Rattle.term_value.specs.declared.entry.Entry.{Entry}

-- The text of an order of the module's copying machine, legal and complete; the state that it leads to; and the report.
pub record IsReplayOf (code : Module) (reductions : ℕ) (order report : List ℕ) : Type 0 where
  pub entries : List Entry
  pub state : Machine
  pub leads : Leads (start_of code reductions) entries state
  pub complete : IsComplete state
  pub ordered : IsOrderText order entries
  pub reported : report ≡ reports.report state

-- Such an order and report, where the entries count nothing of shared buffers.
pub record IsRunOf (code : Module) (reductions : ℕ) (order report : List ℕ) : Type 0 where
  pub replay : IsReplayOf code reductions order report
  pub unshared : All SharesNothing replay.entries
