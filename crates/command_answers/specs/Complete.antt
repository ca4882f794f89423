-- Where no port fails and the sources tell what they hold, each command does what it is asked for, or memory was wanting (this
-- project's own).
use Rattle.std.specs.Prelude.{◌≡◌, ◌⊎◌, ℕ, ◌≤◌, ◌<◌, List, length, Some}
use Rattle.erl_syntax.specs.Checking.{AreNumbered}
use Rattle.erl_syntax.specs.Reading.{longest_text}
use Rattle.erl_syntax.specs.declared.module.Module.{Module}
use Rattle.erl_syntax.specs.declared.checking.VarUse.{VarUse}
use Rattle.module_accept.specs.Accepting.{Accepts}
use Rattle.term_value.specs.Machine.{start_of}
use Rattle.term_value.specs.Orders.{BadOrder, order_bound}
use Rattle.term_value.specs.ReadTrees.{module_of}
use Rattle.command_answers.specs.Answer.{Port, Faulted}
use Rattle.command_answers.specs.Whole.{IsReplayOf}
use Rattle.command_answers.specs.declared.status.Status.{Status}
use Rattle.command_answers.specs.declared.status.Status.TheVariants as s

-- no fault
abbrev pub IsWell : Port → Type 0
IsWell p = Faulted p → ⊥

-- the source tells this text, without a fault
pub record Tells (source : Port) (text : List ℕ) : Type 0 where
  pub told : source.before ≡ Some text
  pub well : IsWell source

-- a text that a module can have, which is accepted
pub record IsModule (text : List ℕ) (tree : Module) : Type 0 where
  pub short : length text ≤ longest_text
  pub accepts : Accepts text tree

-- no module's: it is too long, or no accepted module's
abbrev pub IsNoModule : List ℕ → Type 0
IsNoModule text = (longest_text < length text) ⊎ ((tree : Module) → Accepts text tree → ⊥)

abbrev pub IsOrNoMemory : Status → Status → Type 0
IsOrNoMemory good status = (status ≡ good) ⊎ (status ≡ s.NoMemory)

-- a text of no module is refused
abbrev pub Refuses : Status → Port → Port → Type 0
Refuses status source report = (text : List ℕ) → Tells source text → IsNoModule text → IsWell report → IsOrNoMemory s.Refused status

pub record ChecksWell (status : Status) (source report : Port) : Type 0 where
  pub finds : (text : List ℕ) (tree : Module) → Tells source text → IsModule text tree → IsWell report → IsOrNoMemory s.Done status
  pub refuses : Refuses status source report

-- a text that is due whatever the sources hold
abbrev pub GensWell : Status → Port → Type 0
GensWell status report = IsWell report → IsOrNoMemory s.Done status

pub record RunsWell (status : Status) (source report order : Port) : Type 0 where
  pub runs : (text : List ℕ) (tree : Module) → Tells source text → IsModule text tree → IsWell report → IsWell order → IsOrNoMemory s.Done status
  pub refuses : Refuses status source report

-- A module, with the numbers of its variables, and an order.
pub record AreGiven (source order_in : Port) (tree : Module) (numbers : List (List VarUse)) (order : List ℕ) : Type 0 where
  pub text : List ℕ
  pub told : Tells source text
  pub accepted : IsModule text tree
  pub numbered : AreNumbered tree.functions numbers
  pub ordered : Tells order_in order

pub record CopiesWell (reductions : ℕ) (status : Status) (source order_in report : Port) : Type 0 where
  pub copies : (tree : Module) (numbers : List (List VarUse)) (order due : List ℕ) → AreGiven source order_in tree numbers order → length order ≤ order_bound → IsReplayOf (module_of numbers tree) reductions order due →
      IsWell report → IsOrNoMemory s.Done status
  pub tells : (tree : Module) (numbers : List (List VarUse)) (order line : List ℕ) → AreGiven source order_in tree numbers order → BadOrder (start_of (module_of numbers tree) reductions) order line →
      IsWell report → IsOrNoMemory s.BadOrder status
  pub refuses : Refuses status source report
