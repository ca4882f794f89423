-- What a runner makes: a legal order of its own (this project's own).
use Rattle.std.specs.Prelude.{◌≡◌, All}
use Rattle.term_value.specs.Tree.{Module}
use Rattle.term_value.specs.Local.{Local}
use Rattle.term_value.specs.Machine as m
use Rattle.term_value.specs.Orders.{IsInRange, SharesNothing}
use Rattle.term_value.specs.declared.entry.Entry.{Entry}
use Rattle.term_value.specs.declared.outcome.Outcome.{Outcome}
use Rattle.copy_machine.specs.declared.progress.Progress.{Progress}
use Rattle.copy_machine.specs.Following.{Follows}
use Rattle.copy_machine.specs.Replaying.{Replays}

abbrev pub IsOwnEntry : Entry → Type 0
IsOwnEntry entry = IsInRange entry × SharesNothing entry

-- how far a run got from its start
pub record GotTo {P : Type 0} (code_of : P → Module) (local_of : P → Local) (waits_of : P → Type 0) (start : m.Machine) (c : Progress P) : Type 0 where
  pub state : m.Machine
  pub leads : m.Leads start c.entries.items state
  pub follows : Follows code_of local_of waits_of state c.machine
  pub own : All IsOwnEntry c.entries.items

abbrev pub IsUnderWay : {P : Type 0} → (P → Module) → (P → Local) → (P → Type 0) → Progress P → Type 0
IsUnderWay code_of local_of waits_of c = (start : m.Machine) × GotTo code_of local_of waits_of start c

-- it went on
abbrev pub GoesOn : {P : Type 0} → (P → Module) → (P → Local) → (P → Type 0) → Progress P → Progress P → Type 0
GoesOn code_of local_of waits_of old new = (start : m.Machine) → GotTo code_of local_of waits_of start old → GotTo code_of local_of waits_of start new

-- a legal and complete order that a runner made
pub record IsOwnRun (start : m.Machine) (outcome : Outcome) : Type 0 where
  pub runs : Replays start outcome.entries outcome
  pub own : All IsOwnEntry outcome.entries
