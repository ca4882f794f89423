-- What an order comes to (this project's own).
use Rattle.std.specs.Prelude.{◌≡◌, ℕ, ◌+◌, Bool, false, List, [], ◌∷◌, ◌++◌, length, Option, Some, None, Ok, Err}
use Rattle.std.specs.declared.result.Result.{Result}
use Rattle.term_value.specs.Tree.{Module}
use Rattle.term_value.specs.Local.{Local}
use Rattle.term_value.specs.Machine as m
use Rattle.term_value.specs.Outcomes.{IsOutcome}
use Rattle.term_value.specs.declared.entry.Entry.{Entry}
use Rattle.term_value.specs.declared.outcome.Outcome.{Outcome}
use Rattle.copy_machine.specs.declared.ending.Ending.{Ending}
use Rattle.copy_machine.specs.declared.ending.Ending.TheVariants as e
use Rattle.copy_machine.specs.declared.fault.CopyFault.{CopyFault}
use Rattle.copy_machine.specs.declared.fault.CopyFault.TheVariants as f
use Rattle.copy_machine.specs.declared.machine.Machine.{Machine}
use Rattle.copy_machine.specs.declared.row.Row.{Row}
use Rattle.copy_machine.specs.declared.row.Row.TheVariants as r
use Rattle.copy_machine.specs.Following.{Follows}

-- what a report says of a process that ended
abbrev pub end_of : ℕ → Ending → List (ℕ × Option (List ℕ))
end_of pid e.Normal = []
end_of pid (e.Exit reason) = (pid, Some reason) ∷ []
end_of pid e.Waiting = (pid, None) ∷ []

abbrev pub row_end : {P : Type 0} → ℕ → Row P → List (ℕ × Option (List ℕ))
row_end pid (r.Running actor) = []
row_end pid (r.Ended ending gone) = end_of pid ending

abbrev pub row_ends : {P : Type 0} → ℕ → List (Row P) → List (ℕ × Option (List ℕ))
row_ends pid [] = []
row_ends pid (row ∷ rows) = row_end pid row ++ row_ends (pid + 1) rows

abbrev pub has_left : {P : Type 0} → Row P → Bool
has_left (r.Running actor) = false
has_left (r.Ended ending gone) = gone

-- the order is legal and complete, and the outcome is what it comes to
pub record Replays (start : m.Machine) (entries : List Entry) (outcome : Outcome) : Type 0 where
  pub state : m.Machine
  pub leads : m.Leads start entries state
  pub complete : m.IsComplete state
  pub came : IsOutcome state entries outcome

-- the first entry that isn't legal, counted from 1
pub record StopsAt (start : m.Machine) (entries : List Entry) (place : ℕ) : Type 0 where
  pub before : List Entry
  pub entry : Entry
  pub later : List Entry
  pub are : entries ≡ before ++ entry ∷ later
  pub state : m.Machine
  pub leads : m.Leads start before state
  pub illegal : m.applied state entry ≡ None
  pub is : place ≡ length before + 1

-- all entries are legal, and some process isn't gone
pub record EndsEarly (start : m.Machine) (entries : List Entry) : Type 0 where
  pub state : m.Machine
  pub leads : m.Leads start entries state
  pub incomplete : m.IsComplete state → ⊥

abbrev pub IsReplay : m.Machine → List Entry → Result Outcome CopyFault → Type 0
IsReplay start entries (Ok outcome) = Replays start entries outcome
IsReplay start entries (Err (f.Illegal place)) = StopsAt start entries place
IsReplay start entries (Err f.Incomplete) = EndsEarly start entries
IsReplay start entries (Err f.NoMemory) = Unit {0}

-- entries led on to where the machine stands, or one isn't legal
abbrev pub LeadsOn : {P : Type 0} → (P → Module) → (P → Local) → (P → Type 0) → m.Machine → List Entry → Option ℕ → Machine P → Type 0
LeadsOn code_of local_of waits_of start entries None c = (state : m.Machine) × m.Leads start entries state × Follows code_of local_of waits_of state c
LeadsOn code_of local_of waits_of start entries (Some place) c = StopsAt start entries place
