-- How the machine follows the copying machine of the definitions (this project's own).
use Rattle.std.specs.Prelude.{◌≡◌, true, false, List, [], ◌∷◌, map, Option, Some, None}
use Rattle.term_value.specs.Value.{Value}
use Rattle.term_value.specs.Texts.{text}
use Rattle.term_value.specs.Tree.{Module}
use Rattle.term_value.specs.Step.{name_in}
use Rattle.term_value.specs.Local.{Local}
use Rattle.term_value.specs.Machine as m
use Rattle.code_tree.specs.PlainTerms.{value}
use Rattle.code_tree.specs.Reading.{module_meant}
use Rattle.process_acts.specs.Acts.{Runs, IsAsking}
use Rattle.process_acts.specs.declared.asking.Asking.{Asking}
use Rattle.copy_machine.specs.declared.ending.Ending.{Ending}
use Rattle.copy_machine.specs.declared.ending.Ending.TheVariants as e
use Rattle.copy_machine.specs.declared.actor.Actor.{Actor}
use Rattle.copy_machine.specs.declared.row.Row.{Row}
use Rattle.copy_machine.specs.declared.row.Row.TheVariants as r
use Rattle.copy_machine.specs.declared.machine.Machine.{Machine}

-- where its ask is known, the process stands at it
abbrev pub StandsAt : {P : Type 0} → (P → Module) → (P → Local) → (P → Type 0) → P → Option Asking → Type 0
StandsAt code_of local_of waits_of p None = Unit {0}
StandsAt code_of local_of waits_of p (Some ask) = waits_of p × IsAsking (code_of p) (local_of p) ask

-- a process of the definitions, which runs: contractions lead from its local state to where the actor stands
pub record Plays {P : Type 0} (code_of : P → Module) (local_of : P → Local) (waits_of : P → Type 0) (own : Module) (l : Local) (vs : List Value) (a : Actor P) : Type 0 where
  pub code : code_of a.process ≡ own
  pub runs : Runs own l (local_of a.process)
  pub unseen : vs ≡ map value a.unseen.items
  pub stands : StandsAt code_of local_of waits_of a.process a.ask

-- an end, with the text of its reason
abbrev pub ending_of : Module → m.End → Ending
ending_of code m.Normal = e.Normal
ending_of code (m.Exit reason) = e.Exit (text (name_in code) reason)
ending_of code m.Waiting = e.Waiting

-- the row is that of a process of the definitions
abbrev pub IsRowOf : {P : Type 0} → (P → Module) → (P → Local) → (P → Type 0) → Module → m.Process → Row P → Type 0
IsRowOf code_of local_of waits_of code (m.Running local unseen) (r.Running actor) = Plays code_of local_of waits_of code local unseen actor
IsRowOf code_of local_of waits_of code (m.Over how) (r.Ended ending false) = ending ≡ ending_of code how
IsRowOf code_of local_of waits_of code (m.Left how) (r.Ended ending true) = ending ≡ ending_of code how
IsRowOf code_of local_of waits_of code _ _ = ⊥

-- what is known of a row by itself
abbrev pub IsSound : {P : Type 0} → (P → Module) → (P → Local) → (P → Type 0) → Row P → Type 0
IsSound code_of local_of waits_of (r.Running actor) = StandsAt code_of local_of waits_of actor.process actor.ask
IsSound code_of local_of waits_of (r.Ended ending gone) = Unit {0}

-- the rows are those of the processes
abbrev pub AreRows : {P : Type 0} → (P → Module) → (P → Local) → (P → Type 0) → Module → List m.Process → List (Row P) → Type 0
AreRows code_of local_of waits_of code [] [] = Unit {0}
AreRows code_of local_of waits_of code (p ∷ ps) (row ∷ rows) = IsRowOf code_of local_of waits_of code p row × AreRows code_of local_of waits_of code ps rows
AreRows code_of local_of waits_of code _ _ = ⊥

-- the machine stands as a machine of the definitions does
pub record Follows {P : Type 0} (code_of : P → Module) (local_of : P → Local) (waits_of : P → Type 0) (machine : m.Machine) (c : Machine P) : Type 0 where
  pub code : machine.code ≡ module_meant c.world.code.now
  pub reductions : machine.reductions ≡ c.world.reductions
  pub rows : AreRows code_of local_of waits_of machine.code machine.processes c.rows.items
  pub shown : c.shown.items ≡ map (text (name_in machine.code)) machine.shown

-- it follows some machine of the definitions
abbrev pub IsFollower : {P : Type 0} → (P → Module) → (P → Local) → (P → Type 0) → Machine P → Type 0
IsFollower code_of local_of waits_of c = (machine : m.Machine) × Follows code_of local_of waits_of machine c
