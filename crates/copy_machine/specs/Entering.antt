-- What an entry does to its process, and to the machine (this project's own).
use Rattle.std.specs.Prelude.{◌≡◌, ℕ, Bool, true, false, length, Option, Some, None, slice_get}
use Rattle.term_value.specs.Value.{Value}
use Rattle.term_value.specs.Tree.{Module}
use Rattle.term_value.specs.Local.{Local}
use Rattle.term_value.specs.Machine as m
use Rattle.term_value.specs.declared.entry.Entry.{Entry}
use Rattle.term_value.specs.declared.entry.Entry.TheVariants.{Sent, Saw, Shown, Started, Full, Ended, Stopped, Gone}
use Rattle.code_tree.specs.PlainTerms.{value}
use Rattle.code_tree.specs.Reading.{module_meant}
use Rattle.code_tree.specs.declared.code.Code.{Code}
use Rattle.process_acts.specs.Acts.{Runs, IsAsking, Answered}
use Rattle.process_acts.specs.declared.asking.Asking.{Asking}
use Rattle.copy_machine.specs.declared.act.Act.{Act}
use Rattle.copy_machine.specs.declared.act.Act.TheVariants.{Refused, Goes, Ends}
use Rattle.copy_machine.specs.declared.act.Effect.{Effect}
use Rattle.copy_machine.specs.declared.act.Effect.TheVariants as f
use Rattle.copy_machine.specs.declared.actor.Actor.{Actor}
use Rattle.copy_machine.specs.declared.row.Row.{Row}
use Rattle.copy_machine.specs.declared.row.Row.TheVariants as r
use Rattle.copy_machine.specs.declared.machine.Machine.{Machine}
use Rattle.copy_machine.specs.Following.{IsRowOf, ending_of, Follows}

-- the process of an entry
abbrev pub pid_of : Entry → ℕ
pid_of (Sent from to) = from
pid_of (Saw pid n) = pid
pid_of (Shown pid) = pid
pid_of (Started pid child) = pid
pid_of (Full pid) = pid
pid_of (Ended pid) = pid
pid_of (Stopped pid) = pid
pid_of (Gone pid births drops moved) = pid

abbrev pub is_stop : Entry → Bool
is_stop (Stopped pid) = true
is_stop _ = false

abbrev pub is_gone : Entry → Bool
is_gone (Gone pid births drops moved) = true
is_gone _ = false

-- a process is stopped only while all are at rest
abbrev pub IsTimely : Entry → m.Machine → Type 0
IsTimely (Stopped pid) machine = m.all_at_rest machine ≡ true
IsTimely _ machine = Unit {0}

-- the module, the reductions of a process, and how many were started
pub record Conditions : Type 0 where
  pub code : Module
  pub reductions : ℕ
  pub started : ℕ

abbrev pub conditions : Code → ℕ → ℕ → Conditions
conditions code reductions started = record { code = module_meant code; reductions = reductions; started = started }

-- a machine under these conditions, in which the entry's process stands so
pub record IsIn (s : Conditions) (entry : Entry) (p : m.Process) (machine : m.Machine) : Type 0 where
  pub code : machine.code ≡ s.code
  pub reductions : machine.reductions ≡ s.reductions
  pub started : length machine.processes ≡ s.started
  pub stands : m.process_at machine (pid_of entry) ≡ Some p
  pub timely : IsTimely entry machine

-- a machine behind an effect
abbrev pub took : {P : Type 0} → (P → Local) → Effect P → m.Machine → m.Machine
took local_of f.Nothing machine = machine
took local_of (f.Delivers to message) machine = m.delivered machine to (value message) (m.process_at machine to)
took local_of (f.Shows shown) machine = m.with_shown machine (value shown)
took local_of (f.Starts process) machine = m.with_child machine (local_of process)

-- a process that is started runs the module
abbrev pub IsOfCode : {P : Type 0} → (P → Module) → Module → Effect P → Type 0
IsOfCode code_of code (f.Starts process) = code_of process ≡ code
IsOfCode code_of code _ = Unit {0}

-- the entry fits each such machine: its process becomes q, and beside that the effect is all
abbrev pub Does : {P : Type 0} → (P → Local) → Conditions → Entry → m.Process → m.Process → Effect P → Type 0
Does local_of s entry p q effect = (machine : m.Machine) → IsIn s entry p machine → m.applied machine entry ≡ Some (took local_of effect (m.with_process machine (pid_of entry) q))

-- it fits none
abbrev pub IsRefused : Conditions → Entry → m.Process → Type 0
IsRefused s entry p = (machine : m.Machine) → IsIn s entry p machine → m.applied machine entry ≡ None

-- what an entry does to a process that runs
abbrev pub IsAct : {P : Type 0} → (P → Module) → (P → Local) → (P → Type 0) → Conditions → Entry → m.Process → Act P → Actor P → Type 0
IsAct code_of local_of waits_of s entry p Refused a = IsRowOf code_of local_of waits_of s.code p (r.Running a) × IsRefused s entry p
IsAct code_of local_of waits_of s entry p (Goes effect) a = (q : m.Process) × IsRowOf code_of local_of waits_of s.code q (r.Running a) × IsOfCode code_of s.code effect × Does local_of s entry p q effect
IsAct {P} code_of local_of waits_of s entry p (Ends ending) a = (how : m.End) × (ending ≡ ending_of s.code how) × Does {P = P} local_of s entry p (m.Over how) f.Nothing

-- so it is whatever process of the definitions the actor plays
abbrev pub Acts : {P : Type 0} → (P → Module) → (P → Local) → (P → Type 0) → Conditions → Entry → Actor P → Act P → Actor P → Type 0
Acts code_of local_of waits_of s entry old act new = (p : m.Process) → IsRowOf code_of local_of waits_of s.code p (r.Running old) → IsAct code_of local_of waits_of s entry p act new

abbrev pub IsEffect : {P : Type 0} → (P → Module) → (P → Local) → (P → Type 0) → Conditions → Entry → m.Process → Option (Effect P) → Row P → Type 0
IsEffect code_of local_of waits_of s entry p None row = IsRowOf code_of local_of waits_of s.code p row × IsRefused s entry p
IsEffect code_of local_of waits_of s entry p (Some effect) row = (q : m.Process) × IsRowOf code_of local_of waits_of s.code q row × IsOfCode code_of s.code effect × Does local_of s entry p q effect

-- the actor came to its ask, and nothing else changed
pub record Settles {P : Type 0} (code_of : P → Module) (local_of : P → Local) (waits_of : P → Type 0) (old new : Actor P) : Type 0 where
  pub code : code_of new.process ≡ code_of old.process
  pub runs : Runs (code_of old.process) (local_of old.process) (local_of new.process)
  pub unseen : new.unseen.items ≡ old.unseen.items
  pub ask : Asking
  pub is : new.ask ≡ Some ask
  pub waits : waits_of new.process
  pub asks : IsAsking (code_of new.process) (local_of new.process) ask

-- the entry leads from each machine of the definitions that is followed to the next, or fits it not
abbrev pub Applies : {P : Type 0} → (P → Module) → (P → Local) → (P → Type 0) → m.Machine → Entry → Bool → Machine P → Type 0
Applies code_of local_of waits_of machine entry true c = (next : m.Machine) × (m.applied machine entry ≡ Some next) × Follows code_of local_of waits_of next c
Applies code_of local_of waits_of machine entry false c = (m.applied machine entry ≡ None) × Follows code_of local_of waits_of machine c

-- whether the process at a place rests, or there is none
abbrev pub rests_in : Module → Option m.Process → Bool
rests_in code (Some process) = m.is_at_rest code process
rests_in code None = true

abbrev pub RestsAt : {P : Type 0} → (P → Module) → (P → Local) → (P → Type 0) → m.Machine → ℕ → Bool → Machine P → Type 0
RestsAt code_of local_of waits_of machine index rests c = Follows code_of local_of waits_of machine c × (rests ≡ rests_in machine.code (slice_get machine.processes index))

abbrev pub AllRest : {P : Type 0} → (P → Module) → (P → Local) → (P → Type 0) → m.Machine → Bool → Machine P → Type 0
AllRest code_of local_of waits_of machine rest c = Follows code_of local_of waits_of machine c × (rest ≡ m.all_at_rest machine)

-- the entry comes at its time, or it fits not
abbrev pub MayEnter : {P : Type 0} → (P → Module) → (P → Local) → (P → Type 0) → m.Machine → Entry → Bool → Machine P → Type 0
MayEnter code_of local_of waits_of machine entry true c = Follows code_of local_of waits_of machine c × IsTimely entry machine
MayEnter code_of local_of waits_of machine entry false c = Follows code_of local_of waits_of machine c × (m.applied machine entry ≡ None)

-- the entry leads to a machine in which its effect is still to come, or fits not
abbrev pub Enters : {P : Type 0} → (P → Module) → (P → Local) → (P → Type 0) → m.Machine → Entry → Option (Effect P) → Machine P → Type 0
Enters code_of local_of waits_of machine entry None c = (m.applied machine entry ≡ None) × Follows code_of local_of waits_of machine c
Enters code_of local_of waits_of machine entry (Some effect) c = (next : m.Machine) × Follows code_of local_of waits_of next c × IsOfCode code_of next.code effect × (m.applied machine entry ≡ Some (took local_of effect next))

-- the actor went on with the answer, and nothing else changed
pub record Answers {P : Type 0} (code_of : P → Module) (local_of : P → Local) (answer : Value) (old new : Actor P) : Type 0 where
  pub code : code_of new.process ≡ code_of old.process
  pub goes : Answered (code_of old.process) (local_of old.process) answer (local_of new.process)
  pub unseen : new.unseen.items ≡ old.unseen.items
  pub ask : new.ask ≡ None

-- whether the process that the actor plays is at rest
abbrev pub Rests : {P : Type 0} → (P → Module) → (P → Local) → (P → Type 0) → Actor P → Bool → Actor P → Type 0
Rests code_of local_of waits_of old rests new = (code : Module) (p : m.Process) → IsRowOf code_of local_of waits_of code p (r.Running old)
    → IsRowOf code_of local_of waits_of code p (r.Running new) × (rests ≡ m.is_at_rest code p)
