-- What stays as a process goes on by itself: it is that of the same process of the definitions (this project's own).
use Rattle.term_value.specs.Tree.{Module}
use Rattle.term_value.specs.Local.{Local}
use Rattle.term_value.specs.Machine as m
use Rattle.copy_machine.specs.Following.{Follows, IsRowOf}
use Rattle.copy_machine.specs.declared.actor.Actor.{Actor}
use Rattle.copy_machine.specs.declared.machine.Machine.{Machine}
use Rattle.copy_machine.specs.declared.row.Row.{Row}
use Rattle.copy_machine.specs.declared.row.Row.TheVariants as r

abbrev pub KeepsRow : {P : Type 0} → (P → Module) → (P → Local) → (P → Type 0) → Row P → Row P → Type 0
KeepsRow code_of local_of waits_of old new = (code : Module) (p : m.Process) → IsRowOf code_of local_of waits_of code p old → IsRowOf code_of local_of waits_of code p new

abbrev pub KeepsActor : {P : Type 0} → (P → Module) → (P → Local) → (P → Type 0) → Actor P → Actor P → Type 0
KeepsActor code_of local_of waits_of old new = KeepsRow code_of local_of waits_of (r.Running old) (r.Running new)

abbrev pub Keeps : {P : Type 0} → (P → Module) → (P → Local) → (P → Type 0) → Machine P → Machine P → Type 0
Keeps code_of local_of waits_of old new = (machine : m.Machine) → Follows code_of local_of waits_of machine old → Follows code_of local_of waits_of machine new
