-- The literals of modules that were read from a text, and what runs of these make (this project's own).
use Rattle.std.specs.Prelude.{ℕ, List}
use Rattle.erl_syntax.specs.Reading.{Reads}
use Rattle.erl_syntax.specs.declared.checking.VarUse.{VarUse}
use Rattle.erl_syntax.specs.declared.module.Module.{Module}
use Rattle.term_laws.specs.Inside.{InModule, InLocal, InMachine, IsBounded}
use Rattle.term_value.specs.Local.{Local, Contracts}
use Rattle.term_value.specs.Machine.{Machine, Leads, start_of}
use Rattle.term_value.specs.ReadTrees.{module_of}
use Rattle.term_value.specs.declared.entry.Entry.{Entry}

-- Each literal of a module that a text spells is within the bounds, whatever numbers its variables have.
abbrev pub LiteralsAreBounded : Type 0
LiteralsAreBounded = (text : List ℕ) (m : Module) (uses : List (List VarUse)) → Reads text m → InModule IsBounded (module_of uses m)

-- So contractions in such a module keep each value within them,
abbrev pub RunsAreBounded : Type 0
RunsAreBounded = (text : List ℕ) (m : Module) (uses : List (List VarUse)) (l k : Local) (cost made : ℕ) → Reads text m → InLocal IsBounded l → Contracts (module_of uses m) l cost made k → InLocal IsBounded k

-- and whatever legal order its machine follows from its start, each value, each message and each argument is within them.
abbrev pub MachinesAreBounded : Type 0
MachinesAreBounded = (text : List ℕ) (m : Module) (uses : List (List VarUse)) (reductions : ℕ) (n : Machine) (entries : List Entry) → Reads text m → Leads (start_of (module_of uses m) reductions) entries n → InMachine IsBounded n
