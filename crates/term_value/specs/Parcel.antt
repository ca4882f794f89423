-- What a spawn hands over, and the process that it starts (Erlang Reference Manual, "Processes": Process Creation; that the call
-- travels as one value is this project's own).
use Rattle.std.specs.Prelude.{◌≡◌, ℕ, Bool, true, false, [], nat_eq}
use Rattle.erl_syntax.specs.Atoms.{a_undef}
use Rattle.term_value.specs.Value.{Value, VAtom, VList, Values, none, more, count}
use Rattle.term_value.specs.Result.{raise}
use Rattle.term_value.specs.Tree.{Module}
use Rattle.term_value.specs.Local.{Local, Course, Fell}
use Rattle.term_value.specs.Machine.{exported_at, call_of, first_of}

abbrev pub handed_over : Bool → ℕ → Values → Value
handed_over true function vs = VList (more (VAtom function) vs)
handed_over false function vs = VList (more (VList none) none)

-- the value of a call: `[Function, Argument1, ..]`, and `[[]]` where the module is another, in which nothing is exported
abbrev pub parcel_of : Module → (module_name function : ℕ) → Values → Value
parcel_of code module_name function vs = handed_over (nat_eq module_name code.name) function vs

-- what a process that is started by a value does: the call of a function that is exported, else it ends with `undef`
abbrev pub called_by : Module → Value → Course
called_by code (VList (more (VAtom function) vs)) = call_of (exported_at code.functions function (count vs)) vs
called_by code _ = Fell (raise a_undef)

-- the local state of such a process at its start
abbrev pub child_of : Module → (reductions pid : ℕ) → Value → Local
child_of code reductions pid parcel = record { pid = pid; course = called_by code parcel; seen = []; left = reductions }

-- the value of a call starts the process that the call starts
abbrev pub ParcelStarts : Type 0
ParcelStarts = (code : Module) (reductions pid module_name function : ℕ) (vs : Values) → child_of code reductions pid (parcel_of code module_name function vs) ≡ first_of code reductions pid module_name function vs
