-- What the slices of an actor ask for, and what answers come to (Erlang Reference Manual, "Processes"; slices and their length are this
-- project's own).
use Rattle.std.specs.Prelude.{◌≡◌, ℕ, ◌≤◌, true, List, All}
use Rattle.term_value.specs.Value.{Value, VAtom, VPid, VList, Values}
use Rattle.erl_syntax.specs.Atoms.{a_undef}
use Rattle.term_value.specs.Result.{Limit, truth}
use Rattle.term_value.specs.Tree.{Module}
use Rattle.term_value.specs.Texts.{text}
use Rattle.term_value.specs.Parcel.{parcel_of}
use Rattle.term_value.specs.Step.{Ask, SendTo, Show, Start, name_in}
use Rattle.term_value.specs.Local.{Local, Fell, On, Asking, Done, Raised, next_of, Contracts}
use Rattle.off_heap.specs.Parcels.{IsBounded, AreBounded}
use Rattle.process_acts.specs.Acts.{AsksFor, AwaitsMessages, Saw}
use Rattle.actor_acts.specs.declared.ask.Ask as Slice
use Rattle.actor_acts.specs.declared.ask.Ask.TheVariants as a
use Rattle.actor_acts.specs.declared.ask.Answer.{Answer}
use Rattle.actor_acts.specs.declared.ask.Answer.TheVariants.{Went, Pid, Full, Batch}
use Rattle.actor_acts.specs.declared.ask.Account.{Account}
use Rattle.actor_acts.specs.declared.actor.TheConstants.{SLICE_REDUCTIONS}

-- contractions lead from a local state to another, at so many reductions together
pub record RunsAt (code : Module) (l k : Local) (cost : ℕ) : Type 0 where
  pub made : ℕ
  pub path : Contracts code l cost made k

-- it contracts
pub record CanGoOn (code : Module) (l : Local) : Type 0 where
  pub cost : ℕ
  pub made : ℕ
  pub state : Local
  pub goes : next_of code l ≡ On cost made state

-- the state asks for a text to be displayed
pub record AsksShow (code : Module) (l : Local) (shown : List ℕ) : Type 0 where
  pub v : Value
  pub is : shown ≡ text (name_in code) v
  pub asks : AsksFor code l (Show v)

-- the state asks for the start of a process, whose call has this value
pub record AsksSpawn (code : Module) (l : Local) (call : Value) : Type 0 where
  pub module_name : ℕ
  pub function : ℕ
  pub arguments : Values
  pub is : call ≡ parcel_of code module_name function arguments
  pub asks : AsksFor code l (Start module_name function arguments)

-- the state ended with a reason of this text
pub record FellWith (code : Module) (l : Local) (shown : List ℕ) : Type 0 where
  pub reason : Value
  pub is : shown ≡ text (name_in code) reason
  pub ends : next_of code l ≡ Raised reason

-- what the state asks for
abbrev pub IsAsked : Module → Local → Slice.Ask → Type 0
IsAsked code l a.Yielded = CanGoOn code l
IsAsked code l (a.Send to v) = AsksFor code l (SendTo to v)
IsAsked code l (a.Show shown) = AsksShow code l shown
IsAsked code l (a.Spawn call) = AsksSpawn code l call
IsAsked code l a.More = AwaitsMessages code l
IsAsked code l a.Done = next_of code l ≡ Done
IsAsked code l (a.Raised reason) = FellWith code l reason
IsAsked code l a.NoMemory = Unit {0}

-- a slice that ends with an ask uses no more reductions than a slice may
pub record AsksWithin (code : Module) (l k : Local) (waits : Type 0) (ask : Slice.Ask) : Type 0 where
  pub cost : ℕ
  pub runs : RunsAt code l k cost
  pub within : cost ≤ SLICE_REDUCTIONS
  pub stands : waits
  pub asks : IsAsked code k ask

-- A slice yields exactly where it has used all its reductions and its process could go on.
abbrev pub IsSlice : Module → Local → Local → Type 0 → Slice.Ask → Type 0
IsSlice code l k waits a.Yielded = RunsAt code l k SLICE_REDUCTIONS × CanGoOn code k
IsSlice code l k waits a.NoMemory = Unit {0}
IsSlice code l k waits ask = AsksWithin code l k waits ask

-- the ask is one that this answers
abbrev pub IsAnswerTo : Ask → Answer → Type 0
IsAnswerTo (SendTo to v) Went = Unit {0}
IsAnswerTo (Show v) Went = Unit {0}
IsAnswerTo (Start m f vs) (Pid pid) = Unit {0}
IsAnswerTo (Start m f vs) Full = Unit {0}
IsAnswerTo ask answer = ⊥

-- the state asks for what this answers
abbrev pub Awaits : Module → Local → Answer → Type 0
Awaits code l (Batch messages) = AwaitsMessages code l
Awaits code l answer = (ask : Ask) × (AsksFor code l ask × IsAnswerTo ask answer)

-- the value of an ask that went: what was sent, or `true`
abbrev pub went : Ask → Value
went (SendTo to v) = v
went (Show v) = truth true
went (Start m f vs) = VAtom a_undef

-- the state with the answer; at a limit where no process could be started
abbrev pub IsAnswered : Module → Local → Answer → Local → Type 0
IsAnswered code l Went k = (ask : Ask) (next : Value → Local) → next_of code l ≡ Asking ask next → k ≡ next (went ask)
IsAnswered code l (Pid pid) k = (ask : Ask) (next : Value → Local) → next_of code l ≡ Asking ask next → k ≡ next (VPid pid)
IsAnswered code l Full k = (ask : Ask) (next : Value → Local) → next_of code l ≡ Asking ask next → k ≡ record (next (VAtom a_undef)) { course = Fell Limit }
IsAnswered code l (Batch messages) k = Saw code l messages.items k

-- messages are within the bounds
abbrev pub AreMessages : Answer → Type 0
AreMessages (Batch messages) = All IsBounded messages.items
AreMessages answer = Unit {0}

-- the items of a call are within the bounds
abbrev pub AreItemsBounded : Value → Type 0
AreItemsBounded (VList vs) = AreBounded vs
AreItemsBounded v = ⊥

-- the process ended, or waits for messages that don't come
pub data HasEnded (code : Module) (l : Local) : Type 0 where
  normally : next_of code l ≡ Done → HasEnded code l
  raised : (reason : Value) → next_of code l ≡ Raised reason → HasEnded code l
  waiting : AwaitsMessages code l → HasEnded code l

-- no buffer is shared, so none is made or dropped
abbrev pub IsAccount : ℕ → Account → Type 0
IsAccount moved account = (account.births ≡ 0) × ((account.drops ≡ 0) × (account.moved ≡ moved))
