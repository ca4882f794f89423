-- What a process's turns and answers come to (Erlang Reference Manual, "Processes"; the acts are this project's own).
use Rattle.std.specs.Prelude.{◌≡◌, ℕ, ◌++◌, List, []}
use Rattle.erl_syntax.specs.Atoms.{a_undef}
use Rattle.term_value.specs.Value.{Value, VAtom, VList, Values}
use Rattle.term_value.specs.Result.{Limit}
use Rattle.term_value.specs.Tree.{Module}
use Rattle.term_value.specs.Step.{Ask, SendTo, Show, Start}
use Rattle.term_value.specs.Local.{Local, Fell, Asking, ForMore, Done, Raised, next_of, Contracts}
use Rattle.term_value.specs.Machine.{call_of}
use Rattle.code_tree.specs.PlainTerms.{value}
use Rattle.process_acts.specs.declared.asking.Asking as Asked
use Rattle.process_acts.specs.declared.asking.Asking.TheVariants as a
use Rattle.process_acts.specs.declared.asking.Turn.{Turn}
use Rattle.process_acts.specs.declared.asking.Turn.TheVariants.{Yields, Asks}
use Rattle.process_acts.specs.declared.process.First.{First}

-- contractions lead from a local state to another
pub record Runs (code : Module) (l k : Local) : Type 0 where
  pub cost : ℕ
  pub made : ℕ
  pub path : Contracts code l cost made k

-- the state asks for this
pub record AsksFor (code : Module) (l : Local) (ask : Ask) : Type 0 where
  pub next : Value → Local
  pub asks : next_of code l ≡ Asking ask next

-- the state asks for the start of a process
pub record AsksStart (code : Module) (l : Local) (module_name function : ℕ) (list : Value) : Type 0 where
  pub arguments : Values
  pub are : list ≡ VList arguments
  pub asks : AsksFor code l (Start module_name function arguments)

-- the state asks for more messages
pub record AwaitsMessages (code : Module) (l : Local) : Type 0 where
  pub state : Local
  pub asks : next_of code l ≡ ForMore state

-- the state asks for an act that is answered
pub record AwaitsAnswer (code : Module) (l : Local) : Type 0 where
  pub ask : Ask
  pub asks : AsksFor code l ask

-- what the state asks for
abbrev pub IsAsking : Module → Local → Asked.Asking → Type 0
IsAsking code l (a.Send to v) = AsksFor code l (SendTo to (value v))
IsAsking code l (a.Show v) = AsksFor code l (Show (value v))
IsAsking code l (a.Start m f vs) = AsksStart code l m f (value vs)
IsAsking code l a.More = AwaitsMessages code l
IsAsking code l a.Done = next_of code l ≡ Done
IsAsking code l (a.Raised reason) = next_of code l ≡ Raised (value reason)

-- where a turn ends with an ask, the process waits at it
abbrev pub IsTurn : Module → Local → Type 0 → Turn → Type 0
IsTurn code l waits Yields = Unit {0}
IsTurn code l waits (Asks ask) = waits × IsAsking code l ask

-- the state with the answer
abbrev pub Answered : Module → Local → Value → Local → Type 0
Answered code l answer k = (ask : Ask) (next : Value → Local) → next_of code l ≡ Asking ask next → k ≡ next answer

-- the state with the messages behind those that it has seen
abbrev pub Saw : Module → Local → List Value → Local → Type 0
Saw code l messages k = (state : Local) → next_of code l ≡ ForMore state → k ≡ record state { seen = state.seen ++ messages }

-- the state at a limit, in place of an answer
abbrev pub Filled : Module → Local → Local → Type 0
Filled code l k = (ask : Ask) (next : Value → Local) → next_of code l ≡ Asking ask next → k ≡ record (next (VAtom a_undef)) { course = Fell Limit }

-- a process at its start
abbrev pub IsFirst : First → Local → Type 0
IsFirst first l = (vs : Values) → value first.arguments ≡ VList vs → l ≡ record { pid = first.pid; course = call_of first.function vs; seen = []; left = first.reductions }
