-- Small programs, and what a process asks for or a machine does (worked by hand from the Erlang Reference Manual,
-- "Expressions" and "Processes").
use Rattle.std.specs.Prelude.{codes, ◌≡◌, ℕ, zero, suc, ◌+◌, true, false, List, [], ◌∷◌, ◌++◌, Option, Some, None, option_map, replicate}
use Rattle.bits_value.specs.Bits.{all_bits}
use Rattle.erl_syntax.specs.declared.expr.Op.TheVariants as o
use Rattle.term_value.specs.Value.{Value, VAtom, VTuple, VList, VBits, none, more, row}
use Rattle.erl_syntax.specs.Atoms.{a_badarg, a_badmatch, a_bad_generator, a_bad_filter, a_if_clause, a_case_clause, a_system_limit, a_reductions, a_undef, a_true, a_false, a_ok}
use Rattle.erl_syntax.specs.declared.built_in.BuiltIn.TheVariants.{SelfPid}
use Rattle.term_value.specs.Result.{Limit}
use Rattle.term_value.specs.Step.{Show}
use Rattle.term_value.specs.Rows.{bits_generator}
use Rattle.term_value.specs.Tree.{Build, Operate, Native, MakeTuple, MakeList, MakeListOn, Table, Call, Send, Display, Spawn, Variable, Equal, Tree, Val, Var, All, First, Choose, Receive, Gather, Items, Bits, Trees, end, and, Then, Last, Alts, AndAlso, OrElse, Clauses, no_clause, clause, Guard, never, or, give, from, test, InList, bottom, Pattern, PWild, PVar, PVal, PTuple, Patterns, no_pattern, pattern_and, Segments, no_segment, segment, Function, Module}
use Rattle.term_value.specs.Local.{Local, At, Fell, Next, On, next_of, NextAsk, Wants, EndsDone, EndsRaised}
use Rattle.term_value.specs.AskOf.{ask_of}
use Rattle.term_value.specs.Machine.{Normal, Exit as Exited, Waiting, Process, Running, Left, Machine, start_of, applied, all_applied, IsComplete}
use Rattle.term_value.specs.Orders.{order_text}
use Rattle.term_value.specs.Reports.{report}
use Rattle.term_laws.specs.Worked.{int, number, size as one, atom, byte, no_size, table, a_m, a_main, a_a, a_b, a_c, a_s}
use Rattle.term_value.specs.declared.entry.Entry.{Entry}
use Rattle.term_value.specs.declared.entry.Entry.TheVariants as e

abbrev pub two : Tree → Tree → Trees
two t u = and t (and u end)

abbrev pub one_pattern : Pattern → Patterns
one_pattern p = pattern_and p no_pattern

abbrev pub no_guard : Guard
no_guard = or end never

-- one item and then the rest of a body
abbrev pub item : Tree → Tree → Tree
item t rest = First t (Then no_pattern rest)

abbrev pub display : Tree → Tree
display t = All Display (one t)

abbrev pub own : Tree
own = All (Table (Native SelfPid)) end

abbrev pub operation : Rattle.erl_syntax.specs.declared.expr.Op.Op → Tree → Tree → Tree
operation op t u = All (Table (Operate op)) (two t u)

abbrev pub function : ℕ → ℕ → Clauses → Function
function name arity clauses = record { name = name; arity = arity; exported = true; clauses = clauses }

abbrev pub body : Patterns → Tree → Clauses
body patterns t = clause patterns no_guard t no_clause

-- the module `m` with this body of `main/0`, and more functions
abbrev pub program : Tree → List Function → Module
program t functions = record { atoms = table; name = a_m; functions = function a_main 0 (body no_pattern t) ∷ functions }

abbrev pub standing : Tree → ℕ → Local
standing t left = record { pid = 1; course = At t; seen = []; left = left }

-- what process 1 asks for, with so many reductions
abbrev pub asks : Tree → ℕ → NextAsk
asks t left = ask_of (program t []) (standing t left)

abbrev pub displays : NextAsk → Option Value
displays (Wants (Show v) next) = Some v
displays _ = None

-- the reason `{Atom, Value}`
abbrev pub reason : ℕ → Value → Value
reason a v = VTuple (more (VAtom a) (more v none))

-- `[X || <<1, X>> <= <<1, 2, 3, 4, 1, 6>>]`: the row `3, 4` is skipped
abbrev pub ones : Segments
ones = segment byte (Equal (int 1)) no_size (segment byte (Variable 0) no_size no_segment)

abbrev pub skipping : Tree
skipping = Gather (Items []) (from (Val (VBits (all_bits (1 ∷ 2 ∷ 3 ∷ 4 ∷ 1 ∷ 6 ∷ [])))) (bits_generator ones) (give (Var 0))) bottom

abbrev pub GeneratorSkips : Type 0
GeneratorSkips = displays (asks (display skipping) 4) ≡ Some (VList (row (int 2 ∷ int 6 ∷ [])))

-- its three rows cost three reductions
abbrev pub RowsCost : Type 0
RowsCost = asks skipping 2 ≡ EndsRaised (VAtom a_reductions)

abbrev pub LastRowIsFree : Type 0
LastRowIsFree = asks skipping 3 ≡ EndsDone

-- `<< <<(X bxor 1)>> || <<X>> <= <<1, 2, 3:4>> >>`: the last four bits are dropped
abbrev pub dropping : Tree
dropping = Gather (Bits []) (from (Val (VBits (all_bits (1 ∷ 2 ∷ []) ++ false ∷ false ∷ true ∷ true ∷ []))) (bits_generator (segment byte (Variable 0) no_size no_segment))
    (give (All (Table (Build (byte ∷ []))) (one (operation o.Bxor (Var 0) (number 1)))))) bottom

abbrev pub GeneratorDrops : Type 0
GeneratorDrops = displays (asks (display dropping) 10) ≡ Some (VBits (all_bits (0 ∷ 3 ∷ [])))

-- the bits that so many contractions make
abbrev pub and_made : (Local → ℕ) → Next → ℕ
and_made later (On cost made l) = made + later l
and_made later _ = 0

abbrev pub made_in : Module → ℕ → Local → ℕ
made_in code zero l = 0
made_in code (suc n) l = and_made (made_in code n) (next_of code l)

-- each of its two rows makes a byte, and then there are 8 and 16 bits collected
abbrev pub RowsMake : Type 0
RowsMake = made_in (program dropping []) 20 (standing dropping 10) ≡ 40

-- `[{X, Y} || X <- [1, 2], {Y, true} <- [{3, true}, 4]]`
abbrev pub pairs : Tree
pairs = Gather (Items []) (from (Val (VList (row (int 1 ∷ int 2 ∷ [])))) (InList (PVar 0))
    (from (Val (VList (row (VTuple (row (int 3 ∷ VAtom a_true ∷ [])) ∷ int 4 ∷ [])))) (InList (PTuple (pattern_and (PVar 1) (one_pattern (PVal (VAtom a_true))))))
    (give (All (Table MakeTuple) (two (Var 0) (Var 1)))))) bottom

abbrev pub GeneratorsNest : Type 0
GeneratorsNest = displays (asks (display pairs) 10) ≡ Some (VList (row (VTuple (row (int 1 ∷ int 3 ∷ [])) ∷ VTuple (row (int 2 ∷ int 3 ∷ [])) ∷ [])))

-- `[X || X <- a]`
abbrev pub BadGenerator : Type 0
BadGenerator = asks (Gather (Items []) (from (atom a_a) (InList (PVar 0)) (give (Var 0))) bottom) 10 ≡ EndsRaised (reason a_bad_generator (VAtom a_a))

-- `[X || X <- [1], a]`
abbrev pub BadFilter : Type 0
BadFilter = asks (Gather (Items []) (from (Val (VList (row (int 1 ∷ [])))) (InList (PVar 0)) (test (atom a_a) (give (Var 0)))) bottom) 10 ≡ EndsRaised (reason a_bad_filter (VAtom a_a))

-- `<< X || X <- [1, 2] >>`: the first row's value is no bitstring
abbrev pub RowNoBitstring : Type 0
RowNoBitstring = asks (Gather (Bits []) (from (Val (VList (row (int 1 ∷ int 2 ∷ [])))) (InList (PVar 0)) (give (Var 0))) bottom) 10 ≡ EndsRaised (VAtom a_badarg)

-- `1 andalso true`, and a right side of any kind
abbrev pub AndAlsoRaises : Type 0
AndAlsoRaises = asks (First (number 1) (AndAlso (atom a_true))) 1 ≡ EndsRaised (reason a_badarg (int 1))

abbrev pub OrElseGives : Type 0
OrElseGives = displays (asks (display (First (atom a_false) (OrElse (number 7)))) 1) ≡ Some (int 7)

-- `{X, X} = {1, 2}`
abbrev pub BadMatch : Type 0
BadMatch = asks (First (Val (VTuple (row (int 1 ∷ int 2 ∷ [])))) (Last (one_pattern (PTuple (pattern_and (PVar 0) (one_pattern (PVar 0))))))) 1
    ≡ EndsRaised (reason a_badmatch (VTuple (row (int 1 ∷ int 2 ∷ []))))

-- `case 1 of 2 -> ok end` and `if 1 > 2 -> ok end`
abbrev pub NoCase : Type 0
NoCase = asks (First (number 1) (Alts (body (one_pattern (PVal (int 2))) (atom a_ok)))) 1 ≡ EndsRaised (reason a_case_clause (int 1))

abbrev pub NoIf : Type 0
NoIf = asks (Choose (clause no_pattern (or (one (operation o.Gt (number 1) (number 2))) never) (atom a_ok) no_clause)) 1 ≡ EndsRaised (VAtom a_if_clause)

-- `[1 | a]`
abbrev pub ImproperList : Type 0
ImproperList = asks (All (Table MakeListOn) (two (number 1) (atom a_a))) 1 ≡ EndsRaised (VAtom a_badarg)

-- `case 1 of X when a + 1 -> a; X -> X end`: a test that raises fails
abbrev pub GuardHides : Type 0
GuardHides = displays (asks (display (First (number 1) (Alts (clause (one_pattern (PVar 0)) (or (one (operation o.Add (atom a_a) (number 1))) never) (atom a_a)
    (body (one_pattern (PVar 0)) (Var 0)))))) 1) ≡ Some (int 1)

-- `f(X) when X bsl 127 > 0 -> a; f(_) -> b.`: a limit in a guard ends the process
abbrev pub limiting : Clauses
limiting = clause (one_pattern (PVar 0)) (or (one (operation o.Gt (operation o.Bsl (Var 0) (number 127)) (number 0))) never) (atom a_a)
    (body (one_pattern PWild) (atom a_b))

abbrev pub GuardLimits : Type 0
GuardLimits = ask_of (program (number 0) (function a_s 1 limiting ∷ [])) (standing (display (All (Call 1) (one (number 1)))) 10) ≡ EndsRaised (VAtom a_system_limit)

-- `a` is no number, so the test raises and the second clause takes it
abbrev pub GuardFails : Type 0
GuardFails = displays (ask_of (program (number 0) (function a_s 1 limiting ∷ [])) (standing (display (All (Call 1) (one (atom a_a)))) 10)) ≡ Some (VAtom a_b)

-- a display costs one reduction, and `a ! b` is `badarg` with none left
abbrev pub ActCosts : Type 0
ActCosts = asks (display (number 1)) 0 ≡ EndsRaised (VAtom a_reductions)

abbrev pub NoReceiver : Type 0
NoReceiver = asks (All Send (two (atom a_a) (atom a_b))) 0 ≡ EndsRaised (VAtom a_badarg)

-- the machine of a program at its start
abbrev pub machine : Tree → List Function → ℕ → Machine
machine t functions reductions = start_of (program t functions) reductions

-- a legal order from a machine, what it displays, and how the processes ended; where all are gone it is complete
abbrev pub Runs : Machine → List Entry → List Value → List Process → Type 0
Runs m order shown processes = all_applied m order ≡ Some (record m { shown = shown; processes = processes })

abbrev pub gone : ℕ → Entry
gone pid = e.Gone pid 0 0 0

-- `main() -> self() ! a, self() ! b, self() ! c, receive b -> erlang:display(b) end, receive X -> erlang:display(X) end,
-- receive Y -> erlang:display(Y) end.`
abbrev pub to_self : ℕ → Tree
to_self a = All Send (two own (atom a))

abbrev pub shown_next : ℕ → Tree
shown_next x = Receive (body (one_pattern (PVar x)) (display (Var x)))

abbrev pub selective : Tree
selective = item (to_self a_a) (item (to_self a_b) (item (to_self a_c)
    (item (Receive (body (one_pattern (PVal (VAtom a_b))) (display (atom a_b)))) (item (shown_next 0) (shown_next 1)))))

abbrev pub SelectiveReceive : Type 0
SelectiveReceive = Runs (machine selective [] 1_000)
    (e.Sent 1 1 ∷ e.Sent 1 1 ∷ e.Sent 1 1 ∷ e.Saw 1 3 ∷ e.Shown 1 ∷ e.Shown 1 ∷ e.Shown 1 ∷ e.Ended 1 ∷ gone 1 ∷ [])
    (VAtom a_b ∷ VAtom a_a ∷ VAtom a_c ∷ []) (Left Normal ∷ [])

-- `main() -> spawn(m, s, [self(), a]), spawn(m, s, [self(), b]), receive X -> erlang:display(X) end, receive Y ->
-- erlang:display(Y) end.` and `s(P, V) -> P ! V.`
abbrev pub spawned : ℕ → Tree
spawned a = All Spawn (and (atom a_m) (two (atom a_s) (All (Table MakeList) (two own (atom a)))))

abbrev pub receiver : Tree
receiver = item (spawned a_a) (item (spawned a_b) (item (shown_next 0) (shown_next 1)))

abbrev pub sender : Function
sender = function a_s 2 (body (pattern_and (PVar 0) (one_pattern (PVar 1))) (All Send (two (Var 0) (Var 1))))

abbrev pub two_senders : Machine
two_senders = machine receiver (sender ∷ []) 1_000

abbrev pub their_ends : List Entry
their_ends = e.Saw 1 2 ∷ e.Shown 1 ∷ e.Shown 1 ∷ e.Ended 1 ∷ e.Ended 2 ∷ e.Ended 3 ∷ gone 1 ∷ gone 2 ∷ gone 3 ∷ []

abbrev pub all_left : List Process
all_left = Left Normal ∷ Left Normal ∷ Left Normal ∷ []

-- the two sends come in either order
abbrev pub SecondFirst : Type 0
SecondFirst = Runs two_senders (e.Started 1 2 ∷ e.Started 1 3 ∷ e.Sent 3 1 ∷ e.Sent 2 1 ∷ their_ends) (VAtom a_b ∷ VAtom a_a ∷ []) all_left

abbrev pub FirstFirst : Type 0
FirstFirst = Runs two_senders (e.Started 1 2 ∷ e.Started 1 3 ∷ e.Sent 2 1 ∷ e.Sent 3 1 ∷ their_ends) (VAtom a_a ∷ VAtom a_b ∷ []) all_left

-- both are seen before both were sent
abbrev pub SeenTooEarly : Type 0
SeenTooEarly = all_applied two_senders (e.Started 1 2 ∷ e.Started 1 3 ∷ e.Sent 3 1 ∷ e.Saw 1 2 ∷ e.Sent 2 1 ∷ []) ≡ None

-- an order that stops early isn't complete
abbrev pub Completes : Option Machine → Type 0
Completes (Some m) = IsComplete m
Completes None = ⊥

abbrev pub Incomplete : Type 0
Incomplete = Completes (all_applied two_senders (e.Started 1 2 ∷ [])) → ⊥

-- `main() -> main().` with 10 reductions
abbrev pub RunsOut : Type 0
RunsOut = Runs (machine (All (Call 0) end) [] 10) (e.Ended 1 ∷ gone 1 ∷ []) [] (Left (Exited (VAtom a_reductions)) ∷ [])

-- `main() -> spawn(m, s, []), receive X -> X end.` and `s() -> receive X -> X end.`: both wait, and both are stopped
abbrev pub waits : Tree
waits = Receive (body (one_pattern (PVar 0)) (Var 0))

abbrev pub TwoStopped : Type 0
TwoStopped = Runs (machine (item (All Spawn (and (atom a_m) (two (atom a_s) (All (Table MakeList) end)))) waits) (function a_s 0 (body no_pattern waits) ∷ []) 1_000)
    (e.Started 1 2 ∷ e.Stopped 2 ∷ gone 2 ∷ e.Stopped 1 ∷ gone 1 ∷ []) [] (Left Waiting ∷ Left Waiting ∷ [])

-- one that still runs is in the way
abbrev pub NotStopped : Type 0
NotStopped = all_applied two_senders (e.Started 1 2 ∷ e.Started 1 3 ∷ e.Stopped 1 ∷ []) ≡ None

-- `main() -> spawn(m, a, []).`: no such function, so the child ends with `undef`
abbrev pub ChildUndef : Type 0
ChildUndef = Runs (machine (All Spawn (and (atom a_m) (two (atom a_a) (All (Table MakeList) end)))) [] 1_000)
    (e.Started 1 2 ∷ e.Ended 2 ∷ e.Ended 1 ∷ gone 2 ∷ gone 1 ∷ []) [] (Left Normal ∷ Left (Exited (VAtom a_undef)) ∷ [])

abbrev pub reported : Machine → List Entry → Option (List ℕ)
reported m order = option_map report (all_applied m order)

-- the report of the stopped processes, and of the one that ran out of reductions
abbrev pub StoppedReport : Type 0
StoppedReport = reported (machine (item (All Spawn (and (atom a_m) (two (atom a_s) (All (Table MakeList) end)))) waits) (function a_s 0 (body no_pattern waits) ∷ []) 1_000)
    (e.Started 1 2 ∷ e.Stopped 2 ∷ gone 2 ∷ e.Stopped 1 ∷ gone 1 ∷ []) ≡ Some (codes "waiting <0.1.0>\nwaiting <0.2.0>\n")

abbrev pub OutReport : Type 0
OutReport = reported (machine (All (Call 0) end) [] 10) (e.Ended 1 ∷ gone 1 ∷ []) ≡ Some (codes "exit <0.1.0> reductions\n")

-- `main() -> erlang:display({1, [ok, 2]}).`: its report and its order
abbrev pub displaying : Machine
displaying = machine (display (All (Table MakeTuple) (two (number 1) (All (Table MakeList) (two (atom a_ok) (number 2)))))) [] 1_000

abbrev pub its_order : List Entry
its_order = e.Shown 1 ∷ e.Ended 1 ∷ gone 1 ∷ []

-- the machine counts no moved bits: an order with one is legal and complete
abbrev pub MovedIsLegal : Type 0
MovedIsLegal = Runs displaying (e.Shown 1 ∷ e.Ended 1 ∷ e.Gone 1 0 0 1 ∷ []) (VTuple (row (int 1 ∷ VList (row (VAtom a_ok ∷ int 2 ∷ [])) ∷ [])) ∷ []) (Left Normal ∷ [])

abbrev pub DisplayReport : Type 0
DisplayReport = reported displaying its_order ≡ Some (codes "{1,[ok,2]}\n")

abbrev pub DisplayOrder : Type 0
DisplayOrder = order_text its_order ≡ codes "shown 1\nended 1\ngone 1 0 0 0\n"

-- pids count from 1
abbrev pub NoPidZero : Type 0
NoPidZero = applied displaying (e.Shown 0) ≡ None

-- process 1 at `receive 1 -> spawn(m, s, []) end`, which has seen 1, with 10 reductions
abbrev pub at_spawn : Local
at_spawn = record { pid = 1; course = At (Receive (body (one_pattern (PVal (int 1))) (All Spawn (and (atom a_m) (two (atom a_s) (All (Table MakeList) end)))))); seen = int 1 ∷ []; left = 10 }

-- all other processes that may be started are gone
abbrev pub full : Local → Machine
full l = record { code = program (atom a_ok) []; reductions = 10; processes = Running l [] ∷ replicate 1_023 (Left Normal); shown = [] }

-- where all processes have been started, the message is taken and the reduction paid before the limit
abbrev pub FullContracts : Type 0
FullContracts = applied (full at_spawn) (e.Full 1) ≡ Some (full (record { pid = 1; course = Fell Limit; seen = []; left = 9 }))
