-- A legal order has at most so many entries as the reductions of its processes allow.
use Rattle.std.proofs.Common.{◌≡◌, ℕ, zero, suc, ◌+◌, ◌-◌, ◌*◌, ◌<◌, ◌≤◌, Bool, true, false, List, [], ◌∷◌, ◌++◌, length, Option, Some, None, refl, ap, sym, subst, arith, length-append, length-set}
use Rattle.std.specs.Prelude.{option_and_then, nat_eq, nat_le, slice_get, slice_set, ◌&&◌}
use Rattle.std.specs.Option.{IsSome}
use Rattle.std.proofs.lemmas.Bool.Decides.{nat_tests}
use Rattle.erl_syntax.specs.Atoms.{a_undef}
use Rattle.term_value.specs.Value.{Value, VAtom, VPid}
use Rattle.term_value.specs.Result.{Limit, truth}
use Rattle.term_value.specs.Tree.{Module}
use Rattle.term_value.specs.Step.{SendTo, Show, Start}
use Rattle.term_value.specs.Local.{Fell, Local, Next, On, Asking, ForMore, Done, Raised, next_of, NextAsk, Wants, WantsMore, EndsDone, EndsRaised, Unfinished, asked}
use Rattle.term_value.specs.AskOf.{ask_of}
use Rattle.term_laws.proofs.Paid.{NextPays, course_pays, cost_is_paid}
use Rattle.term_laws.proofs.Finishes.{same_some, none_some, each_asks}
use Rattle.term_value.specs.Machine.{End, Normal, Exit, Waiting, Process, Running, Over, Left, Machine, process_bound, process_at, with_process, ask_of_process, ask_at, unseen_at, goes_on, receives, delivered, with_child, first_of, all_at_rest, if_fits, sends, sees, shows, starts, fills, ends, stops, leaves, applied, all_applied, IsLegal, beginning}
use Rattle.term_laws.specs.Laws.{LegalIsShort}
use Rattle.term_value.specs.declared.entry.Entry.{Entry}
use Rattle.term_value.specs.declared.entry.Entry.TheVariants.{Sent, Saw, Shown, Started, Full, Ended, Stopped, Gone}

-- ---- What an ask leaves

abbrev Pays : ℕ → NextAsk → Type 0
Pays left (Wants ask next) = (v : Value) → (next v).left + 1 ≤ left
Pays left (WantsMore l) = l.left + 1 ≤ left
Pays left EndsDone = Unit {0}
Pays left (EndsRaised reason) = Unit {0}
Pays left Unfinished = Unit {0}

asked_pays : (left most : ℕ) (next : Next) (ask : NextAsk) → left ≤ most → NextPays left next → asked next ≡ Some ask → Pays most ask
asked_pays left most (On cost made l) ask h n e = absurd (none_some ask e)
asked_pays left most (Asking a next) ask h n e = subst (Pays most) (same_some (Wants a next) ask e) (λ v. omega (arith, n v, h))
asked_pays left most (ForMore l) ask h n e = subst (Pays most) (same_some (WantsMore l) ask e) (omega (arith, n, h))
asked_pays left most Done ask h n e = subst (Pays most) (same_some EndsDone ask e) tt
asked_pays left most (Raised reason) ask h n e = subst (Pays most) (same_some (EndsRaised reason) ask e) tt

ask_pays : (code : Module) (l : Local) → Pays l.left (ask_of code l)
ask_pays code l =
    let comes = each_asks code l in
    let k : Local = comes.2.state in
    asked_pays k.left l.left (next_of code k) (ask_of code l) (omega (arith, cost_is_paid code l k comes.0 comes.1 comes.2.path)) (course_pays code k k.course) comes.2.asks

-- ---- The potential of a process, and of a machine

abbrev potential : Process → ℕ
potential (Running l unseen) = l.left + 2
potential (Over how) = 1
potential (Left how) = 0

abbrev total : List Process → ℕ
total [] = 0
total (p ∷ ps) = potential p + total ps

set_total : (ps : List Process) (i : ℕ) (p q : Process) → slice_get ps i ≡ Some p → total (slice_set ps i q) + potential p ≡ total ps + potential q
set_total [] i p q e = cc e
set_total (r ∷ ps) zero p q e = let s : r ≡ p = cc e in omega (arith, ap potential s)
set_total (r ∷ ps) (suc i) p q e = omega (arith, set_total ps i p q e)

received_same : (v : Value) (p : Process) → potential (receives v p) ≡ potential p
received_same v (Running local unseen) = refl
received_same v (Over how) = refl
received_same v (Left how) = refl

total-push : (ps : List Process) (q : Process) → total (ps ++ q ∷ []) ≡ total ps + potential q
total-push [] q = omega arith
total-push (p ∷ ps) q = omega (arith, total-push ps q)

abbrev room : Machine → ℕ
room m = (process_bound - length m.processes) * (m.reductions + 2)

abbrev all_of : Machine → ℕ
all_of m = total m.processes + room m

set_count : (m : Machine) (pid : ℕ) (q : Process) → length (with_process m pid q).processes ≡ length m.processes
set_count m zero q = refl
set_count m (suc before) q = length-set m.processes before q

set_room : (m : Machine) (pid : ℕ) (q : Process) → room (with_process m pid q) ≡ room m
set_room m zero q = refl
set_room m (suc before) q = ap (λ n. (process_bound - n) * (m.reductions + 2)) (length-set m.processes before q)

same_reductions : (m : Machine) (pid : ℕ) (q : Process) → (with_process m pid q).reductions ≡ m.reductions
same_reductions m zero q = refl
same_reductions m (suc before) q = refl

delivered_all : (m : Machine) (pid : ℕ) (v : Value) (o : Option Process) → process_at m pid ≡ o → all_of (delivered m pid v o) ≡ all_of m
delivered_all m pid v None e = refl
delivered_all m zero v (Some p) e = cc
delivered_all m (suc before) v (Some p) e = omega (arith, set_total m.processes before p (receives v p) e, received_same v p, set_room m (suc before) (receives v p))

-- ---- What an entry takes of it

falls : (m : Machine) (pid : ℕ) (p q : Process) → process_at m pid ≡ Some p → potential q + 1 ≤ potential p → all_of (with_process m pid q) + 1 ≤ all_of m
falls m zero p q e h = cc
falls m (suc before) p q e h = omega (arith, h, set_total m.processes before p q e, set_room m (suc before) q)

-- a process that asks runs, and pays
abbrev RunsFor : Option Process → NextAsk → Type 0
RunsFor p ask = (l : Local) × (unseen : List Value) × (p ≡ Some (Running l unseen)) × Pays l.left ask

asks_running : (code : Module) (p : Option Process) (ask : NextAsk) → ask_of_process code p ≡ Some ask → RunsFor p ask
asks_running code (Some (Running l unseen)) ask e = let same : ask_of code l ≡ ask = cc e in (l, unseen, refl, subst (Pays l.left) same (ask_pays code l))
asks_running code (Some (Over how)) ask e = cc e
asks_running code (Some (Left how)) ask e = cc e
asks_running code None ask e = cc e

runs_at : (m : Machine) (pid : ℕ) (ask : NextAsk) → ask_at m pid ≡ Some ask → RunsFor (process_at m pid) ask
runs_at m pid ask e = asks_running m.code (process_at m pid) ask e

-- it goes on with less
goes_on_falls : (m : Machine) (pid : ℕ) (ask : NextAsk) (k : Local) (unseen : List Value) → ask_at m pid ≡ Some ask → ((left : ℕ) → Pays left ask → k.left + 1 ≤ left) →
    all_of (with_process m pid (Running k unseen)) + 1 ≤ all_of m
goes_on_falls m pid ask k unseen e pays = let r = runs_at m pid ask e in falls m pid (Running r.0 r.1) (Running k unseen) r.2 (omega (arith, pays r.0.left r.3))

fitted : (b : Bool) (m n : Machine) → if_fits b m ≡ Some n → (b ≡ true) × (m ≡ n)
fitted true m n e = (refl, cc e)
fitted false m n e = cc e

sends_falls : (m n : Machine) (from to : ℕ) (o : Option NextAsk) → ask_at m from ≡ o → sends m from to o ≡ Some n → all_of n + 1 ≤ all_of m
sends_falls m n from to (Some (Wants (SendTo receiver v) next)) e f =
    let k = goes_on m from (next v) in
    let g = fitted (nat_eq receiver to) (delivered k to v (process_at k to)) n f in
    omega (arith, goes_on_falls m from (Wants (SendTo receiver v) next) (next v) (unseen_at m from) e (λ left p. p v), delivered_all k to v (process_at k to) refl, ap all_of g.1)
sends_falls m n from to _ e f = cc f

sees_falls : (m n : Machine) (pid count : ℕ) (o : Option NextAsk) → ask_at m pid ≡ o → sees m pid count o ≡ Some n → all_of n + 1 ≤ all_of m
sees_falls m n pid count (Some (WantsMore l)) e f =
    let k : Local = record l { seen = l.seen ++ unseen_at m pid } in
    let g = fitted (nat_eq count (length (unseen_at m pid)) && nat_le 1 count) (with_process m pid (Running k [])) n f in
    omega (arith, goes_on_falls m pid (WantsMore l) k [] e (λ left p. p), ap all_of g.1)
sees_falls m n pid count _ e f = cc f

shows_falls : (m n : Machine) (pid : ℕ) (o : Option NextAsk) → ask_at m pid ≡ o → shows m pid o ≡ Some n → all_of n + 1 ≤ all_of m
shows_falls m n pid (Some (Wants (Show v) next)) e f =
    let same = fitted true _ n f in
    omega (arith, goes_on_falls m pid (Wants (Show v) next) (next (truth true)) (unseen_at m pid) e (λ left p. p (truth true)), ap all_of same.1)
shows_falls m n pid _ e f = cc f

-- one process more takes its part of the room
one_more_room : (k n r : ℕ) → k ≡ n + 1 → k ≤ process_bound → (process_bound - k) * r + r ≡ (process_bound - n) * r
one_more_room k n r e h = let s : process_bound - n ≡ suc (process_bound - k) = omega arith in rw s (omega arith)

child_falls : (m : Machine) (l : Local) → length m.processes + 1 ≤ process_bound → l.left ≡ m.reductions → all_of (with_child m l) ≡ all_of m
child_falls m l h e =
    let more : length (m.processes ++ Running l [] ∷ []) ≡ length m.processes + 1 = length-append m.processes (Running l [] ∷ []) in
    omega (arith, total-push m.processes (Running l []), e, one_more_room (length (m.processes ++ Running l [] ∷ [])) (length m.processes) (m.reductions + 2) more (omega (arith, more, h)))

both : (a b : Bool) → (a && b) ≡ true → (a ≡ true) × (b ≡ true)
both true b e = (refl, e)
both false b e = cc e

child_within : (child n : ℕ) → (nat_eq child (n + 1) && nat_le child process_bound) ≡ true → n + 1 ≤ process_bound
child_within child n e =
    let h = both (nat_eq child (n + 1)) (nat_le child process_bound) e in
    let same : child ≡ n + 1 = grind (arith, nat_tests, h.0) in
    let within : child ≤ process_bound = grind (arith, nat_tests, h.1) in
    omega (arith, same, within)

starts_falls : (m n : Machine) (pid child : ℕ) (o : Option NextAsk) → ask_at m pid ≡ o → starts m pid child o ≡ Some n → all_of n + 1 ≤ all_of m
starts_falls m n pid child (Some (Wants (Start name function vs) next)) e f =
    let k = goes_on m pid (next (VPid child)) in
    let first = first_of m.code m.reductions child name function vs in
    let g = fitted (nat_eq child (length m.processes + 1) && nat_le child process_bound) (with_child k first) n f in
    let kept : length k.processes ≡ length m.processes = set_count m pid (Running (next (VPid child)) (unseen_at m pid)) in
    let some : length k.processes + 1 ≤ process_bound = omega (arith, kept, child_within child (length m.processes) g.0) in
    omega (arith, goes_on_falls m pid (Wants (Start name function vs) next) (next (VPid child)) (unseen_at m pid) e (λ left p. p (VPid child)), child_falls k first some (sym (same_reductions m pid (Running (next (VPid child)) (unseen_at m pid)))), ap all_of g.1)
starts_falls m n pid child _ e f = cc f

fills_falls : (m n : Machine) (pid : ℕ) (o : Option NextAsk) → ask_at m pid ≡ o → fills m pid o ≡ Some n → all_of n + 1 ≤ all_of m
fills_falls m n pid (Some (Wants (Start name function vs) next)) e f =
    let k : Local = record (next (VAtom a_undef)) { course = Fell Limit } in
    let g = fitted (nat_eq (length m.processes) process_bound) (goes_on m pid k) n f in
    omega (arith, goes_on_falls m pid (Wants (Start name function vs) next) k (unseen_at m pid) e (λ left p. p (VAtom a_undef)), ap all_of g.1)
fills_falls m n pid _ e f = cc f

over_falls : (m n : Machine) (pid : ℕ) (ask : NextAsk) (how : End) → ask_at m pid ≡ Some ask → Some (with_process m pid (Over how)) ≡ Some n → all_of n + 1 ≤ all_of m
over_falls m n pid ask how e f =
    let r = runs_at m pid ask e in
    let same = fitted true (with_process m pid (Over how)) n f in
    omega (arith, falls m pid (Running r.0 r.1) (Over how) r.2 (omega arith), ap all_of same.1)

ends_falls : (m n : Machine) (pid : ℕ) (o : Option NextAsk) → ask_at m pid ≡ o → ends m pid o ≡ Some n → all_of n + 1 ≤ all_of m
ends_falls m n pid (Some EndsDone) e f = over_falls m n pid EndsDone Normal e f
ends_falls m n pid (Some (EndsRaised reason)) e f = over_falls m n pid (EndsRaised reason) (Exit reason) e f
ends_falls m n pid _ e f = cc f

stops_falls : (m n : Machine) (pid : ℕ) (o : Option Process) → process_at m pid ≡ o → stops m pid o ≡ Some n → all_of n + 1 ≤ all_of m
stops_falls m n pid (Some (Running l unseen)) e f =
    let g = fitted (all_at_rest m) (with_process m pid (Over Waiting)) n f in
    omega (arith, falls m pid (Running l unseen) (Over Waiting) e (omega arith), ap all_of g.1)
stops_falls m n pid _ e f = cc f

leaves_falls : (m n : Machine) (pid : ℕ) (o : Option Process) → process_at m pid ≡ o → leaves m pid o ≡ Some n → all_of n + 1 ≤ all_of m
leaves_falls m n pid (Some (Over how)) e f =
    let same = fitted true (with_process m pid (Left how)) n f in
    omega (arith, falls m pid (Over how) (Left how) e (omega arith), ap all_of same.1)
leaves_falls m n pid _ e f = cc f

entry_falls : (m n : Machine) (e : Entry) → applied m e ≡ Some n → all_of n + 1 ≤ all_of m
entry_falls m n (Sent from to) f = sends_falls m n from to (ask_at m from) refl f
entry_falls m n (Saw pid count) f = sees_falls m n pid count (ask_at m pid) refl f
entry_falls m n (Shown pid) f = shows_falls m n pid (ask_at m pid) refl f
entry_falls m n (Started pid child) f = starts_falls m n pid child (ask_at m pid) refl f
entry_falls m n (Full pid) f = fills_falls m n pid (ask_at m pid) refl f
entry_falls m n (Ended pid) f = ends_falls m n pid (ask_at m pid) refl f
entry_falls m n (Stopped pid) f = stops_falls m n pid (process_at m pid) refl f
entry_falls m n (Gone pid births drops moved) f = leaves_falls m n pid (process_at m pid) refl f

one_more : (m : Machine) (e : Entry) (es : List Entry) (o : Option Machine) → applied m e ≡ o → ((n : Machine) → IsLegal n es → length es ≤ all_of n) →
    IsSome (option_and_then (λ n. all_applied n es) o) → length (e ∷ es) ≤ all_of m
one_more m e es (Some n) f later h = omega (arith, entry_falls m n e f, later n h)
one_more m e es None f later h = cc h

short : (es : List Entry) (m : Machine) → IsLegal m es → length es ≤ all_of m
short [] m h = omega arith
short (e ∷ es) m h = one_more m e es (applied m e) refl (short es) h

start_most : (left r : ℕ) → left ≤ r → left + 2 + 0 + (process_bound - 1) * (r + 2) ≤ process_bound * (r + 2)
start_most left r h = omega (arith, h)

pub legal_is_short : LegalIsShort
legal_is_short code reductions first es h legal = omega (arith, short es (beginning code reductions first) legal, start_most first.left reductions h)
