-- Entries keep a property of all values.
use Rattle.std.proofs.Common.{◌≡◌, ℕ, zero, suc, Bool, true, false, List, [], ◌∷◌, ◌++◌, length, Option, Some, None, subst, codes}
use Rattle.std.specs.Prelude.{option_and_then, nat_eq, nat_le, slice_get, slice_set, ◌+◌, ◌&&◌}
use Rattle.erl_syntax.specs.Atoms.{a_undef, a_true}
use Rattle.erl_syntax.specs.Reading.{number_in}
use Rattle.term_value.specs.Value.{Value, VAtom, VPid, Values, none, more, count}
use Rattle.term_value.specs.Result.{Limit, truth}
use Rattle.term_value.specs.Tree.{Module}
use Rattle.term_value.specs.Step.{Ask, SendTo, Show, Start}
use Rattle.term_value.specs.Local.{Local, Fell, Next, On, Asking, ForMore, Done, Raised, next_of, NextAsk, Wants, WantsMore, EndsDone, EndsRaised, Unfinished, asked}
use Rattle.term_value.specs.AskOf.{ask_of}
use Rattle.term_value.specs.Machine.{Normal, Exit, Waiting, Process, Running, Over, Left, Machine, process_bound, process_at, with_process, ask_of_process, ask_at, unseen_of, unseen_at, goes_on, receives, delivered, with_child, with_shown, all_at_rest, value_trees, exported_in, call_of, first_of, if_fits, sends, sees, shows, starts, fills, ends, stops, leaves, applied, all_applied, start_of}
use Rattle.term_laws.specs.Inside.{EachValue, EachOf, InTrees, InModule, InCourse, InLocal, InAsk, InProcess, EachProcess, InMachine, IsKept, IsBounded, BoundsAreKept, OrdersKeepBounds, StartIsBounded}
use Rattle.term_value.specs.declared.entry.Entry.{Entry}
use Rattle.term_value.specs.declared.entry.Entry.TheVariants.{Sent, Saw, Shown, Started, Full, Ended, Stopped, Gone}
use Rattle.term_laws.proofs.Finishes.{same_some, none_some, each_asks}
use Rattle.term_laws.proofs.KeptStep.{OfNext, next_kept, contracts_kept}
use Rattle.term_laws.proofs.KeptBounds.{bounds_kept}

abbrev OfAsk : (Value → Type 0) → NextAsk → Type 0
OfAsk P (Wants ask next) = InAsk P ask × ((v : Value) → P v → InLocal P (next v))
OfAsk P (WantsMore l) = InLocal P l
OfAsk P EndsDone = Unit {0}
OfAsk P (EndsRaised reason) = Unit {0}
OfAsk P Unfinished = Unit {0}

abbrev OfAsked : (Value → Type 0) → Option NextAsk → Type 0
OfAsked P None = Unit {0}
OfAsked P (Some ask) = OfAsk P ask

abbrev OfProcess : (Value → Type 0) → Option Process → Type 0
OfProcess P None = Unit {0}
OfProcess P (Some p) = InProcess P p

abbrev OfMachine : (Value → Type 0) → Option Machine → Type 0
OfMachine P None = Unit {0}
OfMachine P (Some m) = InMachine P m

module _ (P : Value → Type 0) (kept : IsKept P) where
  asked_kept : (next : Next) (ask : NextAsk) → OfNext P next → asked next ≡ Some ask → OfAsk P ask
  asked_kept (On cost made l) ask h e = absurd (none_some ask e)
  asked_kept (Asking a next) ask h e = subst (OfAsk P) (same_some (Wants a next) ask e) h
  asked_kept (ForMore l) ask h e = subst (OfAsk P) (same_some (WantsMore l) ask e) h
  asked_kept Done ask h e = subst (OfAsk P) (same_some EndsDone ask e) tt
  asked_kept (Raised reason) ask h e = subst (OfAsk P) (same_some (EndsRaised reason) ask e) tt

  ask_kept : (code : Module) (l : Local) → InModule P code → InLocal P l → OfAsk P (ask_of code l)
  ask_kept code l m h =
      let comes = each_asks code l in
      let k : Local = comes.2.state in
      asked_kept (next_of code k) (ask_of code l) (next_kept P kept code k m (contracts_kept P kept code l k comes.0 comes.1 m comes.2.path h)) comes.2.asks

  -- ---- Processes

  got_kept : (ps : List Process) (i : ℕ) → EachProcess P ps → OfProcess P (slice_get ps i)
  got_kept [] i h = tt
  got_kept (p ∷ ps) zero h = h.0
  got_kept (p ∷ ps) (suc i) h = got_kept ps i h.1

  set_kept : (ps : List Process) (i : ℕ) (q : Process) → EachProcess P ps → InProcess P q → EachProcess P (slice_set ps i q)
  set_kept [] i q h g = tt
  set_kept (p ∷ ps) zero q h g = (g, h.1)
  set_kept (p ∷ ps) (suc i) q h g = (h.0, set_kept ps i q h.1 g)

  pushed_kept : (ps : List Process) (q : Process) → EachProcess P ps → InProcess P q → EachProcess P (ps ++ q ∷ [])
  pushed_kept [] q h g = (g, tt)
  pushed_kept (p ∷ ps) q h g = (h.0, pushed_kept ps q h.1 g)

  each_append : (vs ws : List Value) → EachOf P vs → EachOf P ws → EachOf P (vs ++ ws)
  each_append [] ws h g = g
  each_append (v ∷ vs) ws h g = (h.0, each_append vs ws h.1 g)

  process_kept : (m : Machine) (pid : ℕ) → InMachine P m → OfProcess P (process_at m pid)
  process_kept m zero h = tt
  process_kept m (suc before) h = got_kept m.processes before h.processes

  with_kept : (m : Machine) (pid : ℕ) (q : Process) → InMachine P m → InProcess P q → InMachine P (with_process m pid q)
  with_kept m zero q h g = h
  with_kept m (suc before) q h g = record { code = h.code; processes = set_kept m.processes before q h.processes g; shown = h.shown }

  asked_at_kept : (code : Module) (o : Option Process) → InModule P code → OfProcess P o → OfAsked P (ask_of_process code o)
  asked_at_kept code (Some (Running l unseen)) m h = ask_kept code l m h.0
  asked_at_kept code (Some (Over how)) m h = tt
  asked_at_kept code (Some (Left how)) m h = tt
  asked_at_kept code None m h = tt

  at_kept : (m : Machine) (pid : ℕ) → InMachine P m → OfAsked P (ask_at m pid)
  at_kept m pid h = asked_at_kept m.code (process_at m pid) h.code (process_kept m pid h)

  waiting_kept : (o : Option Process) → OfProcess P o → EachOf P (unseen_of o)
  waiting_kept (Some (Running l unseen)) h = h.1
  waiting_kept (Some (Over how)) h = tt
  waiting_kept (Some (Left how)) h = tt
  waiting_kept None h = tt

  unseen_kept : (m : Machine) (pid : ℕ) → InMachine P m → EachOf P (unseen_at m pid)
  unseen_kept m pid h = waiting_kept (process_at m pid) (process_kept m pid h)

  on_kept : (m : Machine) (pid : ℕ) (l : Local) → InMachine P m → InLocal P l → InMachine P (goes_on m pid l)
  on_kept m pid l h g = with_kept m pid (Running l (unseen_at m pid)) h (g, unseen_kept m pid h)

  received_kept : (v : Value) (p : Process) → P v → InProcess P p → InProcess P (receives v p)
  received_kept v (Running l unseen) h g = (g.0, each_append unseen (v ∷ []) g.1 (h, tt))
  received_kept v (Over how) h g = tt
  received_kept v (Left how) h g = tt

  delivered_kept : (m : Machine) (pid : ℕ) (v : Value) (o : Option Process) → InMachine P m → P v → OfProcess P o → InMachine P (delivered m pid v o)
  delivered_kept m pid v (Some p) h g i = with_kept m pid (receives v p) h (received_kept v p g i)
  delivered_kept m pid v None h g i = h

  fits_kept : (b : Bool) (m : Machine) → InMachine P m → OfMachine P (if_fits b m)
  fits_kept true m h = h
  fits_kept false m h = tt

  parts_kept : (vs : Values) → EachValue P vs → InTrees P (value_trees vs)
  parts_kept none h = tt
  parts_kept (more v vs) h = (h.0, parts_kept vs h.1)

  call_kept : (o : Option ℕ) (vs : Values) → EachValue P vs → InCourse P (call_of o vs)
  call_kept (Some f) vs h = parts_kept vs h
  call_kept None vs h = tt

  first_kept : (code : Module) (reductions pid name function : ℕ) (vs : Values) → EachValue P vs → InLocal P (first_of code reductions pid name function vs)
  first_kept code reductions pid name function vs h = (call_kept (exported_in (nat_eq name code.name) code function (count vs)) vs h, tt)

  truth_kept : P (truth true)
  truth_kept = kept.atoms a_true

  -- ---- Entries

  sends_kept : (m : Machine) (from to : ℕ) (o : Option NextAsk) → InMachine P m → OfAsked P o → OfMachine P (sends m from to o)
  sends_kept m from to (Some (Wants (SendTo receiver v) next)) h g =
      let n = goes_on m from (next v) in
      let i = on_kept m from (next v) h (g.1 v g.0) in
      fits_kept (nat_eq receiver to) (delivered n to v (process_at n to)) (delivered_kept n to v (process_at n to) i g.0 (process_kept n to i))
  sends_kept m from to _ h g = tt

  sees_kept : (m : Machine) (pid n : ℕ) (o : Option NextAsk) → InMachine P m → OfAsked P o → OfMachine P (sees m pid n o)
  sees_kept m pid n (Some (WantsMore l)) h g =
      let k : Local = record l { seen = l.seen ++ unseen_at m pid } in
      fits_kept (nat_eq n (length (unseen_at m pid)) && nat_le 1 n) (with_process m pid (Running k [])) (with_kept m pid (Running k []) h ((g.0, each_append l.seen (unseen_at m pid) g.1 (unseen_kept m pid h)), tt))
  sees_kept m pid n _ h g = tt

  shows_kept : (m : Machine) (pid : ℕ) (o : Option NextAsk) → InMachine P m → OfAsked P o → OfMachine P (shows m pid o)
  shows_kept m pid (Some (Wants (Show v) next)) h g =
      let n = goes_on m pid (next (truth true)) in
      let i = on_kept m pid (next (truth true)) h (g.1 (truth true) truth_kept) in
      record { code = i.code; processes = i.processes; shown = each_append n.shown (v ∷ []) i.shown (g.0, tt) }
  shows_kept m pid _ h g = tt

  starts_kept : (m : Machine) (pid child : ℕ) (o : Option NextAsk) → InMachine P m → OfAsked P o → OfMachine P (starts m pid child o)
  starts_kept m pid child (Some (Wants (Start name function vs) next)) h g =
      let n = goes_on m pid (next (VPid child)) in
      let i = on_kept m pid (next (VPid child)) h (g.1 (VPid child) (kept.pids child)) in
      let first = first_of m.code m.reductions child name function vs in
      fits_kept (nat_eq child (length m.processes + 1) && nat_le child process_bound) (with_child n first)
      (record { code = i.code; processes = pushed_kept n.processes (Running first []) i.processes (first_kept m.code m.reductions child name function vs g.0, tt); shown = i.shown })
  starts_kept m pid child _ h g = tt

  fills_kept : (m : Machine) (pid : ℕ) (o : Option NextAsk) → InMachine P m → OfAsked P o → OfMachine P (fills m pid o)
  fills_kept m pid (Some (Wants (Start name function vs) next)) h g =
      let k : Local = record (next (VAtom a_undef)) { course = Fell Limit } in
      fits_kept (nat_eq (length m.processes) process_bound) (goes_on m pid k) (on_kept m pid k h (tt, (g.1 (VAtom a_undef) (kept.atoms a_undef)).1))
  fills_kept m pid _ h g = tt

  ends_kept : (m : Machine) (pid : ℕ) (o : Option NextAsk) → InMachine P m → OfMachine P (ends m pid o)
  ends_kept m pid (Some EndsDone) h = with_kept m pid (Over Normal) h tt
  ends_kept m pid (Some (EndsRaised reason)) h = with_kept m pid (Over (Exit reason)) h tt
  ends_kept m pid _ h = tt

  stops_kept : (m : Machine) (pid : ℕ) (o : Option Process) → InMachine P m → OfMachine P (stops m pid o)
  stops_kept m pid (Some (Running l unseen)) h = fits_kept (all_at_rest m) (with_process m pid (Over Waiting)) (with_kept m pid (Over Waiting) h tt)
  stops_kept m pid _ h = tt

  leaves_kept : (m : Machine) (pid : ℕ) (o : Option Process) → InMachine P m → OfMachine P (leaves m pid o)
  leaves_kept m pid (Some (Over how)) h = with_kept m pid (Left how) h tt
  leaves_kept m pid _ h = tt

  applied_kept : (m : Machine) (e : Entry) → InMachine P m → OfMachine P (applied m e)
  applied_kept m (Sent from to) h = sends_kept m from to (ask_at m from) h (at_kept m from h)
  applied_kept m (Saw pid n) h = sees_kept m pid n (ask_at m pid) h (at_kept m pid h)
  applied_kept m (Shown pid) h = shows_kept m pid (ask_at m pid) h (at_kept m pid h)
  applied_kept m (Started pid child) h = starts_kept m pid child (ask_at m pid) h (at_kept m pid h)
  applied_kept m (Full pid) h = fills_kept m pid (ask_at m pid) h (at_kept m pid h)
  applied_kept m (Ended pid) h = ends_kept m pid (ask_at m pid) h
  applied_kept m (Stopped pid) h = stops_kept m pid (process_at m pid) h
  applied_kept m (Gone pid births drops moved) h = leaves_kept m pid (process_at m pid) h

  then_kept : (es : List Entry) (o : Option Machine) → ((m : Machine) → InMachine P m → OfMachine P (all_applied m es)) → OfMachine P o → OfMachine P (option_and_then (λ n. all_applied n es) o)
  then_kept es (Some m) f h = f m h
  then_kept es None f h = tt

  pub all_kept : (es : List Entry) (m : Machine) → InMachine P m → OfMachine P (all_applied m es)
  all_kept [] m h = h
  all_kept (e ∷ es) m h = then_kept es (applied m e) (all_kept es) (applied_kept m e h)

pub bounds_are_kept : BoundsAreKept
bounds_are_kept code l k cost made m h path = contracts_kept IsBounded bounds_kept code l k cost made m path h

pub orders_keep_bounds : OrdersKeepBounds
orders_keep_bounds m n es h leads = subst (OfMachine IsBounded) leads (all_kept IsBounded bounds_kept es m h)

pub start_is_bounded : StartIsBounded
start_is_bounded code reductions h = record {
  code = h;
  processes = ((first_kept IsBounded bounds_kept code reductions 1 code.name (number_in code.atoms (codes "main")) none tt, tt), tt);
  shown = tt;
}
