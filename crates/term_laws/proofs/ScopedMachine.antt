-- The copying machine of a scoped module stays scoped.
use Rattle.std.proofs.Common.{◌≡◌, ℕ, zero, suc, ◌+◌, ◌&&◌, Bool, true, false, List, [], ◌∷◌, Option, Some, None, refl, subst, length}
use Rattle.std.specs.Prelude.{nat_eq, nat_le, slice_get, option_and_then}
use Rattle.std.specs.List.{All}
use Rattle.std.proofs.lemmas.List.Elements.{All-nil, All-cons, All-push, All-set}
use Rattle.std.proofs.lemmas.Option.{slice_get_within, get_or_from_slice_get}
use Rattle.term_value.specs.Value.{Value, VPid, Values, none, more}
use Rattle.term_value.specs.Result.{truth}
use Rattle.term_value.specs.Tree.{Module}
use Rattle.term_value.specs.Step.{SendTo, Show, Start}
use Rattle.term_value.specs.Local.{Local, Next, On, Asking, ForMore, Done, Raised, next_of, NextAsk, Wants, WantsMore, EndsDone, EndsRaised, asked, Contracts, stands, contracts}
use Rattle.term_value.specs.AskOf.{ask_of}
use Rattle.term_value.specs.Machine.{Process, Running, Over, Left, Machine, process_at, with_process, ask_of_process, ask_at, unseen_at, goes_on, value_trees, call_of, receives, delivered, with_child, all_at_rest, if_fits, sends, sees, shows, starts, fills, ends, stops, leaves, applied, all_applied, process_bound, start_of}
use Rattle.term_value.specs.declared.entry.Entry.{Entry}
use Rattle.term_value.specs.declared.entry.Entry.TheVariants.{Sent, Saw, Shown, Started, Full, Ended, Stopped, Gone}
use Rattle.term_laws.proofs.Finishes.{each_asks}
use Rattle.term_laws.specs.Scoped.{AreScoped, IsModuleScoped, IsCourseScoped, IsNextScoped, IsProcessScoped, IsMachineScoped}
use Rattle.term_laws.proofs.ScopedSteps.{next_scoped}

pub contracts_scoped : (code : Module) (l k : Local) (cost made : ℕ) → Contracts code l cost made k → IsModuleScoped code → IsCourseScoped l.course → IsCourseScoped k.course
contracts_scoped code _ _ _ _ (stands l) m h = h
contracts_scoped code _ _ _ _ (contracts l mid k cost made costs mades e c) m h = contracts_scoped code mid k costs mades c m (subst IsNextScoped e (next_scoped code l m h))

-- what is asked for goes on to what is scoped
abbrev IsAskScoped : NextAsk → Type 0
IsAskScoped (Wants ask next) = (v : Value) → IsCourseScoped (next v).course
IsAskScoped (WantsMore l) = IsCourseScoped l.course
IsAskScoped _ = Unit {0}

abbrev IsSomeScoped : Option NextAsk → Type 0
IsSomeScoped (Some ask) = IsAskScoped ask
IsSomeScoped None = Unit {0}

asked_scoped : (next : Next) → IsNextScoped next → IsSomeScoped (asked next)
asked_scoped (On cost made l) h = tt
asked_scoped (Asking ask next) h = h
asked_scoped (ForMore l) h = h
asked_scoped Done h = tt
asked_scoped (Raised reason) h = tt

ask_scoped : (code : Module) (l : Local) → IsModuleScoped code → IsCourseScoped l.course → IsAskScoped (ask_of code l)
ask_scoped code l m h =
    let a = each_asks code l in
    let leads = a.2 in
    subst IsSomeScoped leads.asks (asked_scoped (next_of code leads.state) (next_scoped code leads.state m (contracts_scoped code l leads.state a.0 a.1 leads.path m h)))

process_ask_scoped : (code : Module) (o : Option Process) → IsModuleScoped code → ((p : Process) → o ≡ Some p → IsProcessScoped p) → IsSomeScoped (ask_of_process code o)
process_ask_scoped code (Some (Running local unseen)) m h = ask_scoped code local m (h (Running local unseen) refl)
process_ask_scoped code (Some (Over how)) m h = tt
process_ask_scoped code (Some (Left how)) m h = tt
process_ask_scoped code None m h = tt

values_scoped : (vs : Values) → AreScoped [] (value_trees vs)
values_scoped none = tt
values_scoped (more v vs) = (tt, values_scoped vs)

call_scoped : (o : Option ℕ) (vs : Values) → IsCourseScoped (call_of o vs)
call_scoped (Some function) vs = values_scoped vs
call_scoped None vs = tt

module _ (m : Machine) (h : IsMachineScoped m) where
  found_scoped : (processes : List Process) (before : ℕ) (p : Process) → All IsProcessScoped processes → slice_get processes before ≡ Some p → IsProcessScoped p
  found_scoped processes before p a e = subst IsProcessScoped (get_or_from_slice_get processes before p p e) (a before p (slice_get_within processes before p e))

  at_scoped : (pid : ℕ) (p : Process) → process_at m pid ≡ Some p → IsProcessScoped p
  at_scoped zero p e = absurd (cc e)
  at_scoped (suc before) p e = found_scoped m.processes before p h.processes e

  asks_scoped : (pid : ℕ) → IsSomeScoped (ask_at m pid)
  asks_scoped pid = process_ask_scoped m.code (process_at m pid) h.code (at_scoped pid)

with_scoped : (m : Machine) (pid : ℕ) (p : Process) → IsMachineScoped m → IsProcessScoped p → IsMachineScoped (with_process m pid p)
with_scoped m zero p h g = h
with_scoped m (suc before) p h g = record { code = h.code; processes = All-set IsProcessScoped m.processes before p g h.processes }

receives_scoped : (v : Value) (p : Process) → IsProcessScoped p → IsProcessScoped (receives v p)
receives_scoped v (Running local unseen) h = h
receives_scoped v (Over how) h = tt
receives_scoped v (Left how) h = tt

delivered_scoped : (m : Machine) (pid : ℕ) (v : Value) (o : Option Process) → IsMachineScoped m → ((p : Process) → o ≡ Some p → IsProcessScoped p) → IsMachineScoped (delivered m pid v o)
delivered_scoped m pid v (Some p) h g = with_scoped m pid (receives v p) h (receives_scoped v p (g p refl))
delivered_scoped m pid v None h g = h

child_scoped : (m : Machine) (local : Local) → IsMachineScoped m → IsCourseScoped local.course → IsMachineScoped (with_child m local)
child_scoped m local h g = record { code = h.code; processes = All-push IsProcessScoped m.processes (Running local []) h.processes g }

-- the state behind an entry, if it fits
abbrev IsGiven : Option Machine → Type 0
IsGiven (Some n) = IsMachineScoped n
IsGiven None = Unit {0}

fits_scoped : (b : Bool) (n : Machine) → IsMachineScoped n → IsGiven (if_fits b n)
fits_scoped true n h = h
fits_scoped false n h = tt

module _ (m : Machine) (h : IsMachineScoped m) where
  on_scoped : (pid : ℕ) (local : Local) → IsCourseScoped local.course → IsMachineScoped (goes_on m pid local)
  on_scoped pid local g = with_scoped m pid (Running local (unseen_at m pid)) h g

  sends_scoped : (from to : ℕ) (o : Option NextAsk) → IsSomeScoped o → IsGiven (sends m from to o)
  sends_scoped from to (Some (Wants (SendTo receiver v) next)) g =
      let n = on_scoped from (next v) (g v) in fits_scoped (nat_eq receiver to) _ (delivered_scoped _ to v _ n (at_scoped _ n to))
  sends_scoped from to _ g = tt

  sees_scoped : (pid n : ℕ) (o : Option NextAsk) → IsSomeScoped o → IsGiven (sees m pid n o)
  sees_scoped pid n (Some (WantsMore local)) g = fits_scoped (nat_eq n (length (unseen_at m pid)) && nat_le 1 n) _ (with_scoped m pid _ h g)
  sees_scoped pid n _ g = tt

  shows_scoped : (pid : ℕ) (o : Option NextAsk) → IsSomeScoped o → IsGiven (shows m pid o)
  shows_scoped pid (Some (Wants (Show v) next)) g = let n = on_scoped pid (next (truth true)) (g (truth true)) in record { code = n.code; processes = n.processes }
  shows_scoped pid _ g = tt

  starts_scoped : (pid child : ℕ) (o : Option NextAsk) → IsSomeScoped o → IsGiven (starts m pid child o)
  starts_scoped pid child (Some (Wants (Start module_name function vs) next)) g =
      fits_scoped (nat_eq child (length m.processes + 1) && nat_le child process_bound) _ (child_scoped _ _ (on_scoped pid (next (VPid child)) (g (VPid child))) (call_scoped _ vs))
  starts_scoped pid child _ g = tt

  fills_scoped : (pid : ℕ) (o : Option NextAsk) → IsSomeScoped o → IsGiven (fills m pid o)
  fills_scoped pid (Some (Wants (Start module_name function vs) next)) g = fits_scoped (nat_eq (length m.processes) process_bound) _ (on_scoped pid _ tt)
  fills_scoped pid _ g = tt

  ends_scoped : (pid : ℕ) (o : Option NextAsk) → IsGiven (ends m pid o)
  ends_scoped pid (Some EndsDone) = with_scoped m pid _ h tt
  ends_scoped pid (Some (EndsRaised reason)) = with_scoped m pid _ h tt
  ends_scoped pid _ = tt

  stops_scoped : (pid : ℕ) (o : Option Process) → IsGiven (stops m pid o)
  stops_scoped pid (Some (Running local unseen)) = fits_scoped (all_at_rest m) _ (with_scoped m pid _ h tt)
  stops_scoped pid _ = tt

  leaves_scoped : (pid : ℕ) (o : Option Process) → IsGiven (leaves m pid o)
  leaves_scoped pid (Some (Over how)) = with_scoped m pid _ h tt
  leaves_scoped pid _ = tt

  applied_scoped : (entry : Entry) → IsGiven (applied m entry)
  applied_scoped (Sent from to) = sends_scoped from to (ask_at m from) (asks_scoped m h from)
  applied_scoped (Saw pid n) = sees_scoped pid n (ask_at m pid) (asks_scoped m h pid)
  applied_scoped (Shown pid) = shows_scoped pid (ask_at m pid) (asks_scoped m h pid)
  applied_scoped (Started pid child) = starts_scoped pid child (ask_at m pid) (asks_scoped m h pid)
  applied_scoped (Full pid) = fills_scoped pid (ask_at m pid) (asks_scoped m h pid)
  applied_scoped (Ended pid) = ends_scoped pid (ask_at m pid)
  applied_scoped (Stopped pid) = stops_scoped pid (process_at m pid)
  applied_scoped (Gone pid births drops moved) = leaves_scoped pid (process_at m pid)

and_scoped : (entries : List Entry) (o : Option Machine) → ((n : Machine) → IsMachineScoped n → IsGiven (all_applied n entries)) → IsGiven o → IsGiven (option_and_then (λ n. all_applied n entries) o)
and_scoped entries (Some n) f h = f n h
and_scoped entries None f h = tt

all_scoped : (entries : List Entry) (m : Machine) → IsMachineScoped m → IsGiven (all_applied m entries)
all_scoped [] m h = h
all_scoped (entry ∷ entries) m h = and_scoped entries (applied m entry) (all_scoped entries) (applied_scoped m h entry)

pub leads_scoped : (m n : Machine) (entries : List Entry) → all_applied m entries ≡ Some n → IsMachineScoped m → IsMachineScoped n
leads_scoped m n entries e h = subst IsGiven e (all_scoped entries m h)

pub start_scoped : (code : Module) (reductions : ℕ) → IsModuleScoped code → IsMachineScoped (start_of code reductions)
start_scoped code reductions h = record { code = h; processes = All-cons IsProcessScoped _ [] (call_scoped _ none) (All-nil IsProcessScoped) }
