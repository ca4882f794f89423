-- After a complete order no process runs, and none is over and not yet gone.
use Rattle.std.proofs.Common.{List, [], ◌∷◌, ℕ, zero, suc, ◌≡◌, ◌⊎◌, inl, inr, Some, None, refl, ap}
use Rattle.std.specs.Prelude.{slice_get}
use Rattle.std.specs.List.{AllByRecursion}
use Rattle.term_value.specs.Machine.{End, Machine, Process, Running, Over, Left, IsGone, process_at, ask_at, ask_of_process, sends, sees, shows, starts, fills, ends, stops, leaves, applied}
use Rattle.term_laws.specs.Laws.{CompleteIsLast}
use Rattle.term_value.specs.declared.entry.Entry.{Entry}
use Rattle.term_value.specs.declared.entry.Entry.TheVariants.{Sent, Saw, Shown, Started, Full, Ended, Stopped, Gone}

-- a process that was started is gone
at_gone : (ps : List Process) (i : ℕ) → AllByRecursion IsGone ps → (slice_get ps i ≡ None) ⊎ ((how : End) × (slice_get ps i ≡ Some (Left how)))
at_gone [] i h = inl refl
at_gone (p ∷ ps) (suc i) h = at_gone ps i h.1
at_gone (Left how ∷ ps) zero h = inr (how, refl)
at_gone (Running local unseen ∷ ps) zero h = absurd h.0
at_gone (Over how ∷ ps) zero h = absurd h.0

process_gone : (m : Machine) (pid : ℕ) → AllByRecursion IsGone m.processes → (process_at m pid ≡ None) ⊎ ((how : End) × (process_at m pid ≡ Some (Left how)))
process_gone m zero h = inl refl
process_gone m (suc before) h = at_gone m.processes before h

asks_nothing : (m : Machine) (pid : ℕ) → AllByRecursion IsGone m.processes → ask_at m pid ≡ None
asks_nothing m pid h = elim (process_gone m pid h) [ inl e ↦ ap (ask_of_process m.code) e | inr e ↦ ap (ask_of_process m.code) e.1 ]

pub complete_is_last : CompleteIsLast
complete_is_last m (Sent from to) h = ap (sends m from to) (asks_nothing m from h)
complete_is_last m (Saw pid n) h = ap (sees m pid n) (asks_nothing m pid h)
complete_is_last m (Shown pid) h = ap (shows m pid) (asks_nothing m pid h)
complete_is_last m (Started pid child) h = ap (starts m pid child) (asks_nothing m pid h)
complete_is_last m (Full pid) h = ap (fills m pid) (asks_nothing m pid h)
complete_is_last m (Ended pid) h = ap (ends m pid) (asks_nothing m pid h)
complete_is_last m (Stopped pid) h = elim (process_gone m pid h) [ inl e ↦ ap (stops m pid) e | inr e ↦ ap (stops m pid) e.1 ]
complete_is_last m (Gone pid births drops moved) h = elim (process_gone m pid h) [ inl e ↦ ap (leaves m pid) e | inr e ↦ ap (leaves m pid) e.1 ]
