-- What stays as a process goes on by itself.
use Rattle.std.proofs.Common.{◌≡◌, ℕ, false, map, Option, Some, None, is_some, sym, ap, ◌∙◌, subst, List}
use Rattle.std.specs.Prelude.{slice_get, slice_set}
use Rattle.term_value.specs.Tree.{Module}
use Rattle.term_value.specs.Local.{Local}
use Rattle.term_value.specs.Machine as m
use Rattle.code_tree.specs.PlainTerms.{value}
use Rattle.process_acts.specs.Acts.{Runs}
use Rattle.process_acts.proofs.Paths.{on_from}
use Rattle.process_acts.specs.declared.asking.Asking.{Asking}
use Rattle.copy_machine.specs.Following.{StandsAt, AreRows}
use Rattle.copy_machine.specs.Proceeding.{Keeps, KeepsActor, KeepsRow}
use Rattle.copy_machine.specs.declared.actor.Actor.{Actor}
use Rattle.copy_machine.specs.declared.machine.Machine.{Machine}
use Rattle.copy_machine.specs.declared.row.Row.{Row}
use Rattle.copy_machine.proofs.Machines.{with_rows}
use Rattle.copy_machine.proofs.Rows.{row_at, kept_row}

module _ {P : Type 0} (code_of : P → Module) (local_of : P → Local) (waits_of : P → Type 0) where
  pub ran : (old new : Actor P) → code_of new.process ≡ code_of old.process → Runs (code_of old.process) (local_of old.process) (local_of new.process) → new.unseen.items ≡ old.unseen.items
      → StandsAt code_of local_of waits_of new.process new.ask → KeepsActor code_of local_of waits_of old new
  ran old new code runs unseen stands own (m.Running l vs) h = record {
    code = code ∙ h.code;
    runs = on_from own (code_of old.process) l (local_of old.process) (local_of new.process) h.code h.runs runs;
    unseen = h.unseen ∙ ap (map value) (sym unseen);
    stands = stands;
  }
  ran old new code runs unseen stands own (m.Over how) h = absurd h
  ran old new code runs unseen stands own (m.Left how) h = absurd h

  pub not_yet : (process : P) (o : Option Asking) → is_some o ≡ false → StandsAt code_of local_of waits_of process o
  not_yet process (Some ask) e = absurd (cc e)
  not_yet process None e = tt

  pub row_kept : (index : ℕ) (row now : Row P) (old new : Machine P) → slice_get old.rows.items index ≡ Some row → KeepsRow code_of local_of waits_of row now
      → new.world ≡ old.world → new.shown.items ≡ old.shown.items → new.rows.items ≡ slice_set old.rows.items index now → Keeps code_of local_of waits_of old new
  row_kept index row now old new e keeps world shown is machine h =
      let w = row_at code_of local_of waits_of machine.code machine.processes old.rows.items index row h.rows e in
      with_rows code_of local_of waits_of machine old new h world shown machine.processes
      (subst (λ (xs : List (Row P)). AreRows code_of local_of waits_of machine.code machine.processes xs) (sym is) (kept_row code_of local_of waits_of machine.code machine.processes old.rows.items index w.0 now h.rows w.1 (keeps machine.code w.0 w.2)))
