-- What an entry does to the machine.
use Rattle.std.proofs.Common.{◌≡◌, ℕ, zero, suc, ◌+◌, ◌<◌, ◌≤◌, ◌&&◌, Bool, true, false, List, [], ◌∷◌, ◌++◌, length, map, Option, Some, None, refl, sym, ap, ◌∙◌, subst, arith}
use Rattle.std.specs.Prelude.{slice_get, slice_set}
use Rattle.std.specs.List.{list_all}
use Rattle.std.proofs.lemmas.List.{map-append}
use borrow.Author.Count.{below_more}
use Rattle.term_value.specs.Value.{Value}
use Rattle.term_value.specs.Texts.{text}
use Rattle.term_value.specs.Tree.{Module}
use Rattle.term_value.specs.Step.{name_in}
use Rattle.term_value.specs.Local.{Local}
use Rattle.term_value.specs.Machine as m
use Rattle.term_value.specs.declared.entry.Entry.{Entry}
use Rattle.code_tree.specs.PlainTerms.{value}
use Rattle.code_tree.specs.Reading.{module_meant}
use Rattle.process_acts.specs.Acts.{Runs}
use Rattle.process_acts.specs.declared.asking.Asking.{Asking}
use Rattle.copy_machine.specs.Following.{StandsAt, IsRowOf, IsSound, AreRows, Follows, IsFollower}
use Rattle.copy_machine.specs.Entering.{Conditions, conditions, IsTimely, IsEffect, AllRest, Enters, RestsAt, rests_in, pid_of, took}
use Rattle.copy_machine.specs.declared.act.Effect.{Effect}
use Rattle.copy_machine.specs.declared.machine.Machine.{Machine}
use Rattle.copy_machine.specs.declared.row.Row.{Row}
use Rattle.copy_machine.specs.declared.row.Row.TheVariants as r
use Rattle.copy_machine.specs.declared.actor.Actor.{Actor}
use Rattle.process_acts.proofs.Paths.{none}
use Rattle.copy_machine.proofs.Rows.{absent, sound, row_at, no_row, set_row, kept_row, push_row, same_length}

abbrev at_place : m.Machine → ℕ → m.Process → m.Machine
at_place machine i p = record machine { processes = slice_set machine.processes i p }

-- ---- Whether all are at rest

and_false : (b : Bool) → (b && false) ≡ false
and_false true = refl
and_false false = refl

pub one_awake : (code : Module) (ps : List m.Process) (i : ℕ) → rests_in code (slice_get ps i) ≡ false → list_all (m.is_at_rest code) ps ≡ false
one_awake code [] i e = absurd (cc e)
one_awake code (p ∷ ps) zero e = ap (λ (b : Bool). b && list_all (m.is_at_rest code) ps) e
one_awake code (p ∷ ps) (suc i) e = ap (λ (b : Bool). m.is_at_rest code p && b) (one_awake code ps i e) ∙ and_false (m.is_at_rest code p)

pub one_more : (machine : m.Machine) (index : ℕ) → ((k : ℕ) → k < index → rests_in machine.code (slice_get machine.processes k) ≡ true) → rests_in machine.code (slice_get machine.processes index) ≡ true
    → (k : ℕ) → k < index + 1 → rests_in machine.code (slice_get machine.processes k) ≡ true
one_more machine index before at = below_more (λ (k : ℕ). rests_in machine.code (slice_get machine.processes k) ≡ true) index before at

pub all_asleep : (code : Module) (ps : List m.Process) → ((k : ℕ) → k < length ps → rests_in code (slice_get ps k) ≡ true) → list_all (m.is_at_rest code) ps ≡ true
all_asleep code [] each = refl
all_asleep code (p ∷ ps) each =
    let first : m.is_at_rest code p ≡ true = each 0 (omega arith) in
    ap (λ (b : Bool). b && list_all (m.is_at_rest code) ps) first ∙ all_asleep code ps (λ k h. each (suc k) (omega arith))

module _ {P : Type 0} (code_of : P → Module) (local_of : P → Local) (waits_of : P → Type 0) where
  -- with other rows for the same processes
  pub with_rows : (machine : m.Machine) (old new : Machine P) → Follows code_of local_of waits_of machine old → new.world ≡ old.world → new.shown.items ≡ old.shown.items
      → (ps : List m.Process) → AreRows code_of local_of waits_of machine.code ps new.rows.items → Follows code_of local_of waits_of (record machine { processes = ps }) new
  with_rows machine old new h world shown ps rows = record {
    code = h.code ∙ ap (λ w. module_meant w.code.now) (sym world);
    reductions = h.reductions ∙ ap (λ w. w.reductions) (sym world);
    rows = rows;
    shown = shown ∙ h.shown;
  }

  pub sound_at : (old : Machine P) (i : ℕ) (row : Row P) → IsFollower code_of local_of waits_of old → slice_get old.rows.items i ≡ Some row → IsSound code_of local_of waits_of row
  sound_at old i row h e = let w = row_at code_of local_of waits_of h.0.code h.0.processes old.rows.items i row h.1.rows e in sound code_of local_of waits_of h.0.code w.0 row w.2

  pub rests_at : (index : ℕ) (rests : Bool) (row now : Row P) (old new : Machine P) → slice_get old.rows.items index ≡ Some row
      → ((code : Module) (p : m.Process) → IsRowOf code_of local_of waits_of code p row → IsRowOf code_of local_of waits_of code p now × (rests ≡ m.is_at_rest code p))
      → new.world ≡ old.world → new.shown.items ≡ old.shown.items → new.rows.items ≡ slice_set old.rows.items index now
      → (machine : m.Machine) → Follows code_of local_of waits_of machine old → RestsAt code_of local_of waits_of machine index rests new
  rests_at index rests row now old new e each world shown is machine h =
      let w = row_at code_of local_of waits_of machine.code machine.processes old.rows.items index row h.rows e in
      let d = each machine.code w.0 w.2 in (
        with_rows machine old new h world shown machine.processes
            (subst (λ (xs : List (Row P)). AreRows code_of local_of waits_of machine.code machine.processes xs) (sym is) (kept_row code_of local_of waits_of machine.code machine.processes old.rows.items index w.0 now h.rows w.1 d.0)),
        d.1 ∙ ap (rests_in machine.code) (sym w.1),
      )

  pub rests_nowhere : (index : ℕ) (old : Machine P) → slice_get old.rows.items index ≡ None → (machine : m.Machine) → Follows code_of local_of waits_of machine old → RestsAt code_of local_of waits_of machine index true old
  rests_nowhere index old e machine h = (h, sym (ap (rests_in machine.code) (no_row code_of local_of waits_of machine.code machine.processes old.rows.items index h.rows e)))

  alike : (machine : m.Machine) (old : Machine P) → Follows code_of local_of waits_of machine old → record { code = machine.code; reductions = machine.reductions; started = length machine.processes } ≡ conditions old.world.code.now old.world.reductions (length old.rows.items)
  alike machine old h =
      let set : Module → ℕ → ℕ → Conditions = λ code reductions started. record { code = code; reductions = reductions; started = started } in
      ap (λ (x : Module). set x machine.reductions (length machine.processes)) h.code
      ∙ ap (λ (x : ℕ). set (module_meant old.world.code.now) x (length machine.processes)) h.reductions
      ∙ ap (set (module_meant old.world.code.now) old.world.reductions) (same_length code_of local_of waits_of machine.code machine.processes old.rows.items h.rows)

  -- ---- An entry of a process that is not there

  pub enters_none : (entry : Entry) (old : Machine P) → pid_of entry ≡ 0 → (machine : m.Machine) → Follows code_of local_of waits_of machine old → IsTimely entry machine → Enters code_of local_of waits_of machine entry None old
  enters_none entry old e machine h timely = (absent machine entry (ap (m.process_at machine) e), h)

  pub enters_nowhere : (entry : Entry) (i : ℕ) (old : Machine P) → pid_of entry ≡ suc i → slice_get old.rows.items i ≡ None → (machine : m.Machine) → Follows code_of local_of waits_of machine old → IsTimely entry machine → Enters code_of local_of waits_of machine entry None old
  enters_nowhere entry i old e none machine h timely =
      (absent machine entry (ap (m.process_at machine) e ∙ no_row code_of local_of waits_of machine.code machine.processes old.rows.items i h.rows none), h)

  -- ---- An entry of a process

  pub enters_row : (entry : Entry) (started i : ℕ) (row now : Row P) (effect : Option (Effect P)) (old new : Machine P) → started ≡ length old.rows.items → pid_of entry ≡ suc i → slice_get old.rows.items i ≡ Some row
      → ((s : Conditions) → s ≡ conditions old.world.code.now old.world.reductions started → (p : m.Process) → IsRowOf code_of local_of waits_of s.code p row → IsEffect code_of local_of waits_of s entry p effect now)
      → new.world ≡ old.world → new.shown.items ≡ old.shown.items → new.rows.items ≡ slice_set old.rows.items i now
      → (machine : m.Machine) → Follows code_of local_of waits_of machine old → IsTimely entry machine → Enters code_of local_of waits_of machine entry effect new
  enters_row entry started i row now None old new many e at each world shown is machine h timely =
      let s : Conditions = record { code = machine.code; reductions = machine.reductions; started = length machine.processes } in
      let w = row_at code_of local_of waits_of machine.code machine.processes old.rows.items i row h.rows at in
      let same : s ≡ conditions old.world.code.now old.world.reductions started = alike machine old h ∙ ap (conditions old.world.code.now old.world.reductions) (sym many) in
      let d = each s same w.0 w.2 in
      let stands : m.process_at machine (pid_of entry) ≡ Some w.0 = ap (m.process_at machine) e ∙ w.1 in (
        d.1 machine (record { code = refl; reductions = refl; started = refl; stands = stands; timely = timely }),
        with_rows machine old new h world shown machine.processes
            (subst (λ (xs : List (Row P)). AreRows code_of local_of waits_of machine.code machine.processes xs) (sym is) (kept_row code_of local_of waits_of machine.code machine.processes old.rows.items i w.0 now h.rows w.1 d.0)),
      )
  enters_row entry started i row now (Some effect) old new many e at each world shown is machine h timely =
      let s : Conditions = record { code = machine.code; reductions = machine.reductions; started = length machine.processes } in
      let w = row_at code_of local_of waits_of machine.code machine.processes old.rows.items i row h.rows at in
      let same : s ≡ conditions old.world.code.now old.world.reductions started = alike machine old h ∙ ap (conditions old.world.code.now old.world.reductions) (sym many) in
      let d = each s same w.0 w.2 in
      let stands : m.process_at machine (pid_of entry) ≡ Some w.0 = ap (m.process_at machine) e ∙ w.1 in (
        at_place machine i d.0,
        with_rows machine old new h world shown (slice_set machine.processes i d.0)
            (subst (λ (xs : List (Row P)). AreRows code_of local_of waits_of machine.code (slice_set machine.processes i d.0) xs) (sym is) (set_row code_of local_of waits_of machine.code machine.processes old.rows.items i d.0 now h.rows d.1)),
        d.2,
        d.3 machine (record { code = refl; reductions = refl; started = refl; stands = stands; timely = timely }) ∙ ap (λ (x : ℕ). Some (took local_of effect (m.with_process machine x d.0))) e,
      )

  -- ---- What an entry does beside

  pub delivers_row : (to i : ℕ) (v : Value) (row now : Row P) (old new : Machine P) → to ≡ suc i → slice_get old.rows.items i ≡ Some row
      → ((code : Module) (p : m.Process) → IsRowOf code_of local_of waits_of code p row → IsRowOf code_of local_of waits_of code (m.receives v p) now)
      → new.world ≡ old.world → new.shown.items ≡ old.shown.items → new.rows.items ≡ slice_set old.rows.items i now
      → (machine : m.Machine) → Follows code_of local_of waits_of machine old → Follows code_of local_of waits_of (m.delivered machine to v (m.process_at machine to)) new
  delivers_row to i v row now old new e at each world shown is machine h =
      let w = row_at code_of local_of waits_of machine.code machine.processes old.rows.items i row h.rows at in
      let goes : m.delivered machine to v (m.process_at machine to) ≡ at_place machine i (m.receives v w.0) =
      ap (λ (x : ℕ). m.delivered machine x v (m.process_at machine x)) e ∙ ap (m.delivered machine (suc i) v) w.1 in
      subst (λ (x : m.Machine). Follows code_of local_of waits_of x new) (sym goes)
      (with_rows machine old new h world shown (slice_set machine.processes i (m.receives v w.0))
      (subst (λ (xs : List (Row P)). AreRows code_of local_of waits_of machine.code (slice_set machine.processes i (m.receives v w.0)) xs) (sym is) (set_row code_of local_of waits_of machine.code machine.processes old.rows.items i (m.receives v w.0) now h.rows (each machine.code w.0 w.2))))

  pub delivers_none : (to : ℕ) (v : Value) (old : Machine P) → to ≡ 0 → (machine : m.Machine) → Follows code_of local_of waits_of machine old → Follows code_of local_of waits_of (m.delivered machine to v (m.process_at machine to)) old
  delivers_none to v old e machine h =
      subst (λ (x : m.Machine). Follows code_of local_of waits_of x old) (sym (ap (λ (x : ℕ). m.delivered machine x v (m.process_at machine x)) e)) h

  pub delivers_nowhere : (to i : ℕ) (v : Value) (old : Machine P) → to ≡ suc i → slice_get old.rows.items i ≡ None → (machine : m.Machine) → Follows code_of local_of waits_of machine old
      → Follows code_of local_of waits_of (m.delivered machine to v (m.process_at machine to)) old
  delivers_nowhere to i v old e none machine h =
      let goes : m.delivered machine to v (m.process_at machine to) ≡ machine =
      ap (λ (x : ℕ). m.delivered machine x v (m.process_at machine x)) e ∙ ap (m.delivered machine (suc i) v) (no_row code_of local_of waits_of machine.code machine.processes old.rows.items i h.rows none) in
      subst (λ (x : m.Machine). Follows code_of local_of waits_of x old) (sym goes) h

  pub starts_row : (process : P) (row : Row P) (old new : Machine P) → IsRowOf code_of local_of waits_of (code_of process) (m.Running (local_of process) []) row → new.world ≡ old.world → new.shown.items ≡ old.shown.items → new.rows.items ≡ old.rows.items ++ row ∷ []
      → (machine : m.Machine) → Follows code_of local_of waits_of machine old → code_of process ≡ machine.code → Follows code_of local_of waits_of (m.with_child machine (local_of process)) new
  starts_row process row old new is world shown more machine h same =
      with_rows machine old new h world shown (machine.processes ++ m.Running (local_of process) [] ∷ [])
      (subst (λ (xs : List (Row P)). AreRows code_of local_of waits_of machine.code (machine.processes ++ m.Running (local_of process) [] ∷ []) xs) (sym more)
      (push_row code_of local_of waits_of machine.code machine.processes old.rows.items (m.Running (local_of process) []) row h.rows (subst (λ (x : Module). IsRowOf code_of local_of waits_of x (m.Running (local_of process) []) row) same is)))

  -- a process at its start
  pub begins_row : (process : P) (actor : Actor P) → actor.process ≡ process → actor.unseen.items ≡ [] → actor.ask ≡ None → IsRowOf code_of local_of waits_of (code_of process) (m.Running (local_of process) []) (r.Running actor)
  begins_row process actor e unseen ask = record {
    code = ap code_of e;
    runs = subst (λ (x : P). Runs (code_of process) (local_of process) (local_of x)) (sym e) (none (code_of process) (local_of process));
    unseen = ap (map value) (sym unseen);
    stands = subst (λ (o : Option Asking). StandsAt code_of local_of waits_of actor.process o) (sym ask) tt;
  }

  pub begins : (process : P) (actor : Actor P) (rows : List (Row P)) (c : Machine P) → code_of process ≡ module_meant c.world.code.now → IsRowOf code_of local_of waits_of (code_of process) (m.Running (local_of process) []) (r.Running actor)
      → rows ≡ [] → c.rows.items ≡ rows ++ r.Running actor ∷ [] → c.shown.items ≡ [] → Follows code_of local_of waits_of (m.beginning (module_meant c.world.code.now) c.world.reductions (local_of process)) c
  begins process actor rows c same is no_rows more no_shown =
      let own = module_meant c.world.code.now in
      let all : c.rows.items ≡ r.Running actor ∷ [] = more ∙ ap (λ (xs : List (Row P)). xs ++ r.Running actor ∷ []) no_rows in
      let one : AreRows code_of local_of waits_of own (m.Running (local_of process) [] ∷ []) (r.Running actor ∷ []) = (subst (λ (x : Module). IsRowOf code_of local_of waits_of x (m.Running (local_of process) []) (r.Running actor)) same is, tt) in
      record {
        code = refl;
        reductions = refl;
        rows = subst (λ (xs : List (Row P)). AreRows code_of local_of waits_of own (m.Running (local_of process) [] ∷ []) xs) (sym all) one;
        shown = no_shown;
      }

  pub shows_text : (shown : Value) (line : List ℕ) (old new : Machine P) → line ≡ text (name_in (module_meant old.world.code.now)) shown → new.world ≡ old.world → new.rows.items ≡ old.rows.items → new.shown.items ≡ old.shown.items ++ line ∷ []
      → (machine : m.Machine) → Follows code_of local_of waits_of machine old → Follows code_of local_of waits_of (m.with_shown machine shown) new
  shows_text shown line old new is world rows more machine h = record {
    code = h.code ∙ ap (λ w. module_meant w.code.now) (sym world);
    reductions = h.reductions ∙ ap (λ w. w.reductions) (sym world);
    rows = subst (λ (xs : List (Row P)). AreRows code_of local_of waits_of machine.code machine.processes xs) (sym rows) h.rows;
    shown = more
        ∙ ap (λ (xs : List (List ℕ)). xs ++ line ∷ []) h.shown
        ∙ ap (λ (x : List ℕ). map (text (name_in machine.code)) machine.shown ++ x ∷ []) (is ∙ ap (λ (x : Module). text (name_in x) shown) (sym h.code))
        ∙ sym (map-append (text (name_in machine.code)) machine.shown (shown ∷ []));
  }

  -- ---- Whether all are at rest

  -- those before this place are
  abbrev pub RestBefore : m.Machine → ℕ → Machine P → Type 0
  RestBefore machine index c = Follows code_of local_of waits_of machine c × ((k : ℕ) → k < index → rests_in machine.code (slice_get machine.processes k) ≡ true)

  pub rest_more : (machine : m.Machine) (index : ℕ) (rests : Bool) (old new : Machine P) → RestBefore machine index old → RestsAt code_of local_of waits_of machine index rests new → rests ≡ true → RestBefore machine (index + 1) new
  rest_more machine index rests old new before at is = (at.0, λ k h. one_more machine index before.1 (sym at.1 ∙ is) k h)

  pub rest_not : (machine : m.Machine) (index : ℕ) (rests : Bool) (old new : Machine P) → RestBefore machine index old → RestsAt code_of local_of waits_of machine index rests new → rests ≡ false → AllRest code_of local_of waits_of machine false new
  rest_not machine index rests old new before at is = (at.0, sym (one_awake machine.code machine.processes index (sym at.1 ∙ is)))

  pub rest_all : (machine : m.Machine) (index : ℕ) (first old : Machine P) → Follows code_of local_of waits_of machine first → length first.rows.items ≤ index → RestBefore machine index old → AllRest code_of local_of waits_of machine true old
  rest_all machine index first old h many before =
      let same : length machine.processes ≡ length first.rows.items = same_length code_of local_of waits_of machine.code machine.processes first.rows.items h.rows in
      (before.0, sym (all_asleep machine.code machine.processes (λ k lt. before.1 k (omega arith))))
