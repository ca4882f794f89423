-- The rows of processes, and what an entry does to one.
use Rattle.std.proofs.Common.{◌≡◌, ℕ, zero, suc, ◌<◌, ◌≤◌, Bool, true, false, List, [], ◌∷◌, ◌++◌, length, map, Option, Some, None, refl, sym, ap, ◌∙◌, subst, arith}
use Rattle.std.specs.Prelude.{slice_get, slice_index_or, slice_set}
use Rattle.std.proofs.lemmas.List.{map-append}
use Rattle.term_value.specs.Value.{Value}
use Rattle.term_value.specs.Seen.{Seen}
use Rattle.term_value.specs.Tree.{Module}
use Rattle.term_value.specs.Local.{Local}
use Rattle.term_value.specs.Machine as m
use Rattle.term_value.specs.declared.entry.Entry.{Entry}
use Rattle.term_value.specs.declared.entry.Entry.TheVariants.{Sent, Saw, Shown, Started, Full, Ended, Stopped, Gone}
use Rattle.code_tree.specs.PlainTerms.{value}
use Rattle.process_acts.specs.Acts.{Runs}
use Rattle.process_acts.specs.declared.asking.Asking.{Asking}
use Rattle.copy_machine.specs.Following.{StandsAt, Plays, IsRowOf, IsSound, AreRows}
use Rattle.copy_machine.specs.Entering.{Conditions, Acts, IsEffect, pid_of, is_gone}
use Rattle.copy_machine.specs.declared.act.Act.{Act}
use Rattle.copy_machine.specs.declared.act.Act.TheVariants.{Ends}
use Rattle.copy_machine.specs.declared.act.Effect.TheVariants as f
use Rattle.copy_machine.specs.declared.actor.Actor.{Actor}
use Rattle.copy_machine.specs.declared.ending.Ending.{Ending}
use Rattle.copy_machine.specs.declared.row.Row.{Row}
use Rattle.copy_machine.specs.declared.row.Row.TheVariants as r

some_same : {X : Type 0} {x y : X} → Some x ≡ Some y → x ≡ y
some_same e = cc e

-- ---- Entries of no process that runs

-- no entry fits a process that is not there
pub absent : (machine : m.Machine) (entry : Entry) → m.process_at machine (pid_of entry) ≡ None → m.applied machine entry ≡ None
absent machine (Sent from to) e = ap (λ (o : Option m.Process). m.sends machine from to (m.ask_of_process machine.code o)) e
absent machine (Saw pid n) e = ap (λ (o : Option m.Process). m.sees machine pid n (m.ask_of_process machine.code o)) e
absent machine (Shown pid) e = ap (λ (o : Option m.Process). m.shows machine pid (m.ask_of_process machine.code o)) e
absent machine (Started pid child) e = ap (λ (o : Option m.Process). m.starts machine pid child (m.ask_of_process machine.code o)) e
absent machine (Full pid) e = ap (λ (o : Option m.Process). m.fills machine pid (m.ask_of_process machine.code o)) e
absent machine (Ended pid) e = ap (λ (o : Option m.Process). m.ends machine pid (m.ask_of_process machine.code o)) e
absent machine (Stopped pid) e = ap (m.stops machine pid) e
absent machine (Gone pid births drops moved) e = ap (m.leaves machine pid) e

left_refused : (machine : m.Machine) (entry : Entry) (how : m.End) → m.process_at machine (pid_of entry) ≡ Some (m.Left how) → m.applied machine entry ≡ None
left_refused machine (Sent from to) how e = ap (λ (o : Option m.Process). m.sends machine from to (m.ask_of_process machine.code o)) e
left_refused machine (Saw pid n) how e = ap (λ (o : Option m.Process). m.sees machine pid n (m.ask_of_process machine.code o)) e
left_refused machine (Shown pid) how e = ap (λ (o : Option m.Process). m.shows machine pid (m.ask_of_process machine.code o)) e
left_refused machine (Started pid child) how e = ap (λ (o : Option m.Process). m.starts machine pid child (m.ask_of_process machine.code o)) e
left_refused machine (Full pid) how e = ap (λ (o : Option m.Process). m.fills machine pid (m.ask_of_process machine.code o)) e
left_refused machine (Ended pid) how e = ap (λ (o : Option m.Process). m.ends machine pid (m.ask_of_process machine.code o)) e
left_refused machine (Stopped pid) how e = ap (m.stops machine pid) e
left_refused machine (Gone pid births drops moved) how e = ap (m.leaves machine pid) e

over_refused : (machine : m.Machine) (entry : Entry) (how : m.End) → is_gone entry ≡ false → m.process_at machine (pid_of entry) ≡ Some (m.Over how) → m.applied machine entry ≡ None
over_refused machine (Sent from to) how g e = ap (λ (o : Option m.Process). m.sends machine from to (m.ask_of_process machine.code o)) e
over_refused machine (Saw pid n) how g e = ap (λ (o : Option m.Process). m.sees machine pid n (m.ask_of_process machine.code o)) e
over_refused machine (Shown pid) how g e = ap (λ (o : Option m.Process). m.shows machine pid (m.ask_of_process machine.code o)) e
over_refused machine (Started pid child) how g e = ap (λ (o : Option m.Process). m.starts machine pid child (m.ask_of_process machine.code o)) e
over_refused machine (Full pid) how g e = ap (λ (o : Option m.Process). m.fills machine pid (m.ask_of_process machine.code o)) e
over_refused machine (Ended pid) how g e = ap (λ (o : Option m.Process). m.ends machine pid (m.ask_of_process machine.code o)) e
over_refused machine (Stopped pid) how g e = ap (m.stops machine pid) e
over_refused machine (Gone pid births drops moved) how g e = absurd (cc g)

over_leaves : (machine : m.Machine) (entry : Entry) (how : m.End) → is_gone entry ≡ true → m.process_at machine (pid_of entry) ≡ Some (m.Over how) → m.applied machine entry ≡ Some (m.with_process machine (pid_of entry) (m.Left how))
over_leaves machine (Sent from to) how g e = absurd (cc g)
over_leaves machine (Saw pid n) how g e = absurd (cc g)
over_leaves machine (Shown pid) how g e = absurd (cc g)
over_leaves machine (Started pid child) how g e = absurd (cc g)
over_leaves machine (Full pid) how g e = absurd (cc g)
over_leaves machine (Ended pid) how g e = absurd (cc g)
over_leaves machine (Stopped pid) how g e = absurd (cc g)
over_leaves machine (Gone pid births drops moved) how g e = ap (m.leaves machine pid) e

-- ---- What is lent of a list

pub found : {X : Type 0} (xs : List X) (i : ℕ) (x : X) → i < length xs → x ≡ slice_index_or xs i x → slice_get xs i ≡ Some x
found [] i x h e = absurd (omega arith)
found (y ∷ ys) zero x h e = ap Some (sym e)
found (y ∷ ys) (suc i) x h e = found ys i x (omega arith) e

pub missing : {X : Type 0} (xs : List X) (i : ℕ) → length xs ≤ i → slice_get xs i ≡ None
missing [] i h = refl
missing (y ∷ ys) zero h = absurd (omega arith)
missing (y ∷ ys) (suc i) h = missing ys i (omega arith)

set_same : {X : Type 0} (xs : List X) (i : ℕ) (x : X) → slice_get xs i ≡ Some x → slice_set xs i x ≡ xs
set_same [] i x e = refl
set_same (y ∷ ys) zero x e = ap (λ z. z ∷ ys) (sym (some_same e))
set_same (y ∷ ys) (suc i) x e = ap (λ zs. y ∷ zs) (set_same ys i x e)

module _ {P : Type 0} (code_of : P → Module) (local_of : P → Local) (waits_of : P → Type 0) where
  -- ---- A process that doesn't run

  pub ended_refuses : (s : Conditions) (entry : Entry) (ending : Ending) (gone : Bool) → is_gone entry ≡ false → (p : m.Process) → IsRowOf code_of local_of waits_of s.code p (r.Ended ending gone) → IsEffect code_of local_of waits_of s entry p None (r.Ended ending gone)
  ended_refuses s entry ending gone g (m.Running l vs) h = absurd h
  ended_refuses s entry ending false g (m.Over how) h = (h, λ machine i. over_refused machine entry how g i.stands)
  ended_refuses s entry ending true g (m.Over how) h = absurd h
  ended_refuses s entry ending false g (m.Left how) h = absurd h
  ended_refuses s entry ending true g (m.Left how) h = (h, λ machine i. left_refused machine entry how i.stands)

  pub gone_refuses : (s : Conditions) (entry : Entry) (ending : Ending) → (p : m.Process) → IsRowOf code_of local_of waits_of s.code p (r.Ended ending true) → IsEffect code_of local_of waits_of s entry p None (r.Ended ending true)
  gone_refuses s entry ending (m.Running l vs) h = absurd h
  gone_refuses s entry ending (m.Over how) h = absurd h
  gone_refuses s entry ending (m.Left how) h = (h, λ machine i. left_refused machine entry how i.stands)

  pub ended_leaves : (s : Conditions) (entry : Entry) (ending : Ending) → is_gone entry ≡ true → (p : m.Process) → IsRowOf code_of local_of waits_of s.code p (r.Ended ending false) → IsEffect code_of local_of waits_of s entry p (Some f.Nothing) (r.Ended ending true)
  ended_leaves s entry ending g (m.Running l vs) h = absurd h
  ended_leaves s entry ending g (m.Over how) h = (m.Left how, h, tt, λ machine i. over_leaves machine entry how g i.stands)
  ended_leaves s entry ending g (m.Left how) h = absurd h

  -- ---- A message comes

  pub gets : (code : Module) (l : Local) (vs : List Value) (message : Seen (List Bool)) (old new : Actor P) → new.process ≡ old.process → new.ask ≡ old.ask → new.unseen.items ≡ old.unseen.items ++ message ∷ []
      → Plays code_of local_of waits_of code l vs old → Plays code_of local_of waits_of code l (vs ++ value message ∷ []) new
  gets code l vs message old new same ask more h = record {
    code = ap code_of same ∙ h.code;
    runs = subst (λ (x : P). Runs code l (local_of x)) (sym same) h.runs;
    unseen = ap (λ (us : List Value). us ++ value message ∷ []) h.unseen ∙ sym (map-append value old.unseen.items (message ∷ [])) ∙ ap (map value) (sym more);
    stands = subst (λ (x : P). StandsAt code_of local_of waits_of x new.ask) (sym same) (subst (λ (o : Option Asking). StandsAt code_of local_of waits_of old.process o) (sym ask) h.stands);
  }

  pub receives_row : (message : Seen (List Bool)) (old new : Actor P) → new.process ≡ old.process → new.ask ≡ old.ask → new.unseen.items ≡ old.unseen.items ++ message ∷ []
      → (code : Module) (p : m.Process) → IsRowOf code_of local_of waits_of code p (r.Running old) → IsRowOf code_of local_of waits_of code (m.receives (value message) p) (r.Running new)
  receives_row message old new same ask more code (m.Running l vs) h = gets code l vs message old new same ask more h
  receives_row message old new same ask more code (m.Over how) h = absurd h
  receives_row message old new same ask more code (m.Left how) h = absurd h

  pub receives_ended : (message : Value) (ending : Ending) (gone : Bool) (code : Module) (p : m.Process) → IsRowOf code_of local_of waits_of code p (r.Ended ending gone) → IsRowOf code_of local_of waits_of code (m.receives message p) (r.Ended ending gone)
  receives_ended message ending gone code (m.Running l vs) h = absurd h
  receives_ended message ending gone code (m.Over how) h = h
  receives_ended message ending gone code (m.Left how) h = h

  pub rests_ended : (ending : Ending) (gone : Bool) (code : Module) (p : m.Process) → IsRowOf code_of local_of waits_of code p (r.Ended ending gone) → IsRowOf code_of local_of waits_of code p (r.Ended ending gone) × (true ≡ m.is_at_rest code p)
  rests_ended ending gone code (m.Running l vs) h = absurd h
  rests_ended ending gone code (m.Over how) h = (h, refl)
  rests_ended ending gone code (m.Left how) h = (h, refl)

  pub ends_row : (s : Conditions) (entry : Entry) (ending : Ending) (old new : Actor P) → Acts code_of local_of waits_of s entry old (Ends ending) new → (p : m.Process) → IsRowOf code_of local_of waits_of s.code p (r.Running old) → IsEffect code_of local_of waits_of s entry p (Some f.Nothing) (r.Ended ending false)
  ends_row s entry ending old new acts p h = let w = acts p h in (m.Over w.0, w.1, tt, w.2)

  -- ---- Rows and processes

  pub sound : (code : Module) (p : m.Process) (row : Row P) → IsRowOf code_of local_of waits_of code p row → IsSound code_of local_of waits_of row
  sound code (m.Running l vs) (r.Running actor) h = h.stands
  sound code p (r.Ended ending gone) h = tt
  sound code (m.Over how) (r.Running actor) h = absurd h
  sound code (m.Left how) (r.Running actor) h = absurd h

  pub row_at : (code : Module) (ps : List m.Process) (rows : List (Row P)) (i : ℕ) (row : Row P) → AreRows code_of local_of waits_of code ps rows → slice_get rows i ≡ Some row → (p : m.Process) × (slice_get ps i ≡ Some p) × IsRowOf code_of local_of waits_of code p row
  row_at code [] [] i row h e = absurd (cc e)
  row_at code [] (x ∷ rows) i row h e = absurd h
  row_at code (p ∷ ps) [] i row h e = absurd h
  row_at code (p ∷ ps) (x ∷ rows) zero row h e = (p, refl, subst (λ (y : Row P). IsRowOf code_of local_of waits_of code p y) (some_same e) h.0)
  row_at code (p ∷ ps) (x ∷ rows) (suc i) row h e = row_at code ps rows i row h.1 e

  pub no_row : (code : Module) (ps : List m.Process) (rows : List (Row P)) (i : ℕ) → AreRows code_of local_of waits_of code ps rows → slice_get rows i ≡ None → slice_get ps i ≡ None
  no_row code [] [] i h e = refl
  no_row code [] (x ∷ rows) i h e = absurd h
  no_row code (p ∷ ps) [] i h e = absurd h
  no_row code (p ∷ ps) (x ∷ rows) zero h e = absurd (cc e)
  no_row code (p ∷ ps) (x ∷ rows) (suc i) h e = no_row code ps rows i h.1 e

  pub set_row : (code : Module) (ps : List m.Process) (rows : List (Row P)) (i : ℕ) (p : m.Process) (row : Row P) → AreRows code_of local_of waits_of code ps rows → IsRowOf code_of local_of waits_of code p row → AreRows code_of local_of waits_of code (slice_set ps i p) (slice_set rows i row)
  set_row code [] [] i p row h g = tt
  set_row code [] (x ∷ rows) i p row h g = absurd h
  set_row code (q ∷ ps) [] i p row h g = absurd h
  set_row code (q ∷ ps) (x ∷ rows) zero p row h g = (g, h.1)
  set_row code (q ∷ ps) (x ∷ rows) (suc i) p row h g = (h.0, set_row code ps rows i p row h.1 g)

  -- the row alone changed
  pub kept_row : (code : Module) (ps : List m.Process) (rows : List (Row P)) (i : ℕ) (p : m.Process) (row : Row P) → AreRows code_of local_of waits_of code ps rows → slice_get ps i ≡ Some p → IsRowOf code_of local_of waits_of code p row → AreRows code_of local_of waits_of code ps (slice_set rows i row)
  kept_row code ps rows i p row h e g = subst (λ (xs : List m.Process). AreRows code_of local_of waits_of code xs (slice_set rows i row)) (set_same ps i p e) (set_row code ps rows i p row h g)

  pub push_row : (code : Module) (ps : List m.Process) (rows : List (Row P)) (p : m.Process) (row : Row P) → AreRows code_of local_of waits_of code ps rows → IsRowOf code_of local_of waits_of code p row → AreRows code_of local_of waits_of code (ps ++ p ∷ []) (rows ++ row ∷ [])
  push_row code [] [] p row h g = (g, tt)
  push_row code [] (x ∷ rows) p row h g = absurd h
  push_row code (q ∷ ps) [] p row h g = absurd h
  push_row code (q ∷ ps) (x ∷ rows) p row h g = (h.0, push_row code ps rows p row h.1 g)

  pub same_length : (code : Module) (ps : List m.Process) (rows : List (Row P)) → AreRows code_of local_of waits_of code ps rows → length ps ≡ length rows
  same_length code [] [] h = refl
  same_length code [] (x ∷ rows) h = absurd h
  same_length code (q ∷ ps) [] h = absurd h
  same_length code (q ∷ ps) (x ∷ rows) h = ap suc (same_length code ps rows h.1)

  -- ---- What an entry does to a row

  pub leaves_row : (s : Conditions) (entry : Entry) (ending : Ending) (row : Row P) → row ≡ r.Ended ending false → is_gone entry ≡ true → (p : m.Process) → IsRowOf code_of local_of waits_of s.code p row → IsEffect code_of local_of waits_of s entry p (Some f.Nothing) (r.Ended ending true)
  leaves_row s entry ending row e g p h = ended_leaves s entry ending g p (subst (λ (x : Row P). IsRowOf code_of local_of waits_of s.code p x) e h)

  pub over_row : (s : Conditions) (entry : Entry) (ending : Ending) (row : Row P) (act : Act P) (old new : Actor P) → row ≡ r.Running old → act ≡ Ends ending → Acts code_of local_of waits_of s entry old act new
      → (p : m.Process) → IsRowOf code_of local_of waits_of s.code p row → IsEffect code_of local_of waits_of s entry p (Some f.Nothing) (r.Ended ending false)
  over_row s entry ending row act old new e is acts p h =
      ends_row s entry ending old new (subst (λ (x : Act P). Acts code_of local_of waits_of s entry old x new) is acts) p (subst (λ (x : Row P). IsRowOf code_of local_of waits_of s.code p x) e h)
