-- How a run goes on by an entry.
use Rattle.std.proofs.Common.{◌≡◌, zero, suc, true, Bool, List, [], ◌∷◌, ◌++◌, refl, sym, subst, arith}
use Rattle.std.specs.Prelude.{All}
use Rattle.std.specs.List.{list_all}
use Rattle.std.proofs.lemmas.List.Elements.{All-append}
use Rattle.term_value.specs.Tree.{Module}
use Rattle.term_value.specs.Local.{Local}
use Rattle.term_value.specs.Machine as m
use Rattle.term_value.specs.Outcomes.{IsOutcome}
use Rattle.term_value.specs.declared.entry.Entry.{Entry}
use Rattle.term_value.specs.declared.outcome.Outcome.{Outcome}
use Rattle.copy_machine.specs.declared.progress.Progress.{Progress}
use Rattle.copy_machine.specs.Following.{Follows, IsFollower}
use Rattle.copy_machine.specs.Entering.{Applies}
use Rattle.copy_machine.specs.Proceeding.{Keeps}
use Rattle.copy_machine.specs.Replaying.{has_left}
use Rattle.copy_machine.specs.Running.{GotTo, GoesOn, IsOwnEntry, IsOwnRun, IsUnderWay}
use Rattle.copy_machine.proofs.Replays.{leads_more, all_gone}

alone : (entry : Entry) → IsOwnEntry entry → All IsOwnEntry (entry ∷ [])
alone entry own zero d lt = own
alone entry own (suc k) d lt = absurd (omega arith)

module _ {P : Type 0} (code_of : P → Module) (local_of : P → Local) (waits_of : P → Type 0) where
  pub under_way : (c : Progress P) → IsUnderWay code_of local_of waits_of c → IsFollower code_of local_of waits_of c.machine
  under_way c h = (h.1.state, h.1.follows)

  pub goes_on : (entry : Entry) (fits : Bool) (old new : Progress P) → IsOwnEntry entry → fits ≡ true
      → ((machine : m.Machine) → Follows code_of local_of waits_of machine old.machine → Applies code_of local_of waits_of machine entry fits new.machine)
      → new.entries.items ≡ old.entries.items ++ entry ∷ [] → GoesOn code_of local_of waits_of old new
  goes_on entry fits old new own holds enters more start h =
      let a = subst (λ (b : Bool). Applies code_of local_of waits_of h.state entry b new.machine) holds (enters h.state h.follows) in
      record {
        state = a.0;
        leads = subst (λ (es : List Entry). m.Leads start es a.0) (sym more) (leads_more start h.state a.0 old.entries.items entry h.leads a.1);
        follows = a.2;
        own = subst (λ (es : List Entry). All IsOwnEntry es) (sym more) (All-append IsOwnEntry old.entries.items (entry ∷ []) h.own (alone entry own));
      }

  pub finished : (outcome : Outcome) (c : Progress P) → list_all (has_left {P = P}) c.machine.rows.items ≡ true
      → ((machine : m.Machine) → Follows code_of local_of waits_of machine c.machine → IsOutcome machine c.entries.items outcome) → (start : m.Machine) → GotTo code_of local_of waits_of start c → IsOwnRun start outcome
  finished outcome c all came start h =
      let o = came h.state h.follows in
      record {
        runs = record {
          state = h.state;
          leads = subst (λ (es : List Entry). m.Leads start es h.state) (sym o.order) h.leads;
          complete = all_gone code_of local_of waits_of h.state.code h.state.processes c.machine.rows.items h.follows.rows all;
          came = subst (λ (es : List Entry). IsOutcome h.state es outcome) (sym o.order) o;
        };
        own = subst (λ (es : List Entry). All IsOwnEntry es) (sym o.order) h.own;
      }

  pub begun : (c : Progress P) → c.entries.items ≡ [] → (start : m.Machine) → Follows code_of local_of waits_of start c.machine → GotTo code_of local_of waits_of start c
  begun c none start h = record {
    state = start;
    leads = subst (λ (es : List Entry). m.Leads start es start) (sym none) refl;
    follows = h;
    own = subst (λ (es : List Entry). All IsOwnEntry es) (sym none) (λ k d lt. absurd (omega arith));
  }

  -- ---- Steps of a runner

  pub waited : (old new : Progress P) → Keeps code_of local_of waits_of old.machine new.machine → new.entries.items ≡ old.entries.items → GoesOn code_of local_of waits_of old new
  waited old new keeps same start h = record {
    state = h.state;
    leads = subst (λ (es : List Entry). m.Leads start es h.state) (sym same) h.leads;
    follows = keeps h.state h.follows;
    own = subst (λ (es : List Entry). All IsOwnEntry es) (sym same) h.own;
  }

  pub on_way : (old new : Progress P) → IsUnderWay code_of local_of waits_of old → GoesOn code_of local_of waits_of old new → IsUnderWay code_of local_of waits_of new
  on_way old new h goes = (h.0, goes h.0 h.1)

  pub further : (old mid new : Progress P) → GoesOn code_of local_of waits_of old mid → GoesOn code_of local_of waits_of mid new → GoesOn code_of local_of waits_of old new
  further old mid new first later start h = later start (first start h)
