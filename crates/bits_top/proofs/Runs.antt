-- From a run of the plain machine to the answer to `run`.
use Rattle.std.proofs.Common.{◌≡◌, ℕ, List, All, sym, ◌∙◌, subst, inl, inr, refl}
use Rattle.std.proofs.lemmas.List.Elements.{All-weaker}
use Rattle.copy_machine.specs.Running.{IsOwnEntry, IsOwnRun}
use Rattle.copy_machine.specs.Replaying.{Replays}
use Rattle.term_laws.specs.Laws.{OutcomeReports}
use Rattle.term_value.specs.Machine.{start_of}
use Rattle.term_value.specs.Orders.{IsInRange, IsOrderText, SharesNothing, order_text}
use Rattle.term_value.specs.Outcomes.{outcome_text}
use Rattle.term_value.specs.Tree.{Module}
use Rattle.term_value.specs.declared.entry.Entry.{Entry}
use Rattle.term_value.specs.declared.outcome.Outcome.{Outcome}
use Rattle.command_answers.specs.Answer.{Port, AnswersRan, Reports, Took}
use Rattle.command_answers.specs.Whole.{IsReplayOf, IsRunOf}
use Rattle.command_answers.specs.declared.status.Status.{Status}
use Rattle.command_answers.specs.declared.status.Status.TheVariants as s

unshared : (entry : Entry) → IsOwnEntry entry → SharesNothing entry
unshared entry h = h.1

-- the report and the text of a replay
pub replay_texts : OutcomeReports → (code : Module) (reductions : ℕ) (outcome : Outcome) (entries : List Entry) (order report : List ℕ) → Replays (start_of code reductions) entries outcome → IsOrderText order entries →
    report ≡ outcome_text outcome → IsReplayOf code reductions order report
replay_texts reports code reductions outcome entries order report h ordered e =
    record { entries = entries; state = h.state; leads = h.leads; complete = h.complete; ordered = ordered; reported = e ∙ reports h.state entries outcome h.came }

-- the texts of a run
pub run_texts : OutcomeReports → (code : Module) (reductions : ℕ) (outcome : Outcome) (order report : List ℕ) → IsOwnRun (start_of code reductions) outcome → order ≡ order_text outcome.entries → report ≡ outcome_text outcome →
    IsRunOf code reductions order report
unfolding replay_texts
run_texts reports code reductions outcome order report h o e =
    let in_range : All IsInRange outcome.entries = All-weaker IsOwnEntry IsInRange (λ entry own. own.0) outcome.entries h.own in
    record {
      replay = replay_texts reports code reductions outcome outcome.entries order report h.runs (record { in_range = in_range; spelled = o }) e;
      unshared = All-weaker IsOwnEntry SharesNothing unshared outcome.entries h.own;
    }

-- the report of a run is written, or it failed
pub ran_answers : (reductions : ℕ) (status : Status) (report order : Port) (code : Module) (order_text report_text : List ℕ) → IsRunOf code reductions order_text report_text → Took order order_text →
    Reports s.Done report_text status report → AnswersRan reductions status report order code
ran_answers reductions status report order code order_text report_text run ordered (inl h) =
    let P : Status → Type 0 = λ v. AnswersRan reductions v report order code in
    subst P (sym h.0) (record { order_text = order_text; report_text = report_text; run = run; ordered = ordered; reported = inl (refl, h.1) })
ran_answers reductions status report order code order_text report_text run ordered (inr h) =
    let P : Status → Type 0 = λ v. AnswersRan reductions v report order code in
    subst P (sym h.0) (record { order_text = order_text; report_text = report_text; run = run; ordered = ordered; reported = inr (refl, h.1) })
