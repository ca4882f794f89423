-- Laws of what commands answer (this project's own).
use Rattle.std.specs.Prelude.{ℕ, ◌≤◌, List, length}
use Rattle.term_value.specs.Machine.{start_of}
use Rattle.term_value.specs.Orders.{BadOrder, order_bound}
use Rattle.term_value.specs.Tree.{Module}
use Rattle.command_answers.specs.Answer.{Port, AnswersCheck, AnswersCopy, AnswersGen, AnswersRun}
use Rattle.command_answers.specs.Complete.{ChecksWell, CopiesWell, GensWell, RunsWell}
use Rattle.command_answers.specs.Whole.{IsReplayOf}
use Rattle.command_answers.specs.declared.status.Status.{Status}

abbrev pub BadOrLegal : Type 0
BadOrLegal = (code : Module) (reductions : ℕ) (text line due : List ℕ) → length text ≤ order_bound → IsReplayOf code reductions text due → BadOrder (start_of code reductions) text line → ⊥

abbrev pub AnsweredChecks : Type 0
AnsweredChecks = (status : Status) (source report : Port) → AnswersCheck status source report → ChecksWell status source report

abbrev pub AnsweredGens : Type 0
AnsweredGens = (text : List ℕ) (status : Status) (report : Port) → AnswersGen text status report → GensWell status report

abbrev pub AnsweredRuns : Type 0
AnsweredRuns = (reductions : ℕ) (status : Status) (source report order : Port) → AnswersRun reductions status source report order → RunsWell status source report order

abbrev pub AnsweredCopies : Type 0
AnsweredCopies = (reductions : ℕ) (status : Status) (source order_in report : Port) → AnswersCopy reductions status source order_in report → CopiesWell reductions status source order_in report
