-- What the answer to each command says of the ports (this project's own).
use Rattle.std.specs.Prelude.{ℕ, List}
use Rattle.command_answers.specs.Answer.{Port, AnswersCheck, AnswersCopy, AnswersGen, AnswersRun, Untouched, source_of}
use Rattle.command_answers.specs.Complete.{ChecksWell, CopiesWell, GensWell, RunsWell}
use Rattle.command_answers.specs.declared.status.Status.{Status}
use Rattle.module_gen.specs.Generated.{generated}
use Rattle.bits_top.specs.Command.{most_reductions}
use Rattle.bits_top.specs.declared.command.Command.{Command}
use Rattle.bits_top.specs.declared.command.Command.TheVariants as c
use Rattle.bits_top.specs.declared.command.Generated.{Generated}
use Rattle.bits_top.specs.declared.plain.Plain as plain
use Rattle.bits_top.specs.declared.plain.Plain.TheVariants as p

-- The text of the generated module.
abbrev pub text_of : Generated → List ℕ
text_of input = generated input.seed input.size

-- The answer to a command that waits for nothing.
abbrev pub AnswersPlain : plain.Plain → Status → (source order_in report : Port) → Type 0
AnswersPlain p.Check status source order_in report = AnswersCheck status source report × Untouched order_in
AnswersPlain (p.Copy reductions) status source order_in report = AnswersCopy reductions status source order_in report
AnswersPlain (p.Gen seed size) status source order_in report = AnswersGen (generated seed size) status report × Untouched source × Untouched order_in

-- Where no port fails, it does what it is asked for, or memory was wanting.
abbrev pub PlainDoesWell : plain.Plain → Status → (source order_in report : Port) → Type 0
PlainDoesWell p.Check status source order_in report = ChecksWell status source report
PlainDoesWell (p.Copy reductions) status source order_in report = CopiesWell reductions status source order_in report
PlainDoesWell (p.Gen seed size) status source order_in report = GensWell status report

-- The answer to `load`: that to `run` of a source that holds the generated text, with the most reductions.
abbrev pub AnswersLoad : Generated → Status → (report order_out : Port) → Type 0
AnswersLoad input status report order_out = AnswersRun most_reductions status (source_of (text_of input)) report order_out

-- The answer to a command. A port that the command doesn't use is as it was.
abbrev pub AnswersCommand : Command → Status → (source order_in report order_out : Port) → Type 0
AnswersCommand (c.Run run) status source order_in report order_out = AnswersRun run.reductions status source report order_out × Untouched order_in
AnswersCommand (c.Load load) status source order_in report order_out = AnswersLoad load.input status report order_out × Untouched source × Untouched order_in
AnswersCommand (c.Plain plain) status source order_in report order_out = AnswersPlain plain status source order_in report × Untouched order_out

-- Where no port fails, a command does what it is asked for, or memory was wanting.
abbrev pub DoesWell : Command → Status → (source order_in report order_out : Port) → Type 0
DoesWell (c.Run run) status source order_in report order_out = RunsWell status source report order_out
DoesWell (c.Load load) status source order_in report order_out = RunsWell status (source_of (text_of load.input)) report order_out
DoesWell (c.Plain plain) status source order_in report order_out = PlainDoesWell plain status source order_in report
