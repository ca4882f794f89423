use Rattle.std.proofs.Common.{refl}
use Rattle.bits_top.proofs.Answers.{all_do_well, answers_all, no_usage_plain, no_usage_run, usage_for_none}
use Rattle.bits_top.specs.declared.command.Command.TheVariants as made
use Rattle.bits_top.proofs.program.top.Goals as goal

pub returns-in-None-clause-answers : goal.returns-in-None-clause-answers
returns-in-None-clause-answers g c = λ command h. absurd (c.in-None.ensures command h)

pub returns-in-None-clause-complete : goal.returns-in-None-clause-complete
returns-in-None-clause-complete g c = λ command h. absurd (c.in-None.ensures command h)

pub returns-in-Some-Run-clause-usage : goal.returns-in-Some-Run-clause-usage
returns-in-Some-Run-clause-usage g c =
    usage_for_none _ c.in-Some-Run.field-0 c.run.result c.in-Some-Run.ensures (no_usage_run _ c.run.result _ _ _ c.run.ensures.answer)

pub returns-in-Some-Run-clause-idle : goal.returns-in-Some-Run-clause-idle
returns-in-Some-Run-clause-idle g c = λ e. absurd (no_usage_run _ c.run.result _ _ _ c.run.ensures.answer e)

pub returns-in-Some-Run-clause-answers : goal.returns-in-Some-Run-clause-answers
returns-in-Some-Run-clause-answers g c =
    answers_all _ c.in-Some-Run.field-0 (made.Run c.in-Some-Run.asked) c.run.result _ _ _ _ c.in-Some-Run.field-0-is c.in-Some-Run.ensures (c.run.ensures.answer, record { told = refl; count = refl })

pub returns-in-Some-Run-clause-complete : goal.returns-in-Some-Run-clause-complete
returns-in-Some-Run-clause-complete g c =
    all_do_well _ c.in-Some-Run.field-0 (made.Run c.in-Some-Run.asked) c.run.result _ _ _ _ c.in-Some-Run.field-0-is c.in-Some-Run.ensures (c.runs_well.ensures _ c.run.result _ _ _ c.run.ensures.answer)

pub returns-in-Some-Load-clause-usage : goal.returns-in-Some-Load-clause-usage
returns-in-Some-Load-clause-usage g c =
    usage_for_none _ c.in-Some-Load.field-0 c.load.result c.in-Some-Load.ensures (no_usage_run _ c.load.result _ _ _ c.load.ensures)

pub returns-in-Some-Load-clause-idle : goal.returns-in-Some-Load-clause-idle
returns-in-Some-Load-clause-idle g c = λ e. absurd (no_usage_run _ c.load.result _ _ _ c.load.ensures e)

pub returns-in-Some-Load-clause-answers : goal.returns-in-Some-Load-clause-answers
returns-in-Some-Load-clause-answers g c =
    answers_all _ c.in-Some-Load.field-0 (made.Load c.in-Some-Load.asked) c.load.result _ _ _ _ c.in-Some-Load.field-0-is c.in-Some-Load.ensures (c.load.ensures, record { told = refl; count = refl }, record { told = refl; count = refl })

pub returns-in-Some-Load-clause-complete : goal.returns-in-Some-Load-clause-complete
returns-in-Some-Load-clause-complete g c =
    all_do_well _ c.in-Some-Load.field-0 (made.Load c.in-Some-Load.asked) c.load.result _ _ _ _ c.in-Some-Load.field-0-is c.in-Some-Load.ensures (c.runs_well.ensures _ c.load.result _ _ _ c.load.ensures)

pub returns-in-Some-Plain-clause-usage : goal.returns-in-Some-Plain-clause-usage
returns-in-Some-Plain-clause-usage g c =
    usage_for_none _ c.in-Some-Plain.field-0 c.top_plain.result c.in-Some-Plain.ensures (no_usage_plain c.in-Some-Plain.plain c.top_plain.result _ _ _ c.top_plain.ensures.answers)

pub returns-in-Some-Plain-clause-idle : goal.returns-in-Some-Plain-clause-idle
returns-in-Some-Plain-clause-idle g c = λ e. absurd (no_usage_plain c.in-Some-Plain.plain c.top_plain.result _ _ _ c.top_plain.ensures.answers e)

pub returns-in-Some-Plain-clause-answers : goal.returns-in-Some-Plain-clause-answers
returns-in-Some-Plain-clause-answers g c =
    answers_all _ c.in-Some-Plain.field-0 (made.Plain c.in-Some-Plain.plain) c.top_plain.result _ _ _ _ c.in-Some-Plain.field-0-is c.in-Some-Plain.ensures (c.top_plain.ensures.answers, record { told = refl; count = refl })

pub returns-in-Some-Plain-clause-complete : goal.returns-in-Some-Plain-clause-complete
returns-in-Some-Plain-clause-complete g c =
    all_do_well _ c.in-Some-Plain.field-0 (made.Plain c.in-Some-Plain.plain) c.top_plain.result _ _ _ _ c.in-Some-Plain.field-0-is c.in-Some-Plain.ensures c.top_plain.ensures.complete
