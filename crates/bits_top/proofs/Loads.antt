-- From the generated text to the answers to `gen` and to `load`.
use Rattle.std.proofs.Common.{◌≡◌, ℕ, List, Option, subst, inr}
use Rattle.module_check.specs.declared.checking.Checked.{Checked}
use Rattle.command_answers.specs.Answer.{Port, AnswersGen, AnswersRan, AnswersRun, IsOpened, Reports, port, source_of}
use Rattle.command_answers.specs.declared.status.Status.{Status}
use Rattle.command_answers.specs.declared.status.Status.TheVariants as s
use Rattle.bits_top.specs.Copying.{code_of}

-- the text is written, or the report failed
pub gen_answers : (seen text : List ℕ) (status : Status) (report : Port) → seen ≡ text → Reports s.Done seen status report → AnswersGen text status report
gen_answers seen text status report same h = let P : List ℕ → Type 0 = λ v. Reports s.Done v status report in inr (subst P same h)

-- the module of the text is run, and its report written to the sink, which is as it was until then
pub load_answers : {X : Type 0} (told : X → Option (List ℕ)) (faults : X → ℕ) (old opened new : X) (reductions : ℕ) (status : Status) (seen text : List ℕ) (order : Port) (checked : Checked) →
    seen ≡ text → opened ≡ old → IsOpened (source_of seen) checked.tree checked.vars.items → AnswersRan reductions status (port told faults opened new) order (code_of checked) →
    AnswersRun reductions status (source_of text) (port told faults old new) order
load_answers {X} told faults old opened new reductions status seen text order checked same kept h answer =
    let P : List ℕ → Type 0 = λ v. IsOpened (source_of v) checked.tree checked.vars.items in
    let Q : X → Type 0 = λ v. AnswersRan reductions status (port told faults v new) order (code_of checked) in
    inr (record { tree = checked.tree; numbers = checked.vars.items; opened = subst P same h; answer = subst Q kept answer })
