use Rattle.command_answers.proofs.Answers.{answers_of}
use Rattle.command_answers.proofs.opening.open.Goals as goal

pub returns-clause-unopened : goal.returns-clause-unopened
returns-clause-unopened g c = answers_of c.open_text.result _ _ c.deref.result.now c.in-Ok.text.items c.deref.ensures.value c.in-Ok.ensures.read c.open_text.ensures.unopened
