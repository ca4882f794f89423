use Rattle.std.proofs.Common.{◌≤◌, length, arith, inr}
use Rattle.command_answers.proofs.Answers.{refused_answers, unaccepted}
use Rattle.command_answers.proofs.opening.open_text.Goals as goal

pub returns-in-Err-Line-clause-unopened : goal.returns-in-Err-Line-clause-unopened
returns-in-Err-Line-clause-unopened g c =
    let short : length c.args.text.now ≤ 1_048_576 = omega arith in
    refused_answers c.reported-in-Err-Line.result c.deref.result.now _ _ (record { text = c.args.text.now; cause = inr (unaccepted c.args.text.now c.deref.result.now c.in-Err-Line.field-0 _ c.in-Err-Line.field-0-is c.deref.ensures.value short c.in-Err-Line.ensures.refused c.in-Err-Line.ensures.none) }) c.reported-in-Err-Line.ensures
