use Rattle.term_value.specs.PutIn.{put_in}
use Rattle.term_value.specs.Tree.{Choose}
use Rattle.expr_eval.specs.Answers.{setting}
use Rattle.code_tree.specs.Reading.{clauses_of}
use Rattle.code_match.specs.Binds.{bounds}
use Rattle.code_match.specs.Matches.{choice_of}
use Rattle.plain_moves.specs.Worlds.{world_of}
use Rattle.plain_moves.proofs.Goes.{if_goes}
use Rattle.plain_moves.proofs.expressions.open_if.Goals as goal

pub returns : goal.returns
returns c =
    let w = world_of c.args.scene.now in
    let env = bounds c.args.bindings.now in
    c.goes_with.ensures w (put_in env (Choose (clauses_of c.args.clauses.now)))
    (if_goes w (setting c.caller.result.names.now c.caller.result.pid) c.caller.ensures env (clauses_of c.args.clauses.now) (choice_of c.in_ok-choice.choice) c.in_ok-choice.ensures)
