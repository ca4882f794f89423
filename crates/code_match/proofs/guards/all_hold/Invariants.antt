use Rattle.std.proofs.Common.{◌≡◌, drop}
use Rattle.term_value.specs.Guards.{all_hold}
use Rattle.term_value.specs.PutIn.{puts_in}
use Rattle.code_tree.specs.Reading.{trees_of}
use Rattle.expr_eval.specs.Answers.{setting}
use Rattle.code_match.specs.Binds.{bounds}
use Rattle.code_match.proofs.guards.all_hold.Given as goal

-- the tests so far hold
abbrev pub invariant-loop-test : goal.invariant-loop-test
invariant-loop-test l = all_hold (setting l.caller.names.now l.caller.pid) (puts_in (bounds l.bindings) (trees_of (drop l.test-index l.tests)))
    ≡ all_hold (setting l.caller.names.now l.caller.pid) (puts_in (bounds l.bindings) (trees_of l.tests))
