use Rattle.std.proofs.Common.{◌≡◌, drop}
use Rattle.term_value.specs.Guards.{guard_holds}
use Rattle.term_value.specs.PutIn.{in_guard}
use Rattle.code_tree.specs.Reading.{guard_of}
use Rattle.expr_eval.specs.Answers.{setting}
use Rattle.code_match.specs.Binds.{bounds}
use Rattle.code_match.proofs.guards.guard_holds.Given as goal

-- the alternatives so far fail
abbrev pub invariant-loop-tests : goal.invariant-loop-tests
invariant-loop-tests l = guard_holds (setting l.caller.names.now l.caller.pid) (in_guard (bounds l.bindings) (guard_of (drop l.tests-index l.guard)))
    ≡ guard_holds (setting l.caller.names.now l.caller.pid) (in_guard (bounds l.bindings) (guard_of l.guard))
