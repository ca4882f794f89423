use Rattle.std.proofs.Common.{◌≡◌, drop}
use Rattle.bit_store.specs.Stores.{itself}
use Rattle.term_layers.specs.Environments as e
use Rattle.term_value.specs.Seen.{meanings}
use Rattle.term_value.specs.Terms.{row}
use Rattle.code_tree.specs.Reading.{clauses_of}
use Rattle.expr_eval.specs.Answers.{setting}
use Rattle.code_match.specs.Binds.{bounds}
use Rattle.code_match.proofs.clauses.chosen.Given as goal

-- the clauses so far are not chosen
abbrev pub invariant-loop-clause : goal.invariant-loop-clause
invariant-loop-clause l = e.chosen (setting l.caller.names.now l.caller.pid) (bounds l.bindings) (clauses_of (drop l.clause-index l.clauses)) (meanings itself (row l.values))
    ≡ e.chosen (setting l.caller.names.now l.caller.pid) (bounds l.bindings) (clauses_of l.clauses) (meanings itself (row l.values))
