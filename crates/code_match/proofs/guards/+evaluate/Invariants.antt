use Rattle.std.proofs.Common.{◌≡◌, drop}
use Rattle.term_value.specs.Guards.{results_of}
use Rattle.term_value.specs.PutIn.{puts_in}
use Rattle.term_value.specs.Seen.{AreKnown}
use Rattle.term_value.specs.Terms.{row}
use Rattle.code_tree.specs.PlainTerms.{IsShort, AnyAtom}
use Rattle.code_tree.specs.Reading.{trees_of}
use Rattle.expr_eval.specs.Answers.{setting}
use Rattle.code_match.specs.Binds.{bounds}
use Rattle.code_match.specs.Rows.{behind}
use Rattle.code_match.proofs.guards.+evaluate.Given as goal

abbrev pub invariant-values_of-loop-part : goal.invariant-values_of-loop-part
invariant-values_of-loop-part l = record {
  rest : behind l.values.items (results_of (setting l.caller.names.now l.caller.pid) (puts_in (bounds l.bindings) (trees_of (drop l.part-index l.parts))))
      ≡ results_of (setting l.caller.names.now l.caller.pid) (puts_in (bounds l.bindings) (trees_of l.parts));
  over : AreKnown IsShort AnyAtom (row l.values.items);
}
