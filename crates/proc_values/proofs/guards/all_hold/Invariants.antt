use Rattle.std.proofs.Common.{◌≡◌, List, drop}
use Rattle.bit_store.specs.Stores.{Keeps}
use Rattle.match_context.specs.Envs.{Agrees}
use Rattle.term_value.specs.Guards.{all_hold}
use Rattle.term_value.specs.PutIn.{puts_in}
use Rattle.term_value.specs.Tree.{Bound}
use Rattle.code_tree.specs.Reading.{trees_of}
use Rattle.expr_eval.specs.Answers.{setting}
use Rattle.proc_values.specs.Binds.{term_in}
use Rattle.proc_values.specs.MadeBits.{MakeNoBits}
use Rattle.proc_values.proofs.guards.all_hold.Given as goal

-- the tests so far hold
abbrev pub invariant-loop-test : goal.invariant-loop-test
invariant-loop-test g l = record {
  keeps : Keeps g.S.Store.shown g.S.Store.has l.fn.storage.store l.storage.store;
  quiet : MakeNoBits (trees_of l.tests) → l.storage.steps.moved ≡ l.fn.storage.steps.moved;
  rest : (bs : List Bound) → Agrees (g.S.Store.shown l.fn.storage.store) (term_in l.bindings) bs
      → all_hold (setting l.caller.names.now l.caller.pid) (puts_in bs (trees_of (drop l.test-index l.tests))) ≡ all_hold (setting l.caller.names.now l.caller.pid) (puts_in bs (trees_of l.tests));
}
