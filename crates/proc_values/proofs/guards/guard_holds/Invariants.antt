use Rattle.std.proofs.Common.{◌≡◌, List, drop}
use Rattle.bit_store.specs.Stores.{Keeps}
use Rattle.match_context.specs.Envs.{Agrees}
use Rattle.term_value.specs.Guards.{guard_holds}
use Rattle.term_value.specs.PutIn.{in_guard}
use Rattle.term_value.specs.Tree.{Bound}
use Rattle.code_tree.specs.Reading.{guard_of}
use Rattle.expr_eval.specs.Answers.{setting}
use Rattle.proc_values.specs.Binds.{term_in}
use Rattle.proc_values.specs.MadeBits.{GuardMakesNoBits}
use Rattle.proc_values.proofs.guards.guard_holds.Given as goal

-- the alternatives so far fail
abbrev pub invariant-loop-tests : goal.invariant-loop-tests
invariant-loop-tests g l = record {
  keeps : Keeps g.S.Store.shown g.S.Store.has l.fn.storage.store l.storage.store;
  quiet : GuardMakesNoBits (guard_of l.guard) → l.storage.steps.moved ≡ l.fn.storage.steps.moved;
  rest : (bs : List Bound) → Agrees (g.S.Store.shown l.fn.storage.store) (term_in l.bindings) bs
      → guard_holds (setting l.caller.names.now l.caller.pid) (in_guard bs (guard_of (drop l.tests-index l.guard))) ≡ guard_holds (setting l.caller.names.now l.caller.pid) (in_guard bs (guard_of l.guard));
}
