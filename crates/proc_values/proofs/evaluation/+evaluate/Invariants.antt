use Rattle.std.proofs.Common.{◌≡◌, ◌<◌, ◌^◌, List, drop}
use Rattle.bit_store.specs.Stores.{AnyAtom, Keeps}
use Rattle.match_context.specs.Envs.{Agrees, AreThere}
use Rattle.term_value.specs.Guards.{results_of}
use Rattle.term_value.specs.PutIn.{puts_in}
use Rattle.term_value.specs.Seen.{AreKnown, meanings}
use Rattle.term_value.specs.Terms.{row}
use Rattle.term_value.specs.Tree.{Bound}
use Rattle.code_tree.specs.Reading.{trees_of}
use Rattle.expr_eval.specs.Answers.{setting}
use Rattle.proc_values.specs.Rows.{behind}
use Rattle.proc_values.specs.MadeBits.{MakeNoBits}
use Rattle.proc_values.proofs.evaluation.+evaluate.Given as goal

-- the parts so far gave these values, which are there and mean what they did
abbrev pub invariant-values_of-loop-part : goal.invariant-values_of-loop-part
invariant-values_of-loop-part g l = record {
  keeps : Keeps g.A.Access.shown g.A.Access.has l.fn.access l.access;
  there : AreThere (g.A.Access.has l.access) (g.V.Variables.held l.variables);
  quiet : MakeNoBits (trees_of l.parts) → g.A.Access.moved l.fn.access < 2 ^ 64 → g.A.Access.moved l.access ≡ g.A.Access.moved l.fn.access;
  known : AreKnown (g.A.Access.has l.access) AnyAtom (row l.values.items);
  rest : (bs : List Bound) → Agrees (g.A.Access.shown l.fn.access) (g.V.Variables.held l.variables) bs
      → behind (meanings (g.A.Access.shown l.access) (row l.values.items)) (results_of (setting l.caller.names.now l.caller.pid) (puts_in bs (trees_of (drop l.part-index l.parts))))
      ≡ results_of (setting l.caller.names.now l.caller.pid) (puts_in bs (trees_of l.parts));
}
