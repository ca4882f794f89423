use Rattle.std.proofs.Common.{◌++◌, ◌∷◌, [], ap, sym, ◌∙◌}
use Rattle.term_value.specs.Bounds.{within}
use Rattle.term_value.specs.Primitives.{bounded_result, listed_on}
use Rattle.term_value.specs.Seen.{meanings}
use Rattle.term_value.specs.Terms.{row, row_of}
use Rattle.term_value.specs.Value.{VList}
use Rattle.term_value.specs.declared.term.Term.{Term}
use Rattle.expr_eval.proofs.Evaluations.{evaluated}
use Rattle.proc_values.specs.Rows.{onto}
use Rattle.proc_values.proofs.Prepended.{listed, unlisted}
use Rattle.proc_values.proofs.lists.list_with.Goals as goal

pub returns-in-List-clause-is : goal.returns-in-List-clause-is
returns-in-List-clause-is g c =
    let shown = g.S.Store.shown c.args.store.now in
    evaluated shown c.list_before.result (within (VList (meanings shown (onto c.args.items.items (row_of c.in-List.tail))))) (bounded_result (listed_on (meanings shown (row (c.args.items.items ++ c.args.tail ∷ [])))))
    (ap bounded_result (sym (ap (λ (u : Term g.row.R.Denot). listed_on (meanings shown (row (c.args.items.items ++ u ∷ [])))) c.in-List.is ∙ listed shown c.args.items.items c.in-List.tail)))
    c.list_before.ensures.is

pub returns-in_default-clause-is : goal.returns-in_default-clause-is
returns-in_default-clause-is g c = ap bounded_result (unlisted (g.S.Store.shown c.args.store.now) c.args.items.items c.args.tail c.in_default.not-List)
