use Rattle.std.proofs.Common.{◌++◌, ◌∷◌, [], List, Bool, ap, sym, ◌∙◌}
use Rattle.bit_store.specs.Stores.{itself}
use Rattle.term_value.specs.Bounds.{within}
use Rattle.term_value.specs.Primitives.{bounded_result, listed_on}
use Rattle.term_value.specs.Seen.{meanings}
use Rattle.term_value.specs.Terms.{row, row_of}
use Rattle.term_value.specs.Value.{VList}
use Rattle.term_value.specs.declared.term.Term.{Term}
use Rattle.expr_eval.proofs.Evaluations.{evaluated}
use Rattle.code_match.specs.Rows.{onto}
use Rattle.code_match.proofs.Prepended.{listed, unlisted}
use Rattle.code_match.proofs.primitives.list_with.Goals as goal

pub returns-in-List-clause-is : goal.returns-in-List-clause-is
returns-in-List-clause-is c =
    evaluated itself c.list_before.result (within (VList (meanings itself (onto c.args.items.items (row_of c.in-List.tail))))) (bounded_result (listed_on (meanings itself (row (c.args.items.items ++ c.args.tail ∷ [])))))
    (ap bounded_result (sym (ap (λ (u : Term (List Bool)). listed_on (meanings itself (row (c.args.items.items ++ u ∷ [])))) c.in-List.is ∙ listed c.args.items.items c.in-List.tail)))
    c.list_before.ensures.is

pub returns-in_default-clause-is : goal.returns-in_default-clause-is
returns-in_default-clause-is c = ap bounded_result (unlisted c.args.items.items c.args.tail c.in_default.not-List)
