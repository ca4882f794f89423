use Rattle.std.proofs.Common.{ap, sym, ◌∙◌}
use Rattle.term_value.specs.BuiltIns.{number, list_length}
use Rattle.term_value.specs.Seen.{count_of}
use Rattle.term_value.specs.Terms.{value_of, row_of}
use Rattle.term_value.specs.declared.term.Term.{Term}
use Rattle.term_value.proofs.Measures.{counts}
use Rattle.expr_eval.proofs.NumberValues.{number_is}
use Rattle.expr_eval.proofs.sizes.list_length.Goals as goal

pub returns-in-List-clause-is : goal.returns-in-List-clause-is
returns-in-List-clause-is g c = λ shown.
    number_is shown c.number_term.result c.length.result (count_of (row_of c.in-List.items)) (list_length (value_of shown c.args.value.now)) c.length.ensures
    (ap number (sym (counts shown (row_of c.in-List.items))) ∙ ap (λ (t : Term g.row.R.Denot). list_length (value_of shown t)) (sym c.in-List.is))
    (c.number_term.ensures.is shown)
