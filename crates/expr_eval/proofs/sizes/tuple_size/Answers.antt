use Rattle.std.proofs.Common.{ap, sym, ◌∙◌, length}
use Rattle.term_value.specs.BuiltIns.{number, tuple_size}
use Rattle.term_value.specs.Seen.{count_of}
use Rattle.term_value.specs.Terms.{value_of}
use Rattle.term_value.specs.declared.term.Term.{Term}
use Rattle.term_value.proofs.Measures.{counts}
use Rattle.term_value.proofs.RowLemmas.{row_length}
use Rattle.expr_eval.proofs.NumberValues.{number_is}
use Rattle.expr_eval.proofs.sizes.tuple_size.Goals as goal

pub returns-in-Tuple-clause-is : goal.returns-in-Tuple-clause-is
returns-in-Tuple-clause-is g c = λ shown.
    number_is shown c.number_term.result c.counted.result (length c.items.result.now) (tuple_size (value_of shown c.args.value.now)) c.counted.ensures
    (ap number (sym (row_length c.items.result.now) ∙ ap count_of (c.items.ensures ∙ c.get.ensures) ∙ sym (counts shown c.in-Tuple.items)) ∙ ap (λ (t : Term g.row.R.Denot). tuple_size (value_of shown t)) (sym c.in-Tuple.is))
    (c.number_term.ensures.is shown)
