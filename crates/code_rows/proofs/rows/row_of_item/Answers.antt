use Rattle.std.proofs.Common.{◌∙◌, ap, sym}
use Rattle.bit_store.specs.Stores.{itself}
use Rattle.term_value.specs.Match as m
use Rattle.term_value.specs.Terms.{value_of}
use Rattle.code_tree.specs.Reading.{pattern_of}
use Rattle.expr_eval.specs.Answers.{setting}
use Rattle.code_match.specs.Binds.{bounds}
use Rattle.code_match.specs.Matches.{match_of}
use Rattle.code_rows.proofs.NextRow.{item_before}
use Rattle.code_rows.proofs.rows.row_of_item.Goals as goal

pub returns-in-Yes : goal.returns-in-Yes
returns-in-Yes c = λ rest. item_before (setting c.args.caller.now.names.now c.args.caller.now.pid) (bounds c.args.bindings.now) (bounds c.in_ok-again.field-0) (pattern_of c.args.pattern.now) (value_of itself c.args.item.now) rest (m.Yes (bounds c.in-Yes.all))
    (ap bounds c.in_ok-again.ensures) (ap match_of (sym c.in-Yes.is) ∙ c.in_ok-all.ensures)

pub returns-in-No : goal.returns-in-No
returns-in-No c = λ rest. item_before (setting c.args.caller.now.names.now c.args.caller.now.pid) (bounds c.args.bindings.now) (bounds c.in_ok-again.field-0) (pattern_of c.args.pattern.now) (value_of itself c.args.item.now) rest m.No
    (ap bounds c.in_ok-again.ensures) (ap match_of (sym c.in-No.is) ∙ c.in_ok-all.ensures)

pub returns-in-Limit : goal.returns-in-Limit
returns-in-Limit c = λ rest. item_before (setting c.args.caller.now.names.now c.args.caller.now.pid) (bounds c.args.bindings.now) (bounds c.in_ok-again.field-0) (pattern_of c.args.pattern.now) (value_of itself c.args.item.now) rest m.MatchLimit
    (ap bounds c.in_ok-again.ensures) (ap match_of (sym c.in-Limit.is) ∙ c.in_ok-all.ensures)
