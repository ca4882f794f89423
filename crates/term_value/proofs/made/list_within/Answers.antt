use Rattle.std.proofs.Common.{◌∙◌, ap, sym}
use Rattle.term_value.specs.Value.{VList}
use Rattle.term_value.specs.Bounds.{value_or_limit}
use Rattle.term_value.specs.Seen.{meanings}
use Rattle.term_value.specs.Terms.{row_of}
use Rattle.term_value.proofs.made.list_within.Goals as goal

pub returns-else-list_fits-clause-is : goal.returns-else-list_fits-clause-is
returns-else-list_fits-clause-is g c = λ shown. sym (ap (λ b. value_or_limit b (VList (meanings shown (row_of c.args.list)))) (sym (c.list_fits.ensures shown) ∙ c.if-list_fits.false))
