use Rattle.term_value.specs.Terms.{seen}
use Rattle.term_value.proofs.RowLemmas.{any_known}
use Rattle.value_tests.proofs.term_tests.ordered.Goals as goal

pub compare-requires-clause-left : goal.compare-requires-clause-left
compare-requires-clause-left c = any_known (seen _)

pub compare-requires-clause-right : goal.compare-requires-clause-right
compare-requires-clause-right c = any_known (seen _)
