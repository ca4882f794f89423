use Rattle.term_value.specs.Terms.{seen}
use Rattle.term_value.proofs.RowLemmas.{any_known}
use Rattle.value_tests.proofs.term_tests.bitstrings_show_their_bytes_and_last_bits.Goals as goal

pub show-requires : goal.show-requires
show-requires g c = any_known (seen _)
