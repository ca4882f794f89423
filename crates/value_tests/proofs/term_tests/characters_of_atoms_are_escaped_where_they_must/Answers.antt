use Rattle.term_value.specs.Terms.{seen}
use Rattle.term_value.proofs.RowLemmas.{any_known}
use Rattle.value_tests.proofs.term_tests.characters_of_atoms_are_escaped_where_they_must.Goals as goal

pub show-requires : goal.show-requires
show-requires g c = any_known (seen _)
