use Rattle.size_laws.proofs.PutValues.{size_forms_are_tests}
use Rattle.size_laws.proofs.forms.size_forms_are_tests.Goals as goal

pub returns : goal.returns
returns c = size_forms_are_tests
