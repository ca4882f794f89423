use Rattle.size_laws.proofs.ModuleSizes.{sizes_have_form}
use Rattle.size_laws.proofs.forms.sizes_have_form.Goals as goal

pub returns : goal.returns
returns c = sizes_have_form
