use Rattle.size_laws.proofs.PutValues.{forms_admit_more}
use Rattle.size_laws.proofs.forms.forms_admit_more.Goals as goal

pub returns : goal.returns
returns c = forms_admit_more
