use Rattle.size_laws.proofs.PutValues.{put_in_keeps}
use Rattle.size_laws.proofs.forms.put_in_keeps.Goals as goal

pub returns : goal.returns
returns c = put_in_keeps
