use Rattle.module_check.proofs.Owning.{put_by}
use Rattle.module_check.proofs.own.is_put.Goals as goal

pub returns : goal.returns
returns c = put_by c.args.nodes.now c.args.last c.args.name.now c.find.result c.is_some.result c.is_some.ensures c.find.ensures
