use Rattle.module_check.proofs.Placed.{read_found, read_none}
use Rattle.module_check.proofs.places.read.Goals as goal

pub returns-in-Some : goal.returns-in-Some
returns-in-Some c = read_found c.args.nodes.now c.args.known c.args.at c.args.name.now c.in-Some.bound_at c.stands.result c.stands.ensures c.in-Some.ensures

pub returns-in-None : goal.returns-in-None
returns-in-None c = read_none c.args.nodes.now c.args.known c.args.at c.args.name.now c.in-None.ensures
