use Rattle.module_check.proofs.Placed.{met_found, met_new}
use Rattle.module_check.proofs.places.met.Goals as goal

pub returns-in-Some : goal.returns-in-Some
returns-in-Some c = met_found c.args.nodes.now c.args.known c.args.at c.args.name.now c.in-Some.bound_at c.stands.result c.stands.ensures c.in-Some.ensures

pub returns-in-None : goal.returns-in-None
returns-in-None c = met_new c.args.nodes.now c.args.known c.args.at c.args.name.now c.stands-in-None.result c.stands-in-None.ensures c.in-None.ensures
