use Rattle.match_context.proofs.Reaching.{no_size, some_size}
use Rattle.match_context.proofs.found.length_of.Goals as goal

pub returns-in-None-clause-is : goal.returns-in-None-clause-is
returns-in-None-clause-is g c = λ bs a. no_size (g.E.Env.fixed c.args.env.now).setting (g.E.Env.fixed c.args.env.now).trees c.args.typed bs c.args.size c.extent_without.result c.in-None.is c.extent_without.ensures

pub returns-in-Some-clause-is : goal.returns-in-Some-clause-is
returns-in-Some-clause-is g c = λ bs a. some_size (g.E.Env.fixed c.args.env.now).setting (g.E.Env.fixed c.args.env.now).trees c.args.typed bs c.args.size c.in-Some.form c.length_by.result c.in-Some.is (c.length_by.ensures.is bs a)
