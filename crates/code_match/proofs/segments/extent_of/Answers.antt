use Rattle.bit_store.specs.Stores.{itself}
use Rattle.expr_eval.specs.Answers.{setting}
use Rattle.code_match.specs.Binds.{bounds}
use Rattle.code_match.proofs.Taking.{plain_reach}
use Rattle.code_match.proofs.segments.extent_of.Goals as goal

pub returns-in-None : goal.returns-in-None
returns-in-None c = plain_reach (setting c.args.caller.now.names.now c.args.caller.now.pid) c.args.segment.now.typed (bounds c.args.bindings.now) c.args.segment.now.size c.reach.result c.in-None.is (c.reach.ensures.is itself)
