use Rattle.std.proofs.Common.{subst}
use Rattle.bit_store.specs.Stores.{itself}
use Rattle.expr_eval.specs.Answers.{IsEvaluated}
use Rattle.term_value.specs.Terms.{value_of}
use Rattle.code_match.proofs.Taking.{reach_gives}
use Rattle.code_match.proofs.segments.extent_by.Goals as goal

pub returns-in-Ok : goal.returns-in-Ok
returns-in-Ok c = λ due is. reach_gives c.args.typed due (value_of itself c.in-Ok.size) c.reach.result (subst (λ size. IsEvaluated itself size due) c.in-Ok.is is) (c.reach.ensures.is itself)
