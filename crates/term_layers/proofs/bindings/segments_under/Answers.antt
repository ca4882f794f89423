use Rattle.term_layers.proofs.Matches.{all_taken_under}
use Rattle.term_layers.proofs.bindings.segments_under.Goals as goal

-- src/bindings.rt
pub returns : goal.returns
returns c = λ s xs ys ss bits. all_taken_under s xs ss ys bits
