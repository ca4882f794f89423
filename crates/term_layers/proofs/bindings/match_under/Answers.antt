use Rattle.term_layers.proofs.Matches.{matched_under}
use Rattle.term_layers.proofs.bindings.match_under.Goals as goal

-- src/bindings.rt
pub returns : goal.returns
returns c = λ s xs ys p v. matched_under s xs p v ys
