use Rattle.term_layers.proofs.Matches.{each_under}
use Rattle.term_layers.proofs.bindings.each_match_under.Goals as goal

-- src/bindings.rt
pub returns : goal.returns
returns c = λ s xs ys ps vs. each_under s xs ps vs ys
