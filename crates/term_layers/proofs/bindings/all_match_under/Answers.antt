use Rattle.term_layers.proofs.Matches.{all_under}
use Rattle.term_layers.proofs.bindings.all_match_under.Goals as goal

-- src/bindings.rt
pub returns : goal.returns
returns c = λ s xs ys ps v. all_under s xs ps v ys
