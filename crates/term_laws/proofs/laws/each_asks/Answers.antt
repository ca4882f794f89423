use Rattle.term_laws.proofs.Finishes.{each_asks}
use Rattle.term_laws.proofs.laws.each_asks.Goals as goal

-- src/laws.rt
pub returns : goal.returns
returns c = each_asks
