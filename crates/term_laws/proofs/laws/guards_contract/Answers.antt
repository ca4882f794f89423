use Rattle.term_laws.proofs.Contracted.{guards_contract}
use Rattle.term_laws.proofs.laws.guards_contract.Goals as goal

-- src/laws.rt
pub returns : goal.returns
returns c = guards_contract
