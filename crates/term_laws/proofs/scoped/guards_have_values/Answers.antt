use Rattle.term_laws.proofs.ScopedTests.{guards_have_values}
use Rattle.term_laws.proofs.scoped.guards_have_values.Goals as goal

-- src/scoped.rt
pub returns : goal.returns
returns c = guards_have_values
