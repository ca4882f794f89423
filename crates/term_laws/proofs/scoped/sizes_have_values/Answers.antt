use Rattle.term_laws.proofs.ScopedTests.{sizes_have_values}
use Rattle.term_laws.proofs.scoped.sizes_have_values.Goals as goal

-- src/scoped.rt
pub returns : goal.returns
returns c = sizes_have_values
