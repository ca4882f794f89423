use Rattle.term_laws.proofs.ScopedLaws.{tests_have_none}
use Rattle.term_laws.proofs.scoped.tests_have_none.Goals as goal

-- src/scoped.rt
pub returns : goal.returns
returns c = λ ts h k x. tests_have_none x ts h k
