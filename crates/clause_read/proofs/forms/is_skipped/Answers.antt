use Rattle.erl_syntax.specs.Names.{skipped_words}
use Rattle.clause_read.proofs.FormWords.{is_among}
use Rattle.clause_read.proofs.forms.is_skipped.Goals as goal

pub returns : goal.returns
returns c = is_among skipped_words c.args.characters.now c.contains.result c.contains.ensures.value
