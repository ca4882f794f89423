use Rattle.clause_read.proofs.FormReads.{skipped_form}
use Rattle.clause_read.proofs.forms.skipped_form.Goals as goal

pub returns-clause-reads : goal.returns-clause-reads
returns-clause-reads c = skipped_form c.args.cursor.now c.args.at c.skipped.result c.requires.begins c.skipped.ensures.reads
