use Rattle.std.proofs.Common.{sym, ◌∙◌}
use Rattle.body_read.proofs.QualExits.{no_bar_end, no_bar_at}
use Rattle.body_read.proofs.choosing.bar_stands.Goals as goal

pub returns-in_default-clause-no : goal.returns-in_default-clause-no
returns-in_default-clause-no c = λ h. no_bar_end _ c.in_default.ensures.token

pub returns-clause-no : goal.returns-clause-no
returns-clause-no c = λ h. no_bar_at c.args.cursor.now c.args.at c.in-Some.numbered c.in-Some.ensures.token (sym c.is_bar.ensures ∙ h)
