use Rattle.std.proofs.Common.{rules, ap, ◌∙◌}
use Rattle.module_accept.specs.Accepting.{of_text, place_of}
use Rattle.module_accept.specs.Causes.{line_of}
use Rattle.module_accept.proofs.accepting.unread.Goals as goal

pub returns-in-Ok-clause-told : goal.returns-in-Ok-clause-told
returns-in-Ok-clause-told c = λ text h. of_text c.args.fault h (λ e. search rules) (c.in-Ok.ensures ∙ ap (λ v. line_of (place_of c.args.fault) v) c.read_text.ensures)
