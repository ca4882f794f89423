use Rattle.std.proofs.Common.{Some, length, ap, sym}
use Rattle.term_value.specs.Rows.{shape}
use Rattle.pattern_compile.specs.Meaning.{means}
use Rattle.match_context.specs.Contexts.{left}
use Rattle.comprehension.proofs.Alike.{rows_alike}
use Rattle.comprehension.proofs.rows.Rows.new.Goals as goal

pub returns-clause-rows : goal.returns-clause-rows
returns-clause-rows g c = λ shown fixed bs ss p q. ap Some (sym (rows_alike fixed.setting (means fixed.trees c.args.pattern.ops) ss (means fixed.trees c.args.shape.ops) (shape ss) bs p q (length (left shown c.args.context)) (left shown c.args.context)))
