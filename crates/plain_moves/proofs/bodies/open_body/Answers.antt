use Rattle.std.proofs.Common.{ap, sym}
use Rattle.term_value.specs.PutIn.{put_in}
use Rattle.code_tree.specs.Reading.{body_of}
use Rattle.code_match.specs.Binds.{bounds}
use Rattle.plain_moves.proofs.Alike.{along}
use Rattle.plain_moves.proofs.bodies.open_body.Goals as goal

pub returns-in-Some : goal.returns-in-Some
returns-in-Some c = λ w. along w _ _ c.open_line.result (ap (λ ls. put_in (bounds c.args.bindings) (body_of ls)) (sym c.in-Some.ensures.cases.0)) (c.open_line.ensures w)
