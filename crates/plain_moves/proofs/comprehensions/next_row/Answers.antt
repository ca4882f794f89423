use Rattle.std.proofs.Common.{subst}
use Rattle.plain_moves.specs.Worlds.{world_of}
use Rattle.code_match.specs.Binds.{bounds}
use Rattle.code_rows.specs.Remaining.{rows_left, IsBefore}
use Rattle.term_value.specs.Setting.{Setting}
use Rattle.term_value.specs.Step as step
use Rattle.plain_moves.proofs.comprehensions.next_row.Goals as goal

pub returns : goal.returns
returns c =
    let w = world_of c.args.scene.now in
    let env = bounds c.args.level.bindings in
    let P : Setting → Type 0 = λ s. IsBefore env c.in_ok-found.found (rows_left s env c.next.new.self) (rows_left s env c.args.level.rows) in
    c.after_row.ensures w (rows_left (step.setting w) env c.args.level.rows) (subst P c.caller.ensures c.in_ok-found.ensures)
