use Rattle.plain_moves.specs.Reading.{levels_of}
use Rattle.code_match.specs.Binds.{bounds}
use Rattle.code_rows.specs.Gathering.{got_of}
use Rattle.code_rows.specs.Remaining.{rows_left}
use Rattle.code_tree.specs.Reading.{qualifiers_of}
use Rattle.term_value.specs.Step as step
use Rattle.plain_moves.proofs.Gathers.{row_found}
use Rattle.plain_moves.proofs.comprehensions.found_row.Goals as goal

pub returns-in-Ok : goal.returns-in-Ok
returns-in-Ok c = λ w before h.
    let env = bounds c.args.level.bindings in (
      0,
      rw (c.in-Ok.ensures.got, c.in-Ok.ensures.levels) (row_found w (got_of c.args.outer.got) env (qualifiers_of c.args.level.qualifiers.now c.args.level.row.now) (levels_of (step.setting w) c.args.outer.levels)
          (rows_left (step.setting w) env c.args.level.rows) before c.args.bindings h),
    )
