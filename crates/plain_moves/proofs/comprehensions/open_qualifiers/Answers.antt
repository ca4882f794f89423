use Rattle.plain_moves.specs.Reading.{levels_of}
use Rattle.plain_moves.specs.Worlds.{world_of}
use Rattle.code_rows.specs.Gathering.{got_of}
use Rattle.term_layers.specs.Environments as e
use Rattle.term_value.specs.Step as step
use Rattle.plain_moves.proofs.Gathers.{qualifier_first}
use Rattle.plain_moves.proofs.comprehensions.open_qualifiers.Goals as goal

pub returns-in_ok-bindings-in-Some : goal.returns-in_ok-bindings-in-Some
returns-in_ok-bindings-in-Some c =
    let w = world_of c.args.scene.now in
    qualifier_first w (got_of c.args.gathering.got) c.args.further.bindings c.in_ok-bindings-in-Some.bindings c.args.further.qualifiers.now c.in-Some.rest.now c.in-Some.qualifier.now
    c.args.further.row.now (e.levels_of (levels_of (step.setting w) c.args.gathering.levels)) c.open_qualifier.result c.in-Some.ensures.cases.0 c.in_ok-bindings-in-Some.ensures (c.open_qualifier.ensures w)
