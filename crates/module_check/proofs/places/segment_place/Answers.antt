use Rattle.erl_syntax.specs.declared.typing.SideUse.TheVariants as side
use Rattle.module_check.proofs.Placed.{on_side}
use Rattle.module_check.proofs.places.segment_place.Goals as goal

pub returns-in-Match : goal.returns-in-Match
returns-in-Match c = λ s m. on_side s c.args.side c.args.segment.now side.Match c.value_place.result c.in-Match.is (c.value_place.ensures s m)

pub returns-in-Generator : goal.returns-in-Generator
returns-in-Generator c = λ s m. on_side s c.args.side c.args.segment.now side.Generator c.value_place-in-Generator.result c.in-Generator.is (c.value_place-in-Generator.ensures s m)
