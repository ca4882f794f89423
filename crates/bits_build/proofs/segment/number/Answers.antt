use Rattle.std.proofs.Common.{ap}
use Rattle.std.proofs.lemmas.Int.{to_z-of_z}
use mir.Syntax.{w128}
use Rattle.bit_store.specs.declared.piece.Piece.TheVariants.{Number}
use Rattle.bits_build.specs.declared.segment.Segment.{Segment}
use Rattle.bits_build.proofs.segment.number.Goals as goal

pub returns : goal.returns
returns g c = rw (to_z-of_z w128 c.args.value c.ranges.value)
