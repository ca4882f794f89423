use Rattle.module_check.proofs.Owning.{side_build, side_match, side_generator}
use Rattle.module_check.proofs.own.segment_fault.Goals as goal

pub returns-in-Build : goal.returns-in-Build
returns-in-Build c = λ s m. side_build s c.args.side c.args.last c.args.segment.now c.type_fault-untyped.result c.in-Build.is c.type_fault-untyped.ensures

pub returns-in-Match : goal.returns-in-Match
returns-in-Match c = λ s m. side_match s c.args.side c.args.last c.args.segment.now c.type_fault-untyped.result c.target_fault.result c.first_of.result c.in-Match.is c.type_fault-untyped.ensures (c.target_fault.ensures s m) c.first_of.ensures

pub returns-in-Generator : goal.returns-in-Generator
returns-in-Generator c = λ s m. side_generator s c.args.side c.args.last c.args.segment.now c.type_fault-untyped.result c.target_fault-in-Generator.result c.first_of-in-Generator.result c.in-Generator.is c.type_fault-untyped.ensures (c.target_fault-in-Generator.ensures s m) c.first_of-in-Generator.ensures
