use Rattle.off_heap.specs.Cells.{shown}
use Rattle.storage_tests.proofs.PackableTerms.{tuple_packable}
use Rattle.storage_tests.proofs.parcel_tests.tuple.Goals as goal

pub returns-in-Some : goal.returns-in-Some
returns-in-Some c =
    tuple_packable c.args.heap.now.cells c.args.items.items c.in_ok-term.field-0 c.in-Some.term c.in-Some.is c.requires c.in_ok-term.ensures.kept (c.in_ok-term.ensures.is (shown c.args.heap.now.cells))
