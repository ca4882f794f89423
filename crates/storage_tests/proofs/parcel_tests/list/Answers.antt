use Rattle.off_heap.specs.Cells.{shown}
use Rattle.storage_tests.proofs.PackableTerms.{list_packable}
use Rattle.storage_tests.proofs.parcel_tests.list.Goals as goal

pub returns-in-Some : goal.returns-in-Some
returns-in-Some c =
    list_packable c.args.heap.now.cells c.args.items.items c.in_ok-term.field-0 c.in-Some.term c.in-Some.is c.requires c.in_ok-term.ensures.kept (c.in_ok-term.ensures.is (shown c.args.heap.now.cells))
