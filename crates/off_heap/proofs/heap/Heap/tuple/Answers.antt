use Rattle.off_heap.specs.Cells.{shown}
use Rattle.term_value.specs.Seen.{STuple}
use Rattle.term_value.specs.Terms.{row as terms_row}
use Rattle.term_value.specs.Value.{VTuple}
use Rattle.off_heap.proofs.Adopted.{whole_value, whole_none, whole_over, all_known}
use Rattle.off_heap.proofs.heap.Heap.tuple.Goals as goal

pub unreachable-requires : goal.unreachable-requires
unreachable-requires c =
    whole_none (λ us. VTuple us) c.args.self.now.cells c.args.items.items c.in_ok-term.field-0 (c.in_ok-term.ensures.is (shown c.args.self.now.cells)) c.requires.within c.in-None.is

pub returns-clause-over : goal.returns-clause-over
returns-clause-over c =
    whole_over c.args.self.now.cells (STuple (terms_row c.args.items.items)) c.in_ok-term.field-0 c.in-Some.term c.in-Some.is c.in_ok-term.ensures.kept (all_known c.args.self.now.cells c.args.items.items c.requires.over)

pub returns-clause-value : goal.returns-clause-value
returns-clause-value c =
    whole_value (λ us. VTuple us) c.args.self.now.cells c.args.items.items c.in_ok-term.field-0 (c.in_ok-term.ensures.is (shown c.args.self.now.cells)) c.requires.within c.in-Some.term c.in-Some.is
