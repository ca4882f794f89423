use Rattle.term_value.specs.Terms.{value_of}
use Rattle.off_heap.specs.Cells.{shown}
use Rattle.off_heap.proofs.Packed.{IsParcel, parcel_made}
use Rattle.off_heap.proofs.heap.Heap.pack.Goals as goal

pub invariant_of-result : goal.invariant_of-result
invariant_of-result c =
    let h = c.in_ok-push_term.ensures in
    let p = parcel_made c.push_term.new.self.nodes.items c.new.result.items c.push_term.new.self.pieces.items c.new-2.result.items c.args.steps.now.moved c.push_term.new.steps.moved
    (value_of (shown c.args.self.now.cells) c.args.term.now) c.new.ensures.items c.new-2.ensures.items h.nodes h.pieces h.moved in
    (p.nodes_are, p.pieces_are)

pub returns-clause-packs : goal.returns-clause-packs
returns-clause-packs c =
    let h = c.in_ok-push_term.ensures in
    (parcel_made c.push_term.new.self.nodes.items c.new.result.items c.push_term.new.self.pieces.items c.new-2.result.items c.args.steps.now.moved c.push_term.new.steps.moved
    (value_of (shown c.args.self.now.cells) c.args.term.now) c.new.ensures.items c.new-2.ensures.items h.nodes h.pieces h.moved).is

pub returns-clause-moved : goal.returns-clause-moved
returns-clause-moved c =
    let h = c.in_ok-push_term.ensures in
    (parcel_made c.push_term.new.self.nodes.items c.new.result.items c.push_term.new.self.pieces.items c.new-2.result.items c.args.steps.now.moved c.push_term.new.steps.moved
    (value_of (shown c.args.self.now.cells) c.args.term.now) c.new.ensures.items c.new-2.ensures.items h.nodes h.pieces h.moved).moved
