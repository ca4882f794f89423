use Rattle.std.proofs.Common.{◌∙◌, [], ap, sym, length, arith, refl}
use Rattle.off_heap.specs.Adopting.{queue}
use Rattle.off_heap.specs.Parcels.{read}
use Rattle.off_heap.proofs.Adopted.{reading_start, reading_can, reading_next, reading_end, reading_alone, reading_over, reading_none}
use Rattle.off_heap.proofs.heap.Heap.read_nodes.Goals as goal

pub loop-node-init : goal.loop-node-init
loop-node-init c = reading_start c.args.self.now.cells c.args.nodes.now c.args.places.items c.new-stack.result.items c.new-stack.ensures.items c.requires.places c.requires.can

pub node_term-requires-clause-can : goal.node_term-requires-clause-can
node_term-requires-clause-can c =
    reading_can c.args.self.now.cells c.args.nodes.now (queue c.args.self.now.cells c.args.places.items) c.loop-node.node-index c.loop-node.places.items c.loop-node.stack.items c.node-item.result (omega arith) c.node-item.is c.loop-node.invariant

pub loop-node-preserved : goal.loop-node-preserved
loop-node-preserved c =
    reading_next c.args.self.now.cells c.args.nodes.now (queue c.args.self.now.cells c.args.places.items) c.loop-node.node-index c.loop-node.places.items c.loop-node.stack.items c.node-item.result
    c.node_term.new.places.items c.node_term.new.stack.items c.push.new.self.items c.in_ok-term.term (omega arith) c.node-item.is c.loop-node.invariant c.in_ok-term.ensures c.in_ok-push.ensures.items

pub returns-clause-same : goal.returns-clause-same
returns-clause-same c =
    let first = queue c.args.self.now.cells c.args.places.items in
    reading_alone c.args.self.now.cells c.loop-node.stack.items c.pop.new.self.items c.in-Some.term (read c.args.nodes.now first [])
    (reading_end c.args.self.now.cells c.args.nodes.now first c.loop-node.node-index c.loop-node.places.items c.loop-node.stack.items (omega arith) c.loop-node.invariant)
    c.requires.one c.in-Some.ensures.items

pub returns-clause-valid : goal.returns-clause-valid
returns-clause-valid c = reading_over c.args.self.now.cells c.loop-node.stack.items c.pop.new.self.items c.in-Some.term c.loop-node.invariant.over c.in-Some.ensures.items

pub unreachable-requires : goal.unreachable-requires
unreachable-requires c =
    let first = queue c.args.self.now.cells c.args.places.items in
    reading_none c.args.self.now.cells c.loop-node.stack.items (read c.args.nodes.now first [])
    (reading_end c.args.self.now.cells c.args.nodes.now first c.loop-node.node-index c.loop-node.places.items c.loop-node.stack.items (omega arith) c.loop-node.invariant)
    c.requires.one (omega (arith, c.loop-node.stack.ok.0, c.in-None.ensures.cases.0))
