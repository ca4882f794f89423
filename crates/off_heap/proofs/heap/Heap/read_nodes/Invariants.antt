use Rattle.off_heap.specs.Adopting.{queue}
use Rattle.off_heap.proofs.Adopted.{IsReading}
use Rattle.off_heap.proofs.heap.Heap.read_nodes.Given as goal

abbrev pub invariant-loop-node : goal.invariant-loop-node
invariant-loop-node l = IsReading l.self.cells l.nodes (queue l.self.cells l.initial.places.items) l.node-index l.places.items l.stack.items
