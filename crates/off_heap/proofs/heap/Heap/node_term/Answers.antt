use Rattle.std.proofs.Common.{◌≡◌, sym, subst}
use Rattle.bit_store.specs.Stores.{AnyAtom}
use Rattle.term_value.specs.Terms.{value_of, IsOver}
use Rattle.term_value.specs.Value.{VTuple, VList, row}
use Rattle.term_value.specs.declared.term.Term.{Term}
use Rattle.term_value.specs.declared.term.Term.TheVariants.{Bits}
use Rattle.off_heap.specs.declared.parcel.Node.{Node}
use Rattle.off_heap.specs.declared.reference.BitRef.{BitRef}
use Rattle.off_heap.specs.Adopting.{queue, values_of, HasMade}
use Rattle.off_heap.specs.Cells.{Valid, shown}
use Rattle.off_heap.specs.Parcels.{CanBe}
use Rattle.off_heap.proofs.Adopted.{items_within, made_piece, made_tuple, made_list, if_ok_both}
use Rattle.off_heap.proofs.heap.Heap.node_term.Goals as goal

pub tuple-requires-clause-within : goal.tuple-requires-clause-within
tuple-requires-clause-within c =
    let cells = c.args.self.now.cells in
    let can = subst (λ (n : Node). CanBe n (queue cells c.args.places.now.items) (values_of cells c.args.stack.now.items)) c.in-Tuple.is c.requires.can in
    items_within (λ us. VTuple us) cells c.in-Tuple.count c.args.stack.now.items c.in_ok-items-in-Tuple.items.items c.in_ok-items-in-Tuple.ensures.items can.1

pub list-requires-clause-within : goal.list-requires-clause-within
list-requires-clause-within c =
    let cells = c.args.self.now.cells in
    let can = subst (λ (n : Node). CanBe n (queue cells c.args.places.now.items) (values_of cells c.args.stack.now.items)) c.in-List.is c.requires.can in
    items_within (λ us. VList us) cells c.in-List.count c.args.stack.now.items c.in_ok-items-in-List.items.items c.in_ok-items-in-List.ensures.items can.1

pub returns-in-Some : goal.returns-in-Some
returns-in-Some c =
    let cells = c.args.self.now.cells in
    subst (λ (n : Node). HasMade cells n c.args.places.now.items c.args.stack.now.items c.pop.new.self.items c.args.stack.now.items (Bits c.in-Some.place)) (sym c.in-Piece.is)
    (made_piece cells c.args.places.now.items c.pop.new.self.items c.in-Some.place c.args.stack.now.items c.requires.places c.requires.stack c.in-Some.ensures.items)

pub returns-in_ok-items-in-Tuple : goal.returns-in_ok-items-in-Tuple
returns-in_ok-items-in-Tuple c =
    let cells = c.args.self.now.cells in
    if_ok_both c.tuple.result (IsOver (Valid cells) AnyAtom) (λ (t : Term BitRef). value_of (shown cells) t ≡ VTuple (row (values_of cells c.in_ok-items-in-Tuple.items.items)))
    (λ (t : Term BitRef). HasMade cells c.args.node.now c.args.places.now.items c.args.stack.now.items c.args.places.now.items c.last_items.new.stack.items t)
    (λ t over value. subst (λ (n : Node). HasMade cells n c.args.places.now.items c.args.stack.now.items c.args.places.now.items c.last_items.new.stack.items t) (sym c.in-Tuple.is)
    (made_tuple cells c.in-Tuple.count c.args.places.now.items c.args.stack.now.items c.last_items.new.stack.items c.in_ok-items-in-Tuple.items.items t c.requires.places c.requires.stack
    c.in_ok-items-in-Tuple.ensures.left c.in_ok-items-in-Tuple.ensures.items over value))
    c.tuple.ensures.over c.tuple.ensures.value

pub returns-in_ok-items-in-List : goal.returns-in_ok-items-in-List
returns-in_ok-items-in-List c =
    let cells = c.args.self.now.cells in
    if_ok_both c.list.result (IsOver (Valid cells) AnyAtom) (λ (t : Term BitRef). value_of (shown cells) t ≡ VList (row (values_of cells c.in_ok-items-in-List.items.items)))
    (λ (t : Term BitRef). HasMade cells c.args.node.now c.args.places.now.items c.args.stack.now.items c.args.places.now.items c.last_items-in-List.new.stack.items t)
    (λ t over value. subst (λ (n : Node). HasMade cells n c.args.places.now.items c.args.stack.now.items c.args.places.now.items c.last_items-in-List.new.stack.items t) (sym c.in-List.is)
    (made_list cells c.in-List.count c.args.places.now.items c.args.stack.now.items c.last_items-in-List.new.stack.items c.in_ok-items-in-List.items.items t c.requires.places c.requires.stack
    c.in_ok-items-in-List.ensures.left c.in_ok-items-in-List.ensures.items over value))
    c.list.ensures.over c.list.ensures.value
