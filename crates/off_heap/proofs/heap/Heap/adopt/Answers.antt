use Rattle.std.proofs.Common.{◌≡◌, ◌∙◌, ◌+◌, List, Bool, length, ap, sym, arith}
use Rattle.off_heap.specs.Cells.{count_of}
use Rattle.off_heap.specs.Parcels.{large_parts, value_in}
use Rattle.off_heap.proofs.ReadBack.{parcel_can, parcel_one, parcel_short, parcel_value, parcel_pieces}
use Rattle.off_heap.proofs.heap.Heap.adopt.Goals as goal

pub adopt_pieces-requires-clause-can : goal.adopt_pieces-requires-clause-can
adopt_pieces-requires-clause-can c = parcel_can c.deref.result.now c.parcel.inside.packed.nodes.items c.parcel.inside.packed.pieces.items c.args.parcel c.deref.ensures.value c.parcel.invariant.0 c.parcel.invariant.1 c.parcel.view_is c.requires

pub adopt_pieces-requires-clause-one : goal.adopt_pieces-requires-clause-one
adopt_pieces-requires-clause-one c = parcel_one c.deref.result.now c.parcel.inside.packed.nodes.items c.parcel.inside.packed.pieces.items c.args.parcel c.deref.ensures.value c.parcel.invariant.0 c.parcel.invariant.1 c.parcel.view_is

pub adopt_pieces-requires-clause-short : goal.adopt_pieces-requires-clause-short
adopt_pieces-requires-clause-short c = parcel_short c.deref.result.now c.parcel.inside.packed.nodes.items c.parcel.inside.packed.pieces.items c.args.parcel c.deref.ensures.value c.parcel.invariant.0 c.parcel.invariant.1 c.parcel.view_is c.requires

pub returns-in-Ok-clause-same : goal.returns-in-Ok-clause-same
returns-in-Ok-clause-same c = parcel_value c.deref.result.now c.parcel.inside.packed.nodes.items c.parcel.inside.packed.pieces.items c.args.parcel c.deref.ensures.value c.parcel.invariant.0 c.parcel.invariant.1 c.parcel.view_is _ c.in-Ok.ensures.same

pub returns-in-Ok-clause-cells : goal.returns-in-Ok-clause-cells
returns-in-Ok-clause-cells c = c.in-Ok.ensures.cells ∙ ap (λ (ps : List (List Bool)). count_of c.args.self.now.cells + length ps) (parcel_pieces c.deref.result.now c.parcel.inside.packed.nodes.items c.parcel.inside.packed.pieces.items c.args.parcel c.deref.ensures.value c.parcel.invariant.0 c.parcel.invariant.1 c.parcel.view_is)

pub returns-in-Err-clause-back : goal.returns-in-Err-clause-back
returns-in-Err-clause-back c = ap (λ (ps : List (List Bool)). value_in c.parcel.inside.packed.nodes.items ps) c.in-Err.ensures.back ∙ c.parcel.view_is
