-- References show no more bits than a bitstring may have.
use Rattle.std.proofs.Common.{◌≤◌, List, length, Option, arith}
use Rattle.bits_value.specs.declared.TheConstants.{MAX_BITS}
use Rattle.bit_store.proofs.Lengths.{length-part}
use Rattle.off_heap.specs.declared.cell.Cell.{Cell}
use Rattle.off_heap.specs.declared.reference.BitRef.{BitRef}
use Rattle.off_heap.specs.declared.reference.BitRef.TheVariants.{Small, Part}
use Rattle.off_heap.specs.Cells.{cell_at, bits_in, Valid, shown}

pub valid_is_short : (cells : List (Option Cell)) (of : BitRef) → Valid cells of → length (shown cells of) ≤ MAX_BITS
valid_is_short cells (Small bits) h = omega arith
valid_is_short cells (Part n off len) h =
    let l = length-part (bits_in (cell_at cells n)) off len h.inside in
    let s = h.short in
    omega arith
