-- What is added to a parcel that is being made (this project's own). No public clause speaks of it.
use Rattle.std.specs.Prelude.{◌≡◌, ℕ, ◌+◌, ◌++◌, length, sum_by}
use Rattle.bits_value.specs.Ledger.{ticked}
use Rattle.term_value.specs.Value.{Value, Values}
use Rattle.off_heap.specs.declared.parcel.Packed.{Packed}
use Rattle.off_heap.specs.Parcels.{nodes_of, nodes_of_each, large_parts, large_parts_each, large_bits}

-- a value came behind the others, and its pieces were counted
pub record HasPacked (old new : Packed) (before later : ℕ) (v : Value) : Type 0 where
  pub nodes : new.nodes.items ≡ old.nodes.items ++ nodes_of v
  pub pieces : new.pieces.items ≡ old.pieces.items ++ large_parts v
  pub moved : later ≡ ticked before (large_bits v)

-- Halfway: what came so far and what is to come of these values make all of them.
pub record IsPacking (old now : Packed) (before later : ℕ) (all left : Values) : Type 0 where
  pub nodes : now.nodes.items ++ nodes_of_each left ≡ old.nodes.items ++ nodes_of_each all
  pub pieces : now.pieces.items ++ large_parts_each left ≡ old.pieces.items ++ large_parts_each all
  pub counted : ℕ
  pub total : counted + sum_by length (large_parts_each left) ≡ sum_by length (large_parts_each all)
  pub moved : later ≡ ticked before counted
