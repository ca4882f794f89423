use Rattle.std.proofs.Common.{length, arith}
use Rattle.term_layers.proofs.RowCursor.{any_fuel}
use Rattle.term_layers.proofs.cursors.enough_looks.Goals as goal

-- src/cursors.rt
pub returns : goal.returns
returns c = λ s ss sh bs bits n h. any_fuel s ss sh bs n (length bits) bits h (omega arith)
