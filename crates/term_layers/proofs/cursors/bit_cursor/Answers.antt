use Rattle.term_layers.proofs.RowCursor.{cursor}
use Rattle.term_layers.proofs.cursors.bit_cursor.Goals as goal

-- src/cursors.rt
pub returns : goal.returns
returns c = cursor
