use Rattle.std.proofs.Common.{ap, arith}
use Rattle.term_value.specs.Seen.{count_of}
use Rattle.term_value.proofs.RowLemmas.{row_length}
use Rattle.term_value.proofs.tuple.Items.length.Goals as goal

pub returns-in-Ok : goal.returns-in-Ok
returns-in-Ok g c = grind (arith, row_length c.self.inside.items.items, ap count_of c.self.view_is, c.len.ensures, c.in-Ok.ensures)

pub returns-in-Err : goal.returns-in-Err
returns-in-Err g c = grind (arith, row_length c.self.inside.items.items, ap count_of c.self.view_is, c.len.ensures, c.in-Err.ensures)
