-- Where no reference to a cell is the latest, none grows it.
use Rattle.std.proofs.Common.{◌≡◌, List, Option, subst}
use Rattle.off_heap.specs.declared.cell.Cell.{Cell}
use Rattle.off_heap.specs.declared.reference.BitRef.{BitRef}
use Rattle.off_heap.specs.declared.reference.BitRef.TheVariants.{Small, Part}
use Rattle.off_heap.specs.Cells.{Grows, Latest, NoLatest}

pub no_growth : (cells : List (Option Cell)) (of other : BitRef) → NoLatest cells of → Grows cells of other → ⊥
no_growth cells (Part n off len) (Part m start more) h g = h start more (subst (λ k. Latest cells (Part k start more)) g.0 g.1)
no_growth cells (Part n off len) (Small bits) h g = g
no_growth cells (Small bits) other h g = g
