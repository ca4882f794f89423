-- What holds of each of a list, of lists that were made of it.
use Rattle.std.proofs.Common.{List, [], ◌∷◌, ◌++◌, map}
use Rattle.std.specs.List.{AllByRecursion}
use mathlib.Core.List.{reverse_aux}
use Rattle.erl_syntax.specs.declared.segment.Segment.{Segment}
use Rattle.term_layers.proofs.Readings.{segment_read, pieces_read}
use Rattle.term_value.specs.Read.{Piece, Reading}

pub each_append : {X : Type 0} (H : X → Type 0) (xs ys : List X) → AllByRecursion H xs → AllByRecursion H ys → AllByRecursion H (xs ++ ys)
each_append H [] ys h g = g
each_append H (x ∷ xs) ys h g = (h.0, each_append H xs ys h.1 g)

pub each_turned : {X : Type 0} (H : X → Type 0) (xs ys : List X) → AllByRecursion H xs → AllByRecursion H ys → AllByRecursion H (reverse_aux xs ys)
each_turned H [] ys h g = g
each_turned H (x ∷ xs) ys h g = each_turned H xs (x ∷ ys) h.1 (h.0, g)

pub each_map : {X Y : Type 0} (H : Y → Type 0) (f : X → Y) (xs : List X) → AllByRecursion (λ x. H (f x)) xs → AllByRecursion H (map f xs)
each_map H f [] h = tt
each_map H f (x ∷ xs) h = (h.0, each_map H f xs h.1)

pub each_piece : (H : Piece → Type 0) (rd : Reading) (sgs : List Segment) → AllByRecursion (λ sg. AllByRecursion H (segment_read rd sg)) sgs → AllByRecursion H (pieces_read rd sgs)
each_piece H rd [] h = tt
each_piece H rd (sg ∷ sgs) h = each_append H (segment_read rd sg) (pieces_read rd sgs) h.0 (each_piece H rd sgs h.1)
