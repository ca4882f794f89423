-- The pieces of a list's bytes and binaries, for the contracts of private functions.
use Rattle.std.specs.Prelude.{◌≡◌, Bool, List, All, Option, Some, None}
use Rattle.bit_store.specs.Pieces.{pieces_bits, IsInside, HasPiece}
use Rattle.bit_store.specs.declared.piece.Piece.{Piece}
use Rattle.term_value.specs.BuiltIns.{joined_bits}
use Rattle.expr_eval.specs.declared.reason.Reason.TheVariants as r
use Rattle.expr_eval.specs.declared.reason.EvalFault.{EvalFault}
use Rattle.expr_eval.specs.declared.reason.EvalFault.TheVariants as f

-- each piece lies in what its reference shows
abbrev pub AreWhole : {R : Type 0} → (R → List Bool) → (R → Type 0) → List (Piece R) → Type 0
AreWhole shown has pieces = All (HasPiece has) pieces × All (IsInside shown) pieces

-- these bits were added, which are there
abbrev pub Adds : {R : Type 0} → (R → List Bool) → Option (List Bool) → List (Piece R) → List (Piece R) → Type 0
Adds shown bits old new = Some (pieces_bits shown new) ≡ joined_bits (Some (pieces_bits shown old)) bits

-- there are no such bits, or no memory was left
abbrev pub IsRefused : {R : Type 0} → Option (List Bool) → EvalFault R → Type 0
IsRefused bits (f.Raised r.BadArg) = bits ≡ None
IsRefused bits (f.Raised _) = ⊥
IsRefused bits f.Limit = ⊥
IsRefused bits f.NoMemory = Unit {0}
