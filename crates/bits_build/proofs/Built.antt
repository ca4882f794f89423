-- A bitstring built part by part.
use Rattle.std.proofs.Common.{◌≡◌, ℕ, ◌+◌, ◌<◌, ◌≤◌, ◌++◌, Bool, List, [], ◌∷◌, length, length-append, ap, sym, subst, ◌∙◌, arith, append_assoc, append-nil}
use Rattle.std.proofs.lemmas.Bool.{le-leb, lt-leb}
use Rattle.std.proofs.lemmas.List.Concat.{flat_map-append}
use Rattle.bits_value.specs.declared.TheConstants.{MAX_BITS}
use Rattle.bit_store.specs.declared.piece.Piece.{Piece}
use Rattle.bit_store.specs.Pieces.{piece_bits, pieces_bits}
use Rattle.term_value.specs.Value.{VBits}
use Rattle.term_value.specs.Encode.{Encoded, Bits, and_bits, joint_within, built_on}
use Rattle.term_value.specs.Result.{Result, Gives, Stops, Limit}
use Rattle.bits_build.specs.declared.part.Part.{Part}
use Rattle.bits_build.specs.declared.fault.BuildFault.{BuildFault}
use Rattle.bits_build.specs.declared.fault.BuildFault.TheVariants as f
use Rattle.bits_build.specs.Parts.{part_encoded, parts_filled, IsCause, IsRefusal}

module _ (later : List Bool → Result) (front : List Bool) (encoded : Encoded) where
  -- the bits of one more segment
  pub joint_holds : (bits : List Bool) → encoded ≡ Bits bits → length (front ++ bits) ≤ MAX_BITS → and_bits encoded later front ≡ later (front ++ bits)
  joint_holds bits e h = ap (λ x. and_bits x later front) e ∙ ap (λ b. joint_within b later (front ++ bits)) (le-leb (length (front ++ bits)) MAX_BITS h)

  pub joint_fails : (bits : List Bool) → encoded ≡ Bits bits → MAX_BITS < length (front ++ bits) → and_bits encoded later front ≡ Stops Limit
  joint_fails bits e h = ap (λ x. and_bits x later front) e ∙ ap (λ b. joint_within b later (front ++ bits)) (lt-leb (length (front ++ bits)) MAX_BITS h)

  -- the segment that fails decides
  pub refused : (fault : BuildFault) → IsCause encoded fault → IsRefusal (and_bits encoded later front) fault
  refused f.BadArg e = ap (λ x. and_bits x later front) e
  refused f.Limit e = ap (λ x. and_bits x later front) e
  refused f.NoMemory e = tt

-- so many parts are built, and then this one
module _ {R : Type 0} (shown : R → List Bool) (part : Part R) (rest left : List (Part R)) (here : left ≡ part ∷ rest) (pieces : List (Piece R)) (before total : ℕ)
    (size : total ≡ before + length (pieces_bits shown pieces)) where
  behind : (front : List Bool) → length front ≡ before → length (front ++ pieces_bits shown pieces) ≡ total
  behind front h = omega (arith, length-append front (pieces_bits shown pieces))

  pub refused_here : (all : Result) (front : List Bool) (fault : BuildFault) → built_on (parts_filled shown left) (front ++ pieces_bits shown pieces) ≡ all
      → IsCause (part_encoded shown part) fault → IsRefusal all fault
  refused_here all front fault same cause =
      subst (λ r. IsRefusal r fault) (sym (ap (λ ps. built_on (parts_filled shown ps) (front ++ pieces_bits shown pieces)) here) ∙ same)
      (refused (built_on (parts_filled shown rest)) (front ++ pieces_bits shown pieces) (part_encoded shown part) fault cause)

  module _ (piece : Piece R) (bits : ℕ) (is : part_encoded shown part ≡ Bits (piece_bits shown piece)) (many : bits ≡ length (piece_bits shown piece)) where
    pub limit_here : (all : Result) (front : List Bool) → length front ≡ before → MAX_BITS < total + bits
        → built_on (parts_filled shown left) (front ++ pieces_bits shown pieces) ≡ all → all ≡ Stops Limit
    limit_here all front h past same =
        sym same ∙ ap (λ ps. built_on (parts_filled shown ps) (front ++ pieces_bits shown pieces)) here
        ∙ joint_fails (built_on (parts_filled shown rest)) (front ++ pieces_bits shown pieces) (part_encoded shown part) (piece_bits shown piece) is
        (omega (arith, behind front h, length-append (front ++ pieces_bits shown pieces) (piece_bits shown piece)))

    module _ (new : List (Piece R)) (pushed : new ≡ pieces ++ piece ∷ []) where
      more : pieces_bits shown new ≡ pieces_bits shown pieces ++ piece_bits shown piece
      more = ap (pieces_bits shown) pushed ∙ flat_map-append (piece_bits shown) pieces (piece ∷ []) ∙ ap (λ l. pieces_bits shown pieces ++ l) (append-nil (piece_bits shown piece))

      pub size_more : total + bits ≡ before + length (pieces_bits shown new)
      size_more = omega (arith, ap length more, length-append (pieces_bits shown pieces) (piece_bits shown piece))

      pub built_more : (all : Result) (front : List Bool) → length front ≡ before → total + bits ≤ MAX_BITS
          → built_on (parts_filled shown left) (front ++ pieces_bits shown pieces) ≡ all → built_on (parts_filled shown rest) (front ++ pieces_bits shown new) ≡ all
      built_more all front h within same =
          ap (λ l. built_on (parts_filled shown rest) (front ++ l)) more
          ∙ ap (built_on (parts_filled shown rest)) (sym (append_assoc front (pieces_bits shown pieces) (piece_bits shown piece)))
          ∙ sym (joint_holds (built_on (parts_filled shown rest)) (front ++ pieces_bits shown pieces) (part_encoded shown part) (piece_bits shown piece) is
          (omega (arith, behind front h, length-append (front ++ pieces_bits shown pieces) (piece_bits shown piece))))
          ∙ sym (ap (λ ps. built_on (parts_filled shown ps) (front ++ pieces_bits shown pieces)) here) ∙ same
