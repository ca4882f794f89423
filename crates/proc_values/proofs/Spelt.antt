-- Bits that are the spelling of their number, part by part.
use Rattle.std.proofs.Common.{◌≡◌, ℕ, ℤ, pos, ◌+◌, ◌%◌, ◌^◌, ◌≤◌, Bool, true, false, cond, nat_lt, List, [], ◌∷◌, ◌++◌, Some, None, length, take, drop, ap, sym, ◌∙◌, arith, length-drop, append-nil}
use Rattle.std.proofs.Math.Nat.{mod-eq_of_lt}
use Rattle.std.proofs.Math.Seq.{take-add}
use Rattle.std.proofs.lemmas.List.{length-take-le}
use Rattle.std.proofs.lemmas.List.Concat.{flat_map-append}
use Rattle.bits_value.specs.Number.{bounded, natural, spell}
use Rattle.bits_value.specs.declared.Endian.TheVariants.{Big}
use Rattle.bits_value.proofs.BitLists.{natural-lt}
use Rattle.bits_value.proofs.Spellings.{spell-alone}
use Rattle.bit_store.specs.Pieces.{piece_bits, pieces_bits}
use Rattle.bit_store.specs.declared.piece.Piece.{Piece}
use Rattle.bit_store.specs.declared.piece.Piece.TheVariants.{Number}

within : (small : Bool) (n value : ℤ) → Some value ≡ cond small (Some n) None → value ≡ n
within true n value e = cc
within false n value e = absurd (cc)

-- a number within the bound spells its own bits
spelt : (count : ℕ) (part : List Bool) (value : ℤ) → length part ≡ count → Some value ≡ bounded (pos (natural part)) → spell count value Big ≡ part
spelt count part value l e =
    let n = natural part in
    let is : value ≡ pos n = within (nat_lt n (2 ^ 127)) (pos n) value e in
    let small : n % 2 ^ count ≡ n = ap (λ k. n % 2 ^ k) (sym l) ∙ mod-eq_of_lt (natural-lt part) in
    ap (λ v. spell count v Big) is ∙ sym (spell-alone count (pos n) Big part l (sym small))

pub more_numbers : {R : Type 0} (shown : R → List Bool) (bits : List Bool) (at count : ℕ) (value : ℤ) (pieces : List (Piece R)) → pieces_bits shown pieces ≡ take at bits → at + count ≤ length bits
    → Some value ≡ bounded (pos (natural (take count (drop at bits)))) → pieces_bits shown (pieces ++ Number value count Big ∷ []) ≡ take (at + count) bits
more_numbers shown bits at count value pieces so_far l e =
    let part = take count (drop at bits) in
    let size : length part ≡ count = length-take-le count (drop at bits) (omega (arith, length-drop at bits, l)) in
    flat_map-append (piece_bits shown) pieces (Number value count Big ∷ []) ∙ ap (λ front. front ++ (spell count value Big ++ [])) so_far
    ∙ ap (λ back. take at bits ++ back) (append-nil (spell count value Big) ∙ spelt count part value size e) ∙ sym (take-add at count bits)
