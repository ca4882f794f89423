-- How many bits pieces have, and parts of parts.
use Rattle.std.proofs.Common.{◌≡◌, ℕ, zero, suc, ◌+◌, ◌-◌, ◌<◌, ◌≤◌, Bool, List, [], ◌∷◌, ◌++◌, length, take, drop, get_or, Some, None, All, append_assoc, ℤ, sym, ap, subst, ◌∙◌, arith}
use Rattle.std.specs.List.{flat_map}
use Rattle.std.proofs.lemmas.List.{length-take-le, length-drop, length-append, take-take, drop-drop, drop-take, take_more, take_all, flat_map_more}
use Rattle.std.proofs.lemmas.List.Elements.{All-get_or}
use Rattle.std.proofs.lemmas.Bool.Decides.{nat_tests}
use Rattle.bits_value.specs.declared.TheConstants.{MAX_BITS}
use Rattle.bits_value.specs.declared.Endian.{Endian}
use Rattle.bits_value.proofs.Spellings.{length-spell}
use Rattle.bit_store.specs.Pieces.{piece_bits, IsInside, bits_within}
use Rattle.bit_store.specs.declared.piece.Piece.{Piece}
use Rattle.bit_store.specs.declared.piece.Piece.TheVariants.{Number, Part}

pub length-part : (xs : List Bool) (off n : ℕ) → off + n ≤ length xs → length (take n (drop off xs)) ≡ n
length-part xs off n h = length-take-le n (drop off xs) (omega (arith, length-drop off xs))

pub part-part : (xs : List Bool) (off len o n : ℕ) → o + n ≤ len → take n (drop (off + o) xs) ≡ take n (drop o (take len (drop off xs)))
part-part xs off len o n h =
    let m = len - o in
    let e : o + m ≡ len = omega arith in
    sym (ap (λ (k : ℕ). take n (drop o (take k (drop off xs)))) (sym e)
    ∙ ap (take n) (drop-take o m (drop off xs))
    ∙ take-take n m (drop o (drop off xs)) (omega arith)
    ∙ ap (take n) (drop-drop o off xs))

-- ---- whether so many bits are within the bound
pub past : (m : ℕ) → MAX_BITS < m → None ≡ bits_within m
past m h = grind (arith, nat_tests)

pub none_is_past : (m : ℕ) → None ≡ bits_within m → MAX_BITS < m
none_is_past m h = grind (arith, nat_tests)

pub some_is_within : (n m : ℕ) → Some n ≡ bits_within m → (n ≡ m) × (m ≤ MAX_BITS)
some_is_within n m h = grind (arith, nat_tests)

pub within-is : (m : ℕ) → m ≤ MAX_BITS → Some m ≡ bits_within m
within-is m h = grind (arith, nat_tests)

-- ---- pieces, one after the other
pub pieces_more : {X : Type 0} (f : X → List Bool) (xs : List X) (i : ℕ) (d : X) → i < length xs → flat_map f (take (i + 1) xs) ≡ flat_map f (take i xs) ++ f (get_or xs i d)
pieces_more f xs i d h = ap (flat_map f) (take_more xs i d h) ∙ sym (flat_map_more f [] (take i xs) (get_or xs i d))

pub front_is_short : {X : Type 0} (f : X → List Bool) (xs : List X) (i : ℕ) → length (flat_map f (take i xs)) ≤ length (flat_map f xs)
front_is_short f [] zero = omega arith
front_is_short f [] (suc i) = omega arith
front_is_short f (x ∷ xs) zero = omega arith
front_is_short f (x ∷ xs) (suc i) =
    let s : length (flat_map f (take i xs)) ≤ length (flat_map f xs) = front_is_short f xs i in
    omega (arith, length-append (f x) (flat_map f (take i xs)), length-append (f x) (flat_map f xs))

-- a piece ends within all of them
pub next_is_short : {X : Type 0} (f : X → List Bool) (xs : List X) (i : ℕ) (d : X) → i < length xs → length (flat_map f (take i xs)) + length (f (get_or xs i d)) ≤ length (flat_map f xs)
next_is_short f xs i d h =
    let e : length (flat_map f (take (i + 1) xs)) ≡ length (flat_map f (take i xs)) + length (f (get_or xs i d)) = ap length (pieces_more f xs i d h) ∙ length-append (flat_map f (take i xs)) (f (get_or xs i d)) in
    omega (arith, front_is_short f xs (i + 1))

-- ---- the bits of one piece
module _ {R : Type 0} (shown : R → List Bool) where
  pub length-number : (p : Piece R) (value : ℤ) (n : ℕ) (endian : Endian) → p ≡ Number value n endian → length (piece_bits shown p) ≡ n
  length-number p value n endian is = ap (λ (q : Piece R). length (piece_bits shown q)) is ∙ length-spell n value endian

  pub length-part_of : (p : Piece R) (of : R) (off n : ℕ) → p ≡ Part of off n → IsInside shown p → length (piece_bits shown p) ≡ n
  length-part_of p of off n is h =
      let P : Piece R → Type 0 = λ q. IsInside shown q in
      ap (λ (q : Piece R). length (piece_bits shown q)) is ∙ length-part (shown of) off n (subst P is h)

-- ---- the bits of pieces, counted one after the other
module _ {X : Type 0} (xs : List X) (i : ℕ) (x : X) (h : i < length xs) (is : x ≡ get_or xs i x) where
  pub item_has : (P : X → Type 0) → All P xs → P x
  item_has P all = subst P (sym is) (All-get_or P xs i x h all)

  module _ (f : X → List Bool) where
    pub more_bits : length (flat_map f (take (i + 1) xs)) ≡ length (flat_map f (take i xs)) + length (f x)
    more_bits = ap length (pieces_more f xs i x h) ∙ length-append (flat_map f (take i xs)) (f (get_or xs i x)) ∙ ap (λ (y : X). length (flat_map f (take i xs)) + length (f y)) (sym is)

    pub fits_next : length (flat_map f (take i xs)) + length (f x) ≤ length (flat_map f xs)
    fits_next = omega (arith, more_bits, front_is_short f xs (i + 1))

    pub joined_next : (front : List Bool) → (front ++ flat_map f (take i xs)) ++ f x ≡ front ++ flat_map f (take (i + 1) xs)
    joined_next front = append_assoc front (flat_map f (take i xs)) (f x)
        ∙ ap (λ (w : List Bool). front ++ w) (ap (λ (y : X). flat_map f (take i xs) ++ f y) is ∙ sym (pieces_more f xs i x h))

    pub counts_more : (total new : ℕ) → total ≡ length (flat_map f (take i xs)) → Some new ≡ bits_within (total + length (f x)) → (new ≤ MAX_BITS) × (new ≡ length (flat_map f (take (i + 1) xs)))
    counts_more total new t e = let w = some_is_within new (total + length (f x)) e in (omega (arith, w.0, w.1), omega (arith, w.0, t, more_bits))

    pub counts_past : (total : ℕ) → total ≡ length (flat_map f (take i xs)) → None ≡ bits_within (total + length (f x)) → None ≡ bits_within (length (flat_map f xs))
    counts_past total t e = past (length (flat_map f xs)) (omega (arith, none_is_past (total + length (f x)) e, t, fits_next))

pub counts_all : {X : Type 0} (f : X → List Bool) (xs : List X) (i total : ℕ) → length xs ≤ i → total ≤ MAX_BITS → total ≡ length (flat_map f (take i xs)) → Some total ≡ bits_within (length (flat_map f xs))
counts_all f xs i total h s t = let e : total ≡ length (flat_map f xs) = t ∙ ap (λ (ys : List _). length (flat_map f ys)) (take_all i xs h) in
    within-is total s ∙ ap bits_within e
