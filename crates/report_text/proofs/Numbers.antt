-- The word and the numbers of a line, field by field.
use Rattle.std.proofs.Common.{◌≡◌, ℕ, zero, suc, ◌+◌, ◌-◌, ◌<◌, ◌≤◌, ◌^◌, List, [], ◌∷◌, ◌++◌, length, take, drop, get_or, codes, decimal, refl, ap, sym, ◌∙◌, arith, append_assoc, append-nil, length-append, length-drop, take-append-drop, true, false}
use Rattle.std.proofs.lemmas.List.{take_all}
use lib.Pointwise.{pointwise, bytes_decides}
use lib.Dec.{eqb}
use mathlib.Core.Bool.{not}
use Rattle.std.proofs.lemmas.Fmt.{decimal_injective}
use Rattle.report_text.proofs.OrderLines.{above_digits, cut_apart, numbers_mark, numbers-more}
use Rattle.report_text.specs.Fields.{AreNumbers, AreSmall, IsCut, IsField, IsWord, spaced}

-- ---- One number

-- two words in front of one text are the same
pub one_word : (a b x y : List ℕ) → IsWord a → IsWord b → IsCut x → IsCut y → a ++ x ≡ b ++ y → (a ≡ b) × (x ≡ y)
one_word a b x y ha hb hx hy e = cut_apart a b x y ha hb hx hy e

pub digits_are_word : (n : ℕ) → n < 2 ^ 64 → IsWord (decimal n)
digits_are_word n small = above_digits n small

-- ---- The numbers of a line

-- what remains of numbers behind the first ones, and spells the rest
pub record Remains (all first rest : List ℕ) : Type 0 where
  pub later : List ℕ
  pub all_are : all ≡ first ++ later
  pub small : AreSmall later
  pub spelled : rest ≡ spaced later ++ (10 ∷ [])

pub all_remain : (text ns : List ℕ) → AreNumbers text ns → Remains ns [] text
all_remain text ns h = record { later = ns; all_are = refl; small = h.small; spelled = h.spelled }

-- a number with the same digits in front is the first that remains
pub field_of : (text rest later : List ℕ) (n m : ℕ) → IsField text n rest → m < 2 ^ 64 → text ≡ spaced (m ∷ later) ++ (10 ∷ []) → (n ≡ m) × (rest ≡ spaced later ++ (10 ∷ []))
field_of text rest later n m f small e =
    let s : 32 ∷ (decimal n ++ rest) ≡ 32 ∷ (decimal m ++ (spaced later ++ (10 ∷ []))) = sym f.spelled ∙ e ∙ numbers-more m later (10 ∷ []) in
    let t : decimal n ++ rest ≡ decimal m ++ (spaced later ++ (10 ∷ [])) = cc s in
    let both = one_word (decimal n) (decimal m) rest (spaced later ++ (10 ∷ [])) (digits_are_word n f.small) (digits_are_word m small) f.cut (numbers_mark later []) t in
    (decimal_injective n m f.small small both.0, both.1)

pub fewer_remain : (all first text rest : List ℕ) (n : ℕ) → IsField text n rest → Remains all first text → Remains all (first ++ n ∷ []) rest
fewer_remain all first text rest n f h = elim h.later as (λ later. all ≡ first ++ later → AreSmall later → text ≡ spaced later ++ (10 ∷ []) → Remains all (first ++ n ∷ []) rest) [
  | [] ↦ λ a s e. (let k : 32 ∷ (decimal n ++ rest) ≡ 10 ∷ [] = sym f.spelled ∙ e in cc k)
  | m ∷ later ↦ λ a s e. (let both = field_of text rest later n m f s.0 e in record {
    later = later;
    all_are = a ∙ ap (λ k. first ++ k ∷ later) (sym both.0) ∙ sym (append_assoc first (n ∷ []) later);
    small = s.1;
    spelled = both.1;
  })
] h.all_are h.small h.spelled

-- where no number stands in front, none remains
pub none_remain : (all first text : List ℕ) → ((n : ℕ) (rest : List ℕ) → IsField text n rest → ⊥) → Remains all first text → text ≡ 10 ∷ []
none_remain all first text none h = elim h.later as (λ later. AreSmall later → text ≡ spaced later ++ (10 ∷ []) → text ≡ 10 ∷ []) [
  | [] ↦ λ s e. e
  | m ∷ later ↦ λ s e. absurd (none m (spaced later ++ (10 ∷ [])) (record { small = s.0; cut = numbers_mark later []; spelled = e ∙ numbers-more m later (10 ∷ []) }))
] h.small h.spelled

pub too_many : (all first text rest : List ℕ) (n : ℕ) → IsField text n rest → Remains all first text → 4 ≤ length first → length all ≤ 4 → ⊥
too_many all first text rest n f h full few =
    let r = fewer_remain all first text rest n f h in
    let l : length all ≡ length (first ++ n ∷ []) + length r.later = ap length r.all_are ∙ length-append (first ++ n ∷ []) r.later in
    let k : length (first ++ n ∷ []) ≡ length first + 1 = length-append first (n ∷ []) in
    omega (arith, l, k, full, few)

-- numbers with one more behind them
spaced-more : (ns : List ℕ) (n : ℕ) (r : List ℕ) → spaced (ns ++ n ∷ []) ++ r ≡ spaced ns ++ (32 ∷ (decimal n ++ r))
spaced-more [] n r = numbers-more n [] r
spaced-more (m ∷ ns) n r = numbers-more m (ns ++ n ∷ []) r ∙ ap (λ l. 32 ∷ (decimal m ++ l)) (spaced-more ns n r) ∙ sym (numbers-more m ns (32 ∷ (decimal n ++ r)))

pub one_more_spelled : (text first rest after : List ℕ) (n : ℕ) → text ≡ spaced first ++ rest → IsField rest n after → text ≡ spaced (first ++ n ∷ []) ++ after
one_more_spelled text first rest after n e f = e ∙ ap (λ r. spaced first ++ r) f.spelled ∙ sym (spaced-more first n after)

pub one_more_small : (first : List ℕ) (n : ℕ) → AreSmall first → n < 2 ^ 64 → AreSmall (first ++ n ∷ [])
one_more_small [] n h small = (small, tt)
one_more_small (m ∷ first) n h small = (h.0, one_more_small first n h.1 small)

-- ---- Texts

pub different_from_itself : (xs : List ℕ) → true ≡ not (pointwise eqb xs xs) → ⊥
different_from_itself xs h = let s : pointwise eqb xs xs ≡ true = (bytes_decides xs xs).1 refl in let f : true ≡ false = h ∙ ap not s in cc

-- one character more of a word
word_more : (cs : List ℕ) (n d : ℕ) → n < length cs → 32 < get_or cs n d → IsWord (take n cs) → IsWord (take (suc n) cs)
word_more [] n d inside above h = absurd (omega (arith, inside))
word_more (c ∷ cs) zero d inside above h = (above, tt)
word_more (c ∷ cs) (suc n) d inside above h = let k : n < length cs = omega (arith, inside) in (h.0, word_more cs n d k above h.1)

pub word_next : (cs : List ℕ) (n m d : ℕ) → m ≡ suc n → n < length cs → 32 < get_or cs n d → IsWord (take n cs) → IsWord (take m cs)
word_next cs n m d e inside above h = rw e (word_more cs n d inside above h)

-- a word ends in front of a character that is a space or below, and at the end
pub cut_at : (cs : List ℕ) (n d : ℕ) → n < length cs → get_or cs n d ≤ 32 → IsCut (drop n cs)
cut_at [] n d inside below = absurd (omega (arith, inside))
cut_at (c ∷ cs) zero d inside below = below
cut_at (c ∷ cs) (suc n) d inside below = let k : n < length cs = omega (arith, inside) in cut_at cs n d k below

pub cut_end : (cs : List ℕ) → IsCut (drop (length cs) cs)
cut_end [] = tt
cut_end (c ∷ cs) = cut_end cs

pub shorter : (text rest : List ℕ) (n : ℕ) → IsField text n rest → length rest < length text
shorter text rest n f =
    let l : length text ≡ length (32 ∷ (decimal n ++ rest)) = ap length f.spelled in
    let k : length (decimal n ++ rest) ≡ length (decimal n) + length rest = length-append (decimal n) rest in
    omega (arith, l, k)

-- the digits behind a space in front of a number
pub front_digits : (bytes after digits rest : List ℕ) (n len : ℕ) → IsField bytes n rest → after ≡ drop 1 bytes → IsWord (take len after) → IsCut (drop len after) → digits ≡ take len after → digits ≡ decimal n
front_digits bytes after digits rest n len f is_after word cut is_digits =
    let behind : after ≡ decimal n ++ rest = is_after ∙ ap (drop 1) f.spelled in
    let whole : take len after ++ drop len after ≡ decimal n ++ rest = take-append-drop len after ∙ behind in
    is_digits ∙ (one_word (take len after) (decimal n) (drop len after) rest word (digits_are_word n f.small) cut f.cut whole).0

pub tail_whole : (bytes : List ℕ) (n : ℕ) → take (length bytes - n) (drop n bytes) ≡ drop n bytes
tail_whole bytes n = let l : length (drop n bytes) ≤ length bytes - n = omega (arith, length-drop n bytes) in take_all (length bytes - n) (drop n bytes) l
