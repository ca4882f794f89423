-- Loops that lay out one element after another.
use Rattle.std.proofs.Common.{◌≡◌, ℕ, ◌+◌, ◌<◌, ◌≤◌, List, [], ◌∷◌, ◌++◌, map, length, get_or, take, drop, suc, refl, sym, ◌∙◌, ap, arith}
use Rattle.std.specs.List.{flat_map}
use Rattle.std.proofs.Math.Seq.{drop-cons}
use Rattle.std.proofs.lemmas.List.{append_assoc, append-nil, map-append, take_more, take_all}
use Rattle.std.proofs.lemmas.Grind.{flat_map-append}

-- the list from a place on is the element there and those behind it
pub from_here : {X : Type 0} (xs : List X) (i : ℕ) (x : X) → i < length xs → x ≡ get_or xs i x → drop i xs ≡ x ∷ drop (i + 1) xs
from_here xs i x l g = drop-cons xs i x l ∙ ap (λ z. z ∷ drop (suc i) xs) (sym g) ∙ ap (λ n. x ∷ drop n xs) (let h : suc i ≡ i + 1 = omega arith in h)

-- the first element and those behind it
pub first_is : {X : Type 0} (xs : List X) (i : ℕ) (x : X) → i ≡ 0 → i < length xs → x ≡ get_or xs i x → xs ≡ x ∷ drop (i + 1) xs
first_is xs i x z l e = ap (λ n. drop n xs) (sym z) ∙ from_here xs i x l e

-- one more element, which stands for what one more element of the other list stands for
pub grown : {X Y A : Type 0} (f : X → A) (g : Y → A) (ys : List Y) (i : ℕ) (one : Y) (old new : List X) (x : X) → i < length ys → one ≡ get_or ys i one → new ≡ old ++ x ∷ [] → f x ≡ g one → map f old ≡ map g (take i ys) → map f new ≡ map g (take (i + 1) ys)
grown f g ys i one old new x l e n k h =
    ap (map f) n ∙ map-append f old (x ∷ []) ∙ ap (λ zs. zs ++ f x ∷ []) h ∙ ap (λ z. map g (take i ys) ++ z ∷ []) k
    ∙ sym (map-append g (take i ys) (one ∷ [])) ∙ ap (map g) (ap (λ z. take i ys ++ z ∷ []) e ∙ sym (take_more ys i one l))

pub grown_all : {X Y A : Type 0} (f : X → A) (g : Y → A) (ys : List Y) (i : ℕ) (old : List X) → length ys ≤ i → map f old ≡ map g (take i ys) → map f old ≡ map g ys
grown_all f g ys i old l h = h ∙ ap (map g) (take_all i ys l)

-- more elements for each
pub flat_more : {X A : Type 0} (f : X → List A) (xs : List X) (i : ℕ) (one : X) (old mid new : List A) → i < length xs → one ≡ get_or xs i one → new ≡ mid ++ f one → mid ≡ old ++ flat_map f (take i xs) → new ≡ old ++ flat_map f (take (i + 1) xs)
flat_more f xs i one old mid new l e n m =
    n ∙ ap (λ zs. zs ++ f one) m ∙ append_assoc old (flat_map f (take i xs)) (f one)
    ∙ ap (λ zs. old ++ zs) (ap (λ zs. flat_map f (take i xs) ++ zs) (sym (append-nil (f one))) ∙ sym (flat_map-append f (take i xs) (one ∷ [])) ∙ ap (flat_map f) (ap (λ z. take i xs ++ z ∷ []) e ∙ sym (take_more xs i one l)))
