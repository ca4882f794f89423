-- Functions laid out one after another, each with its variables.
use Rattle.std.proofs.Common.{◌≡◌, ℕ, ◌+◌, ◌<◌, ◌≤◌, List, [], ◌∷◌, ◌++◌, map, length, get_or, drop, refl, sym, ◌∙◌, ap}
use Rattle.std.specs.List.{zip}
use Rattle.std.proofs.lemmas.List.{append_assoc, append-nil, map-append, drop_all}
use Rattle.code_layout.proofs.Loops.{from_here}

pub zip_more : {X Y A C : Type 0} (f : A → C) (g : X × Y → C) (xs : List X) (i : ℕ) (x : X) (left later : List Y) (y : Y) (old new : List A) (a : A) (all : List C) → i < length xs → x ≡ get_or xs i x → left ≡ y ∷ later → new ≡ old ++ a ∷ [] → f a ≡ g (x, y)
    → all ≡ map f old ++ map g (zip (drop i xs) left) → all ≡ map f new ++ map g (zip (drop (i + 1) xs) later)
zip_more {X} f g xs i x left later y old new a all l e h n k inv =
    let rest : List X = drop (i + 1) xs in
    inv ∙ ap (λ zs. map f old ++ map g (zip zs left)) (from_here xs i x l e) ∙ ap (λ ys. map f old ++ map g (zip (x ∷ rest) ys)) h
    ∙ ap (λ z. map f old ++ z ∷ map g (zip rest later)) (sym k) ∙ sym (append_assoc (map f old) (f a ∷ []) (map g (zip rest later)))
    ∙ ap (λ zs. zs ++ map g (zip rest later)) (sym (map-append f old (a ∷ [])) ∙ ap (map f) (sym n))

none_left : {X Y : Type 0} (xs : List X) (ys : List Y) → ys ≡ [] → zip xs ys ≡ []
none_left [] ys h = refl
none_left (x ∷ xs) [] h = refl
none_left (x ∷ xs) (y ∷ ys) h = cc

pub zip_done : {X Y A C : Type 0} (f : A → C) (g : X × Y → C) (xs : List X) (i : ℕ) (left : List Y) (old : List A) (all : List C) → length xs ≤ i → all ≡ map f old ++ map g (zip (drop i xs) left) → map f old ≡ all
zip_done f g xs i left old all l h = sym (h ∙ ap (λ zs. map f old ++ map g (zip zs left)) (drop_all i xs l) ∙ append-nil (map f old))

pub zip_out : {X Y A C : Type 0} (f : A → C) (g : X × Y → C) (xs : List X) (left : List Y) (old : List A) (all : List C) → left ≡ [] → all ≡ map f old ++ map g (zip xs left) → map f old ≡ all
zip_out f g xs left old all e h = sym (h ∙ ap (λ zs. map f old ++ map g zs) (none_left xs left e) ∙ append-nil (map f old))
