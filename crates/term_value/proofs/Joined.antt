-- Texts joined one by one.
use Rattle.std.proofs.Common.{◌≡◌, ℕ, zero, suc, ◌+◌, ◌-◌, ◌*◌, ◌<◌, ◌≤◌, Bool, List, [], ◌∷◌, ◌++◌, length, get_or, map, take, drop, drop-drop, refl, ap, sym, ◌∙◌, arith, append_assoc, append-nil, add-one, decimal}
use Rattle.std.specs.List.{flat_map}
use Rattle.std.proofs.lemmas.List.{at_drop_more, at_drop_all}
use Rattle.std.proofs.lemmas.List.Concat.{flat_map-cons}
use Rattle.bits_value.specs.Number.{natural}
use Rattle.term_value.specs.Texts.{comma_joined, byte_texts}
use Rattle.term_value.specs.Joining.{comma, rest_joined}

comma_joined-more : (t : List ℕ) (ts : List (List ℕ)) → comma_joined (t ∷ ts) ≡ t ++ flat_map (λ text. 44 ∷ text) ts
comma_joined-more t [] = sym (append-nil t)
comma_joined-more t (u ∷ ts) = ap (λ l. t ++ (44 ∷ l)) (comma_joined-more u ts) ∙ ap (λ l. t ++ l) (sym (flat_map-cons (λ text. 44 ∷ text) u ts))

rest_joined-more : (before : ℕ) (t : List ℕ) (ts : List (List ℕ)) → rest_joined before (t ∷ ts) ≡ comma before ++ (t ++ rest_joined (suc before) ts)
rest_joined-more zero t ts = comma_joined-more t ts
rest_joined-more (suc before) t ts = flat_map-cons (λ text. 44 ∷ text) t ts

-- one more text is added behind a line
pub one_more : (before next : ℕ) (line with_comma longer t all : List ℕ) (texts ts : List (List ℕ)) → next ≡ before + 1 → line ++ rest_joined before texts ≡ all → texts ≡ t ∷ ts
    → with_comma ≡ line ++ comma before → longer ≡ with_comma ++ t → longer ++ rest_joined next ts ≡ all
one_more before next line with_comma longer t all texts ts n h e c m =
    ap (λ k. longer ++ rest_joined k ts) (n ∙ add-one before)
    ∙ ap (λ l. l ++ rest_joined (suc before) ts) (m ∙ ap (λ l. l ++ t) c)
    ∙ append_assoc (line ++ comma before) t (rest_joined (suc before) ts)
    ∙ append_assoc line (comma before) (t ++ rest_joined (suc before) ts)
    ∙ ap (λ l. line ++ l) (sym (rest_joined-more before t ts))
    ∙ ap (λ l. line ++ rest_joined before l) (sym e)
    ∙ h

-- one more byte of the bits
pub byte_more : (bits : List Bool) (n i : ℕ) → i < n → byte_texts (n - i) (drop (8 * i) bits) ≡ decimal (natural (take 8 (drop (8 * i) bits))) ∷ byte_texts (n - (i + 1)) (drop (8 * (i + 1)) bits)
byte_more bits n i h =
    let a : n - i ≡ suc (n - (i + 1)) = omega arith in
    let b : 8 * i + 8 ≡ 8 * (i + 1) = omega arith in
    ap (λ m. byte_texts m (drop (8 * i) bits)) a
    ∙ ap (λ l. decimal (natural (take 8 (drop (8 * i) bits))) ∷ byte_texts (n - (i + 1)) l) (drop-drop 8 (8 * i) bits ∙ ap (λ k. drop k bits) b)

-- that more than one stand before is as good as one
pub rest_joined_one : (before : ℕ) (ts : List (List ℕ)) → rest_joined (before + 1) ts ≡ rest_joined 1 ts
rest_joined_one before ts = ap (λ k. rest_joined k ts) (add-one before)
