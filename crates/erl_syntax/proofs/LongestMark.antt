-- In a list of kinds by falling length, the first that passes is a longest one that passes.
use Rattle.std.proofs.Common.{◌≡◌, ℕ, zero, suc, ◌<◌, ◌≤◌, Bool, true, false, ◌&&◌, nat_le, List, [], ◌∷◌, length, get_or, Some, refl, arith, subst}
use Rattle.std.specs.List.{find, list_all}
use Rattle.std.proofs.lemmas.Grind.{common_steps}
use Rattle.std.proofs.lemmas.List.Sums.{AllPass-from_list_all}
use Rattle.erl_syntax.specs.declared.token.TheConstants.{MARKS}
use Rattle.erl_syntax.specs.declared.token.TokenKind.{TokenKind}
use Rattle.erl_syntax.specs.Spellings.{spelling, begins_with}

len : TokenKind → ℕ
len kind = length (spelling kind)

is_shorter : TokenKind → TokenKind → Bool
is_shorter kind other = nat_le (len other) (len kind)

falling : List TokenKind → Bool
falling [] = true
falling (kind ∷ kinds) = list_all (is_shorter kind) kinds && falling kinds

marks_fall : falling MARKS ≡ true
unfolding falling is_shorter len
marks_fall = refl

and_left : (a b : Bool) → (a && b) ≡ true → a ≡ true
and_left true b e = refl
and_left false b e = e

and_right : (a b : Bool) → (a && b) ≡ true → b ≡ true
and_right true b e = e
and_right false b e = absurd (cc)

shorter : (kind other : TokenKind) → is_shorter kind other ≡ true → len other ≤ len kind
unfolding is_shorter
shorter kind other e = grind (arith, common_steps)

first_is : (kind found : TokenKind) → Some kind ≡ Some found → kind ≡ found
first_is kind found e = cc

here : (p : TokenKind → Bool) (kind found : TokenKind) (kinds : List TokenKind) → p kind ≡ true → list_all (is_shorter kind) kinds ≡ true → find p (kind ∷ kinds) ≡ Some found →
    (k : ℕ) (d : TokenKind) → k < length (kind ∷ kinds) → len (get_or (kind ∷ kinds) k d) ≤ len found
here p kind found kinds y a e zero d h =
    let s : kind ≡ found = first_is kind found (rw y at e) in
    let P : TokenKind → Type 0 = λ x. len kind ≤ len x in
    subst P s (omega arith)
here p kind found kinds y a e (suc k) d h =
    let s : kind ≡ found = first_is kind found (rw y at e) in
    let P : TokenKind → Type 0 = λ x. len (get_or kinds k d) ≤ len x in
    subst P s (shorter kind (get_or kinds k d) (AllPass-from_list_all (is_shorter kind) kinds a k d (omega arith)))

longest_by : (p : TokenKind → Bool) (kind found : TokenKind) (kinds : List TokenKind) (v : Bool) → p kind ≡ v → list_all (is_shorter kind) kinds ≡ true → find p (kind ∷ kinds) ≡ Some found →
    (find p kinds ≡ Some found → (k : ℕ) (d : TokenKind) → k < length kinds → p (get_or kinds k d) ≡ true → len (get_or kinds k d) ≤ len found) →
    (k : ℕ) (d : TokenKind) → k < length (kind ∷ kinds) → p (get_or (kind ∷ kinds) k d) ≡ true → len (get_or (kind ∷ kinds) k d) ≤ len found
longest_by p kind found kinds true y a e r k d h t = here p kind found kinds y a e k d h
longest_by p kind found kinds false y a e r zero d h t = absurd (cc)
longest_by p kind found kinds false y a e r (suc k) d h t = r (rw y at e) k d (omega arith) t

longest : (p : TokenKind → Bool) (found : TokenKind) (kinds : List TokenKind) → falling kinds ≡ true → find p kinds ≡ Some found →
    (k : ℕ) (d : TokenKind) → k < length kinds → p (get_or kinds k d) ≡ true → len (get_or kinds k d) ≤ len found
unfolding falling
longest p found [] f e k d h t = absurd (cc)
longest p found (kind ∷ kinds) f e k d h t =
    longest_by p kind found kinds (p kind) refl (and_left (list_all (is_shorter kind) kinds) (falling kinds) f) e
    (longest p found kinds (and_right (list_all (is_shorter kind) kinds) (falling kinds) f)) k d h t

pub longest_mark : (bs : List ℕ) (found : TokenKind) → find (begins_with bs) MARKS ≡ Some found →
    (k : ℕ) (d : TokenKind) → k < length MARKS → begins_with bs (get_or MARKS k d) ≡ true → length (spelling (get_or MARKS k d)) ≤ length (spelling found)
unfolding len
longest_mark bs found e k d h t = longest (begins_with bs) found MARKS marks_fall e k d h t
