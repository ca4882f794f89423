-- A mark that was found stands there.
use Rattle.std.proofs.Common.{◌≡◌, ℕ, ◌<◌, ◌≤◌, Bool, true, false, ◌&&◌, nat_lt, List, [], ◌∷◌, length, take, Option, Some, None, IfSome, refl, sym, ap, arith, subst}
use Rattle.std.specs.List.{find, list_all}
use Rattle.std.specs.Cmp.Lexicographic.{same_text}
use Rattle.std.proofs.lemmas.Grind.{common_steps}
use Rattle.std.proofs.lemmas.List.{length-take}
use Rattle.erl_syntax.specs.declared.token.TheConstants.{MARKS}
use Rattle.erl_syntax.specs.declared.token.TokenKind.{TokenKind}
use Rattle.erl_syntax.specs.Spellings.{spelling, begins_with}

-- the kind has a spelling of its own
spelled_out : TokenKind → Bool
spelled_out kind = nat_lt 0 (length (spelling kind))

pub and_left : (a b : Bool) → (a && b) ≡ true → a ≡ true
and_left true b e = refl
and_left false b e = e

pub and_right : (a b : Bool) → (a && b) ≡ true → b ≡ true
and_right true b e = e
and_right false b e = absurd (cc)

found_by : (p q : TokenKind → Bool) (kind : TokenKind) (kinds : List TokenKind) (v : Bool) → p kind ≡ v → q kind ≡ true →
    IfSome (find p kinds) (λ k. (p k ≡ true) × (q k ≡ true)) → IfSome (find p (kind ∷ kinds)) (λ k. (p k ≡ true) × (q k ≡ true))
found_by p q kind kinds true e h r = rw e (e, h)
found_by p q kind kinds false e h r = rw e r

pub found : (p q : TokenKind → Bool) (kinds : List TokenKind) → list_all q kinds ≡ true → IfSome (find p kinds) (λ k. (p k ≡ true) × (q k ≡ true))
found p q [] a = tt
found p q (kind ∷ kinds) a = found_by p q kind kinds (p kind) refl (and_left (q kind) (list_all q kinds) a) (found p q kinds (and_right (q kind) (list_all q kinds) a))

all_spelled : list_all spelled_out MARKS ≡ true
unfolding spelled_out
all_spelled = refl

pub mark_stands : (bs : List ℕ) (kind : TokenKind) → begins_with bs kind ≡ true → spelling kind ≡ take (length (spelling kind)) bs
mark_stands bs kind e = same_text (spelling kind) (take (length (spelling kind)) bs) (sym e)

within : (bs : List ℕ) (kind : TokenKind) → begins_with bs kind ≡ true → spelled_out kind ≡ true → (0 < length (spelling kind)) × (length (spelling kind) ≤ length bs)
unfolding spelled_out
within bs kind e f =
    let s : length (spelling kind) ≡ length (take (length (spelling kind)) bs) = ap length (mark_stands bs kind e) in
    (grind (arith, common_steps), omega (arith, s, length-take (length (spelling kind)) bs))

within_found : (bs : List ℕ) (r : Option TokenKind) → IfSome r (λ kind. (begins_with bs kind ≡ true) × (spelled_out kind ≡ true)) →
    IfSome r (λ kind. (0 < length (spelling kind)) × (length (spelling kind) ≤ length bs))
within_found bs None h = tt
within_found bs (Some kind) h = within bs kind h.0 h.1

pub mark_within : (bs : List ℕ) (r : Option TokenKind) → r ≡ find (begins_with bs) MARKS → IfSome r (λ kind. (0 < length (spelling kind)) × (length (spelling kind) ≤ length bs))
mark_within bs r e =
    let P : Option TokenKind → Type 0 = λ o. IfSome o (λ kind. (0 < length (spelling kind)) × (length (spelling kind) ≤ length bs)) in
    subst P (sym e) (within_found bs (find (begins_with bs) MARKS) (found (begins_with bs) spelled_out MARKS all_spelled))
