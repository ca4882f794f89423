-- The words of one kind in a list.
use Rattle.std.proofs.Common.{◌≡◌, Bool, true, false, cond, List, [], ◌∷◌, Option, Some, None, refl, sym, ◌∙◌, subst, ◌⊎◌, inl, inr}
use Rattle.std.specs.List.{find, Contains, AllByRecursion}
use Rattle.std.proofs.lemmas.List.Elements.{All-from_recursion, All-contains, Contains-append_left, Contains-append_right, Contains-push}
use Rattle.erl_syntax.specs.Typing.{kind_of, same_kind, is_of, word, Differ}
use Rattle.erl_syntax.specs.declared.segment.Spec.{Spec}
use Rattle.erl_syntax.specs.declared.typing.SpecKind.{SpecKind}
use Rattle.erl_syntax.specs.declared.typing.SpecKind.TheVariants as g
use Rattle.segment_type.specs.Words.{IsOnly, SomeIsNot}

no_first : {X : Type 0} (b : Bool) (x : X) (r : Option X) → cond b (Some x) r ≡ None → (b ≡ true → ⊥) × (r ≡ None)
no_first true x r e = cc
no_first false x r e = (λ h. cc, e)

none_pass : {X : Type 0} (p : X → Bool) (xs : List X) → find p xs ≡ None → AllByRecursion (λ x. p x ≡ true → ⊥) xs
none_pass p [] e = tt
none_pass p (x ∷ xs) e = let h = no_first (p x) x (find p xs) e in (h.0, none_pass p xs h.1)

-- where nothing is found, no element passes
pub find_none : {X : Type 0} (p : X → Bool) (xs : List X) → find p xs ≡ None → (a : X) → Contains xs a → p a ≡ true → ⊥
find_none p xs e a h = All-contains (λ x. p x ≡ true → ⊥) xs a (All-from_recursion (λ x. p x ≡ true → ⊥) xs (none_pass p xs e)) h

first_or : {X : Type 0} (b : Bool) (x a : X) (r : Option X) → cond b (Some x) r ≡ Some a → ((b ≡ true) × (x ≡ a)) ⊎ (r ≡ Some a)
first_or true x a r e = inl (refl, cc)
first_or false x a r e = inr e

-- what is found is an element that passes
pub find_some : {X : Type 0} (p : X → Bool) (xs : List X) (a : X) → find p xs ≡ Some a → Contains xs a × (p a ≡ true)
find_some p [] a e = cc
find_some {X} p (x ∷ xs) a e = elim (first_or (p x) x a (find p xs) e) [
  | inl h ↦ (let P : X → Type 0 = λ v. Contains (x ∷ xs) v × (p v ≡ true) in subst P h.1 (Contains-append_left (x ∷ []) xs x (Contains-push [] x), h.0))
  | inr h ↦ (let more = find_some p xs a h in (Contains-append_right (x ∷ []) xs a more.0, more.1))
]

same_is : (a b : SpecKind) → same_kind a b ≡ true → a ≡ b
same_is g.Type g.Type e = refl
same_is g.Sign g.Sign e = refl
same_is g.Endian g.Endian e = refl
same_is g.Unit g.Unit e = refl
same_is _ _ e = cc

same_itself : (a : SpecKind) → same_kind a a ≡ true
same_itself g.Type = refl
same_itself g.Sign = refl
same_itself g.Endian = refl
same_itself g.Unit = refl

along : (kind k : SpecKind) → k ≡ kind → same_kind kind k ≡ true
along kind k e = (let P : SpecKind → Type 0 = λ v. same_kind kind v ≡ true in subst P (sym e) (same_itself kind))

is_of-kind : (kind : SpecKind) (a : Spec) → kind_of a ≡ kind → is_of kind a ≡ true
is_of-kind g.Type a e = along g.Type (kind_of a) e
is_of-kind g.Sign a e = along g.Sign (kind_of a) e
is_of-kind g.Endian a e = along g.Endian (kind_of a) e
is_of-kind g.Unit a e = along g.Unit (kind_of a) e

kind_from : (kind : SpecKind) (a : Spec) → is_of kind a ≡ true → kind_of a ≡ kind
kind_from g.Type a e = sym (same_is g.Type (kind_of a) e)
kind_from g.Sign a e = sym (same_is g.Sign (kind_of a) e)
kind_from g.Endian a e = sym (same_is g.Endian (kind_of a) e)
kind_from g.Unit a e = sym (same_is g.Unit (kind_of a) e)

-- two words of the kind, of which one isn't the first, differ
pub differ : (kind : SpecKind) (specs : List Spec) (first : Spec) → word kind specs ≡ Some first → SomeIsNot kind specs first → Differ specs
differ kind specs first e other =
    let f = find_some (is_of kind) specs first e in
    (other.0, (first, ((other.1.0, f.0), (kind_from kind other.0 other.1.1.0 ∙ sym (kind_from kind first f.1), other.1.1.1))))

each_kind : (specs : List Spec) → IsOnly g.Type specs → IsOnly g.Sign specs → IsOnly g.Endian specs → IsOnly g.Unit specs → (kind : SpecKind) → IsOnly kind specs
each_kind specs t s e u g.Type = t
each_kind specs t s e u g.Sign = s
each_kind specs t s e u g.Endian = e
each_kind specs t s e u g.Unit = u

-- where no two words of any kind differ
pub agree : (specs : List Spec) → IsOnly g.Type specs → IsOnly g.Sign specs → IsOnly g.Endian specs → IsOnly g.Unit specs → Differ specs → ⊥
agree specs t s e u (a, (b, ((ha, hb), (same, ne)))) =
    ne (each_kind specs t s e u (kind_of a) a b ha hb (is_of-kind (kind_of a) a refl) (is_of-kind (kind_of a) b (sym same)))

-- the same of an equal list
pub carried : (a b : List Spec) → a ≡ b → (Differ a → ⊥) → Differ b → ⊥
carried a b e none = (let P : List Spec → Type 0 = λ v. Differ v → ⊥ in subst P e none)
