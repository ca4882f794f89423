-- Which function a call is of.
use Rattle.std.proofs.Common.{◌≡◌, ℕ, suc, ◌<◌, ◌≤◌, Bool, true, false, List, [], ◌∷◌, ◌++◌, length, get_or, take, drop, Option, Some, None, refl, sym, ◌∙◌, ap, subst, ◌⊎◌, inl, inr, arith, MatchBool, nat_eq}
use Rattle.std.specs.Str.{bytes_eq}
use Rattle.std.proofs.lemmas.List.{get_or_default, length-take}
use Rattle.std.proofs.lemmas.Slice.Eq.{bytes_eq-Decides}
use Rattle.std.proofs.lemmas.Bool.Decides.{Decides-eqb}
use Rattle.std.proofs.Math.Seq.{split_at, get_or-append_seam}
use Rattle.erl_syntax.specs.BuiltIns.{name_of, arity_of, is_bare, home_of}
use Rattle.erl_syntax.specs.Checking.{Spelled, HasFunction, IsExported, IsOwn, named, macro, CallsBuiltIn, bare, at_home, CallsOwn, exported}
use Rattle.erl_syntax.specs.declared.span.Span.{Span}
use Rattle.erl_syntax.specs.declared.expr.Expr.{Expr}
use Rattle.erl_syntax.specs.declared.expr.Expr.TheVariants as x
use Rattle.erl_syntax.specs.declared.module.Module.{Module}
use Rattle.erl_syntax.specs.declared.module.Head.{Head}
use Rattle.erl_syntax.specs.declared.built_in.BuiltIn.{BuiltIn}
use Rattle.erl_syntax.specs.declared.checking.CheckFault.{CheckFault}
use Rattle.module_check.specs.Order.{IsLeast, Some_of}
use Rattle.module_check.specs.Faults.{IsAtomOf, atom, IsOfBuiltIn, BareFault, NamedFault}

-- the atom with this number
spelled_at : (m : Module) (n : ℕ) (chars : List ℕ) → Spelled m n chars → get_or m.atoms n chars ≡ chars
spelled_at m n chars h =
    ap (λ zs. get_or zs n chars) h.stands ∙ (let P : ℕ → Type 0 = λ k. get_or (h.front ++ chars ∷ h.back) k chars ≡ chars in subst P h.number (get_or-append_seam h.front chars h.back chars))

spelled_from : (m : Module) (n : ℕ) (chars : List ℕ) → n < length m.atoms → get_or m.atoms n chars ≡ chars → Spelled m n chars
spelled_from m n chars l e = record {
  front = take n m.atoms;
  back = drop (suc n) m.atoms;
  number = simp length-take (omega arith);
  stands = split_at m.atoms n chars l ∙ ap (λ z. take n m.atoms ++ z ∷ drop (suc n) m.atoms) e;
}

test : (r : Bool) → (r ≡ true) ⊎ (r ≡ false)
test true = inl refl
test false = inr refl

pub by_text : (m : Module) (n : ℕ) (chars text : List ℕ) (r : Bool) → n < length m.atoms → text ≡ get_or m.atoms n text → r ≡ bytes_eq text chars → MatchBool r (Spelled m n chars) (Spelled m n chars → ⊥)
by_text m n chars text r l e h =
    let P : Bool → Type 0 = λ b. MatchBool b (Spelled m n chars) (Spelled m n chars → ⊥) in
    let same : get_or m.atoms n chars ≡ text = get_or_default m.atoms n chars text l ∙ sym e in
    elim (test (bytes_eq text chars)) [
      | inl t ↦ subst P (sym (h ∙ t)) (spelled_from m n chars l (same ∙ (bytes_eq-Decides text chars).0 t))
      | inr t ↦ subst P (sym (h ∙ t)) (λ k. let f : true ≡ false = sym ((bytes_eq-Decides text chars).1 (sym same ∙ spelled_at m n chars k)) ∙ t in cc)
    ]

pub atom_by : (m : Module) (chars : List ℕ) (e : Expr) (at : Span) (n : ℕ) (r : Bool) → e ≡ x.Atom at n → MatchBool r (Spelled m n chars) (Spelled m n chars → ⊥) → MatchBool r (IsAtomOf m chars e) (IsAtomOf m chars e → ⊥)
atom_by m chars e at n true h k = atom e at n h k
atom_by m chars e at n false h k = λ i. k (by_number i)
  where
    by_number : IsAtomOf m chars e → Spelled m n chars
    by_number (atom _ az o g s) = let P : ℕ → Type 0 = λ v. Spelled m v chars in let q : o ≡ n = cc in subst P q s

head_of : (hs : List Head) (h : Head) → 0 < length hs → h ≡ get_or hs 0 h → hs ≡ h ∷ drop 1 hs
head_of [] h l e = absurd (omega (arith, l))
head_of (a ∷ hs) h l e = ap (λ z. z ∷ hs) (sym e)

pub own_by : (m : Module) (e : Expr) (at : Span) (n : ℕ) (h : Head) → e ≡ x.Atom at n → 0 < length m.heads → h ≡ get_or m.heads 0 h → MatchBool (nat_eq h.name n) (IsOwn m e) (IsOwn m e → ⊥)
own_by m e at n h i l g =
    let P : Bool → Type 0 = λ b. MatchBool b (IsOwn m e) (IsOwn m e → ⊥) in
    let is = head_of m.heads h l g in
    elim (test (nat_eq h.name n)) [
      | inl t ↦ subst P (sym t) (named e at n h (drop 1 m.heads) i is ((Decides-eqb h.name n).0 t))
      | inr t ↦ subst P (sym t) (λ k. not_own is t k)
    ]
  where
    not_own : m.heads ≡ h ∷ drop 1 m.heads → nat_eq h.name n ≡ false → IsOwn m e → ⊥
    not_own is t (named _ az o j js a b c) =
        let same : j ≡ h = cc in
        let q : o ≡ n = cc in
        let f : true ≡ false = sym ((Decides-eqb h.name n).1 (ap (λ z. z.name) (sym same) ∙ c ∙ q)) ∙ t in cc
    not_own is t (macro _ az a) = cc

pub none_at_all : {X : Type 0} (xs : List X) → length xs < 1 → xs ≡ []
none_at_all [] l = refl
none_at_all (y ∷ ys) l = absurd (omega (arith, l))

pub one_at_all : {X : Type 0} (xs : List X) (y : X) → 1 ≤ length xs → length xs < 2 → y ≡ get_or xs 0 y → xs ≡ y ∷ []
one_at_all [] y l k e = absurd (omega (arith, l))
one_at_all (z ∷ []) y l k e = ap (λ v. v ∷ []) (sym e)
one_at_all (z ∷ w ∷ zs) y l k e = absurd (omega (arith, k))

pub bare_by : (m : Module) (home : List Expr) (name arity : ℕ) (b : BuiltIn) (r : Bool) → home ≡ [] → r ≡ is_bare b → arity_of b ≡ arity → Spelled m name (name_of b) → MatchBool r (CallsBuiltIn m home name arity b) (CallsBuiltIn m home name arity b → ⊥)
bare_by m home name arity b r e h a s =
    let P : List Expr → Type 0 = λ zs. MatchBool r (CallsBuiltIn m zs name arity b) (CallsBuiltIn m zs name arity b → ⊥) in
    let Q : Bool → Type 0 = λ v. MatchBool v (CallsBuiltIn m [] name arity b) (CallsBuiltIn m [] name arity b → ⊥) in
    subst P (sym e) (elim (test (is_bare b)) [
      | inl t ↦ subst Q (sym (h ∙ t)) (bare name arity b t (record { spelled = s; takes = a }))
      | inr t ↦ subst Q (sym (h ∙ t)) (λ k. not_bare t k)
    ])
  where
    not_bare : is_bare b ≡ false → CallsBuiltIn m [] name arity b → ⊥
    not_bare t (bare _ _ _ g i) = let f : true ≡ false = sym g ∙ t in cc

pub home_by : (m : Module) (home : List Expr) (one : Expr) (name arity : ℕ) (b : BuiltIn) (r : Bool) → home ≡ one ∷ [] → arity_of b ≡ arity → Spelled m name (name_of b) → MatchBool r (IsAtomOf m (home_of b) one) (IsAtomOf m (home_of b) one → ⊥) → MatchBool r (CallsBuiltIn m home name arity b) (CallsBuiltIn m home name arity b → ⊥)
home_by m home one name arity b r e a s h =
    let P : List Expr → Type 0 = λ zs. MatchBool r (CallsBuiltIn m zs name arity b) (CallsBuiltIn m zs name arity b → ⊥) in
    subst P (sym e) (by_answer r h)
  where
    from_home : IsAtomOf m (home_of b) one → CallsBuiltIn m (one ∷ []) name arity b
    from_home (atom _ at n g i) = at_home one at n name arity b g i (record { spelled = s; takes = a })

    to_home : CallsBuiltIn m (one ∷ []) name arity b → IsAtomOf m (home_of b) one
    to_home (at_home _ at n _ _ _ g i k) = atom one at n g i

    by_answer : (r : Bool) → MatchBool r (IsAtomOf m (home_of b) one) (IsAtomOf m (home_of b) one → ⊥) → MatchBool r (CallsBuiltIn m (one ∷ []) name arity b) (CallsBuiltIn m (one ∷ []) name arity b → ⊥)
    by_answer true h = from_home h
    by_answer false h = λ k. h (to_home k)

pub own_bare : (m : Module) (home : List Expr) (name arity : ℕ) → home ≡ [] → HasFunction m name arity → CallsOwn m home name arity
own_bare m home name arity e h = let P : List Expr → Type 0 = λ zs. CallsOwn m zs name arity in subst P (sym e) (bare name arity h)

pub own_home : (m : Module) (home : List Expr) (one : Expr) (name arity : ℕ) (r : Bool) → home ≡ one ∷ [] → HasFunction m name arity → IsOwn m one → MatchBool r (IsExported m name arity) (IsExported m name arity → ⊥) → MatchBool r (CallsOwn m home name arity) (CallsOwn m home name arity → ⊥)
own_home m home one name arity r e f o h =
    let P : List Expr → Type 0 = λ zs. MatchBool r (CallsOwn m zs name arity) (CallsOwn m zs name arity → ⊥) in
    subst P (sym e) (by_answer r h)
  where
    to_home : CallsOwn m (one ∷ []) name arity → IsExported m name arity
    to_home (exported _ _ _ a b c) = b

    by_answer : (r : Bool) → MatchBool r (IsExported m name arity) (IsExported m name arity → ⊥) → MatchBool r (CallsOwn m (one ∷ []) name arity) (CallsOwn m (one ∷ []) name arity → ⊥)
    by_answer true h = exported one name arity o h f
    by_answer false h = λ k. h (to_home k)

pub not_own_home : (m : Module) (home : List Expr) (one : Expr) (name arity : ℕ) → home ≡ one ∷ [] → (IsOwn m one → ⊥) → CallsOwn m home name arity → ⊥
not_own_home m home one name arity e h k = let P : List Expr → Type 0 = λ zs. CallsOwn m zs name arity in by_case (subst P e k)
  where
    by_case : CallsOwn m (one ∷ []) name arity → ⊥
    by_case (exported _ _ _ a b c) = h a

pub bare_least : (m : Module) (home : List Expr) (name arity : ℕ) (r : Option CheckFault) → home ≡ [] → IsOfBuiltIn m home name arity → IsLeast (Some_of (NamedFault name arity) m.functions) r → IsLeast (BareFault m home name arity) r
bare_least m home name arity r e b h =
    let P : List Expr → Type 0 = λ zs. IsLeast (BareFault m zs name arity) r in
    let Q : List Expr → Type 0 = λ zs. IsOfBuiltIn m zs name arity in
    subst P (sym e) (by_result r (subst Q e b) h)
  where
    by_result : (r : Option CheckFault) → IsOfBuiltIn m [] name arity → IsLeast (Some_of (NamedFault name arity) m.functions) r → IsLeast (BareFault m [] name arity) r
    by_result None b h = λ at why k. h at why k.1
    by_result (Some a) b h = ((b, h.0), λ at why k. h.1 at why k.1)
