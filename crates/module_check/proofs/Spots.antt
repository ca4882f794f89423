-- What stands in a function stands inside one of its clauses.
use Rattle.std.proofs.Common.{◌≡◌, suc, zero, List, [], ◌∷◌, ◌++◌, take, drop, refl, sym, ◌∙◌, ap, subst, inl, inr, arith}
use Rattle.std.specs.List.{Contains}
use Rattle.std.proofs.lemmas.List.{append-nil, append_assoc}
use Rattle.std.proofs.lemmas.List.Elements.{Contains-append_left, Contains-append_right, Contains-append_cases}
use Rattle.std.proofs.Math.Seq.{split_at}
use Rattle.module_check.specs.Spots.{Spot, each}

pub Contains-head : {X : Type 0} (x : X) (xs : List X) → Contains (x ∷ xs) x
Contains-head x xs = (0, omega arith, refl)

pub Contains-tail : {X : Type 0} (y : X) (xs : List X) (x : X) → Contains xs x → Contains (y ∷ xs) x
Contains-tail y xs x h = Contains-append_right (y ∷ []) xs x h

pub none_in : {X : Type 0} (x : X) → Contains [] x → ⊥
none_in x h = absurd (omega (arith, h.1))

pub only_one : {X : Type 0} (y x : X) → Contains (y ∷ []) x → y ≡ x
only_one {X} y x (zero, l, e) = e
only_one {X} y x (suc k, l, e) = absurd (omega (arith, l))

-- an element and what stands before and behind it
pub record Cut {X : Type 0} (xs : List X) (x : X) : Type 0 where
  pub front : List X
  pub back : List X
  pub is : xs ≡ front ++ x ∷ back

pub cut_at : {X : Type 0} (xs : List X) (x : X) → Contains xs x → Cut xs x
cut_at {X} xs x h = record { front = take h.0 xs; back = drop (suc h.0) xs; is = split_at xs h.0 x h.1 ∙ ap (λ y. take h.0 xs ++ y ∷ drop (suc h.0) xs) h.2 }

pub cut_in : {X : Type 0} (front : List X) (x : X) (back : List X) → Contains (front ++ x ∷ back) x
cut_in front x back = Contains-append_right front (x ∷ back) x (Contains-head x back)

module _ {X : Type 0} (Adds : List X → X → List X → List Spot) where
  pub each_in : (before front : List X) (y : X) (back : List X) (d : Spot) → Contains (Adds (before ++ front) y back) d → Contains (each Adds before (front ++ y ∷ back)) d
  each_in before [] y back d h =
      let P : List X → Type 0 = λ b. Contains (Adds b y back) d in
      Contains-append_left (Adds before y back) (each Adds (before ++ y ∷ []) back) d (subst P (append-nil before) h)
  each_in before (z ∷ front) y back d h =
      let P : List X → Type 0 = λ b. Contains (Adds b y back) d in
      Contains-append_right (Adds before z (front ++ y ∷ back)) (each Adds (before ++ z ∷ []) (front ++ y ∷ back)) d
      (each_in (before ++ z ∷ []) front y back d (subst P (sym (append_assoc before (z ∷ []) front)) h))

  -- where what a list adds comes from
  pub record From (before ys : List X) (d : Spot) : Type 0 where
    pub front : List X
    pub one : X
    pub back : List X
    pub is : ys ≡ front ++ one ∷ back
    pub adds : Contains (Adds (before ++ front) one back) d

  pub each_from : (before ys : List X) (d : Spot) → Contains (each Adds before ys) d → From before ys d
  each_from before [] d h = absurd (none_in d h)
  each_from before (y ∷ ys) d h = elim (Contains-append_cases (Adds before y ys) (each Adds (before ++ y ∷ []) ys) d h) [
    | inl k ↦ (let P : List X → Type 0 = λ b. Contains (Adds b y ys) d in record { front = []; one = y; back = ys; is = refl; adds = subst P (sym (append-nil before)) k })
    | inr k ↦ (let r = each_from (before ++ y ∷ []) ys d k in
        let P : List X → Type 0 = λ b. Contains (Adds b r.one r.back) d in
        record { front = y ∷ r.front; one = r.one; back = r.back; is = ap (λ zs. y ∷ zs) r.is; adds = subst P (append_assoc before (y ∷ []) r.front) r.adds })
  ]

module _ {X : Type 0} (Adds : List X → X → List X → List Spot) where
  pub each_at : (ys front : List X) (y : X) (back : List X) (d : Spot) → ys ≡ front ++ y ∷ back → Contains (Adds front y back) d → Contains (each Adds [] ys) d
  each_at ys front y back d e h = let P : List X → Type 0 = λ zs. Contains (each Adds [] zs) d in subst P (sym e) (each_in Adds [] front y back d h)

  pub each_by : (ys : List X) (y : X) (d : Spot) → Contains ys y → ((front back : List X) → Contains (Adds front y back) d) → Contains (each Adds [] ys) d
  each_by ys y d c h = let k = cut_at ys y c in each_at ys k.front y k.back d k.is (h k.front k.back)
