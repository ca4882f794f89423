-- The numbers of variables.
use Rattle.std.proofs.Common.{◌≡◌, ℕ, suc, ◌+◌, ◌<◌, ◌≤◌, Bool, true, false, cond, List, [], ◌∷◌, ◌++◌, map, length, get_or, take, drop, refl, sym, ◌∙◌, ap, subst, ◌⊎◌, inl, inr, arith, ◌↔◌}
use Rattle.std.specs.List.{Contains, All, AllByRecursion, filter, position_or_len}
use Rattle.std.specs.List.Sorted.{IsStrictlySortedBy, IsSortedBy, IsNonDecreasingBy, IsPartitionPoint}
use Rattle.std.specs.declared.cmp.Ordering.{Ordering}
use Rattle.std.specs.declared.cmp.Ordering.TheVariants.{Less, Equal, Greater}
use Rattle.std.specs.Ordering.{nat_cmp, ordering_then, ordering_reverse, ordering_index, MatchOrdering, is_lt}
use Rattle.std.proofs.Math.Seq.{split_at}
use Rattle.std.proofs.lemmas.Bool.Decides.{leb_tells}
use Rattle.std.proofs.lemmas.Cmp.{ranked, tied_itself}
use Rattle.std.proofs.Math.ListN.{get_or-map}
use Rattle.std.proofs.lemmas.List.{append-nil, append_assoc, map-append, length-map, length-take-le, take_more, take_all}
use Rattle.std.proofs.lemmas.List.Elements.{All-nil, All-cons, Contains-append_right, Contains-append_cases}
use Rattle.std.proofs.lemmas.List.Sorted.{searchable_from_sorted}
use Rattle.std.proofs.lemmas.List.Sums.{position_or_len_is}
use Rattle.std.proofs.lemmas.Map.Keys.{sorted_head, sorted_tail, Less-from_sorted}
use Rattle.erl_syntax.specs.Checking.{IsBefore, Place, IsPlace, RisingBy, same_span, binders, number_of, use_at, IsNumbered, AreNumbered}
use Rattle.erl_syntax.specs.declared.span.Span.{Span}
use Rattle.erl_syntax.specs.declared.module.Function.{Function}
use Rattle.erl_syntax.specs.declared.checking.VarUse.{VarUse}
use Rattle.module_check.specs.declared.places.Position.{Position}
use Rattle.module_check.specs.declared.places.Occurrence.{Occurrence}
use Rattle.module_check.specs.Numbers.{position_cmp, occurrence_cmp, same_position, binder_in, binders_in}
use Rattle.module_check.specs.Places.{span_of, position_of, seen, kept, InnerPlace, AreAll, Apart}
use Rattle.module_check.proofs.Ordered.{position_total, same_line, position_is, position_same}
use Rattle.module_check.proofs.Spots.{Contains-head, Contains-tail, none_in, only_one}
use Rattle.module_check.proofs.Backed.{binder}
use Rattle.module_check.proofs.Inner.{to_inner, from_inner}
use Rattle.module_check.proofs.Left.{flat_more}

tied_lines : (o p : Ordering) (A B C D E F : Type 0) → MatchOrdering o A B C → MatchOrdering p D E F → ordering_then o p ≡ Equal → B × E
tied_lines Less p A B C D E F h k e = cc
tied_lines Equal Less A B C D E F h k e = cc
tied_lines Equal Equal A B C D E F h k e = (h, k)
tied_lines Equal Greater A B C D E F h k e = cc
tied_lines Greater p A B C D E F h k e = cc

less_lines : (o p : Ordering) (A B C D E F : Type 0) → MatchOrdering o A B C → MatchOrdering p D E F → ordering_then o p ≡ Less → A ⊎ (B × D)
less_lines Less p A B C D E F h k e = inl h
less_lines Equal Less A B C D E F h k e = inr (h, k)
less_lines Equal Equal A B C D E F h k e = cc
less_lines Equal Greater A B C D E F h k e = cc
less_lines Greater p A B C D E F h k e = cc

tied_position : (a b : Position) → position_cmp a b ≡ Equal → a ≡ b
tied_position a b h =
    let k = tied_lines (nat_cmp a.line b.line) (nat_cmp a.column b.column) (a.line < b.line) (a.line ≡ b.line) (b.line < a.line) (a.column < b.column) (a.column ≡ b.column) (b.column < a.column) (ranked a.line b.line (nat_cmp a.line b.line) refl) (ranked a.column b.column (nat_cmp a.column b.column) refl) h in
    same_line a b k.0 k.1

less_before : (a b : Position) → position_cmp a b ≡ Less → IsBefore (span_of a) (span_of b)
less_before a b h = less_lines (nat_cmp a.line b.line) (nat_cmp a.column b.column) (a.line < b.line) (a.line ≡ b.line) (b.line < a.line) (a.column < b.column) (a.column ≡ b.column) (b.column < a.column) (ranked a.line b.line (nat_cmp a.line b.line) refl) (ranked a.column b.column (nat_cmp a.column b.column) refl) h

less_or : (o p : Ordering) → ordering_then o p ≡ Less → (o ≡ Less) ⊎ ((o ≡ Equal) × (p ≡ Less))
less_or Less p h = inl refl
less_or Equal p h = inr (refl, h)
less_or Greater p h = cc

pub apart_less : (a b : Occurrence) → occurrence_cmp a b ≡ Less → (a.at ≡ b.at → a.bound_at ≡ b.bound_at) → position_cmp a.at b.at ≡ Less
apart_less a b h k = elim (less_or (position_cmp a.at b.at) (position_cmp a.bound_at b.bound_at) h) [
  | inl e ↦ e
  | inr e ↦ absurd (let P : Position → Type 0 = λ z. position_cmp a.bound_at z ≡ Less in
      let l : position_cmp a.bound_at a.bound_at ≡ Less = subst P (sym (k (tied_position a.at b.at e.0))) e.1 in
      let t : Equal ≡ Less = sym (tied_itself position_total a.bound_at) ∙ l in cc)
]

-- the first stands before all others
module _ (o : Occurrence) where
  later : (xs : List Occurrence) → AllByRecursion (λ y. occurrence_cmp o y ≡ Less) xs → ((y : Occurrence) → Contains xs y → o.at ≡ y.at → o.bound_at ≡ y.bound_at) → (y : Occurrence) → Contains xs y → position_cmp o.at y.at ≡ Less
  later [] h k y c = absurd (none_in y c)
  later (x ∷ xs) h k y c = elim (Contains-append_cases (x ∷ []) xs y c) [
    | inl e ↦ (let P : Occurrence → Type 0 = λ z. position_cmp o.at z.at ≡ Less in subst P (only_one x y e) (apart_less o x h.0 (k x (Contains-head x xs))))
    | inr e ↦ later xs h.1 (λ z i. k z (Contains-tail x xs z i)) y e
  ]

  all_before : (xs : List Occurrence) → ((y : Occurrence) → Contains xs y → position_cmp o.at y.at ≡ Less) → All (λ (b : Place). IsBefore (seen o).at b.at) (map seen xs)
  all_before [] h = All-nil (λ (b : Place). IsBefore (seen o).at b.at)
  all_before (x ∷ xs) h = All-cons (λ (b : Place). IsBefore (seen o).at b.at) (seen x) (map seen xs) (less_before o.at x.at (h x (Contains-head x xs))) (all_before xs (λ y i. h y (Contains-tail x xs y i)))

  one_less : (x : Occurrence) (xs : List Occurrence) (t : Bool) → position_cmp o.at x.at ≡ Less → AllByRecursion (λ y. position_cmp o.at y ≡ Less) (binders_in xs) → AllByRecursion (λ y. position_cmp o.at y ≡ Less) (cond t (x.at ∷ []) [] ++ binders_in xs)
  one_less x xs true h k = (h, k)
  one_less x xs false h k = k

  all_less : (xs : List Occurrence) → ((y : Occurrence) → Contains xs y → position_cmp o.at y.at ≡ Less) → AllByRecursion (λ y. position_cmp o.at y ≡ Less) (binders_in xs)
  all_less [] h = tt
  all_less (x ∷ xs) h = one_less x xs (same_position x.at x.bound_at) (h x (Contains-head x xs)) (all_less xs (λ y i. h y (Contains-tail x xs y i)))

first_later : (o : Occurrence) (os : List Occurrence) → IsStrictlySortedBy occurrence_cmp (o ∷ os) → Apart (o ∷ os) → (y : Occurrence) → Contains os y → position_cmp o.at y.at ≡ Less
first_later o os s a = later o os (sorted_head occurrence_cmp o os s) (λ y i. a o y (Contains-head o os) (Contains-tail o os y i))

apart_tail : (o : Occurrence) (os : List Occurrence) → Apart (o ∷ os) → Apart os
apart_tail o os a = λ x y i k. a x y (Contains-tail o os x i) (Contains-tail o os y k)

rising : (os : List Occurrence) → IsStrictlySortedBy occurrence_cmp os → Apart os → RisingBy (λ a. a.at) (map seen os)
rising [] s a = tt
rising (o ∷ os) s a = (all_before o os (first_later o os s a), rising os (sorted_tail occurrence_cmp o os s) (apart_tail o os a))

sorted_one : (o : Occurrence) (bs : List Position) (t : Bool) → AllByRecursion (λ y. position_cmp o.at y ≡ Less) bs → IsStrictlySortedBy position_cmp bs → IsStrictlySortedBy position_cmp (cond t (o.at ∷ []) [] ++ bs)
unfolding IsStrictlySortedBy
sorted_one o bs true h k = (h, k)
sorted_one o bs false h k = k

sorted_binders : (os : List Occurrence) → IsStrictlySortedBy occurrence_cmp os → Apart os → IsStrictlySortedBy position_cmp (binders_in os)
unfolding IsStrictlySortedBy
sorted_binders [] s a = tt
sorted_binders (o ∷ os) s a = sorted_one o (binders_in os) (same_position o.at o.bound_at) (all_less o os (first_later o os s a)) (sorted_binders os (sorted_tail occurrence_cmp o os s) (apart_tail o os a))

test : (r : Bool) → (r ≡ true) ⊎ (r ≡ false)
test true = inl refl
test false = inr refl

binder_there : (o : Occurrence) (more : List Position) → o.at ≡ o.bound_at → Contains (binder_in o ++ more) o.at
binder_there o more e = let P : Bool → Type 0 = λ t. Contains (cond t (o.at ∷ []) [] ++ more) o.at in subst P (sym (position_same o.at o.bound_at e)) (Contains-head o.at more)

has_binder : (os : List Occurrence) (o : Occurrence) → Contains os o → o.at ≡ o.bound_at → Contains (binders_in os) o.at
has_binder [] o h e = absurd (none_in o h)
has_binder (x ∷ xs) o h e = elim (Contains-append_cases (x ∷ []) xs o h) [
  | inl k ↦ (let P : Occurrence → Type 0 = λ z. Contains (binder_in z ++ binders_in xs) o.at in subst P (sym (only_one x o k)) (binder_there o (binders_in xs) e))
  | inr k ↦ Contains-append_right (binder_in x) (binders_in xs) o.at (has_binder xs o k e)
]

one_binder : (t : Bool) (o : Occurrence) (places : List Place) (bs : List Position) → map (λ (a : Place). a.at) places ≡ map span_of bs
    → map (λ (a : Place). a.at) (cond t (seen o ∷ places) places) ≡ map span_of (cond t (o.at ∷ []) [] ++ bs)
one_binder true o places bs h = ap (λ zs. span_of o.at ∷ zs) h
one_binder false o places bs h = h

pub binders_are : (os : List Occurrence) → binders (map seen os) ≡ map span_of (binders_in os)
binders_are [] = refl
binders_are (o ∷ os) = one_binder (same_position o.at o.bound_at) o (filter (λ (a : Place). same_span a.at a.bound_at) (map seen os)) (binders_in os) (binders_are os)

-- a search among places that rise
module _ (bs : List Position) (b : Position) where
  abbrev pub IsIndex : ℕ → Type 0
  IsIndex n = (n < length bs) × (get_or bs n b ≡ b)

  pub searched_ok : (i : ℕ) → i < length bs → ((d : Position) → position_cmp (get_or bs i d) b ≡ Equal) → IsIndex i
  searched_ok i l h = (l, tied_position (get_or bs i b) b (h b))

  unlike : (o : Ordering) → (o ≡ Equal → ⊥) → (x : Position) → x ≡ b → position_cmp x b ≡ o → ⊥
  unlike o ne x e h = ne (let P : Position → Type 0 = λ z. position_cmp z b ≡ o in sym (subst P e h) ∙ tied_itself position_total b)

  ascending : IsStrictlySortedBy position_cmp bs → IsSortedBy (λ (x y : Position). is_lt (position_cmp x y)) bs
  ascending s = λ k d low l.
      let up : position_cmp (get_or bs k d) (get_or bs (k + 1) d) ≡ Less = Less-from_sorted position_cmp bs k (k + 1) d s (omega arith) l in
      ap is_lt (position_total.antisymm (get_or bs (k + 1) d) (get_or bs k d) ∙ ap ordering_reverse up)

  pub searched_err : (i : ℕ) → (IsNonDecreasingBy (λ (y : Position). ordering_index (position_cmp y b)) bs → IsPartitionPoint (λ (y : Position). position_cmp y b ≡ Less) (λ (y : Position). position_cmp y b ≡ Greater) bs i) → IsStrictlySortedBy position_cmp bs → Contains bs b → ⊥
  searched_err i h s (k, l, e) =
      let p = h (searchable_from_sorted position_total (λ (y : Position). y) bs b (ascending s)) in
      elim (leb_tells i k) [
        | inl t ↦ unlike Greater (λ z. cc) (get_or bs k b) e (p.1 k b (omega arith) l)
        | inr t ↦ unlike Less (λ z. cc) (get_or bs k b) e (p.0 k b (omega arith) (omega arith))
      ]

-- the place of a position among those that rise is the first at which it stands
module _ (bs : List Position) (b : Position) (n : ℕ) (s : IsStrictlySortedBy position_cmp bs) (h : IsIndex bs b n) where
  earlier : (k : ℕ) → k < n → same_position b (get_or bs k b) ≡ false
  earlier k l =
      let less : position_cmp (get_or bs k b) (get_or bs n b) ≡ Less = Less-from_sorted position_cmp bs k n b s l h.0 in
      elim (test (same_position b (get_or bs k b))) [
        | inl e ↦ (let P : Position → Type 0 = λ z. position_cmp z b ≡ Less in
            let l : position_cmp b b ≡ Less = subst P (sym (position_is b (get_or bs k b) e)) (subst (λ z. position_cmp (get_or bs k b) z ≡ Less) h.1 less) in
            let t : Equal ≡ Less = sym (tied_itself position_total b) ∙ l in cc)
        | inr e ↦ e
      ]

  pub index_first : position_or_len (same_span (span_of b)) (map span_of bs) ≡ n
  index_first =
      position_or_len_is (same_span (span_of b)) (map span_of bs) n (span_of b) (omega (arith, h.0, length-map bs span_of))
      (λ k l. ap (same_span (span_of b)) (get_or-map span_of bs k b) ∙ earlier k l)
      (λ l. ap (same_span (span_of b)) (get_or-map span_of bs n b) ∙ ap (same_position b) h.1 ∙ position_same b b refl)

-- one behind another
map_taken : (os : List Occurrence) (i : ℕ) (o : Occurrence) → i < length os → o ≡ get_or os i o → map seen (take (i + 1) os) ≡ map seen (take i os) ++ seen o ∷ []
map_taken os i o l e = ap (map seen) (take_more os i o l ∙ ap (λ z. take i os ++ z ∷ []) (sym e)) ∙ map-append seen (take i os) (o ∷ [])

-- what a variable's number says
pub use_is : (bs : List Position) (o : Occurrence) (u : VarUse) → IsStrictlySortedBy position_cmp bs → IsIndex bs o.bound_at u.number → u.binds ≡ same_position o.at o.bound_at → u.at ≡ span_of o.at
    → u ≡ use_at (map span_of bs) (seen o)
use_is bs o u s n e p =
    let on_place : Span → VarUse = λ z. record { at = z; number = u.number; binds = u.binds } in
    let on_number : ℕ → VarUse = λ z. record { at = span_of o.at; number = z; binds = u.binds } in
    let on_binds : Bool → VarUse = λ z. record { at = span_of o.at; number = number_of (map span_of bs) (seen o); binds = z } in
    ap on_place p ∙ ap on_number (sym (index_first bs o.bound_at u.number s n)) ∙ ap on_binds e

pub uses_on : (bs : List Position) (os : List Occurrence) (i : ℕ) (o : Occurrence) (us new : List VarUse) (u : VarUse) → i < length os → o ≡ get_or os i o → new ≡ us ++ u ∷ []
    → (IsStrictlySortedBy position_cmp bs → Contains bs o.bound_at → u ≡ use_at (map span_of bs) (seen o))
    → (IsStrictlySortedBy position_cmp bs → ((o : Occurrence) → Contains os o → Contains bs o.bound_at) → us ≡ map (use_at (map span_of bs)) (map seen (take i os)))
    → IsStrictlySortedBy position_cmp bs → ((o : Occurrence) → Contains os o → Contains bs o.bound_at) → new ≡ map (use_at (map span_of bs)) (map seen (take (i + 1) os))
uses_on bs os i o us new u l e n k h s c =
    let one : Place → VarUse = use_at (map span_of bs) in
    n ∙ ap (λ z. us ++ z ∷ []) (k s (c o (i, l, sym e))) ∙ ap (λ zs. zs ++ one (seen o) ∷ []) (h s c)
    ∙ sym (map-append one (map seen (take i os)) (seen o ∷ [])) ∙ ap (map one) (sym (map_taken os i o l e))

pub uses_end : (bs : List Position) (os : List Occurrence) (i : ℕ) (us : List VarUse) → length os ≤ i
    → (IsStrictlySortedBy position_cmp bs → ((o : Occurrence) → Contains os o → Contains bs o.bound_at) → us ≡ map (use_at (map span_of bs)) (map seen (take i os)))
    → IsStrictlySortedBy position_cmp bs → ((o : Occurrence) → Contains os o → Contains bs o.bound_at) → us ≡ map (use_at (map span_of bs)) (map seen os)
uses_end bs os i us l h s c = h s c ∙ ap (λ zs. map (use_at (map span_of bs)) (map seen zs)) (take_all i os l)

pub binders_more : (os : List Occurrence) (i : ℕ) (o : Occurrence) (bs new : List Position) (t : Bool) → i < length os → o ≡ get_or os i o → t ≡ same_position o.at o.bound_at → new ≡ bs ++ cond t (o.at ∷ []) [] → bs ≡ binders_in (take i os) → new ≡ binders_in (take (i + 1) os)
binders_more os i o bs new t l e g n h =
    n ∙ ap (λ z. bs ++ cond z (o.at ∷ []) []) g ∙ ap (λ zs. zs ++ binder_in o) h ∙ flat_more binder_in os i o [] (binders_in (take i os)) (binders_in (take i os) ++ binder_in o) l e refl refl

-- the variables of a function
module _ (f : Function) (found os : List Occurrence) (all : AreAll (InnerPlace f) found) (same : (o : Occurrence) → Contains found o ↔ Contains os o) (apart : Apart os) where
  is_place : (o : Occurrence) → Contains os o → IsPlace f (seen o)
  is_place o h = from_inner f (seen o) (all.hold o ((same o).1 h))

  has_place : (a : Place) → IsPlace f a → Contains os (kept a)
  has_place a h = (same (kept a)).0 (all.whole a (to_inner f a h))

  has_binders : (o : Occurrence) → Contains os o → Contains (binders_in os) o.bound_at
  has_binders o h = has_binder os (record { at = o.bound_at; bound_at = o.bound_at }) (has_place (record { at = span_of o.bound_at; bound_at = span_of o.bound_at }) (binder f (seen o) (is_place o h))) refl

  all_places : (xs : List Occurrence) → ((o : Occurrence) → Contains xs o → IsPlace f (seen o)) → All (IsPlace f) (map seen xs)
  all_places [] h = All-nil (IsPlace f)
  all_places (x ∷ xs) h = All-cons (IsPlace f) (seen x) (map seen xs) (h x (Contains-head x xs)) (all_places xs (λ o k. h o (Contains-tail x xs o k)))

  in_map : (xs : List Occurrence) (o : Occurrence) → Contains xs o → Contains (map seen xs) (seen o)
  in_map [] o h = absurd (none_in o h)
  in_map (x ∷ xs) o h = elim (Contains-append_cases (x ∷ []) xs o h) [
    | inl k ↦ (let P : Occurrence → Type 0 = λ z. Contains (map seen (x ∷ xs)) (seen z) in subst P (only_one x o k) (Contains-head (seen x) (map seen xs)))
    | inr k ↦ Contains-tail (seen x) (map seen xs) (seen o) (in_map xs o k)
  ]

  numbered_by : (us : List VarUse) → IsStrictlySortedBy occurrence_cmp os → us ≡ map (use_at (map span_of (binders_in os))) (map seen os) → IsNumbered f us
  numbered_by us s u = record {
    places = map seen os;
    has = record {
      rising = rising os s apart;
      stand = all_places os is_place;
      whole = λ a h. in_map os (kept a) (has_place a h);
    };
    is = u ∙ ap (λ (bound : List Span). map (use_at bound) (map seen os)) (sym (binders_are os));
  }

pub numbered : (f : Function) (found os : List Occurrence) (bs : List Position) (us : List VarUse) → AreAll (InnerPlace f) found → IsStrictlySortedBy occurrence_cmp os → ((o : Occurrence) → Contains found o ↔ Contains os o) → bs ≡ binders_in os
    → (IsStrictlySortedBy position_cmp bs → ((o : Occurrence) → Contains os o → Contains bs o.bound_at) → us ≡ map (use_at (map span_of bs)) (map seen os)) → Apart os → IsNumbered f us
numbered f found os bs us all s same e u apart =
    let P : List Position → Type 0 = λ zs. IsStrictlySortedBy position_cmp zs → ((o : Occurrence) → Contains os o → Contains zs o.bound_at) → us ≡ map (use_at (map span_of zs)) (map seen os) in
    numbered_by f found os all same apart us s (subst P e u (sorted_binders os s apart) (has_binders f found os all same apart))

-- those of several functions
functions_more : (fs : List Function) (f : Function) (vs : List (List VarUse)) (us : List VarUse) → AreNumbered fs vs → IsNumbered f us → AreNumbered (fs ++ f ∷ []) (vs ++ us ∷ [])
functions_more _ f _ us (AreNumbered.none) n = AreNumbered.and_then f [] us [] n AreNumbered.none
functions_more _ f _ us (AreNumbered.and_then g fs front back h k) n = AreNumbered.and_then g (fs ++ f ∷ []) front (back ++ us ∷ []) h (functions_more fs f back us k n)

pub functions_on : (fs gs : List Function) (i : ℕ) (f : Function) (vs new : List (List VarUse)) (us : List VarUse) → gs ≡ fs → i < length gs → f ≡ get_or gs i f → new ≡ vs ++ us ∷ [] → IsNumbered f us → AreNumbered (take i gs) vs → AreNumbered (take (i + 1) gs) new
functions_on fs gs i f vs new us g l e n k h =
    let P : List Function → Type 0 = λ zs. AreNumbered zs new in
    let Q : List (List VarUse) → Type 0 = λ zs. AreNumbered (take i gs ++ f ∷ []) zs in
    subst P (sym (take_more gs i f l ∙ ap (λ z. take i gs ++ z ∷ []) (sym e))) (subst Q (sym n) (functions_more (take i gs) f vs us h k))

pub functions_end : (fs gs : List Function) (i : ℕ) (vs : List (List VarUse)) → gs ≡ fs → length gs ≤ i → AreNumbered (take i gs) vs → AreNumbered fs vs
functions_end fs gs i vs g l h = let P : List Function → Type 0 = λ zs. AreNumbered zs vs in subst P (take_all i gs l ∙ g) h
