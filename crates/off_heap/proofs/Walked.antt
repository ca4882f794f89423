-- A walk along the list, cell by cell.
use Rattle.std.proofs.Common.{◌≡◌, ◌≢◌, ◌⊎◌, ℕ, ◌+◌, ◌-◌, ◌≤◌, ◌<◌, Bool, true, false, suc, List, [], ◌∷◌, length, Option, Some, None, IsSome, IsSomeAnd, refl, ap, sym, subst, ◌∙◌, inl, inr, add-one, arith, append-nil}
use Rattle.std.proofs.lemmas.Bool.{cases_eq}
use Rattle.std.proofs.lemmas.List.{nil_from_length}
use Rattle.bit_store.specs.Stores.{Keeps}
use Rattle.off_heap.specs.declared.cell.Cell.{Cell}
use Rattle.off_heap.specs.declared.sweeping.Leaves.{Leaves}
use Rattle.off_heap.specs.declared.sweeping.Leaves.TheVariants.{All, Marked, Nothing}
use Rattle.off_heap.specs.declared.reference.BitRef.TheVariants.{Small, Part}
use Rattle.off_heap.specs.Cells.{cell_at, count_of, bits_in, IsPart, Valid, shown, IsTightIn, OnlyCell, HasNoMark, ClearedCell, SweptCell, KeepsMarked}
use Rattle.off_heap.specs.Lists.{Linked, In, Distinct, Chained, IsSound, end_of_list}
use Rattle.off_heap.specs.Walks.{is_left, WalkedCell, Walking}
use Rattle.off_heap.proofs.Slots.{none-is_some, the_cell}
use Rattle.off_heap.proofs.Kept.{GoesOn, keeps_all, goes_on_same}
use Rattle.off_heap.proofs.Linking.{linked_same, next_itself, linked_some}

none_or_some : (slot : Option Cell) → (slot ≡ None) ⊎ IsSome slot
none_or_some None = inl refl
none_or_some (Some c) = inr refl

not_both : {b : Bool} → b ≡ true → b ≡ false → ⊥
not_both p q = let e : true ≡ false = sym p ∙ q in cc

both_ways : (b : Bool) → (b ≡ true) ⊎ (b ≡ false)
both_ways true = inl refl
both_ways false = inr refl

-- the first number of what is left to look at
head_of : (cells : List (Option Cell)) (at : ℕ) (rest : List ℕ) → Linked cells at rest → 0 < length rest →
    (ns : List ℕ) × (rest ≡ at ∷ ns) × IsSomeAnd (cell_at cells at) (λ c. Linked cells c.next ns)
head_of cells at [] h l = absurd (omega arith)
head_of cells at (n ∷ ns) (e, h) l = (ns, ap (λ k. k ∷ ns) (sym e), subst (λ k. IsSomeAnd (cell_at cells k) (λ c. Linked cells c.next ns)) (sym e) h)

pub walk_start : (leaves : Leaves) (cells : List (Option Cell)) (head count : ℕ) → Chained cells head count → Walking leaves cells cells end_of_list head 0 count
walk_start leaves cells head count h = record {
  kept = [];
  rest = h.numbers;
  kept_counted = refl;
  rest_counted = h.counted;
  kept_linked = refl;
  rest_linked = h.linked;
  kept_distinct = tt;
  rest_distinct = h.distinct;
  apart = λ n i j. absurd i;
  all = λ n some. inr (h.all n some);
  small = λ n i. elim i [ inl k ↦ absurd k | inr k ↦ h.small n k ];
  untouched = λ n i. refl;
  walked = λ n out. elim (none_or_some (cell_at cells n)) [
    | inl none ↦ rw none refl
    | inr some ↦ absurd (out (h.all n some))
  ];
}

pub walk_some : (leaves : Leaves) (first cells : List (Option Cell)) (head at k r : ℕ) → Walking leaves first cells head at k r → 0 < r → IsSome (cell_at cells at)
walk_some leaves first cells head at k r s pos =
    let (ns, e, lk) = head_of cells at s.rest s.rest_linked (rw s.rest_counted pos) in
    linked_some cells at s.rest at s.rest_linked (rw e (inl refl))

walk_end : (leaves : Leaves) (first cells : List (Option Cell)) (head at k : ℕ) → Walking leaves first cells head at k 0 →
    Chained cells head k × ((n : ℕ) → WalkedCell leaves (cell_at first n) (cell_at cells n))
walk_end leaves first cells head at k s =
    let none : s.rest ≡ [] = nil_from_length s.rest s.rest_counted in
    let out : (n : ℕ) → In n s.rest → ⊥ = λ (n : ℕ) (i : In n s.rest). subst (λ r. In n r) none i in (
      record {
        numbers = s.kept;
        counted = s.kept_counted;
        linked = s.kept_linked;
        distinct = s.kept_distinct;
        all = λ n some. elim (s.all n some) [ inl i ↦ i | inr i ↦ absurd (out n i) ];
        small = λ n i. s.small n (inl i);
      },
      λ n. s.walked n (out n),
    )

pub walk_keep : (leaves : Leaves) (first old new : List (Option Cell)) (head at k r next : ℕ) → Walking leaves first old head at k r → 0 < r →
    OnlyCell at old new →
    IsSomeAnd (cell_at old at) (λ c. (next ≡ c.next) × (cell_at new at ≡ Some (record c { next = head; marked = false }))) →
    IsSomeAnd (cell_at old at) (λ c. is_left leaves c ≡ true) → Walking leaves first new at next (k + 1) (r - 1)
walk_keep leaves first old new head at k r next s pos others here stays =
    let (ns, e, lk) = head_of old at s.rest s.rest_linked (rw s.rest_counted pos) in
    let in_rest : (n : ℕ) → In n (at ∷ ns) → In n s.rest = λ (n : ℕ) (i : In n (at ∷ ns)). subst (λ q. In n q) (sym e) i in
    let from_rest : (n : ℕ) → In n s.rest → In n (at ∷ ns) = λ (n : ℕ) (i : In n s.rest). subst (λ q. In n q) e i in
    let d : Distinct (at ∷ ns) = subst (λ q. Distinct q) e s.rest_distinct in
    let len = s.rest_counted in
    let le : length s.rest ≡ suc (length ns) = ap length e in
    let (c, ec) = the_cell (cell_at old at) (walk_some leaves first old head at k r s pos) in
    let link : Linked old c.next ns = rw ec at lk in
    let now : (next ≡ c.next) × (cell_at new at ≡ Some (record c { next = head; marked = false })) = rw ec at here in
    let left : is_left leaves c ≡ true = rw ec at stays in
    let apart_at : (m : ℕ) → In m s.kept → m ≢ at = λ (m : ℕ) (i : In m s.kept) (q : m ≡ at). s.apart m i (in_rest m (inl q)) in
    let later : (m : ℕ) → In m ns → m ≢ at = λ (m : ℕ) (i : In m ns) (q : m ≡ at). d.0 (subst (λ j. In j ns) q i) in
    record {
      kept = at ∷ s.kept;
      rest = ns;
      kept_counted = ap suc s.kept_counted ∙ sym (add-one k);
      rest_counted = omega arith;
      kept_linked = (refl, rw now.1 (linked_same old new head s.kept (λ m i. next_itself (cell_at old m) (cell_at new m) (others m (apart_at m i))) s.kept_linked));
      rest_linked = rw now.0 (linked_same old new c.next ns (λ m i. next_itself (cell_at old m) (cell_at new m) (others m (later m i))) link);
      kept_distinct = ((λ i. apart_at at i refl), s.kept_distinct);
      rest_distinct = d.1;
      apart = λ n i j. elim i [ inl q ↦ later n j q | inr i' ↦ s.apart n i' (in_rest n (inr j)) ];
      all = λ n some. elim (cases_eq n at) [
        | inl q ↦ inl (inl q)
        | inr other ↦ elim (s.all n (rw (others n other) at some)) [
          | inl i ↦ inl (inr i)
          | inr i ↦ elim (from_rest n i) [ inl q ↦ absurd (other q) | inr j ↦ inr j ]
        ]
      ];
      small = λ n i. elim i [
        | inl i' ↦ elim i' [ inl q ↦ s.small n (inr (in_rest n (inl q))) | inr j ↦ s.small n (inl j) ]
        | inr j ↦ s.small n (inr (in_rest n (inr j)))
      ];
      untouched = λ n i. others n (later n i) ∙ s.untouched n (in_rest n (inr i));
      walked = λ n out. elim (cases_eq n at) [
        | inl q ↦
            let was : cell_at first n ≡ Some c = sym (s.untouched n (in_rest n (inl q))) ∙ ap (λ j. cell_at old j) q ∙ ec in
            let is : cell_at new n ≡ Some (record c { next = head; marked = false }) = ap (λ j. cell_at new j) q ∙ now.1 in
            rw (was, is) ((λ m. (refl, refl, refl)), (λ f. absurd (not_both left f)))
        | inr other ↦
            let gone : In n s.rest → ⊥ = λ (i : In n s.rest). elim (from_rest n i) [ inl q ↦ other q | inr j ↦ out j ] in
            rw (others n other) (s.walked n gone)
      ];
    }

pub walk_drop : (leaves : Leaves) (first old new : List (Option Cell)) (head at k r next : ℕ) → Walking leaves first old head at k r → 0 < r →
    OnlyCell at old new → cell_at new at ≡ None → IsSomeAnd (cell_at old at) (λ c. next ≡ c.next) →
    IsSomeAnd (cell_at old at) (λ c. is_left leaves c ≡ false) → Walking leaves first new head next k (r - 1)
walk_drop leaves first old new head at k r next s pos others gone here stays =
    let (ns, e, lk) = head_of old at s.rest s.rest_linked (rw s.rest_counted pos) in
    let in_rest : (n : ℕ) → In n (at ∷ ns) → In n s.rest = λ (n : ℕ) (i : In n (at ∷ ns)). subst (λ q. In n q) (sym e) i in
    let from_rest : (n : ℕ) → In n s.rest → In n (at ∷ ns) = λ (n : ℕ) (i : In n s.rest). subst (λ q. In n q) e i in
    let d : Distinct (at ∷ ns) = subst (λ q. Distinct q) e s.rest_distinct in
    let len = s.rest_counted in
    let le : length s.rest ≡ suc (length ns) = ap length e in
    let (c, ec) = the_cell (cell_at old at) (walk_some leaves first old head at k r s pos) in
    let link : Linked old c.next ns = rw ec at lk in
    let now : next ≡ c.next = rw ec at here in
    let not_left : is_left leaves c ≡ false = rw ec at stays in
    let apart_at : (m : ℕ) → In m s.kept → m ≢ at = λ (m : ℕ) (i : In m s.kept) (q : m ≡ at). s.apart m i (in_rest m (inl q)) in
    let later : (m : ℕ) → In m ns → m ≢ at = λ (m : ℕ) (i : In m ns) (q : m ≡ at). d.0 (subst (λ j. In j ns) q i) in
    record {
      kept = s.kept;
      rest = ns;
      kept_counted = s.kept_counted;
      rest_counted = omega arith;
      kept_linked = linked_same old new head s.kept (λ m i. next_itself (cell_at old m) (cell_at new m) (others m (apart_at m i))) s.kept_linked;
      rest_linked = rw now (linked_same old new c.next ns (λ m i. next_itself (cell_at old m) (cell_at new m) (others m (later m i))) link);
      kept_distinct = s.kept_distinct;
      rest_distinct = d.1;
      apart = λ n i j. s.apart n i (in_rest n (inr j));
      all = λ n some. elim (cases_eq n at) [
        | inl q ↦ absurd (none-is_some (rw (q, gone) at some))
        | inr other ↦ elim (s.all n (rw (others n other) at some)) [
          | inl i ↦ inl i
          | inr i ↦ elim (from_rest n i) [ inl q ↦ absurd (other q) | inr j ↦ inr j ]
        ]
      ];
      small = λ n i. elim i [ inl j ↦ s.small n (inl j) | inr j ↦ s.small n (inr (in_rest n (inr j))) ];
      untouched = λ n i. others n (later n i) ∙ s.untouched n (in_rest n (inr i));
      walked = λ n out. elim (cases_eq n at) [
        | inl q ↦
            let was : cell_at first n ≡ Some c = sym (s.untouched n (in_rest n (inl q))) ∙ ap (λ j. cell_at old j) q ∙ ec in
            let is : cell_at new n ≡ None = ap (λ j. cell_at new j) q ∙ gone in
            rw (was, is) ((λ m. absurd (not_both m not_left)), (λ f. refl))
        | inr other ↦
            let left : In n s.rest → ⊥ = λ (i : In n s.rest). elim (from_rest n i) [ inl q ↦ other q | inr j ↦ out j ] in
            rw (others n other) (s.walked n left)
      ];
    }

-- ---- what a whole walk leaves
same_room : (c : Cell) (b : Option Cell) → HasNoMark c b → IsTightIn (Some c) → IsTightIn b
same_room c None h s = absurd h
same_room c (Some d) h s = rw h.0 s

tight_walked : (leaves : Leaves) (a b : Option Cell) → WalkedCell leaves a b → IsTightIn a → IsTightIn b
tight_walked leaves None b h s = rw h s
tight_walked leaves (Some c) b h s = elim (both_ways (is_left leaves c)) [
  | inl m ↦ same_room c b (h.0 m) s
  | inr m ↦ rw (h.1 m) (omega arith)
]

pub walk_sound : (leaves : Leaves) (first cells : List (Option Cell)) (first_head first_count head at k : ℕ) → IsSound first first_head first_count → Walking leaves first cells head at k 0 → count_of cells ≡ k → k ≤ first_count → IsSound cells head k
walk_sound leaves first cells first_head first_count head at k h s total few =
    let done = walk_end leaves first cells head at k s in
    let most = h.few in
    record { chained = done.0; tight = λ n. tight_walked leaves (cell_at first n) (cell_at cells n) (done.1 n) (h.tight n); total = total; few = omega arith }

pub walk_walked : (leaves : Leaves) (first cells : List (Option Cell)) (head at k : ℕ) → Walking leaves first cells head at k 0 → (n : ℕ) → WalkedCell leaves (cell_at first n) (cell_at cells n)
walk_walked leaves first cells head at k s = (walk_end leaves first cells head at k s).1

-- ---- each of the three walks
pub cleared : (a b : Option Cell) → WalkedCell All a b → ClearedCell a b
cleared None b h = h
cleared (Some c) b h = h.0 refl

pub swept_is : (a b : Option Cell) → WalkedCell Marked a b → SweptCell a b
swept_is None b h = h
swept_is (Some c) b h = h

pub emptied : (a b : Option Cell) → WalkedCell Nothing a b → b ≡ None
emptied None b h = h
emptied (Some c) b h = h.1 refl

no_mark_goes_on : (c : Cell) (b : Option Cell) → HasNoMark c b → GoesOn (Some c) b
no_mark_goes_on c None h = absurd h
no_mark_goes_on c (Some d) h = record { there = λ s. refl; extra = []; bits = rw h.0 (sym (append-nil (bits_in (Some c)))) }

cleared_goes_on : (a b : Option Cell) → ClearedCell a b → GoesOn a b
cleared_goes_on None b h = goes_on_same None b h
cleared_goes_on (Some c) b h = no_mark_goes_on c b h

pub cleared_keeps : (old new : List (Option Cell)) → ((n : ℕ) → ClearedCell (cell_at old n) (cell_at new n)) → Keeps shown Valid old new
cleared_keeps old new h = keeps_all old new (λ n. cleared_goes_on (cell_at old n) (cell_at new n) (h n))

same_part : (c : Cell) (b : Option Cell) (off len : ℕ) → HasNoMark c b → IsPart (Some c) off len → IsPart b off len × (bits_in b ≡ bits_in (Some c))
same_part c None off len h part = absurd h
same_part c (Some d) off len h part = (record { there = refl; inside = rw h.0 part.inside; short = part.short }, rw h.0 refl)

swept_part : (a b : Option Cell) (off len : ℕ) → SweptCell a b → IsSomeAnd a (λ c. c.marked ≡ true) → IsPart a off len → IsPart b off len × (bits_in b ≡ bits_in a)
swept_part None b off len h m part = absurd m
swept_part (Some c) b off len h m part = same_part c b off len (h.0 m) part

pub swept_keeps : (old new : List (Option Cell)) → ((n : ℕ) → SweptCell (cell_at old n) (cell_at new n)) → KeepsMarked old new
swept_keeps old new h (Small bits) valid marked = (valid, refl)
swept_keeps old new h (Part n off len) valid marked =
    let same = swept_part (cell_at old n) (cell_at new n) off len (h n) marked valid in
    (same.0, rw same.1 refl)

-- ---- how many cells there are
pub none_counted : (cells : List (Option Cell)) → ((n : ℕ) → cell_at cells n ≡ None) → count_of cells ≡ 0
none_counted [] h = refl
none_counted (slot ∷ cells) h =
    let first : slot ≡ None = h 0 in
    let rest : count_of cells ≡ 0 = none_counted cells (λ n. h (suc n)) in
    rw first rest
