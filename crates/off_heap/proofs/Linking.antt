-- The list of cells after an edit of one cell.
use Rattle.std.proofs.Common.{◌≡◌, ◌≢◌, ℕ, ◌+◌, ◌-◌, ◌<◌, ◌^◌, List, [], ◌∷◌, length, set, suc, Option, Some, None, IsSome, IsSomeAnd, refl, ap, sym, subst, ◌∙◌, inl, inr, arith, add-one}
use Rattle.std.proofs.lemmas.Bool.{cases_eq}
use Rattle.off_heap.specs.declared.cell.Cell.{Cell}
use Rattle.off_heap.specs.Cells.{cell_at, count_of, room_of, AllTight, OnlyCell}
use Rattle.off_heap.specs.Lists.{Linked, In, Distinct, Chained, IsSound, end_of_list}
use Rattle.write_room.specs.Rooms.{IsTight}
use Rattle.off_heap.proofs.Slots.{none-is_some, here, elsewhere, count-set}

abbrev pub NextSame : Option Cell → Option Cell → Type 0
NextSame None b = Unit {0}
NextSame (Some c) b = IsSomeAnd b (λ d. d.next ≡ c.next)

pub next_itself : (a b : Option Cell) → b ≡ a → NextSame a b
next_itself a b e = subst (NextSame a) (sym e) (self a)
  where
    self : (a : Option Cell) → NextSame a a
    self None = tt
    self (Some c) = refl

one_link : (new : List (Option Cell)) (old : List (Option Cell)) (ns : List ℕ) (a b : Option Cell) → NextSame a b →
    ((x : ℕ) → Linked old x ns → Linked new x ns) → IsSomeAnd a (λ c. Linked old c.next ns) → IsSomeAnd b (λ c. Linked new c.next ns)
one_link new old ns None b k rest h = absurd h
one_link new old ns (Some c) None k rest h = absurd k
one_link new old ns (Some c) (Some d) k rest h = subst (λ x. Linked new x ns) (sym k) (rest c.next h)

pub linked_same : (old new : List (Option Cell)) (head : ℕ) (ns : List ℕ) → ((m : ℕ) → In m ns → NextSame (cell_at old m) (cell_at new m)) → Linked old head ns → Linked new head ns
linked_same old new head [] k h = h
linked_same old new head (n ∷ ns) k (e, h) =
    (e, one_link new old ns (cell_at old n) (cell_at new n) (k n (inl refl)) (λ x g. linked_same old new x ns (λ m i. k m (inr i)) g) h)

some_of : (a : Option Cell) (P : Cell → Type 0) → IsSomeAnd a P → IsSome a
some_of None P h = absurd h
some_of (Some c) P h = refl

next_linked : (cells : List (Option Cell)) (ns : List ℕ) (a : Option Cell) → IsSomeAnd a (λ c. Linked cells c.next ns) → (x : ℕ) × Linked cells x ns
next_linked cells ns None h = absurd h
next_linked cells ns (Some c) h = (c.next, h)

pub linked_some : (cells : List (Option Cell)) (head : ℕ) (ns : List ℕ) (m : ℕ) → Linked cells head ns → In m ns → IsSome (cell_at cells m)
linked_some cells head [] m h i = absurd i
linked_some cells head (n ∷ ns) m (e, h) (inl same) = subst (λ k. IsSome (cell_at cells k)) (sym same) (some_of (cell_at cells n) (λ c. Linked cells c.next ns) h)
linked_some cells head (n ∷ ns) m (e, h) (inr i) = let (x, g) = next_linked cells ns (cell_at cells n) h in linked_some cells x ns m g i

chained_set : (cells : List (Option Cell)) (head count n : ℕ) (c d : Cell) → cell_at cells n ≡ Some c → d.next ≡ c.next → Chained cells head count → Chained (set cells n (Some d)) head count
chained_set cells head count n c d at nx h =
    let new = set cells n (Some d) in
    record {
      numbers = h.numbers;
      counted = h.counted;
      linked = linked_same cells new head h.numbers (λ m i. elim (cases_eq m n) [
        | inl same ↦ subst (λ k. NextSame (cell_at cells k) (cell_at new k)) (sym same) (rw (at, here cells n c d at) nx)
        | inr other ↦ next_itself (cell_at cells m) (cell_at new m) (elsewhere cells n m (Some d) other)
      ]) h.linked;
      distinct = h.distinct;
      all = λ m some. elim (cases_eq m n) [
        | inl same ↦ h.all m (rw (same, at) refl)
        | inr other ↦ h.all m (rw (elsewhere cells n m (Some d) other) at some)
      ];
      small = h.small;
    }

chained_new : (old new : List (Option Cell)) (head count key : ℕ) (c : Cell) → OnlyCell key old new →
    cell_at new key ≡ Some c → cell_at old key ≡ None → c.next ≡ head → key < 2 ^ 31 → Chained old head count → Chained new key (count + 1)
chained_new old new head count key c others is vacant nx low h =
    let apart : (m : ℕ) → In m h.numbers → m ≢ key = λ (m : ℕ) (i : In m h.numbers) (e : m ≡ key). none-is_some (rw (e, vacant) at (linked_some old head h.numbers m h.linked i)) in
    let rest : Linked new head h.numbers = linked_same old new head h.numbers (λ m i. next_itself (cell_at old m) (cell_at new m) (others m (apart m i))) h.linked in
    record {
      numbers = key ∷ h.numbers;
      counted = ap suc h.counted ∙ sym (add-one count);
      linked = (refl, rw (is, nx) rest);
      distinct = ((λ i. apart key i refl), h.distinct);
      all = λ m some. elim (cases_eq m key) [
        | inl same ↦ inl same
        | inr other ↦ inr (h.all m (rw (others m other) at some))
      ];
      small = λ m i. elim i [ inl same ↦ rw same low | inr later ↦ h.small m later ];
    }

tight_set : (cells : List (Option Cell)) (n : ℕ) (c d : Cell) → cell_at cells n ≡ Some c → IsTight (room_of d.storage) → AllTight cells → AllTight (set cells n (Some d))
tight_set cells n c d at ok h = λ m. elim (cases_eq m n) [
  | inl same ↦ rw (same, here cells n c d at) ok
  | inr other ↦ rw (elsewhere cells n m (Some d) other) (h m)
]

tight_new : (old new : List (Option Cell)) (key : ℕ) (c : Cell) → OnlyCell key old new → cell_at new key ≡ Some c → IsTight (room_of c.storage) → AllTight old → AllTight new
tight_new old new key c others is ok h = λ m. elim (cases_eq m key) [
  | inl same ↦ rw (same, is) ok
  | inr other ↦ rw (others m other) (h m)
]

-- a cell of the list was written over, and keeps its place in the list
pub sound_set : (cells : List (Option Cell)) (head count n : ℕ) (c d : Cell) → cell_at cells n ≡ Some c → d.next ≡ c.next → IsTight (room_of d.storage) → IsSound cells head count → IsSound (set cells n (Some d)) head count
sound_set cells head count n c d at nx ok h = record {
  chained = chained_set cells head count n c d at nx h.chained;
  tight = tight_set cells n c d at ok h.tight;
  total = count-set cells n c d at ∙ h.total;
  few = h.few;
}

-- what holds of the room under a number that has a cell
pub tight_at : (cells : List (Option Cell)) (n : ℕ) (c : Cell) → cell_at cells n ≡ Some c → AllTight cells → IsTight (room_of c.storage)
tight_at cells n c at h = rw at at (h n)

-- a cell came in front of the list
pub sound_new : (old new : List (Option Cell)) (head count key : ℕ) (c : Cell) → OnlyCell key old new → cell_at new key ≡ Some c → cell_at old key ≡ None → c.next ≡ head → key < 2 ^ 31 →
    count_of new ≡ count_of old + 1 → count < 2 ^ 31 → IsTight (room_of c.storage) → IsSound old head count → IsSound new key (count + 1)
sound_new old new head count key c others is vacant nx low more room ok h = record {
  chained = chained_new old new head count key c others is vacant nx low h.chained;
  tight = tight_new old new key c others is ok h.tight;
  total = more ∙ ap (λ k. k + 1) h.total;
  few = omega arith;
}

pub sound_empty : IsSound [] end_of_list 0
sound_empty = record {
  chained = record { numbers = []; counted = refl; linked = refl; distinct = tt; all = λ n some. absurd (none-is_some some); small = λ n i. absurd i };
  tight = λ n. omega arith;
  total = refl;
  few = omega arith;
}

-- ---- the cell in front goes
linked_of : (cells : List (Option Cell)) (ns : List ℕ) (slot : Option Cell) (c : Cell) → slot ≡ Some c → IsSomeAnd slot (λ cell. Linked cells cell.next ns) → Linked cells c.next ns
linked_of cells ns slot c e h = subst (λ (s : Option Cell). IsSomeAnd s (λ cell. Linked cells cell.next ns)) e h

chained_less : (old new : List (Option Cell)) (head count : ℕ) (c : Cell) (numbers : List ℕ) → OnlyCell head old new → cell_at new head ≡ None → cell_at old head ≡ Some c →
    length numbers ≡ count → Linked old head numbers → Distinct numbers → ((n : ℕ) → IsSome (cell_at old n) → In n numbers) → ((n : ℕ) → In n numbers → n < 2 ^ 31) → Chained new c.next (count - 1)
chained_less old new head count c [] others gone at counted linked distinct all small = absurd (all head (rw at refl))
chained_less old new head count c (n ∷ ns) others gone at counted linked distinct all small =
    let e = linked.0 in
    let rest : Linked old c.next ns = linked_of old ns (cell_at old n) c (ap (cell_at old) (sym e) ∙ at) linked.1 in
    let apart : (m : ℕ) → In m ns → m ≢ head = λ (m : ℕ) (i : In m ns) (q : m ≡ head). distinct.0 (subst (λ k. In k ns) (q ∙ e) i) in
    record {
      numbers = ns;
      counted = omega (arith, counted);
      linked = linked_same old new c.next ns (λ m i. next_itself (cell_at old m) (cell_at new m) (others m (apart m i))) rest;
      distinct = distinct.1;
      all = λ m some. elim (cases_eq m head) [
        | inl same ↦ absurd (none-is_some (rw (same, gone) at some))
        | inr other ↦ elim (all m (rw (← others m other) some)) [ inl first ↦ absurd (other (first ∙ sym e)) | inr i ↦ i ]
      ];
      small = λ m i. small m (inr i);
    }

tight_less : (old new : List (Option Cell)) (head : ℕ) → OnlyCell head old new → cell_at new head ≡ None → AllTight old → AllTight new
tight_less old new head others gone h = λ m. elim (cases_eq m head) [
  | inl same ↦ rw (same, gone) (omega arith)
  | inr other ↦ rw (others m other) (h m)
]

pub sound_less : (old new : List (Option Cell)) (head count : ℕ) (c : Cell) → OnlyCell head old new → cell_at new head ≡ None → cell_at old head ≡ Some c → count_of new + 1 ≡ count_of old →
    IsSound old head count → IsSound new c.next (count - 1)
sound_less old new head count c others gone at fewer h =
    let t = h.total in
    let f = h.few in
    let k = h.chained in
    record {
      chained = chained_less old new head count c k.numbers others gone at k.counted k.linked k.distinct k.all k.small;
      tight = tight_less old new head others gone h.tight;
      total = omega arith;
      few = omega arith;
    }
