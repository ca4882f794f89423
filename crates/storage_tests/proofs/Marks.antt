-- What marks of several references keep, and what a sweep then leaves.
use Rattle.std.proofs.Common.{◌≡◌, ℕ, ◌+◌, ◌<◌, true, List, [], ◌∷◌, take, get_or, length, All, Option, Some, None, is_some, IsSomeAnd, refl, sym, subst, ◌∙◌, inl, inr}
use Rattle.std.proofs.lemmas.Bool.{cases_eq}
use Rattle.std.proofs.lemmas.List.Elements.{All-nil, All-cons, All-head, All-tail, All-get_or, All-more}
use Rattle.bit_store.specs.Stores.{Keeps}
use Rattle.off_heap.specs.declared.cell.Cell.{Cell}
use Rattle.off_heap.specs.declared.reference.BitRef.{BitRef}
use Rattle.off_heap.specs.declared.reference.BitRef.TheVariants.{Small, Part}
use Rattle.off_heap.specs.Cells.{cell_at, Valid, shown, Marks, HasMark, KeepsMarked, with_mark}

pub keeps_then : (a b c : List (Option Cell)) → Keeps shown Valid a b → Keeps shown Valid b c → Keeps shown Valid a c
keeps_then a b c k l of h = let x = k of h in let y = l of x.0 in (y.0, y.1 ∙ x.1)

marked_here : (slot : Option Cell) → IsSomeAnd slot (λ cell. cell.marked ≡ true) → IsSomeAnd (with_mark slot) (λ cell. cell.marked ≡ true)
marked_here None h = absurd h
marked_here (Some cell) h = refl

pub mark_kept : (old new : List (Option Cell)) (of other : BitRef) → Marks old new of → HasMark old other → HasMark new other
mark_kept old new (Small bits) other m h = subst (λ (cells : List (Option Cell)). HasMark cells other) (sym m) h
mark_kept old new (Part n off len) (Small bits) m h = tt
mark_kept old new (Part n off len) (Part k start more) m h =
    let P : Option Cell → Type 0 = λ slot. IsSomeAnd slot (λ cell. cell.marked ≡ true) in
    elim (cases_eq k n) [
      | inl same ↦ subst (λ j. P (cell_at new j)) (sym same) (subst P (sym m.0) (marked_here (cell_at old n) (subst (λ j. P (cell_at old j)) same h)))
      | inr other ↦ subst P (sym (m.1 k other)) h
    ]

there_marked : (slot : Option Cell) → is_some slot ≡ true → IsSomeAnd (with_mark slot) (λ cell. cell.marked ≡ true)
there_marked None h = cc
there_marked (Some cell) h = refl

pub mark_made : (old new : List (Option Cell)) (of : BitRef) → Marks old new of → Valid old of → HasMark new of
mark_made old new (Small bits) m h = tt
mark_made old new (Part n off len) m h =
    subst (λ (slot : Option Cell). IsSomeAnd slot (λ cell. cell.marked ≡ true)) (sym m.0) (there_marked (cell_at old n) h.there)

pub marks_kept : (old new : List (Option Cell)) (of : BitRef) (others : List BitRef) → Marks old new of → All (HasMark old) others → All (HasMark new) others
marks_kept old new of [] m h = All-nil (HasMark new)
marks_kept old new of (other ∷ others) m h =
    All-cons (HasMark new) other others (mark_kept old new of other m (All-head (HasMark old) other others h)) (marks_kept old new of others m (All-tail (HasMark old) other others h))

pub marks_next : (first old new : List (Option Cell)) (live : List BitRef) (i : ℕ) (of : BitRef) → i < length live → of ≡ get_or live i of → All (Valid first) live →
    Keeps shown Valid first old → Marks old new of → All (HasMark old) (take i live) → All (HasMark new) (take (i + 1) live)
marks_next first old new live i of low is valid k m h =
    let here : Valid first of = subst (Valid first) (sym is) (All-get_or (Valid first) live i of low valid) in
    All-more (HasMark new) live i of low (marks_kept old new of (take i live) m h) (subst (HasMark new) is (mark_made old new of m (k of here).0))

pub marked_kept : (old new : List (Option Cell)) (others : List BitRef) → KeepsMarked old new → All (Valid old) others → All (HasMark old) others → All (Valid new) others
marked_kept old new [] k valid marked = All-nil (Valid new)
marked_kept old new (other ∷ others) k valid marked =
    All-cons (Valid new) other others (k other (All-head (Valid old) other others valid) (All-head (HasMark old) other others marked)).0
    (marked_kept old new others k (All-tail (Valid old) other others valid) (All-tail (HasMark old) other others marked))
