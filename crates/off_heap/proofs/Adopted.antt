-- Still cells in front of a list, and terms made of a parcel's nodes.
use Rattle.std.proofs.Common.{◌≡◌, ◌≢◌, ℕ, ◌+◌, ◌-◌, ◌≤◌, ◌<◌, Bool, true, false, List, [], ◌∷◌, ◌++◌, length, take, drop, get_or, map, reverse, append_assoc, All, Option, Some, None, IsSome, IsSomeAnd, Result, Ok, Err, IfOk, refl, ap, sym, subst, ◌∙◌, inl, inr, arith}
use Rattle.std.proofs.lemmas.Bool.{cases_eq}
use Rattle.std.proofs.lemmas.List.{append-nil, length-append, length-map, map-append, take-map, drop-map, reverse-append, length-reverse, take_more, drop_more, drop_all, take_all}
use Rattle.std.proofs.lemmas.List.Elements.{All-nil, All-cons, All-head, All-tail, All-append, All-take, All-drop}
use Rattle.bits_value.specs.declared.TheConstants.{MAX_BITS}
use Rattle.bit_store.specs.Stores.{Keeps, AnyAtom}
use Rattle.term_value.specs.Bounds.{is_within, within, value_or_limit}
use Rattle.term_value.specs.Made.{given, IsMadeOf}
use Rattle.term_value.specs.Result.{Gives}
use Rattle.term_value.specs.Seen.{Seen, IsKnown, AreKnown, meanings}
use Rattle.term_value.specs.Terms.{value_of, IsOver, seen, row as terms_row}
use Rattle.term_value.specs.Value.{Value, Values, VTuple, VList, VBits, more, row}
use Rattle.term_value.specs.declared.term.Term.{Term}
use Rattle.off_heap.specs.declared.cell.Cell.{Cell}
use Rattle.off_heap.specs.declared.cell.Storage.TheVariants.{Still}
use Rattle.off_heap.specs.declared.parcel.Node.{Node}
use Rattle.off_heap.specs.declared.parcel.Node.TheVariants.{Piece, Tuple, List as Chain}
use Rattle.term_value.specs.declared.term.Term.TheVariants.{Bits}
use Rattle.off_heap.specs.declared.reference.BitRef.{BitRef}
use Rattle.off_heap.specs.declared.reference.BitRef.TheVariants.{Part}
use Rattle.off_heap.specs.Cells.{Contents, IsSame, cell_at, count_of, bits_in, stored_bits, Valid, shown, OnlyCell}
use Rattle.off_heap.specs.Parcels.{next_piece, last_of, before_last, node_value, values_left, pieces_left, read, CanBe, CanRead}
use Rattle.off_heap.proofs.Kept.{keeps_all, goes_on_same}
use Rattle.off_heap.specs.Adopting.{IsStillOf, IsAdded, InFront, queue, HasPlaced, values_of, HasMade}

-- ---- cells in front of the list
pub same_itself : (h : Contents) → IsSame h h
same_itself h = record { cells = λ n. refl; count = refl; head = refl; swept = refl }

same_trans : (a b c : Contents) → IsSame a b → IsSame b c → IsSame a c
same_trans a b c s t = record { cells = λ n. t.cells n ∙ s.cells n; count = t.count ∙ s.count; head = t.head ∙ s.head; swept = t.swept ∙ s.swept }

added_same : (old mid new : Contents) (bits : List Bool) → IsAdded old mid bits → IsSame mid new → IsAdded old new bits
added_same old mid new bits a s =
    let e : mid.head ≡ new.head = sym s.head in
    record {
      vacant = subst (λ (n : ℕ). cell_at old.cells n ≡ None) e a.vacant;
      here = subst (λ (slot : Option Cell). IsSomeAnd slot (λ cell. (cell.storage ≡ Still bits) × (cell.next ≡ old.head)))
          (sym (s.cells new.head ∙ ap (cell_at mid.cells) (sym e))) a.here;
      others = λ m other. s.cells m ∙ a.others m (λ (q : m ≡ mid.head). other (q ∙ e));
      more = s.count ∙ a.more;
      swept = s.swept ∙ a.swept;
    }

pub front_same : (old mid new : Contents) (parts : List (List Bool)) → InFront old parts mid → IsSame mid new → InFront old parts new
front_same _ mid new _ (InFront.none old m s) t = InFront.none old new (same_trans old m new s t)
front_same _ mid new _ (InFront.one old m n bits parts f a) t = InFront.one old m new bits parts f (added_same m n new bits a t)

still_here : (slot : Option Cell) (bits : List Bool) (head : ℕ) → IsSomeAnd slot (λ cell. (cell.storage ≡ Still bits) × (cell.next ≡ head)) → IsStillOf slot bits
still_here None bits head h = absurd h
still_here (Some c) bits head h = h.0

pub front_still : (old new : Contents) (bits : List Bool) (parts : List (List Bool)) → InFront old (bits ∷ parts) new → IsStillOf (cell_at new.cells new.head) bits
front_still _ _ _ _ (InFront.one old mid new bits parts f a) = still_here (cell_at new.cells new.head) bits mid.head a.here

pub still_bits : (slot : Option Cell) (a b : List Bool) → IsStillOf slot a → IsStillOf slot b → a ≡ b
still_bits None a b h k = absurd h
still_bits (Some c) a b h k = cc

next_same : (slot : Option Cell) (bits : List Bool) (a b : ℕ) → IsSomeAnd slot (λ cell. (cell.storage ≡ Still bits) × (cell.next ≡ a)) → IsSomeAnd slot (λ cell. cell.next ≡ b) → b ≡ a
next_same None bits a b h k = absurd h
next_same (Some c) bits a b h k = sym k ∙ h.1

-- the cell in front was taken off
pub front_taken : (old new after : Contents) (bits : List Bool) (parts : List (List Bool)) → InFront old (bits ∷ parts) new →
    IsSomeAnd (cell_at new.cells new.head) (λ cell. cell.next ≡ after.head) → cell_at after.cells new.head ≡ None → OnlyCell new.head new.cells after.cells →
    count_of after.cells + 1 ≡ count_of new.cells → after.swept ≡ new.swept → InFront old parts after
front_taken _ _ after _ _ (InFront.one old mid new bits parts f a) next gone others fewer swept =
    front_same old mid after parts f (record {
      cells = λ m. elim (cases_eq m new.head) [
        | inl same ↦ ap (cell_at after.cells) same ∙ gone ∙ sym a.vacant ∙ ap (cell_at mid.cells) (sym same)
        | inr other ↦ others m other ∙ a.others m other
      ];
      count = omega (arith, a.more);
      head = next_same (cell_at new.cells new.head) bits mid.head after.head a.here next;
      swept = swept ∙ a.swept;
    })

pub front_none : (old new : Contents) → InFront old [] new → IsSame old new
front_none _ _ (InFront.none old new s) = s

-- ---- where the pieces are
pub queue_push : (cells : List (Option Cell)) (places : List BitRef) (place : BitRef) → queue cells (places ++ place ∷ []) ≡ shown cells place ∷ queue cells places
queue_push cells places place = ap (map (shown cells)) (reverse-append places (place ∷ []))

shown_kept : (old new : List (Option Cell)) (places : List BitRef) → Keeps shown Valid old new → All (Valid old) places → map (shown new) places ≡ map (shown old) places
shown_kept old new [] k h = refl
shown_kept old new (p ∷ ps) k h =
    let first : shown new p ≡ shown old p = (k p (All-head (Valid old) p ps h)).1 in
    let rest : map (shown new) ps ≡ map (shown old) ps = shown_kept old new ps k (All-tail (Valid old) p ps h) in
    λ i. first i ∷ rest i

pub all_kept : (old new : List (Option Cell)) (places : List BitRef) → Keeps shown Valid old new → All (Valid old) places → All (Valid new) places
all_kept old new [] k h = All-nil (Valid new)
all_kept old new (p ∷ ps) k h = All-cons (Valid new) p ps ((k p (All-head (Valid old) p ps h)).0) (all_kept old new ps k (All-tail (Valid old) p ps h))

pub all_reverse : {X : Type 0} (P : X → Type 0) (xs : List X) → All P xs → All P (reverse xs)
all_reverse P [] h = All-nil P
all_reverse P (x ∷ xs) h =
    subst (All P) (sym (reverse-append (x ∷ []) xs))
    (All-append P (reverse xs) (x ∷ []) (all_reverse P xs (All-tail P x xs h)) (All-cons P x [] (All-head P x xs h) (All-nil P)))

pub queue_kept : (old new : List (Option Cell)) (places : List BitRef) → Keeps shown Valid old new → All (Valid old) places → queue new places ≡ queue old places
queue_kept old new places k h = shown_kept old new (reverse places) k (all_reverse (Valid old) places h)

still_shows : (slot : Option Cell) (bits : List Bool) (head : ℕ) → IsSomeAnd slot (λ cell. (cell.storage ≡ Still bits) × (cell.next ≡ head)) → IsSome slot × (bits_in slot ≡ bits)
still_shows None bits head h = absurd h
still_shows (Some c) bits head h = (refl, ap stored_bits h.0)

-- what the new place shows
pub place_shows : (old new : Contents) (bits : List Bool) → IsAdded old new bits → length bits ≤ MAX_BITS → Valid new.cells (Part new.head 0 (length bits)) × (shown new.cells (Part new.head 0 (length bits)) ≡ bits)
place_shows old new bits a short =
    let s = still_shows (cell_at new.cells new.head) bits old.head a.here in
    let l : length (bits_in (cell_at new.cells new.head)) ≡ length bits = ap length s.1 in (
      record { there = s.0; inside = omega arith; short = omega arith },
      ap (λ (w : List Bool). take (length bits) (drop 0 w)) s.1 ∙ take_all (length bits) bits (omega arith),
    )

pub placed_none : (h : Contents) → HasPlaced h h [] []
placed_none h = record { front = InFront.none h h (same_itself h); valid = All-nil (Valid h.cells); shows = refl; cells = omega arith }

pub placed_more : (old mid new : Contents) (places : List BitRef) (place : BitRef) (bits : List Bool) (parts : List (List Bool)) → HasPlaced old mid places parts →
    IsAdded mid new bits → Keeps shown Valid mid.cells new.cells → place ≡ Part new.head 0 (length bits) → length bits ≤ MAX_BITS → HasPlaced old new (places ++ place ∷ []) (bits ∷ parts)
placed_more old mid new places place bits parts h a k is short =
    let p = place_shows mid new bits a short in
    let valid : Valid new.cells place = subst (Valid new.cells) (sym is) p.0 in
    let shows : shown new.cells place ≡ bits = ap (shown new.cells) is ∙ p.1 in
    record {
      front = InFront.one old mid new bits parts h.front a;
      valid = All-append (Valid new.cells) places (place ∷ []) (all_kept mid.cells new.cells places k h.valid) (All-cons (Valid new.cells) place [] valid (All-nil (Valid new.cells)));
      shows = queue_push new.cells places place ∙ ap (λ (b : List Bool). b ∷ queue new.cells places) shows ∙ ap (λ (q : List (List Bool)). bits ∷ q) (queue_kept mid.cells new.cells places k h.valid ∙ h.shows);
      cells = omega (arith, h.cells, a.more);
    }

-- ---- terms
pub row_values : (shows : BitRef → List Bool) (ts : List (Term BitRef)) → meanings shows (terms_row ts) ≡ row (map (value_of shows) ts)
row_values shows [] = refl
row_values shows (t ∷ ts) = ap (more (value_of shows t)) (row_values shows ts)

pub all_known : (cells : List (Option Cell)) (ts : List (Term BitRef)) → All (IsOver (Valid cells) AnyAtom) ts → AreKnown (Valid cells) AnyAtom (terms_row ts)
all_known cells [] h = tt
all_known cells (t ∷ ts) h = (All-head (IsOver (Valid cells) AnyAtom) t ts h, all_known cells ts (All-tail (IsOver (Valid cells) AnyAtom) t ts h))

-- what a call gives that makes a term of values that are within the bounds
some_value : (shows : BitRef → List Bool) (o : Option (Term BitRef)) (t : Term BitRef) (v : Value) → o ≡ Some t → given shows o ≡ Gives v → value_of shows t ≡ v
some_value shows o t v e g = let k : given shows (Some t) ≡ Gives v = ap (given shows) (sym e) ∙ g in cc

none_value : (shows : BitRef → List Bool) (o : Option (Term BitRef)) (v : Value) → o ≡ None → given shows o ≡ Gives v → ⊥
none_value shows o v e g = let k : given shows None ≡ Gives v = ap (given shows) (sym e) ∙ g in cc

module _ (make : Values → Value) (cells : List (Option Cell)) (ts : List (Term BitRef)) (o : Option (Term BitRef))
    (g : given (shown cells) o ≡ within (make (meanings (shown cells) (terms_row ts)))) (w : is_within (make (row (values_of cells ts))) ≡ true) where
  gives_whole : given (shown cells) o ≡ Gives (make (row (values_of cells ts)))
  gives_whole = g ∙ ap (λ (us : Values). within (make us)) (row_values (shown cells) ts) ∙ ap (λ b. value_or_limit b (make (row (values_of cells ts)))) w

  pub whole_value : (t : Term BitRef) → o ≡ Some t → value_of (shown cells) t ≡ make (row (values_of cells ts))
  whole_value t e = some_value (shown cells) o t (make (row (values_of cells ts))) e gives_whole

  pub whole_none : o ≡ None → ⊥
  whole_none e = none_value (shown cells) o (make (row (values_of cells ts))) e gives_whole

pub whole_over : (cells : List (Option Cell)) (s : Seen BitRef) (o : Option (Term BitRef)) (t : Term BitRef) → o ≡ Some t → IsMadeOf s o → IsKnown (Valid cells) AnyAtom s → IsOver (Valid cells) AnyAtom t
whole_over cells s o t e m h = let k : seen t ≡ s = subst (IsMadeOf s) e m in subst (IsKnown (Valid cells) AnyAtom) (sym k) h

-- of the values of terms, the last are the values of the last
pub last_values : (cells : List (Option Cell)) (n : ℕ) (ts : List (Term BitRef)) → last_of n (values_of cells ts) ≡ values_of cells (drop (length ts - n) ts)
last_values cells n ts = ap (λ k. drop (k - n) (values_of cells ts)) (length-map ts (value_of (shown cells))) ∙ drop-map (value_of (shown cells)) (length ts - n) ts

pub before_values : (cells : List (Option Cell)) (n : ℕ) (ts : List (Term BitRef)) → before_last n (values_of cells ts) ≡ values_of cells (take (length ts - n) ts)
before_values cells n ts = ap (λ k. take (k - n) (values_of cells ts)) (length-map ts (value_of (shown cells))) ∙ take-map (value_of (shown cells)) (length ts - n) ts

-- ---- halfway through the nodes
pub record IsReading (cells : List (Option Cell)) (nodes : List Node) (first : List (List Bool)) (i : ℕ) (places : List BitRef) (stack : List (Term BitRef)) : Type 0 where
  pub valid : All (Valid cells) places
  pub over : All (IsOver (Valid cells) AnyAtom) stack
  pub can : CanRead (drop i nodes) (queue cells places) (values_of cells stack)
  pub rest : read (drop i nodes) (queue cells places) (values_of cells stack) ≡ read nodes first []

pub reading_start : (cells : List (Option Cell)) (nodes : List Node) (places : List BitRef) (stack : List (Term BitRef)) → stack ≡ [] → All (Valid cells) places → CanRead nodes (queue cells places) [] →
    IsReading cells nodes (queue cells places) 0 places stack
reading_start cells nodes places stack e valid can = record {
  valid = valid;
  over = subst (All (IsOver (Valid cells) AnyAtom)) (sym e) (All-nil (IsOver (Valid cells) AnyAtom));
  can = subst (λ (ts : List (Term BitRef)). CanRead nodes (queue cells places) (values_of cells ts)) (sym e) can;
  rest = ap (λ (ts : List (Term BitRef)). read nodes (queue cells places) (values_of cells ts)) e;
}

pub reading_can : (cells : List (Option Cell)) (nodes : List Node) (first : List (List Bool)) (i : ℕ) (places : List BitRef) (stack : List (Term BitRef)) (node : Node) → i < length nodes → node ≡ get_or nodes i node →
    IsReading cells nodes first i places stack → CanBe node (queue cells places) (values_of cells stack)
reading_can cells nodes first i places stack node h is r =
    let d : drop i nodes ≡ node ∷ drop (i + 1) nodes = drop_more nodes i node h ∙ ap (λ (n : Node). n ∷ drop (i + 1) nodes) (sym is) in
    (subst (λ (ns : List Node). CanRead ns (queue cells places) (values_of cells stack)) d r.can).0

pub reading_next : (cells : List (Option Cell)) (nodes : List Node) (first : List (List Bool)) (i : ℕ) (places : List BitRef) (stack : List (Term BitRef)) (node : Node)
    (places_left : List BitRef) (stack_left new_stack : List (Term BitRef)) (term : Term BitRef) → i < length nodes → node ≡ get_or nodes i node →
    IsReading cells nodes first i places stack → HasMade cells node places stack places_left stack_left term → new_stack ≡ stack_left ++ term ∷ [] → IsReading cells nodes first (i + 1) places_left new_stack
reading_next cells nodes first i places stack node places_left stack_left new_stack term h is r m e =
    let d : drop i nodes ≡ node ∷ drop (i + 1) nodes = drop_more nodes i node h ∙ ap (λ (n : Node). n ∷ drop (i + 1) nodes) (sym is) in
    let over : IsOver (Valid cells) AnyAtom term = m.over in
    let values : values_of cells new_stack ≡ values_left node (values_of cells stack) ++ node_value node (queue cells places) (values_of cells stack) ∷ [] =
    ap (values_of cells) e ∙ map-append (value_of (shown cells)) stack_left (term ∷ [])
    ∙ ap (λ (vs : List Value). vs ++ value_of (shown cells) term ∷ []) m.values ∙ ap (λ (v : Value). values_left node (values_of cells stack) ++ v ∷ []) m.value in
    record {
      valid = m.valid;
      over = subst (All (IsOver (Valid cells) AnyAtom)) (sym e)
          (All-append (IsOver (Valid cells) AnyAtom) stack_left (term ∷ []) m.known (All-cons (IsOver (Valid cells) AnyAtom) term [] over (All-nil (IsOver (Valid cells) AnyAtom))));
      can = subst (λ (vs : List Value). CanRead (drop (i + 1) nodes) (queue cells places_left) vs) (sym values)
          (subst (λ (q : List (List Bool)). CanRead (drop (i + 1) nodes) q (values_left node (values_of cells stack) ++ node_value node (queue cells places) (values_of cells stack) ∷ [])) (sym m.queued)
          ((subst (λ (ns : List Node). CanRead ns (queue cells places) (values_of cells stack)) d r.can).1));
      rest = ap (λ (vs : List Value). read (drop (i + 1) nodes) (queue cells places_left) vs) values
          ∙ ap (λ (q : List (List Bool)). read (drop (i + 1) nodes) q (values_left node (values_of cells stack) ++ node_value node (queue cells places) (values_of cells stack) ∷ [])) m.queued
          ∙ ap (λ (ns : List Node). read ns (queue cells places) (values_of cells stack)) (sym d) ∙ r.rest;
    }

pub reading_end : (cells : List (Option Cell)) (nodes : List Node) (first : List (List Bool)) (i : ℕ) (places : List BitRef) (stack : List (Term BitRef)) → length nodes ≤ i →
    IsReading cells nodes first i places stack → values_of cells stack ≡ read nodes first []
reading_end cells nodes first i places stack h r = ap (λ (ns : List Node). read ns (queue cells places) (values_of cells stack)) (sym (drop_all i nodes h)) ∙ r.rest

-- ---- cells that are taken back, one after another
pub record TakenBack (first : Contents) (parts : List (List Bool)) (i : ℕ) (now : Contents) (pieces_first pieces : List (List Bool)) : Type 0 where
  pub front : InFront first (drop i parts) now
  pub pieces_are : pieces ≡ pieces_first ++ take i parts

pub back_start : (first now : Contents) (parts pieces : List (List Bool)) → InFront first parts now → TakenBack first parts 0 now pieces pieces
back_start first now parts pieces f = record { front = f; pieces_are = sym (append-nil pieces) }

-- the part whose turn it is
pub back_front : (first now : Contents) (parts : List (List Bool)) (i : ℕ) → i < length parts → InFront first (drop i parts) now → InFront first (get_or parts i [] ∷ drop (i + 1) parts) now
back_front first now parts i h f = subst (λ (ps : List (List Bool)). InFront first ps now) (drop_more parts i [] h) f

pub back_still : (first now : Contents) (parts pieces_first pieces : List (List Bool)) (i : ℕ) → i < length parts → TakenBack first parts i now pieces_first pieces → IsStillOf (cell_at now.cells now.head) (get_or parts i [])
back_still first now parts pieces_first pieces i h t = front_still first now (get_or parts i []) (drop (i + 1) parts) (back_front first now parts i h t.front)

pub back_next : (first now after : Contents) (parts pieces_first pieces new_pieces : List (List Bool)) (i : ℕ) (bits : List Bool) → i < length parts → TakenBack first parts i now pieces_first pieces →
    IsStillOf (cell_at now.cells now.head) bits → IsSomeAnd (cell_at now.cells now.head) (λ cell. cell.next ≡ after.head) → cell_at after.cells now.head ≡ None → OnlyCell now.head now.cells after.cells →
    count_of after.cells + 1 ≡ count_of now.cells → after.swept ≡ now.swept → new_pieces ≡ pieces ++ bits ∷ [] → TakenBack first parts (i + 1) after pieces_first new_pieces
back_next first now after parts pieces_first pieces new_pieces i bits h t still next gone others fewer swept e =
    let f = back_front first now parts i h t.front in
    let b : bits ≡ get_or parts i [] = still_bits (cell_at now.cells now.head) bits (get_or parts i []) still (front_still first now (get_or parts i []) (drop (i + 1) parts) f) in
    record {
      front = front_taken first now after (get_or parts i []) (drop (i + 1) parts) f next gone others fewer swept;
      pieces_are = e ∙ ap (λ (ps : List (List Bool)). ps ++ bits ∷ []) t.pieces_are ∙ append_assoc pieces_first (take i parts) (bits ∷ [])
          ∙ ap (λ (b : List Bool). pieces_first ++ (take i parts ++ b ∷ [])) b ∙ ap (λ (ps : List (List Bool)). pieces_first ++ ps) (sym (take_more parts i [] h));
    }

pub back_end : (first now : Contents) (parts pieces_first pieces : List (List Bool)) (i : ℕ) → length parts ≤ i → TakenBack first parts i now pieces_first pieces → IsSame first now × (pieces ≡ pieces_first ++ parts)
back_end first now parts pieces_first pieces i h t = (
  front_none first now (subst (λ (ps : List (List Bool)). InFront first ps now) (drop_all i parts h) t.front),
  t.pieces_are ∙ ap (λ (ps : List (List Bool)). pieces_first ++ ps) (take_all i parts h),
)

-- ---- the term of a node
pub all_parts : {X : Type 0} (P : X → Type 0) (xs ys : List X) → All P (xs ++ ys) → All P xs × All P ys
all_parts P [] ys h = (All-nil P, h)
all_parts P (x ∷ xs) ys h = let r = all_parts P xs ys (All-tail P x (xs ++ ys) h) in (All-cons P x xs (All-head P x (xs ++ ys) h) r.0, r.1)

pub made_piece : (cells : List (Option Cell)) (places places_left : List BitRef) (place : BitRef) (stack : List (Term BitRef)) → All (Valid cells) places → All (IsOver (Valid cells) AnyAtom) stack →
    places ≡ places_left ++ place ∷ [] → HasMade cells Piece places stack places_left stack (Bits place)
made_piece cells places places_left place stack valid known e =
    let q : queue cells places ≡ shown cells place ∷ queue cells places_left = ap (queue cells) e ∙ queue_push cells places_left place in
    let parts = all_parts (Valid cells) places_left (place ∷ []) (subst (All (Valid cells)) e valid) in
    record {
      valid = parts.0;
      queued = sym (ap (drop 1) q);
      known = known;
      values = refl;
      over = All-head (Valid cells) place [] parts.1;
      value = sym (ap (λ (ps : List (List Bool)). VBits (next_piece ps)) q);
    }

-- the items of a tuple or a list can be taken off, and are within the bounds
pub items_there : (cells : List (Option Cell)) (n : ℕ) (stack : List (Term BitRef)) → n ≤ length (values_of cells stack) → n ≤ length stack
items_there cells n stack h = omega (arith, h, length-map stack (value_of (shown cells)))

pub items_within : (make : Values → Value) (cells : List (Option Cell)) (n : ℕ) (stack items : List (Term BitRef)) → items ≡ drop (length stack - n) stack → is_within (make (row (last_of n (values_of cells stack)))) ≡ true →
    is_within (make (row (values_of cells items))) ≡ true
items_within make cells n stack items e w = ap (λ (vs : List Value). is_within (make (row vs))) (ap (values_of cells) e ∙ sym (last_values cells n stack)) ∙ w

pub items_over : (cells : List (Option Cell)) (n : ℕ) (stack items : List (Term BitRef)) → items ≡ drop (length stack - n) stack → All (IsOver (Valid cells) AnyAtom) stack → All (IsOver (Valid cells) AnyAtom) items
items_over cells n stack items e h = subst (All (IsOver (Valid cells) AnyAtom)) (sym e) (All-drop (IsOver (Valid cells) AnyAtom) (length stack - n) stack h)

module _ (cells : List (Option Cell)) (n : ℕ) (places : List BitRef) (stack stack_left items : List (Term BitRef)) (term : Term BitRef) (valid : All (Valid cells) places) (known : All (IsOver (Valid cells) AnyAtom) stack)
    (left : stack_left ≡ take (length stack - n) stack) (taken : items ≡ drop (length stack - n) stack) (over : IsOver (Valid cells) AnyAtom term) where
  stack_known : All (IsOver (Valid cells) AnyAtom) stack_left
  stack_known = subst (All (IsOver (Valid cells) AnyAtom)) (sym left) (All-take (IsOver (Valid cells) AnyAtom) (length stack - n) stack known)

  stack_values : values_of cells stack_left ≡ before_last n (values_of cells stack)
  stack_values = ap (values_of cells) left ∙ sym (before_values cells n stack)

  item_values : values_of cells items ≡ last_of n (values_of cells stack)
  item_values = ap (values_of cells) taken ∙ sym (last_values cells n stack)

  pub made_tuple : value_of (shown cells) term ≡ VTuple (row (values_of cells items)) → HasMade cells (Tuple n) places stack places stack_left term
  made_tuple e = record {
    valid = valid;
    queued = refl;
    known = stack_known;
    values = stack_values;
    over = over;
    value = e ∙ ap (λ (vs : List Value). VTuple (row vs)) item_values;
  }

  pub made_list : value_of (shown cells) term ≡ VList (row (values_of cells items)) → HasMade cells (Chain n) places stack places stack_left term
  made_list e = record {
    valid = valid;
    queued = refl;
    known = stack_known;
    values = stack_values;
    over = over;
    value = e ∙ ap (λ (vs : List Value). VList (row vs)) item_values;
  }

-- ---- pieces that are put into cells, the last first
pub record IsPlacing (first now : Contents) (all pieces : List (List Bool)) (places : List BitRef) : Type 0 where
  pub placed : HasPlaced first now places (queue now.cells places)
  pub split : pieces ++ queue now.cells places ≡ all
  pub short : All (λ (bits : List Bool). length bits ≤ MAX_BITS) pieces
  pub keeps : Keeps shown Valid first.cells now.cells
  pub swept : now.swept ≡ first.swept

keeps_itself : (cells : List (Option Cell)) → Keeps shown Valid cells cells
keeps_itself cells of h = (h, refl)

keeps_then : (a b c : List (Option Cell)) → Keeps shown Valid a b → Keeps shown Valid b c → Keeps shown Valid a c
keeps_then a b c k l of h = let x = k of h in let y = l of x.0 in (y.0, y.1 ∙ x.1)

pub placing_start : (h : Contents) (all : List (List Bool)) (places : List BitRef) → places ≡ [] → All (λ (bits : List Bool). length bits ≤ MAX_BITS) all → IsPlacing h h all all places
placing_start h all places e short = subst (IsPlacing h h all all) (sym e) (record {
  placed = placed_none h;
  split = append-nil all;
  short = short;
  keeps = keeps_itself h.cells;
  swept = refl;
})

pub placing_short : (first now : Contents) (all pieces left : List (List Bool)) (bits : List Bool) (places : List BitRef) → IsPlacing first now all pieces places → pieces ≡ left ++ bits ∷ [] →
    All (λ (b : List Bool). length b ≤ MAX_BITS) left × (length bits ≤ MAX_BITS)
placing_short first now all pieces left bits places p e =
    let parts = all_parts (λ (b : List Bool). length b ≤ MAX_BITS) left (bits ∷ []) (subst (All (λ (b : List Bool). length b ≤ MAX_BITS)) e p.short) in
    (parts.0, All-head (λ (b : List Bool). length b ≤ MAX_BITS) bits [] parts.1)

pub placing_next : (first mid new : Contents) (all pieces left : List (List Bool)) (bits : List Bool) (places new_places : List BitRef) (place : BitRef) → IsPlacing first mid all pieces places → pieces ≡ left ++ bits ∷ [] →
    IsAdded mid new bits → Keeps shown Valid mid.cells new.cells → new.swept ≡ mid.swept → place ≡ Part new.head 0 (length bits) → new_places ≡ places ++ place ∷ [] → IsPlacing first new all left new_places
placing_next first mid new all pieces left bits places new_places place p e a k swept is grown =
    let short = placing_short first mid all pieces left bits places p e in
    let h = placed_more first mid new places place bits (queue mid.cells places) p.placed a k is short.1 in
    subst (IsPlacing first new all left) (sym grown) (record {
      placed = subst (HasPlaced first new (places ++ place ∷ [])) (sym h.shows) h;
      split = ap (λ (q : List (List Bool)). left ++ q) h.shows ∙ sym (append_assoc left (bits ∷ []) (queue mid.cells places)) ∙ ap (λ (ps : List (List Bool)). ps ++ queue mid.cells places) (sym e) ∙ p.split;
      short = short.0;
      keeps = keeps_then first.cells mid.cells new.cells p.keeps k;
      swept = swept ∙ p.swept;
    })

pub queue_length : (cells : List (Option Cell)) (places : List BitRef) → length (queue cells places) ≡ length places
queue_length cells places = length-map (reverse places) (shown cells) ∙ length-reverse places

pub placing_count : (first now : Contents) (all pieces : List (List Bool)) (places : List BitRef) → IsPlacing first now all pieces places → length pieces + length places ≡ length all
placing_count first now all pieces places p =
    let l : length (pieces ++ queue now.cells places) ≡ length all = ap length p.split in
    omega (arith, length-append pieces (queue now.cells places), queue_length now.cells places)

pub placing_end : (first now : Contents) (all pieces : List (List Bool)) (places : List BitRef) → IsPlacing first now all pieces places → pieces ≡ [] → HasPlaced first now places all
placing_end first now all pieces places p e =
    let q : queue now.cells places ≡ all = ap (λ (ps : List (List Bool)). ps ++ queue now.cells places) (sym e) ∙ p.split in
    subst (HasPlaced first now places) q p.placed

-- the one term at the end
pub reading_alone : (cells : List (Option Cell)) (stack left : List (Term BitRef)) (term : Term BitRef) (values : List Value) → values_of cells stack ≡ values → length values ≡ 1 → stack ≡ left ++ term ∷ [] →
    (value_of (shown cells) term ∷ [] ≡ values)
reading_alone cells [] left term values e n s = absurd (omega (arith, n, ap length e))
reading_alone cells (t ∷ []) left term values e n s = ap (λ (u : Term BitRef). value_of (shown cells) u ∷ []) (sym (alone t left term s)) ∙ e
  where
    longer : (left : List (Term BitRef)) (l : Term BitRef) (term : Term BitRef) → length (l ∷ (left ++ term ∷ [])) ≡ length left + 2
    longer left l term = omega (arith, length-append left (term ∷ []))

    alone : (t : Term BitRef) (left : List (Term BitRef)) (term : Term BitRef) → t ∷ [] ≡ left ++ term ∷ [] → t ≡ term
    alone t [] term s = cc
    alone t (l ∷ ls) term s = let n : length (t ∷ []) ≡ length (l ∷ (ls ++ term ∷ [])) = ap length s in absurd (omega (arith, n, longer ls l term))
reading_alone cells (t ∷ u ∷ us) left term values e n s = let l : length (values_of cells (t ∷ u ∷ us)) ≡ length values = ap length e in absurd (omega (arith, n, l))

pub reading_over : (cells : List (Option Cell)) (stack left : List (Term BitRef)) (term : Term BitRef) → All (IsOver (Valid cells) AnyAtom) stack → stack ≡ left ++ term ∷ [] → IsOver (Valid cells) AnyAtom term
reading_over cells stack left term h e = All-head (IsOver (Valid cells) AnyAtom) term [] (all_parts (IsOver (Valid cells) AnyAtom) left (term ∷ []) (subst (All (IsOver (Valid cells) AnyAtom)) e h)).1

pub reading_none : (cells : List (Option Cell)) (stack : List (Term BitRef)) (values : List Value) → values_of cells stack ≡ values → length values ≡ 1 → length stack ≡ 0 → ⊥
reading_none cells stack values e n z = let l : length (values_of cells stack) ≡ length values = ap length e in omega (arith, n, l, length-map stack (value_of (shown cells)))

pub if_ok_both : {X Y : Type 0} (r : Result X Y) (P Q R : X → Type 0) → ((x : X) → P x → Q x → R x) → IfOk r P → IfOk r Q → IfOk r R
if_ok_both (Ok x) P Q R f p q = f x p q
if_ok_both (Err e) P Q R f p q = tt

pub same_keeps : (old new : Contents) → IsSame old new → Keeps shown Valid old.cells new.cells
same_keeps old new s = keeps_all old.cells new.cells (λ n. goes_on_same (cell_at old.cells n) (cell_at new.cells n) (s.cells n))
