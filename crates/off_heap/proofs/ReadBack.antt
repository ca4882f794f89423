-- The nodes of a value, read, give the value.
use Rattle.std.proofs.Common.{◌≡◌, ℕ, ◌+◌, ◌-◌, ◌≤◌, Bool, true, false, List, [], ◌∷◌, ◌++◌, length, take, drop, append_assoc, All, cond, nat_le, refl, ap, sym, subst, ◌∙◌, arith}
use Rattle.std.proofs.lemmas.List.Elements.{All-nil, All-cons, All-append, All-same}
use Rattle.std.proofs.Math.Seq.{take-append_seam, drop-append_seam}
use Rattle.std.proofs.lemmas.Bool.Decides.{nat_tests}
use Rattle.std.proofs.lemmas.List.{append-nil, length-append}
use Rattle.bits_value.specs.declared.TheConstants.{MAX_BITS}
use Rattle.term_value.specs.Bounds.{is_within}
use Rattle.term_value.specs.Value.{Value, VInt, VAtom, VPid, VTuple, VList, VBits, Values, none, more, row, items, count}
use Rattle.off_heap.specs.declared.parcel.Node.{Node}
use Rattle.off_heap.specs.declared.parcel.Node.TheVariants.{Int, Atom, Pid, Small, Piece, Tuple, List as Chain}
use Rattle.off_heap.specs.Parcels.{nodes_of, nodes_of_each, large_parts, large_parts_each, IsBounded, AreBounded, last_of, before_last, node_value, values_left, pieces_left, read, CanBe, CanRead, value_in, first_value}

pub row_items : (vs : Values) → row (items vs) ≡ vs
row_items none = refl
row_items (more v vs) = ap (more v) (row_items vs)

count_items : (vs : Values) → count vs ≡ length (items vs)
count_items none = refl
count_items (more v vs) = omega (arith, count_items vs)

-- of values behind others, so many as they are, they are the last
ends_at : (vs : List Value) (ws : Values) → length (vs ++ items ws) - count ws ≡ length vs
ends_at vs ws = omega (arith, length-append vs (items ws), count_items ws)

last_are : (vs : List Value) (ws : Values) → row (last_of (count ws) (vs ++ items ws)) ≡ ws
last_are vs ws = ap (λ n. row (drop n (vs ++ items ws))) (ends_at vs ws) ∙ ap row (drop-append_seam vs (items ws)) ∙ row_items ws

before_are : (vs : List Value) (ws : Values) → before_last (count ws) (vs ++ items ws) ≡ vs
before_are vs ws = ap (λ n. take n (vs ++ items ws)) (ends_at vs ws) ∙ take-append_seam vs (items ws)

-- ---- what is read
bits_read : (b : Bool) (bits : List Bool) (ns : List Node) (ps : List (List Bool)) (vs : List Value) →
    read (cond b (Small bits) Piece ∷ ns) (cond b [] (bits ∷ []) ++ ps) vs ≡ read ns ps (vs ++ VBits bits ∷ [])
bits_read true bits ns ps vs = refl
bits_read false bits ns ps vs = refl

joined : (make : Values → Value) (ns : List Node) (ps : List (List Bool)) (vs : List Value) (ws : Values) →
    read ns ps (before_last (count ws) (vs ++ items ws) ++ make (row (last_of (count ws) (vs ++ items ws))) ∷ []) ≡ read ns ps (vs ++ make ws ∷ [])
joined make ns ps vs ws =
    ap (λ (us : List Value). read ns ps (us ++ make (row (last_of (count ws) (vs ++ items ws))) ∷ [])) (before_are vs ws)
    ∙ ap (λ (us : Values). read ns ps (vs ++ make us ∷ [])) (last_are vs ws)

mutual
  pub read_value : (v : Value) (ns : List Node) (ps : List (List Bool)) (vs : List Value) → read (nodes_of v ++ ns) (large_parts v ++ ps) vs ≡ read ns ps (vs ++ v ∷ [])
  read_value (VInt n) ns ps vs = refl
  read_value (VAtom a) ns ps vs = refl
  read_value (VPid p) ns ps vs = refl
  read_value (VTuple ws) ns ps vs =
      ap (λ (ms : List Node). read ms (large_parts_each ws ++ ps) vs) (append_assoc (nodes_of_each ws) (Tuple (count ws) ∷ []) ns)
      ∙ read_each ws (Tuple (count ws) ∷ ns) ps vs ∙ joined (λ us. VTuple us) ns ps vs ws
  read_value (VList ws) ns ps vs =
      ap (λ (ms : List Node). read ms (large_parts_each ws ++ ps) vs) (append_assoc (nodes_of_each ws) (Chain (count ws) ∷ []) ns)
      ∙ read_each ws (Chain (count ws) ∷ ns) ps vs ∙ joined (λ us. VList us) ns ps vs ws
  read_value (VBits bits) ns ps vs = bits_read (nat_le (length bits) 512) bits ns ps vs

  pub read_each : (ws : Values) (ns : List Node) (ps : List (List Bool)) (vs : List Value) → read (nodes_of_each ws ++ ns) (large_parts_each ws ++ ps) vs ≡ read ns ps (vs ++ items ws)
  read_each none ns ps vs = ap (read ns ps) (sym (append-nil vs))
  read_each (more w ws) ns ps vs =
      ap (λ (ms : List Node). read ms ((large_parts w ++ large_parts_each ws) ++ ps) vs) (append_assoc (nodes_of w) (nodes_of_each ws) ns)
      ∙ ap (λ (qs : List (List Bool)). read (nodes_of w ++ (nodes_of_each ws ++ ns)) qs vs) (append_assoc (large_parts w) (large_parts_each ws) ps)
      ∙ read_value w (nodes_of_each ws ++ ns) (large_parts_each ws ++ ps) vs
      ∙ read_each ws ns ps (vs ++ w ∷ [])
      ∙ ap (read ns ps) (append_assoc vs (w ∷ []) (items ws))

pub read_alone : (v : Value) → read (nodes_of v) (large_parts v) [] ≡ v ∷ []
read_alone v =
    ap (λ (ns : List Node). read ns (large_parts v) []) (sym (append-nil (nodes_of v)))
    ∙ ap (λ (ps : List (List Bool)). read (nodes_of v ++ []) ps []) (sym (append-nil (large_parts v)))
    ∙ read_value v [] [] []

pub value_is : (nodes : List Node) (pieces : List (List Bool)) (v : Value) → nodes ≡ nodes_of v → pieces ≡ large_parts v → value_in nodes pieces ≡ v
value_is nodes pieces v e f =
    ap (λ (ns : List Node). value_in ns pieces) e ∙ ap (λ (ps : List (List Bool)). value_in (nodes_of v) ps) f ∙ ap first_value (read_alone v)

-- ---- that it can be read
bits_can : (b : Bool) (bits : List Bool) (ns : List Node) (ps : List (List Bool)) (vs : List Value) → nat_le (length bits) 512 ≡ b → is_within (VBits bits) ≡ true →
    CanRead ns ps (vs ++ VBits bits ∷ []) → CanRead (cond b (Small bits) Piece ∷ ns) (cond b [] (bits ∷ []) ++ ps) vs
bits_can true bits ns ps vs e w h = (grind (arith, nat_tests), h)
bits_can false bits ns ps vs e w h = (omega arith, h)

tuple_can : (ns : List Node) (ps : List (List Bool)) (vs : List Value) (ws : Values) → is_within (VTuple ws) ≡ true → CanRead ns ps (vs ++ VTuple ws ∷ []) → CanRead (Tuple (count ws) ∷ ns) ps (vs ++ items ws)
tuple_can ns ps vs ws w h = (
  (omega (arith, length-append vs (items ws), count_items ws), ap (λ (us : Values). is_within (VTuple us)) (last_are vs ws) ∙ w),
  subst (λ (us : List Value). CanRead ns ps (us ++ VTuple (row (last_of (count ws) (vs ++ items ws))) ∷ [])) (sym (before_are vs ws))
      (subst (λ (us : Values). CanRead ns ps (vs ++ VTuple us ∷ [])) (sym (last_are vs ws)) h),
)

list_can : (ns : List Node) (ps : List (List Bool)) (vs : List Value) (ws : Values) → is_within (VList ws) ≡ true → CanRead ns ps (vs ++ VList ws ∷ []) → CanRead (Chain (count ws) ∷ ns) ps (vs ++ items ws)
list_can ns ps vs ws w h = (
  (omega (arith, length-append vs (items ws), count_items ws), ap (λ (us : Values). is_within (VList us)) (last_are vs ws) ∙ w),
  subst (λ (us : List Value). CanRead ns ps (us ++ VList (row (last_of (count ws) (vs ++ items ws))) ∷ [])) (sym (before_are vs ws))
      (subst (λ (us : Values). CanRead ns ps (vs ++ VList us ∷ [])) (sym (last_are vs ws)) h),
)

mutual
  pub can_value : (v : Value) → IsBounded v → (ns : List Node) (ps : List (List Bool)) (vs : List Value) → CanRead ns ps (vs ++ v ∷ []) → CanRead (nodes_of v ++ ns) (large_parts v ++ ps) vs
  can_value (VInt n) b ns ps vs h = (tt, h)
  can_value (VAtom a) b ns ps vs h = (tt, h)
  can_value (VPid p) b ns ps vs h = (tt, h)
  can_value (VTuple ws) b ns ps vs h =
      subst (λ (ms : List Node). CanRead ms (large_parts_each ws ++ ps) vs) (sym (append_assoc (nodes_of_each ws) (Tuple (count ws) ∷ []) ns))
      (can_each ws b.1 (Tuple (count ws) ∷ ns) ps vs (tuple_can ns ps vs ws b.0 h))
  can_value (VList ws) b ns ps vs h =
      subst (λ (ms : List Node). CanRead ms (large_parts_each ws ++ ps) vs) (sym (append_assoc (nodes_of_each ws) (Chain (count ws) ∷ []) ns))
      (can_each ws b.1 (Chain (count ws) ∷ ns) ps vs (list_can ns ps vs ws b.0 h))
  can_value (VBits bits) b ns ps vs h = bits_can (nat_le (length bits) 512) bits ns ps vs refl b h

  pub can_each : (ws : Values) → AreBounded ws → (ns : List Node) (ps : List (List Bool)) (vs : List Value) → CanRead ns ps (vs ++ items ws) → CanRead (nodes_of_each ws ++ ns) (large_parts_each ws ++ ps) vs
  can_each none b ns ps vs h = subst (CanRead ns ps) (append-nil vs) h
  can_each (more w ws) b ns ps vs h =
      subst (λ (ms : List Node). CanRead ms ((large_parts w ++ large_parts_each ws) ++ ps) vs) (sym (append_assoc (nodes_of w) (nodes_of_each ws) ns))
      (subst (λ (qs : List (List Bool)). CanRead (nodes_of w ++ (nodes_of_each ws ++ ns)) qs vs) (sym (append_assoc (large_parts w) (large_parts_each ws) ps))
      (can_value w b.0 (nodes_of_each ws ++ ns) (large_parts_each ws ++ ps) vs
      (can_each ws b.1 ns ps (vs ++ w ∷ []) (subst (CanRead ns ps) (sym (append_assoc vs (w ∷ []) (items ws))) h))))

-- pieces are no longer than a bitstring may be
bits_short : (b : Bool) (bits : List Bool) → is_within (VBits bits) ≡ true → All (λ (p : List Bool). length p ≤ MAX_BITS) (cond b [] (bits ∷ []))
bits_short true bits w = All-nil (λ (p : List Bool). length p ≤ MAX_BITS)
bits_short false bits w = All-cons (λ (p : List Bool). length p ≤ MAX_BITS) bits [] (grind (arith, nat_tests)) (All-nil (λ (p : List Bool). length p ≤ MAX_BITS))

mutual
  pub parts_short : (v : Value) → IsBounded v → All (λ (p : List Bool). length p ≤ MAX_BITS) (large_parts v)
  parts_short (VInt n) b = All-nil (λ (p : List Bool). length p ≤ MAX_BITS)
  parts_short (VAtom a) b = All-nil (λ (p : List Bool). length p ≤ MAX_BITS)
  parts_short (VPid p) b = All-nil (λ (p : List Bool). length p ≤ MAX_BITS)
  parts_short (VTuple ws) b = each_short ws b.1
  parts_short (VList ws) b = each_short ws b.1
  parts_short (VBits bits) b = bits_short (nat_le (length bits) 512) bits b

  pub each_short : (ws : Values) → AreBounded ws → All (λ (p : List Bool). length p ≤ MAX_BITS) (large_parts_each ws)
  each_short none b = All-nil (λ (p : List Bool). length p ≤ MAX_BITS)
  each_short (more w ws) b = All-append (λ (p : List Bool). length p ≤ MAX_BITS) (large_parts w) (large_parts_each ws) (parts_short w b.0) (each_short ws b.1)

pub can_alone : (v : Value) → IsBounded v → CanRead (nodes_of v) (large_parts v) []
can_alone v b =
    subst (λ (ns : List Node). CanRead ns (large_parts v) []) (append-nil (nodes_of v))
    (subst (λ (ps : List (List Bool)). CanRead (nodes_of v ++ []) ps []) (append-nil (large_parts v))
    (can_value v b [] [] [] tt))

-- ---- what a parcel keeps
module _ (ns nodes : List Node) (pieces : List (List Bool)) (v : Value) (same : ns ≡ nodes) (n : nodes ≡ nodes_of (value_in nodes pieces)) (p : pieces ≡ large_parts (value_in nodes pieces)) (is : value_in nodes pieces ≡ v) where
  parcel_nodes : ns ≡ nodes_of v
  parcel_nodes = same ∙ n ∙ ap nodes_of is

  pub parcel_pieces : pieces ≡ large_parts v
  parcel_pieces = p ∙ ap large_parts is

  pub parcel_can : IsBounded v → CanRead ns pieces []
  parcel_can b = subst (λ (ms : List Node). CanRead ms pieces []) (sym parcel_nodes) (subst (λ (ps : List (List Bool)). CanRead (nodes_of v) ps []) (sym parcel_pieces) (can_alone v b))

  pub parcel_read : read ns pieces [] ≡ v ∷ []
  parcel_read = ap (λ (ms : List Node). read ms pieces []) parcel_nodes ∙ ap (λ (ps : List (List Bool)). read (nodes_of v) ps []) parcel_pieces ∙ read_alone v

  pub parcel_one : length (read ns pieces []) ≡ 1
  parcel_one = ap length parcel_read

  pub parcel_short : IsBounded v → All (λ (part : List Bool). length part ≤ MAX_BITS) pieces
  parcel_short b = All-same (λ (part : List Bool). length part ≤ MAX_BITS) pieces (large_parts v) parcel_pieces (parts_short v b)

  pub parcel_value : (u : Value) → u ∷ [] ≡ read ns pieces [] → u ≡ v
  parcel_value u e = ap first_value (e ∙ parcel_read)
