-- Values that come behind one another in a parcel.
use Rattle.std.proofs.Common.{◌≡◌, ℕ, ◌+◌, ◌-◌, ◌≤◌, ◌<◌, ◌^◌, Bool, true, false, List, [], ◌∷◌, ◌++◌, length, append_assoc, sum_by, cond, nat_le, refl, ap, sym, subst, ◌∙◌, arith}
use Rattle.std.proofs.lemmas.List.{append-nil, length-append}
use Rattle.std.proofs.lemmas.List.Sums.{sum_by-append}
use Rattle.bits_value.specs.Ledger.{ticked}
use Rattle.term_value.specs.Value.{Value, VInt, VAtom, VPid, VTuple, VList, VBits, Values, none, more, count}
use Rattle.term_value.specs.Seen.{end}
use Rattle.term_value.specs.Terms.{row as terms_row}
use Rattle.term_value.specs.declared.term.Term.{Term}
use Rattle.off_heap.specs.declared.reference.BitRef.{BitRef}
use Rattle.off_heap.specs.declared.parcel.Node.{Node}
use Rattle.off_heap.specs.declared.parcel.Node.TheVariants.{Int, Atom, Pid, Small, Piece, Tuple, List as Chain}
use Rattle.off_heap.specs.declared.parcel.Packed.{Packed}
use Rattle.off_heap.specs.Packing.{HasPacked, IsPacking}
use Rattle.off_heap.specs.Parcels.{nodes_of, nodes_of_each, large_parts, large_parts_each, large_bits, value_in}
use Rattle.off_heap.proofs.ReadBack.{value_is}

bits_some : (b : Bool) (bits : List Bool) → 1 ≤ length (cond b (Small bits) Piece ∷ [])
bits_some b bits = omega arith

pub nodes_some : (v : Value) → 1 ≤ length (nodes_of v)
nodes_some (VInt n) = omega arith
nodes_some (VAtom a) = omega arith
nodes_some (VPid p) = omega arith
nodes_some (VTuple vs) = omega (arith, length-append (nodes_of_each vs) (Tuple (count vs) ∷ []))
nodes_some (VList vs) = omega (arith, length-append (nodes_of_each vs) (Chain (count vs) ∷ []))
nodes_some (VBits bits) = bits_some (nat_le (length bits) 512) bits

pub ticks_on : (before later now m n : ℕ) → later ≡ ticked before m → now ≡ ticked later n → now ≡ ticked before (m + n)
ticks_on before later now m n a b = omega arith

pub ticks_none : (before : ℕ) → before < 2 ^ 64 → before ≡ ticked before 0
ticks_none before h = omega arith

pub packing_none : (old : Packed) (before : ℕ) (all : Values) → before < 2 ^ 64 → IsPacking old old before before all all
packing_none old before all low = record { nodes = refl; pieces = refl; counted = 0; total = omega arith; moved = ticks_none before low }

pub packing_more : (old now new : Packed) (before between later : ℕ) (all : Values) (v : Value) (vs : Values) →
    IsPacking old now before between all (more v vs) → HasPacked now new between later v → IsPacking old new before later all vs
packing_more old now new before between later all v vs p h =
    let s = sum_by-append length (large_parts v) (large_parts_each vs) in
    let t = p.total in
    record {
      nodes = ap (λ ns. ns ++ nodes_of_each vs) h.nodes ∙ append_assoc now.nodes.items (nodes_of v) (nodes_of_each vs) ∙ p.nodes;
      pieces = ap (λ ps. ps ++ large_parts_each vs) h.pieces ∙ append_assoc now.pieces.items (large_parts v) (large_parts_each vs) ∙ p.pieces;
      counted = p.counted + large_bits v;
      total = omega arith;
      moved = ticks_on before between later p.counted (large_bits v) p.moved h.moved;
    }

packing_end : (old now new : Packed) (before later : ℕ) (all : Values) (node : Node) (v : Value) → nodes_of v ≡ nodes_of_each all ++ node ∷ [] → large_parts v ≡ large_parts_each all →
    IsPacking old now before later all none → new.nodes.items ≡ now.nodes.items ++ node ∷ [] → new.pieces ≡ now.pieces → HasPacked old new before later v
packing_end old now new before later all node v e parts p nodes pieces =
    let k : p.counted ≡ large_bits v = (omega (arith, p.total)) ∙ ap (sum_by length) (sym parts) in
    record {
      nodes = nodes ∙ ap (λ ns. ns ++ node ∷ []) (sym (append-nil now.nodes.items) ∙ p.nodes) ∙ append_assoc old.nodes.items (nodes_of_each all) (node ∷ []) ∙ ap (λ ns. old.nodes.items ++ ns) (sym e);
      pieces = ap (λ (ps : _). ps.items) pieces ∙ sym (append-nil now.pieces.items) ∙ p.pieces ∙ ap (λ ps. old.pieces.items ++ ps) (sym parts);
      moved = p.moved ∙ ap (ticked before) k;
    }

pub packed_tuple : (old now new : Packed) (before later n : ℕ) (all : Values) → n ≡ count all → IsPacking old now before later all none →
    new.nodes.items ≡ now.nodes.items ++ Tuple n ∷ [] → new.pieces ≡ now.pieces → HasPacked old new before later (VTuple all)
packed_tuple old now new before later n all e p nodes pieces = packing_end old now new before later all (Tuple n) (VTuple all) (ap (λ k. nodes_of_each all ++ Tuple k ∷ []) (sym e)) refl p nodes pieces

pub packed_list : (old now new : Packed) (before later n : ℕ) (all : Values) → n ≡ count all → IsPacking old now before later all none →
    new.nodes.items ≡ now.nodes.items ++ Chain n ∷ [] → new.pieces ≡ now.pieces → HasPacked old new before later (VList all)
packed_list old now new before later n all e p nodes pieces = packing_end old now new before later all (Chain n) (VList all) (ap (λ k. nodes_of_each all ++ Chain k ∷ []) (sym e)) refl p nodes pieces

-- ---- one turn of a loop over items, and its end
pub packing_step : (old now new : Packed) (before between later : ℕ) (all left : Values) (v : Value) (vs : Values) → left ≡ more v vs →
    IsPacking old now before between all left → HasPacked now new between later v → IsPacking old new before later all vs
packing_step old now new before between later all left v vs e p h = packing_more old now new before between later all v vs (subst (IsPacking old now before between all) e p) h

pub packed_longer : (old new : Packed) (before later : ℕ) (v : Value) → HasPacked old new before later v → length old.nodes.items + 1 ≤ length new.nodes.items
packed_longer old new before later v h =
    let l : length new.nodes.items ≡ length (old.nodes.items ++ nodes_of v) = ap length h.nodes in
    omega (arith, length-append old.nodes.items (nodes_of v), nodes_some v)

pub empty_row : (ts : List (Term BitRef)) → length ts ≡ 0 → terms_row ts ≡ end
empty_row [] h = refl
empty_row (t ∷ ts) h = absurd (omega (arith, h))

-- ---- a whole parcel
pub record IsParcel (nodes : List Node) (pieces : List (List Bool)) (before later : ℕ) (v : Value) : Type 0 where
  pub is : value_in nodes pieces ≡ v
  pub nodes_are : nodes ≡ nodes_of (value_in nodes pieces)
  pub pieces_are : pieces ≡ large_parts (value_in nodes pieces)
  pub moved : later ≡ ticked before (large_bits (value_in nodes pieces))

pub parcel_made : (nodes first_nodes : List Node) (pieces first_pieces : List (List Bool)) (before later : ℕ) (v : Value) → first_nodes ≡ [] → first_pieces ≡ [] →
    nodes ≡ first_nodes ++ nodes_of v → pieces ≡ first_pieces ++ large_parts v → later ≡ ticked before (large_bits v) → IsParcel nodes pieces before later v
parcel_made nodes first_nodes pieces first_pieces before later v e f n p m =
    let n' = n ∙ ap (λ (ns : List Node). ns ++ nodes_of v) e in
    let p' = p ∙ ap (λ (ps : List (List Bool)). ps ++ large_parts v) f in
    let is = value_is nodes pieces v n' p' in
    record {
      is = is;
      nodes_are = n' ∙ ap nodes_of (sym is);
      pieces_are = p' ∙ ap large_parts (sym is);
      moved = m ∙ ap (λ (u : Value). ticked before (large_bits u)) (sym is);
    }
