-- What taking bits again and again moves.
use Rattle.std.proofs.Common.{◌≡◌, ℕ, ◌+◌, ◌-◌, ◌*◌, ◌/◌, ◌<◌, ◌≤◌, ◌++◌, inl, inr, Bool, List, length, max, ap, ◌∙◌, arith}
use Rattle.std.proofs.lemmas.List.{length-append}
use Rattle.std.proofs.lemmas.Bool.{cases_lt}
use Rattle.write_room.specs.Rooms.{Seen, spare_of, HasTaken, Takes, IsTight}

-- growth is paid by the rise of the size
paid : (used more size : ℕ) → size - used < more → used + size ≤ 8 * max (2 * ((used + more + 7) / 8)) 256
paid used more size s = omega arith

paid_once : (old new : Seen) (before later count : ℕ) → HasTaken old new before later count → later + old.size ≤ before + count + new.size
paid_once old new before later count h = elim (cases_lt (spare_of old) count) [
  | inl g ↦ (let s = h.grown g in let t = h.ticks_grown g in let p = paid (length old.bits) count old.size g in omega arith)
  | inr g ↦ (let s = h.in_place g in let t = h.ticks_in_place g in omega arith)
]

tight_once : (old new : Seen) (before later count : ℕ) → HasTaken old new before later count → length new.bits ≡ length old.bits + count → IsTight old → IsTight new
tight_once old new before later count h e k = elim (cases_lt (spare_of old) count) [
  | inl g ↦ (let s = h.grown g in omega arith)
  | inr g ↦ (let s = h.in_place g in omega arith)
]

longer : (old mid : Seen) (added : List Bool) → mid.bits ≡ old.bits ++ added → length mid.bits ≡ length old.bits + length added
longer old mid added e = ap length e ∙ length-append old.bits added

paid_all : (old new : Seen) (before later : ℕ) → Takes old before new later → later + old.size + length old.bits ≤ before + new.size + length new.bits
paid_all _ _ _ _ (Takes.none room before) = omega arith
paid_all _ _ _ _ (Takes.and_then old mid new before between later added e h more) =
    let a = paid_once old mid before between (length added) h in
    let b = longer old mid added e in
    let c = paid_all mid new between later more in omega arith

pub tight_all : (old new : Seen) (before later : ℕ) → Takes old before new later → IsTight old → IsTight new
tight_all _ _ _ _ (Takes.none room before) k = k
tight_all _ _ _ _ (Takes.and_then old mid new before between later added e h more) k =
    tight_all mid new between later more (tight_once old mid before between (length added) h (longer old mid added e) k)

pub bounded : (old new : Seen) (before later : ℕ) → Takes old before new later → IsTight old → length old.bits ≡ 0 → later ≤ before + (3 * length new.bits + 4_096)
bounded old new before later t k z = let p = paid_all old new before later t in let g = tight_all old new before later t k in omega arith
