-- Terms in a row: what they stand for, and that their bitstrings are known.
use Rattle.std.proofs.Common.{◌≡◌, ℕ, Bool, List, [], ◌∷◌, ◌++◌, refl, ap, map}
use Rattle.term_value.specs.Value as V
use Rattle.term_value.specs.Seen.{meanings, AreKnown}
use Rattle.term_value.specs.Terms.{seen, row, IsOver}
use Rattle.term_value.specs.declared.term.Term.{Term}
use Rattle.bit_store.specs.Stores.{itself}
use Rattle.code_tree.specs.PlainTerms.{value, IsShort, AnyAtom}

pub known_last : (ts : List (Term (List Bool))) (t : Term (List Bool)) → AreKnown IsShort AnyAtom (row ts) → IsOver IsShort AnyAtom t → AreKnown IsShort AnyAtom (row (ts ++ t ∷ []))
known_last [] t known over = (over, tt)
known_last (u ∷ us) t known over = (known.0, known_last us t known.1 over)

-- the values of terms in a row
pub values_of : (ts : List (Term (List Bool))) → meanings itself (row ts) ≡ V.row (map value (map seen ts))
values_of [] = refl
values_of (t ∷ ts) = ap (V.more (value (seen t))) (values_of ts)
