-- The terms of a string's characters.
use Rattle.std.proofs.Common.{◌≡◌, ℕ, pos, Bool, List, [], ◌∷◌, map, refl, ap}
use Rattle.term_value.specs.Value.{VInt, more}
use Rattle.term_value.specs.BuiltIns.{integers}
use Rattle.term_value.specs.Seen.{AreKnown, meanings}
use Rattle.term_value.specs.Terms.{row}
use Rattle.bit_store.specs.Stores.{itself}
use Rattle.code_tree.specs.PlainTerms.{IsShort, AnyAtom}
use Rattle.code_layout.specs.Layout.{letter_terms}

pub letters_known : (letters : List ℕ) → AreKnown IsShort AnyAtom (row (letter_terms letters))
letters_known [] = tt
letters_known (c ∷ letters) = (tt, letters_known letters)

pub letters_meaning : (letters : List ℕ) → meanings itself (row (letter_terms letters)) ≡ integers letters
letters_meaning [] = refl
letters_meaning (c ∷ letters) = ap (more (VInt (pos c))) (letters_meaning letters)
