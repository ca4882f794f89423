-- The entry of an order's line (this project's own).
use Rattle.std.specs.Prelude.{◌≡◌, ℕ, List, [], ◌∷◌}
use Rattle.term_value.specs.Orders.{IsInRange, IsPid, entry_numbers, entry_text, entry_word}
use Rattle.term_value.specs.declared.entry.Entry.{Entry}

pub record IsOne (ns : List ℕ) (pid : ℕ) : Type 0 where
  pub range : IsPid pid
  pub is : ns ≡ pid ∷ []

pub record IsTwo (ns : List ℕ) (p q : ℕ) : Type 0 where
  pub first : IsPid p
  pub second : IsPid q
  pub is : ns ≡ p ∷ q ∷ []

-- an entry in range with this word and these numbers
pub record HasFields (e : Entry) (word ns : List ℕ) : Type 0 where
  pub in_range : IsInRange e
  pub word_is : entry_word e ≡ word
  pub numbers_are : entry_numbers e ≡ ns

-- an entry in range with this line
pub record IsEntryLine (e : Entry) (line : List ℕ) : Type 0 where
  pub in_range : IsInRange e
  pub spelled : entry_text e ≡ line
