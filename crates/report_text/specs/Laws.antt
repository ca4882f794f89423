-- Laws of the texts of orders (this project's own).
use Rattle.std.specs.Prelude.{◌≡◌, ℕ, List, ◌++◌, codes}
use Rattle.term_value.specs.Orders.{HasNoEntry, HasNoLineFeed, IsInRange, IsOrderText, entry_text}
use Rattle.term_value.specs.declared.entry.Entry.{Entry}

-- a text spells an order, or some line is no entry, and not both; and one line is the first that is none
pub record OrderOrFault : Type 0 where
  pub apart : (text : List ℕ) (entries : List Entry) (k : ℕ) → IsOrderText text entries → HasNoEntry text k → ⊥
  pub one_fault : (text : List ℕ) (k l : ℕ) → HasNoEntry text k → HasNoEntry text l → k ≡ l

-- a text spells at most one order
abbrev pub OneOrder : Type 0
OneOrder = (text : List ℕ) (entries others : List Entry) → IsOrderText text entries → IsOrderText text others → entries ≡ others

-- an entry is one line, which ends with its only line feed
abbrev pub EntryIsLine : Type 0
EntryIsLine = (entry : Entry) → IsInRange entry → (chars : List ℕ) × HasNoLineFeed chars × (entry_text entry ≡ chars ++ codes "\n")
