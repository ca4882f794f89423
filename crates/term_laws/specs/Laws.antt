-- Laws of encoding and decoding, of local states, of orders, of reports and of the order of terms (this project's own).
use Rattle.std.specs.Prelude.{◌≡◌, ℕ, ℤ, ◌+◌, ◌*◌, ◌<◌, ◌≤◌, Bool, length, List, [], ◌∷◌, ◌++◌, All, IsTrue, Option, Some, None, encode_utf8_all}
use Rattle.std.specs.Ordering.{nat_cmp}
use Rattle.std.specs.Cmp.{IsTotalOrder}
use Rattle.std.specs.Cmp.Lexicographic.{slice_cmp}
use Rattle.std.specs.declared.cmp.Ordering.TheVariants.{Equal}
use Rattle.bits_value.specs.Number.{spell, InBits, bounded}
use Rattle.bits_value.specs.Utf.{is_character}
use Rattle.term_value.specs.Value.{Value, VInt, VAtom, VPid, VTuple, VList, VBits, Values, none, more}
use Rattle.term_value.specs.Order.{order}
use Rattle.term_value.specs.Bounds.{bit_bound}
use Rattle.term_value.specs.Setting.{Setting}
use Rattle.erl_syntax.specs.declared.typing.Typed.{Typed}
use Rattle.erl_syntax.specs.declared.typing.Kind.TheVariants.{Int}
use Rattle.term_value.specs.Extent.{Exactly, extent}
use Rattle.term_value.specs.Encode.{Bits, encoded}
use Rattle.term_value.specs.Decode.{Cut, taken}
use Rattle.term_value.specs.Tree.{Variable, Val, Trees, and, end, Module}
use Rattle.term_value.specs.Local.{Local, On, next_of, Contracts, NextAsk, LeadsTo, asked}
use Rattle.term_value.specs.AskOf.{size_of_course, ask_of}
use Rattle.term_value.specs.Machine.{Machine, applied, IsLegal, IsComplete, process_bound, beginning}
use Rattle.term_value.specs.Outcomes.{IsOutcome, outcome_text}
use Rattle.term_value.specs.Reports.{report}
use Rattle.term_value.specs.declared.entry.Entry.{Entry}
use Rattle.term_value.specs.declared.outcome.Outcome.{Outcome}

-- Each local state leads to one ask, at one cost, and by one number of bits that are made on the way.
abbrev pub EachAsks : Type 0
EachAsks = (code : Module) (l : Local) → (cost : ℕ) × (made : ℕ) × LeadsTo code l cost made (ask_of code l)
    × ((costs mades : ℕ) (ask : NextAsk) → LeadsTo code l costs mades ask → (costs ≡ cost) × (mades ≡ made) × (ask ≡ ask_of code l))

-- a contraction without cost makes the expression smaller
abbrev pub FreeShrinks : Type 0
FreeShrinks = (code : Module) (l k : Local) (made : ℕ) → next_of code l ≡ On 0 made k → size_of_course k.course < size_of_course l.course

-- what contractions cost is what is no longer left
abbrev pub CostIsPaid : Type 0
CostIsPaid = (code : Module) (l k : Local) (cost made : ℕ) → Contracts code l cost made k → k.left + cost ≡ l.left

-- what a state asks for that a run reaches is the one ask of the state before
abbrev pub AskReached : Type 0
AskReached = (code : Module) (l k : Local) (cost made : ℕ) (ask : NextAsk) → Contracts code l cost made k → asked (next_of code k) ≡ Some ask → ask ≡ ask_of code l

-- no entry is legal after a complete order
abbrev pub CompleteIsLast : Type 0
CompleteIsLast = (m : Machine) (entry : Entry) → IsComplete m → applied m entry ≡ None

-- A legal order from any first local state has at most so many entries as the reductions allow: each process ends and is gone
-- once.
abbrev pub LegalIsShort : Type 0
LegalIsShort = (code : Module) (reductions : ℕ) (first : Local) (entries : List Entry) → first.left ≤ reductions → IsLegal (beginning code reductions first) entries
    → length entries ≤ process_bound * (reductions + 2)

-- a size as it is written, if it is
abbrev pub size_part : Option Value → Trees
size_part None = end
size_part (Some v) = and (Val v) end

-- An integer within the bits of its segment and within the bound is encoded as its spelling, and read back from it into a variable,
-- whatever bits follow: for every type of integer segment, with a size that is written or the default one.
abbrev pub IntegerReadsBack : Type 0
IntegerReadsBack = (s : Setting) (typed : Typed) (size : Option Value) (n : ℕ) (v : ℤ) (x : ℕ) (rest : List Bool)
    → typed.kind ≡ Int → extent typed.size typed.unit size ≡ Exactly n → n ≤ bit_bound → InBits typed.sign n v → bounded v ≡ Some v
    → (encoded typed (VInt v) size ≡ Bits (spell n v typed.endian))
    × (taken s typed (Variable x) (size_part size) [] (spell n v typed.endian ++ rest) ≡ Cut (record { variable = x; value = VInt v } ∷ []) rest)

-- the report of what a run came to is that of the machine's state behind it
abbrev pub OutcomeReports : Type 0
OutcomeReports = (m : Machine) (entries : List Entry) (o : Outcome) → IsOutcome m entries o → outcome_text o ≡ report m

-- the order of terms is total: of two one is smaller, or they are equal, and it is transitive
abbrev pub OrderIsTotal : Type 0
OrderIsTotal = (names : ℕ → List ℕ) → IsTotalOrder (order names)

-- each atom in a value has a smaller number
abbrev mutual
  pub AtomsBelow : ℕ → Value → Type 0
  AtomsBelow size (VInt n) = Unit {0}
  AtomsBelow size (VAtom a) = a < size
  AtomsBelow size (VPid p) = Unit {0}
  AtomsBelow size (VTuple vs) = AllAtomsBelow size vs
  AtomsBelow size (VList vs) = AllAtomsBelow size vs
  AtomsBelow size (VBits bs) = Unit {0}

  pub AllAtomsBelow : ℕ → Values → Type 0
  AllAtomsBelow size none = Unit {0}
  AllAtomsBelow size (more v vs) = AtomsBelow size v × AllAtomsBelow size vs

-- over a table of so many atoms, each with a name of its own, equal values are the same
abbrev pub EqualIsSame : Type 0
EqualIsSame = (names : ℕ → List ℕ) (size : ℕ) → ((a b : ℕ) → a < size → b < size → names a ≡ names b → a ≡ b)
    → (v w : Value) → AtomsBelow size v → AtomsBelow size w → order names v w ≡ Equal → v ≡ w

-- the order of names by their bytes in UTF-8, as a module's atoms have them, is that by their characters' numbers
abbrev pub NamesByCharacters : Type 0
NamesByCharacters = (cs ds : List ℕ) → All (λ c. IsTrue (is_character c)) cs → All (λ c. IsTrue (is_character c)) ds
    → slice_cmp nat_cmp (encode_utf8_all cs) (encode_utf8_all ds) ≡ slice_cmp nat_cmp cs ds
