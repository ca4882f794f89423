-- A bitstring without a size in front of the other parts.
use Rattle.std.proofs.Common.{◌≡◌, ℕ, ◌<◌, ◌≤◌, ◌%◌, ◌^◌, Bool, List, [], ◌∷◌, All, Some, None, length, ap, refl, subst, eq-eqb, arith, ◌∙◌, sym}
use Rattle.std.proofs.lemmas.List.Elements.{All-head, All-rest, All-same}
use Rattle.bits_value.specs.declared.TheConstants.{MAX_BITS}
use Rattle.bit_store.specs.declared.store.StoreFault.{StoreFault}
use Rattle.bit_store.specs.declared.store.StoreFault.TheVariants.{TooLong, NoMemory}
use Rattle.bit_store.specs.Stores.{Refuses, RoseBy}
use Rattle.erl_syntax.specs.declared.typing.Kind.{Kind}
use Rattle.erl_syntax.specs.declared.typing.Kind.TheVariants as k
use Rattle.erl_syntax.specs.declared.typing.SizeUse.{SizeUse}
use Rattle.erl_syntax.specs.declared.typing.SizeUse.TheVariants as z
use Rattle.term_value.specs.Seen.{Seen, SBits}
use Rattle.term_value.specs.Terms.{seen}
use Rattle.term_value.specs.Extent.{InUnits}
use Rattle.term_value.specs.Encode.{Bits, encoded_part, where_fits, built_on}
use Rattle.term_value.specs.Result.{Result}
use Rattle.bits_build.specs.declared.part.Part.{Part}
use Rattle.bits_build.specs.Parts.{HasPart, HasBits, IsRefusal, built_from, fault_of, open_as, open_bits, parts_filled}
use Rattle.bits_build.proofs.Built.{joint_holds}

module _ {R : Type 0} (has : R → Type 0) (of : R) where
  has_open : (kind : Kind) (size : SizeUse) (s : Seen R) → open_as kind size s ≡ Some of → HasBits has s → has of
  has_open k.Binary z.Whole (SBits r) e h = let same : r ≡ of = cc in subst has same h
  has_open k.Bitstring z.Whole (SBits r) e h = let same : r ≡ of = cc in subst has same h
  has_open kind size s e h = absurd (cc)

module _ {R : Type 0} (has : R → Type 0) (p : Part R) (ps all : List (Part R)) (here : all ≡ p ∷ ps) (have : All (HasPart has) all) where
  pub first : HasPart has p
  first = All-head (HasPart has) p ps (All-same (HasPart has) (p ∷ ps) all (sym here) have)

  pub has_front : (of : R) → open_bits p ≡ Some of → has of
  has_front of e = has_open has of p.typed.kind p.typed.size (seen p.value) e first

  pub has_rest : All (HasPart has) ps
  has_rest = All-rest (HasPart has) p ps all here have

-- a bitstring of whole units in front
pub front_built : {R : Type 0} (shown : R → List Bool) (of : R) (unit : ℕ) (parts : List (Part R)) → length (shown of) % unit ≡ 0 → length (shown of) ≤ MAX_BITS
    → built_from shown of unit parts ≡ built_on (parts_filled shown parts) (shown of)
front_built shown of unit parts whole short =
    joint_holds (built_on (parts_filled shown parts)) [] (encoded_part (InUnits unit) (shown of)) (shown of)
    (ap (λ b. where_fits b (shown of)) (eq-eqb (length (shown of) % unit) 0 whole)) short

-- a store has room for what is within the bound
pub only_memory : (bits : ℕ) (fault : StoreFault) (r : Result) → bits ≤ MAX_BITS → Refuses bits fault → IsRefusal r (fault_of fault)
only_memory bits TooLong r h past = absurd (omega arith)
only_memory bits NoMemory r h past = tt

-- a ledger that stands still
pub rose_by_none : (most old : ℕ) → old < 2 ^ 64 → RoseBy most old old
rose_by_none most old small = (0, (omega arith, omega arith))
