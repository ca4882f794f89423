-- What a run of a program says (matching: Erlang Reference Manual, "Bit Syntax Expressions", "Pattern Matching").
use Rattle.std.specs.Prelude.{◌≡◌, ℕ, Bool, true, false, List, [], ◌∷◌, Option}
use Rattle.term_value.specs.Decode.{Taken, Cut, NoCut, CutLimit}
use Rattle.term_value.specs.Seen.{Seen}
use Rattle.term_value.specs.Tree.{Bound}
use Rattle.match_context.specs.Envs.{Agrees}
use Rattle.match_context.specs.declared.context.Context.{Context}
use Rattle.match_context.specs.declared.matching.Matched.{Matched}
use Rattle.match_context.specs.declared.matching.Matched.TheVariants.{Yes, No, Limit, NoMemory}

-- nothing may remain, or anything may
abbrev pub closed : Bool → Taken → Taken
closed true (Cut bs []) = Cut bs []
closed true (Cut bs (b ∷ rest)) = NoCut
closed true NoCut = NoCut
closed true CutLimit = CutLimit
closed false taken = taken

-- The answer says what is taken off: an environment that has exactly the bindings, and the bits that are left. Want of memory may
-- come anywhere.
abbrev pub IsMatch : {R : Type 0} → (R → List Bool) → (ℕ → Option (Seen R)) → List Bool → Taken → Matched → Type 0
IsMatch shown held rest taken Yes = (bs : List Bound) × (taken ≡ Cut bs rest) × Agrees shown held bs
IsMatch shown held rest taken No = taken ≡ NoCut
IsMatch shown held rest taken Limit = taken ≡ CutLimit
IsMatch shown held rest taken NoMemory = Unit {0}

-- each variable is bound as it was
abbrev pub AsBefore : {R : Type 0} → (ℕ → Option (Seen R)) → (ℕ → Option (Seen R)) → Type 0
AsBefore old new = (x : ℕ) → new x ≡ old x

-- what stands after an answer that isn't Yes
abbrev pub StaysIfNot : {R : Type 0} → Matched → Context R → Context R → (ℕ → Option (Seen R)) → (ℕ → Option (Seen R)) → Type 0
StaysIfNot Yes old new held_old held_new = Unit {0}
StaysIfNot No old new held_old held_new = (new ≡ old) × AsBefore held_old held_new
StaysIfNot Limit old new held_old held_new = (new ≡ old) × AsBefore held_old held_new
StaysIfNot NoMemory old new held_old held_new = (new ≡ old) × AsBefore held_old held_new
