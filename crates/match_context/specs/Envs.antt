-- Environments as contracts see them (this project's own; a bound variable stands for its value: Erlang Reference Manual, "Variables").
use Rattle.std.specs.Prelude.{◌≡◌, ℕ, pos, Bool, List, Option, is_some, option_map, IfSome}
use Rattle.bit_store.specs.Stores.{AnyAtom}
use Rattle.term_value.specs.PutIn.{value_in}
use Rattle.term_value.specs.Result.{Result, Gives, Stops, Raise, Limit}
use Rattle.term_value.specs.Seen.{Seen, meaning, IsKnown}
use Rattle.term_value.specs.Setting.{Setting}
use Rattle.term_value.specs.Tree.{Bound, Tree}
use Rattle.term_value.specs.Value.{Value, VInt}
use Rattle.match_context.specs.declared.sized.Sized128.{Sized128}
use Rattle.match_context.specs.declared.sized.Sized128.TheVariants as w

-- what no call of an environment changes
pub record Fixed : Type 0 where
  -- what size expressions look up beside their variables
  pub setting : Setting
  -- the size expression of each number
  pub trees : ℕ → Tree
  -- how many variables have numbers
  pub variables : ℕ
  -- how many size expressions have numbers
  pub sizes : ℕ

-- the bindings give each variable the value that it has
abbrev pub Agrees : {R : Type 0} → (R → List Bool) → (ℕ → Option (Seen R)) → List Bound → Type 0
Agrees shown held bs = (x : ℕ) → value_in bs x ≡ option_map (meaning shown) (held x)

-- the references of all values are there
abbrev pub AreThere : {R : Type 0} → (R → Type 0) → (ℕ → Option (Seen R)) → Type 0
AreThere has held = (x : ℕ) → IfSome (held x) (IsKnown has AnyAtom)

-- whether a variable is bound
abbrev pub known : {R : Type 0} → (ℕ → Option (Seen R)) → ℕ → Bool
known held x = is_some (held x)

-- what the value of a size tells
abbrev pub size_told : Value → Sized128
size_told (VInt (pos n)) = w.Size (pos n)
size_told _ = w.Bad

-- what a size comes to
abbrev pub sized : Result → Sized128
sized (Gives v) = size_told v
sized (Stops (Raise reason)) = w.Bad
sized (Stops Limit) = w.Limit

-- want of memory may come anywhere
abbrev pub IsSized : Result → Sized128 → Type 0
IsSized due (w.Size n) = sized due ≡ w.Size n
IsSized due w.Bad = sized due ≡ w.Bad
IsSized due w.Limit = sized due ≡ w.Limit
IsSized due w.NoMemory = Unit {0}
