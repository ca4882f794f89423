-- Contexts as contracts see them (this project's own).
use Rattle.std.specs.Prelude.{◌≡◌, ◌≤◌, Bool, List, length, drop}
use Rattle.match_context.specs.declared.context.Context.{Context}

-- the bits that are left
abbrev pub left : {R : Type 0} → (R → List Bool) → Context R → List Bool
left shown c = drop c.at (shown c.of)

-- its reference is there, and the place is in the bits
pub record IsContext {R : Type 0} (shown : R → List Bool) (has : R → Type 0) (c : Context R) : Type 0 where
  pub there : has c.of
  pub end : c.end ≡ length (shown c.of)
  pub inside : c.at ≤ c.end
