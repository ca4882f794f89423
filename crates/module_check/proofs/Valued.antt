-- In an accepted module each variable that is read has a value where it stands.
use Rattle.std.proofs.Common.{ℕ, List, inl, inr}
use Rattle.std.specs.List.{Contains}
use Rattle.erl_syntax.specs.Scopes.{Scope, Found, IsKnown}
use Rattle.erl_syntax.specs.Checking.{IsAccepted, IsRead, unbound, unsafe_read}
use Rattle.erl_syntax.specs.declared.checking.CheckCause.TheVariants as c
use Rattle.erl_syntax.specs.declared.span.Span.{Span}
use Rattle.erl_syntax.specs.declared.module.Module.{Module}
use Rattle.erl_syntax.specs.declared.module.Function.{Function}
use Rattle.module_check.specs.Spots.{place_of}
use Rattle.module_check.proofs.Standing.{known_found}
use Rattle.module_check.proofs.Chained.{known_cases}

known_there : (m : Module) (f : Function) (s : Scope) (at : Span) (name : List ℕ) → IsAccepted m → Contains m.functions f → IsRead f s at name → IsKnown s.known name
known_there m f s at name accepted among read = elim (known_cases s.known name) [
  | inl h ↦ h
  | inr none ↦ absurd (accepted at c.UnboundVariable (unbound f s at name among read none (λ h. accepted at c.UnsafeVariable (unsafe_read f s at name among read h))))
]

pub valued : (m : Module) (f : Function) (s : Scope) (at : Span) (name : List ℕ) → IsAccepted m → Contains m.functions f → IsRead f s at name → (bound_at : Span) × Found s.known name bound_at
valued m f s at name accepted among read = (place_of s.known name at, known_found s.known name at (known_there m f s at name accepted among read))
