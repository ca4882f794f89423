-- An escape that was found, by its length and the number of its character.
use Rattle.std.specs.Prelude.{ℕ, ◌≡◌, Option, Some, None, MatchOption}
use Rattle.erl_tokens.specs.declared.escapes.Escaped.{Escaped}

-- it is an escape of that length and number, and none where no length is given
abbrev pub IsEscape : Option Escaped → Option ℕ → ℕ → Type 0
IsEscape found len number = MatchOption found (len ≡ None) (λ e. (len ≡ Some e.len) × (e.number ≡ number))
