-- Bytes that spell an integer of this profile, as an integer token's do.
use Rattle.std.specs.Prelude.{ℕ, ◌≡◌, ◌<◌, ◌^◌, Bool, true, ◌&&◌, nat_le, List, All}
use Rattle.erl_syntax.specs.declared.token.Token.{Token}
use Rattle.erl_syntax.specs.declared.token.TokenKind.TheVariants as k
use Rattle.erl_syntax.specs.Characters.{integer_base, integer_value}
use Rattle.erl_syntax.specs.Tokens.{token_text}

-- the base is one of 2 to 36
abbrev pub is_base : ℕ → Bool
is_base base = nat_le 2 base && nat_le base 36

-- the base is one of 2 to 36, and the value below 2^127
abbrev pub IsInteger : List ℕ → Type 0
IsInteger bs = (is_base (integer_base bs) ≡ true) × (integer_value bs < 2 ^ 127)

-- each integer token of the text is such an integer
abbrev pub AllIntegers : List ℕ → List Token → Type 0
AllIntegers text tokens = All (λ token. token.kind ≡ k.Integer → IsInteger (token_text text token)) tokens
