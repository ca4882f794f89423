-- The bytes that are a token by themselves.
use Rattle.std.specs.Prelude.{ℕ, ◌≡◌, false, List, length}
use Rattle.erl_syntax.specs.declared.token.TokenKind.{TokenKind}
use Rattle.erl_syntax.specs.declared.token.Piece.TheVariants as p
use Rattle.erl_syntax.specs.Tokens.{piece}

-- a text of these bytes alone is one token of the kind
abbrev pub IsToken : TokenKind → List ℕ → Type 0
IsToken kind bs = piece false bs ≡ p.Token kind (length bs)
