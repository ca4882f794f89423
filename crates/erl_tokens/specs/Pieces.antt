-- How far a piece goes.
use Rattle.std.specs.Prelude.{ℕ, ◌<◌, ◌≤◌}
use Rattle.erl_syntax.specs.declared.token.Piece.{Piece}
use Rattle.erl_syntax.specs.declared.token.Piece.TheVariants.{Blank, Token, Fault}

-- a piece takes at least one byte, and no byte past the end
abbrev pub IsWithin : ℕ → Piece → Type 0
IsWithin len (Blank n) = (0 < n) × (n ≤ len)
IsWithin len (Token kind n) = (0 < n) × (n ≤ len)
IsWithin len (Fault cause n) = n ≤ len
