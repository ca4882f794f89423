-- What the grammar sees of a token (this project's own).
use Rattle.std.specs.Prelude.{ℕ, List}
use Rattle.erl_syntax.specs.declared.span.Span.{Span}
use Rattle.erl_syntax.specs.declared.token.TokenKind.{TokenKind}

-- A token with what it stands for: its kind, its place, and
-- number: the value of an integer or of a character, and of an atom its number among the module's atoms;
-- chars: the UTF-8 bytes of an atom or of a variable's name, or the numbers of a string's characters.
pub record Word : Type 0 where
  pub kind : TokenKind
  pub at : Span
  pub number : ℕ
  pub chars : List ℕ
