-- How far a text has been cut into tokens.
use Rattle.std.specs.Prelude.{ℕ, ◌≡◌, ◌⊎◌, Bool, List, ◌++◌, Option, Some}
use Rattle.erl_syntax.specs.declared.token.Token.{Token}
use Rattle.erl_syntax.specs.declared.token.LexFault.{LexFault}
use Rattle.erl_syntax.specs.declared.token.LexCause.TheVariants.{NoMemory}
use Rattle.erl_syntax.specs.Tokens.{Lexes, LexesFrom}

-- memory ran out, or it is the text's first fault
abbrev pub IsFault : List ℕ → LexFault → Type 0
IsFault text fault = (fault.why ≡ NoMemory) ⊎ ((tokens : List Token) × Lexes text tokens (Some fault))

-- whatever comes from the byte `i` on, the tokens that were found come before it
pub record Continues (text : List ℕ) (cut : Bool) (i : ℕ) (found : List Token) : Type 0 where
  pub goes_on : (tokens : List Token) (fault : Option LexFault) → LexesFrom text cut i tokens fault → LexesFrom text cut 0 (found ++ tokens) fault
