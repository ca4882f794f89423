-- Where the tokens of a text stand.
use Rattle.std.specs.Prelude.{ℕ, List, Option}
use Rattle.erl_syntax.specs.Checking.{RisingBy}
use Rattle.erl_syntax.specs.Reading.{words_of}
use Rattle.erl_syntax.specs.Tokens.{Lexes}
use Rattle.erl_syntax.specs.declared.token.LexFault.{LexFault}
use Rattle.erl_syntax.specs.declared.token.Token.{Token}

-- Each token stands before those behind it: no two tokens of a text stand at one place.
abbrev pub TokensRise : Type 0
TokensRise = (text : List ℕ) (tokens : List Token) (fault : Option LexFault) → Lexes text tokens fault → RisingBy (λ t. t.span) tokens

-- So do the words that the grammar sees, where strings that follow one another are one.
abbrev pub WordsRise : Type 0
WordsRise = (text : List ℕ) (tokens : List Token) (fault : Option LexFault) (table : List (List ℕ)) → Lexes text tokens fault → RisingBy (λ w. w.at) (words_of text table tokens)
