-- Tokens numbered one after another, each atom by the table behind it, and strings that follow one another at once.
use Rattle.std.specs.Prelude.{◌≡◌, ◌≢◌, ℕ, ◌+◌, ◌≤◌, List, [], ◌∷◌, ◌++◌, length, drop, All}
use Rattle.erl_syntax.specs.Word.{Word}
use Rattle.erl_syntax.specs.Tokens.{token_text}
use Rattle.erl_syntax.specs.Atoms.{fixed_atoms}
use Rattle.erl_syntax.specs.Reading.{word_of, after_token, after_tokens, atoms_of, with_atom, strings_joined}
use Rattle.erl_syntax.specs.declared.token.Token.{Token}
use Rattle.erl_syntax.specs.declared.token.TokenKind.TheVariants as k
use Rattle.pattern_read.specs.Cursor.{IsSound, words}
use Rattle.clause_read.specs.declared.numbering.Numbering.{Numbering}

-- the words of tokens, where each token has the number that its table gives when it has been read
abbrev pub words_after : List ℕ → List (List ℕ) → List Token → List Word
words_after text table [] = []
words_after text table (t ∷ ts) = let next = after_token table t.kind (token_text text t) in word_of text next t ∷ words_after text next ts

-- a table with each of these atoms
abbrev pub with_each : List (List ℕ) → List (List ℕ) → List (List ℕ)
with_each table [] = table
with_each table (atom ∷ atoms) = with_each (with_atom table atom) atoms

-- tokens begin with a string
pub record BeginsString (tokens : List Token) : Type 0 where
  pub first : Token
  pub behind : List Token
  pub is : tokens ≡ first ∷ behind
  pub kind : first.kind ≡ k.Str

-- tokens begin with no string
pub data NoString : List Token → Type 0 where
  ended : NoString []
  other : (t : Token) (ts : List Token) → t.kind ≢ k.Str → NoString (t ∷ ts)

-- the word of a string
abbrev pub string_word : Token → List ℕ → Word
string_word t chars = record { kind = k.Str; at = t.span; number = 0; chars = chars }

-- what tokens spell is one string, at the first one's place, and what those behind it spell, whatever the table
pub record IsString (text : List ℕ) (tokens behind : List Token) (first : Token) (chars : List ℕ) : Type 0 where
  pub table : (table : List (List ℕ)) → after_tokens text table tokens ≡ after_tokens text table behind
  pub words : (table : List (List ℕ)) → strings_joined (words_after text table tokens) ≡ string_word first chars ∷ strings_joined (words_after text table behind)

-- the tokens before that index are numbered
pub record IsNumberedTo (text : List ℕ) (tokens : List Token) (at : ℕ) (n : Numbering) : Type 0 where
  pub table : after_tokens text n.atoms (drop at tokens) ≡ atoms_of text tokens
  pub words : words text n.strings.items n.read.items ++ strings_joined (words_after text n.atoms (drop at tokens)) ≡ strings_joined (words_after text fixed_atoms tokens)
  pub sound : All (IsSound text n.strings.items) n.read.items
  pub atoms : length n.atoms ≤ 15 + at
  pub strings : length n.strings.items ≤ at
