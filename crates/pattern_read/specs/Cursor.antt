-- What is read: the words of a text, which are its tokens with what they stand for, within limits on depth.
use Rattle.std.specs.Prelude.{◌≡◌, ℕ, ◌+◌, ◌<◌, ◌≤◌, ◌^◌, length, List, [], ◌∷◌, drop, map, slice_index_or, false}
use Rattle.erl_syntax.specs.Word.{Word}
use Rattle.erl_syntax.specs.Grammar.{Limits}
use Rattle.erl_syntax.specs.Tokens.{token_text}
pub use Rattle.erl_syntax.specs.Reading.{characters_of}
use Rattle.erl_syntax.specs.declared.token.TokenKind.{TokenKind}
use Rattle.pattern_read.specs.declared.cursor.Numbered.{Numbered}
use Rattle.erl_syntax.specs.declared.token.TokenKind.TheVariants as k

-- the number that a token stands for
abbrev pub number_of : Numbered → TokenKind → ℕ
number_of n k.Integer = n.value
number_of n k.Str = 0
number_of n _ = n.number

-- the characters that a token of a kind with these bytes stands for: a string's are those of its number
abbrev pub characters_in : List (List ℕ) → ℕ → TokenKind → List ℕ → List ℕ
characters_in strings number k.Str bs = slice_index_or strings number []
characters_in strings number kind bs = characters_of kind bs

-- integers are below 2^127, tokens stand in the text, and strings have their characters
pub record IsSound (text : List ℕ) (strings : List (List ℕ)) (n : Numbered) : Type 0 where
  pub narrow : n.value < 2 ^ 127
  pub ordered : n.token.from ≤ n.token.to
  pub within : n.token.to ≤ length text
  pub known : n.token.kind ≡ k.Str → n.number < length strings

abbrev pub word_of : List ℕ → List (List ℕ) → Numbered → Word
word_of text strings n = record { kind = n.token.kind; at = n.token.span; number = number_of n n.token.kind; chars = characters_in strings n.number n.token.kind (token_text text n.token) }

-- the words of numbered tokens of a text with the characters of its strings
abbrev pub words : List ℕ → List (List ℕ) → List Numbered → List Word
words text strings tokens = map (word_of text strings) tokens

-- words, and how deep what is read of them may be
pub record Readable : Type 0 where
  pub words : List Word
  pub limits : Limits

-- limits that allow these depths, and no other attribute or word of a type than those of modules
abbrev pub limits_of : ℕ → ℕ → Limits
limits_of trees brackets = record { trees = trees; brackets = brackets; any_attribute = false; any_type = false }

-- the token is the one of that index
pub record StandsAt (ws : Readable) (at : ℕ) (n : Numbered) : Type 0 where
  pub word : Word
  pub is : drop at ws.words ≡ word ∷ drop (at + 1) ws.words
  pub kind : word.kind ≡ n.token.kind
  pub place : word.at ≡ n.token.span
  pub number : word.number ≡ number_of n n.token.kind
