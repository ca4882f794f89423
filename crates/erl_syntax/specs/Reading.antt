-- Which module a text spells (Erlang Reference Manual, "Modules" and "Character Set and Source File Encoding").
--
-- The module's table of atoms begins with the fixed atoms. Each other atom of the text follows once, in the order in which
-- it first stands there, wherever it stands: also in a form that has no effect, and as a word of a segment's type.
use Rattle.std.specs.Prelude.{◌≡◌, ℕ, ◌+◌, ◌<◌, ◌≤◌, nat_lt, Bool, true, false, if◌then◌else◌, List, [], ◌∷◌, ◌++◌, length, map, slice_index_or, bytes_eq, None}
use Rattle.erl_syntax.specs.Atoms.{fixed_atoms}
use Rattle.erl_syntax.specs.Characters.{integer_value, character_number, string_characters, atom_text}
use Rattle.erl_syntax.specs.Grammar.{Of, Forms, Spells, strict}
use Rattle.erl_syntax.specs.Tokens.{Lexes, token_text, place}
use Rattle.erl_syntax.specs.Word.{Word}
use Rattle.erl_syntax.specs.declared.module.Module.{Module}
use Rattle.erl_syntax.specs.declared.text.TheConstants.{LONGEST_TEXT}
use Rattle.erl_syntax.specs.declared.token.Token.{Token}
use Rattle.erl_syntax.specs.declared.token.TokenKind.{TokenKind}
use Rattle.erl_syntax.specs.declared.token.TokenKind.TheVariants as k

-- a text of more bytes isn't read
abbrev pub longest_text : ℕ
longest_text = LONGEST_TEXT

-- ---- The table of atoms

-- the number of the atom with these characters: its place in the table, or the table's length where it isn't there
abbrev pub number_in : List (List ℕ) → List ℕ → ℕ
number_in [] chars = 0
number_in (atom ∷ atoms) chars = if bytes_eq atom chars then 0 else 1 + number_in atoms chars

-- the UTF-8 bytes of the atom with this number
abbrev pub characters_in : List (List ℕ) → ℕ → List ℕ
characters_in atoms number = slice_index_or atoms number []

-- each atom's number is its only place in the table
abbrev pub StandOnce : List (List ℕ) → Type 0
StandOnce atoms = (i : ℕ) → i < length atoms → number_in atoms (characters_in atoms i) ≡ i

-- the table with that atom, which stands there once
abbrev pub with_atom : List (List ℕ) → List ℕ → List (List ℕ)
with_atom table chars = if nat_lt (number_in table chars) (length table) then table else table ++ chars ∷ []

-- the table behind a token of a kind with these bytes
abbrev pub after_token : List (List ℕ) → TokenKind → List ℕ → List (List ℕ)
after_token table k.Atom bs = with_atom table (atom_text bs)
after_token table _ bs = table

-- the table behind more tokens of a text
abbrev pub after_tokens : List ℕ → List (List ℕ) → List Token → List (List ℕ)
after_tokens text table [] = table
after_tokens text table (t ∷ ts) = after_tokens text (after_token table t.kind (token_text text t)) ts

-- the atoms of a text with these tokens, by their numbers
abbrev pub atoms_of : List ℕ → List Token → List (List ℕ)
atoms_of text tokens = after_tokens text fixed_atoms tokens

-- ---- Words

-- the number that a token of a kind with these bytes stands for
abbrev pub number_of : List (List ℕ) → TokenKind → List ℕ → ℕ
number_of table k.Integer bs = integer_value bs
number_of table k.Character bs = character_number bs
number_of table k.Atom bs = number_in table (atom_text bs)
number_of table _ bs = 0

-- the UTF-8 bytes of an atom or of a variable's name, or the numbers of a string's characters
abbrev pub characters_of : TokenKind → List ℕ → List ℕ
characters_of k.Atom bs = atom_text bs
characters_of k.Variable bs = bs
characters_of k.Str bs = string_characters bs
characters_of _ bs = []

abbrev pub word_of : List ℕ → List (List ℕ) → Token → Word
word_of text table t = record { kind = t.kind; at = t.span; number = number_of table t.kind (token_text text t); chars = characters_of t.kind (token_text text t) }

-- two strings of which one follows the other
abbrev pub are_strings : TokenKind → TokenKind → Bool
are_strings k.Str k.Str = true
are_strings _ _ = false

-- a string before another one is one string with it, at its place ("String Literal Concatenation")
abbrev pub before : Word → List Word → List Word
before w [] = w ∷ []
before w (v ∷ ws) = if are_strings w.kind v.kind then record { kind = w.kind; at = w.at; number = w.number; chars = w.chars ++ v.chars } ∷ ws else w ∷ v ∷ ws

-- strings that follow one another are one
abbrev pub strings_joined : List Word → List Word
strings_joined [] = []
strings_joined (w ∷ ws) = before w (strings_joined ws)

-- The tokens of a text with what they stand for, where the atoms have the table's numbers. Layout and comments may stand between
-- strings that are one.
abbrev pub words_of : List ℕ → List (List ℕ) → List Token → List Word
words_of text table tokens = strings_joined (map (word_of text table) tokens)

-- ---- Reading

-- The text spells the module.
pub record Reads (text : List ℕ) (m : Module) : Type 0 where
  pub short : length text ≤ longest_text
  pub tokens : List Token
  pub lexes : Lexes text tokens None
  pub atoms : m.atoms ≡ atoms_of text tokens
  pub spells : Spells strict (Of (Forms m.heads m.exports m.functions) ∷ []) (words_of text m.atoms tokens)
  pub last : m.last ≡ place text (length text)
