-- Atoms with a meaning in the grammar: attributes (Erlang Reference Manual, "Modules") and the words of a segment's type
-- ("Bit Syntax Expressions"). An atom in quotes is the same atom.
use Rattle.std.specs.Prelude.{◌≡◌, ℕ, ℤ, pos, List, [], ◌∷◌, codes, ◌⊎◌, ◌-ℤ◌}
use Rattle.std.specs.List.{Contains}
use Rattle.erl_syntax.specs.declared.token.TokenKind.{TokenKind}
use Rattle.erl_syntax.specs.declared.token.TokenKind.TheVariants as k
use Rattle.erl_syntax.specs.declared.segment.Spec.{Spec}
use Rattle.erl_syntax.specs.declared.segment.Spec.TheVariants as s

abbrev pub module_word : List ℕ
module_word = codes "module"

abbrev pub export_word : List ℕ
export_word = codes "export"

-- the attributes whose forms have no effect
abbrev pub skipped_words : List (List ℕ)
skipped_words = codes "spec" ∷ codes "type" ∷ codes "opaque" ∷ codes "export_type" ∷ codes "compile" ∷ codes "author" ∷ codes "vsn" ∷ codes "doc" ∷ codes "moduledoc" ∷ []

abbrev pub IsAttribute : List ℕ → Type 0
IsAttribute chars = (chars ≡ module_word) ⊎ ((chars ≡ export_word) ⊎ Contains skipped_words chars)

-- the name behind `?`
abbrev pub module_macro : List ℕ
module_macro = codes "MODULE"

abbrev pub unit_word : List ℕ
unit_word = codes "unit"

-- what a word of a segment's type stands for; `unit` has a number behind it
pub data Names : List ℕ → Spec → Type 0 where
  integer : (chars : List ℕ) (sp : Spec) → chars ≡ codes "integer" → sp ≡ s.Integer → Names chars sp
  binary : (chars : List ℕ) (sp : Spec) → chars ≡ codes "binary" → sp ≡ s.Binary → Names chars sp
  bytes : (chars : List ℕ) (sp : Spec) → chars ≡ codes "bytes" → sp ≡ s.Binary → Names chars sp
  bitstring : (chars : List ℕ) (sp : Spec) → chars ≡ codes "bitstring" → sp ≡ s.Bitstring → Names chars sp
  bits : (chars : List ℕ) (sp : Spec) → chars ≡ codes "bits" → sp ≡ s.Bitstring → Names chars sp
  utf8 : (chars : List ℕ) (sp : Spec) → chars ≡ codes "utf8" → sp ≡ s.Utf8 → Names chars sp
  utf16 : (chars : List ℕ) (sp : Spec) → chars ≡ codes "utf16" → sp ≡ s.Utf16 → Names chars sp
  utf32 : (chars : List ℕ) (sp : Spec) → chars ≡ codes "utf32" → sp ≡ s.Utf32 → Names chars sp
  float : (chars : List ℕ) (sp : Spec) → chars ≡ codes "float" → sp ≡ s.Float → Names chars sp
  signed : (chars : List ℕ) (sp : Spec) → chars ≡ codes "signed" → sp ≡ s.Signed → Names chars sp
  unsigned : (chars : List ℕ) (sp : Spec) → chars ≡ codes "unsigned" → sp ≡ s.Unsigned → Names chars sp
  big : (chars : List ℕ) (sp : Spec) → chars ≡ codes "big" → sp ≡ s.Big → Names chars sp
  little : (chars : List ℕ) (sp : Spec) → chars ≡ codes "little" → sp ≡ s.Little → Names chars sp
  native : (chars : List ℕ) (sp : Spec) → chars ≡ codes "native" → sp ≡ s.Native → Names chars sp

-- the number is the digits' with the sign before them
pub data Signed : TokenKind → ℕ → ℤ → Type 0 where
  plus : (kind : TokenKind) (n : ℕ) (z : ℤ) → kind ≡ k.Plus → z ≡ pos n → Signed kind n z
  minus : (kind : TokenKind) (n : ℕ) (z : ℤ) → kind ≡ k.Minus → z ≡ pos 0 -ℤ pos n → Signed kind n z
