-- What is known of the words of a segment's type.
use Rattle.std.specs.Prelude.{◌≡◌, ◌≢◌, true, List}
use Rattle.std.specs.List.{Contains}
use Rattle.erl_syntax.specs.Typing.{is_of, word, Differ}
use Rattle.erl_syntax.specs.declared.segment.Spec.{Spec}
use Rattle.erl_syntax.specs.declared.typing.SpecKind.{SpecKind}
use Rattle.erl_syntax.specs.declared.typing.SpecKind.TheVariants as g
use Rattle.segment_type.specs.declared.words.Words.{Words}

-- all words of the kind are this one
abbrev pub AllAre : SpecKind → List Spec → Spec → Type 0
AllAre kind specs first = (a : Spec) → Contains specs a → is_of kind a ≡ true → a ≡ first

-- a word of the kind isn't this one
abbrev pub SomeIsNot : SpecKind → List Spec → Spec → Type 0
SomeIsNot kind specs first = (a : Spec) × (Contains specs a × ((is_of kind a ≡ true) × (a ≢ first)))

-- no two words of the kind differ
abbrev pub IsOnly : SpecKind → List Spec → Type 0
IsOnly kind specs = (a b : Spec) → Contains specs a → Contains specs b → is_of kind a ≡ true → is_of kind b ≡ true → a ≡ b

-- the words of each kind in a segment's type, in which no two words of a kind differ
pub record AreWords (specs : List Spec) (words : Words) : Type 0 where
  pub type_word : words.type_word ≡ word g.Type specs
  pub sign : words.sign ≡ word g.Sign specs
  pub endian : words.endian ≡ word g.Endian specs
  pub unit : words.unit ≡ word g.Unit specs
  pub agree : Differ specs → ⊥
