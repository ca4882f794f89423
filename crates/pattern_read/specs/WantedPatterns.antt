-- What the readers of patterns and of segments' types want, and the tokens with which it could go on.
use Rattle.std.specs.Prelude.{◌≡◌, ◌≢◌, ℕ, ◌+◌, Bool, true, false, IsTrue, List, [], ◌∷◌, drop, Option}
use Rattle.erl_syntax.specs.Names.{unit_word}
use Rattle.erl_syntax.specs.Grammar.{Context, Goal, Of, APattern, Pat, SameTail, Patterns, PatternList, PatternItems, PatternBits, PatternSegment, PatternSegmentRest, PatternValue, PatternSize, SegmentType, ASpec}
use Rattle.erl_syntax.specs.Word.{Word}
use Rattle.erl_syntax.specs.declared.span.Span.{Span}
use Rattle.erl_syntax.specs.declared.token.TokenKind.{TokenKind}
use Rattle.erl_syntax.specs.declared.token.TokenKind.TheVariants as k
use Rattle.erl_syntax.specs.declared.expr.Expr.{Expr}
use Rattle.erl_syntax.specs.declared.pattern.Pattern.{Pattern}
use Rattle.erl_syntax.specs.declared.segment.Segment.{Segment}
use Rattle.erl_syntax.specs.declared.segment.Spec.{Spec}
use Rattle.pattern_read.specs.declared.fault.Cause.{Cause}
use Rattle.pattern_read.specs.declared.fault.Cause.TheVariants.{Syntax, TooDeep}
use Rattle.pattern_read.specs.declared.placed.Placed.{Placed}
use Rattle.pattern_read.specs.Cursor.{Readable}

-- a pattern begins with one of these brackets
abbrev pub opens_pattern : TokenKind → Bool
opens_pattern k.LeftParen = true
opens_pattern k.LeftBrace = true
opens_pattern k.LeftBracket = true
opens_pattern k.LeftBits = true
opens_pattern _ = false

-- the value of a segment of a pattern begins so
abbrev pub begins_value : TokenKind → Bool
begins_value k.Variable = true
begins_value k.Underscore = true
begins_value k.Integer = true
begins_value k.Plus = true
begins_value k.Minus = true
begins_value k.Character = true
begins_value k.Str = true
begins_value _ = false

-- a pattern begins so
abbrev pub begins_pattern : TokenKind → Bool
begins_pattern k.Variable = true
begins_pattern k.Underscore = true
begins_pattern k.Integer = true
begins_pattern k.Plus = true
begins_pattern k.Minus = true
begins_pattern k.Character = true
begins_pattern k.Atom = true
begins_pattern k.Str = true
begins_pattern k.LeftParen = true
begins_pattern k.LeftBrace = true
begins_pattern k.LeftBracket = true
begins_pattern k.LeftBits = true
begins_pattern _ = false

-- a pattern goes on with `=`
abbrev pub goes_same : TokenKind → Bool
goes_same k.Match = true
goes_same _ = false

-- a segment behind its size goes on with the words of its type
abbrev pub goes_typed : TokenKind → Bool
goes_typed k.Slash = true
goes_typed k.Minus = true
goes_typed _ = false

-- a segment goes on with a size, and with the words of its type
abbrev pub goes_sized : TokenKind → Bool
goes_sized k.Colon = true
goes_sized kind = goes_typed kind

abbrev pub pattern_in : Context → Placed Pattern → List Goal
pattern_in c r = Of (APattern c r.at r.tree r.height) ∷ []

-- a pattern with no `=` outside brackets
abbrev pub pat_in : Context → Placed Pattern → List Goal
pat_in c r = Of (Pat c r.at r.tree r.height) ∷ []

-- what stands behind the first pattern of an `=` chain
abbrev pub same_in : Context → Placed Pattern → Pattern × ℕ → List Goal
same_in c y r = Of (SameTail c y.at y.tree y.height r.0 r.1) ∷ []

-- patterns up to a closing bracket
abbrev pub patterns_in : TokenKind → Context → List Pattern × ℕ → List Goal
patterns_in close c r = Of (Patterns close c r.0 r.1) ∷ []

-- the items and the tail of a list, behind `[`
abbrev pub pattern_list_in : Context → (List Pattern × List Pattern) × ℕ → List Goal
pattern_list_in c r = Of (PatternList c r.0.0 r.0.1 r.1) ∷ []

-- the end of a list behind its last item: the tail, if there is one
abbrev pub pattern_end_in : Context → List Pattern × ℕ → List Goal
pattern_end_in c r = Of (PatternItems c [] r.0 r.1) ∷ []

-- the segments of a bit pattern, behind `<<`
abbrev pub pattern_bits_in : Context → List Segment × ℕ → List Goal
pattern_bits_in c r = Of (PatternBits c r.0 r.1) ∷ []

abbrev pub pattern_segment_in : Context → Segment × ℕ → List Goal
pattern_segment_in c r = Of (PatternSegment c r.0 r.1) ∷ []

-- a segment, behind its value
abbrev pub pattern_rest_in : Context → Placed Expr → Segment × ℕ → List Goal
pattern_rest_in c y r = Of (PatternSegmentRest c y.at y.tree y.height r.0 r.1) ∷ []

abbrev pub pattern_value_in : Context → Placed Expr → List Goal
pattern_value_in c r = Of (PatternValue c r.at r.tree r.height) ∷ []

abbrev pub pattern_size_in : Context → Expr × ℕ → List Goal
pattern_size_in c r = Of (PatternSize c r.0 r.1) ∷ []

-- a segment, behind its value and size
abbrev pub segment_type_in : Span → Expr → Option Expr → Segment → List Goal
segment_type_in at value size sg = Of (SegmentType at value size sg) ∷ []

abbrev pub spec_in : Spec → List Goal
spec_in sp = Of (ASpec sp) ∷ []

-- a bracket that closes, with which no pattern begins and none goes on
pub record ClosesPatterns (close : TokenKind) : Type 0 where
  pub begins : begins_pattern close ≡ false
  pub extends : goes_same close ≡ false
  pub comma : close ≢ k.Comma

-- why nothing that begins so stands where it would be too deep
pub data FirstToken (begins : TokenKind → Bool) : List Word → Cause → Type 0 where
  only_deeper : (j : Word) (rest : List Word) → IsTrue (begins j.kind) → FirstToken begins (j ∷ rest) TooDeep
  at_end : FirstToken begins [] Syntax
  at_other : (j : Word) (rest : List Word) → begins j.kind ≡ false → FirstToken begins (j ∷ rest) Syntax

-- the word `unit` stands there
pub record UnitAt (ws : Readable) (at : ℕ) : Type 0 where
  pub word : Word
  pub is : drop at ws.words ≡ word ∷ drop (at + 1) ws.words
  pub kind : word.kind ≡ k.Atom
  pub chars : word.chars ≡ unit_word
