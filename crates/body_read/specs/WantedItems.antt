-- What items and qualifiers are chosen from: a pattern with its mark, or an expression.
use Rattle.std.specs.Prelude.{◌≡◌, ℕ, ◌≤◌, Bool, true, false, List, [], ◌∷◌, drop, Result, Ok, Err, ◌⊎◌, ◌+◌, ◌<◌, Option, Some, None, IsTrue}
use Rattle.erl_syntax.specs.Grammar.{Context, InSize, in_mode, Goal, Mark, Of, Pat, APattern, PatternBits}
use Rattle.erl_syntax.specs.Word.{Word}
use Rattle.erl_syntax.specs.declared.span.Span.{Span}
use Rattle.erl_syntax.specs.declared.token.TokenKind.{TokenKind}
use Rattle.erl_syntax.specs.declared.token.TokenKind.TheVariants as k
use Rattle.erl_syntax.specs.declared.expr.Expr.{Expr}
use Rattle.erl_syntax.specs.declared.pattern.Pattern.{Pattern}
use Rattle.erl_syntax.specs.declared.segment.Segment.{Segment}
use Rattle.erl_syntax.specs.declared.qual.Qual.{Qual}
use Rattle.pattern_read.specs.declared.placed.Placed.{Placed}
use Rattle.pattern_read.specs.declared.fault.Fault.{Fault}
use Rattle.pattern_read.specs.declared.fault.Fault.TheVariants.{Memory, Refused}
use Rattle.pattern_read.specs.declared.fault.Cause.{Cause}
use Rattle.pattern_read.specs.declared.fault.Cause.TheVariants.{Syntax, TooDeep, Undecided}
use Rattle.pattern_read.specs.Reading.{Passes, Gives, closed, nothing}
use Rattle.pattern_read.specs.Wanted.{NoMark, IsAt}
use Rattle.body_read.specs.WantedExprs.{item_longer, item_in}
use Rattle.pattern_read.specs.Cursor.{Readable}

-- a pattern of an item, with its `=`
abbrev pub matched_in : Context → Placed Pattern → List Goal
matched_in c y = Of (Pat (in_mode InSize c) y.at y.tree y.height) ∷ Mark k.Match ∷ []

-- The cause at a token, where one reading is refused there for the first cause and another further left, or there, for the second.
abbrev pub Joins : Cause → Cause → Cause → Type 0
Joins later earlier why = ((earlier ≡ Syntax) × (why ≡ later)) ⊎ (((later ≡ TooDeep) × (why ≡ TooDeep)) ⊎ (((later ≡ earlier) × (why ≡ later)) ⊎ (why ≡ Undecided)))

-- Of two refused places the one further right, with its cause.
abbrev pub IsFarther : ℕ → Cause → ℕ → Cause → ℕ → Cause → Type 0
IsFarther i c j d n why = ((j ≤ i) × (n ≡ i) × Joins c d why) ⊎ ((i ≤ j) × (n ≡ j) × Joins d c why)

-- the expression of an item, which has no pattern before it
abbrev pub GivesValue : Context → Readable → ℕ → Result (Placed Expr × ℕ) Fault → Type 0
GivesValue c ws at (Ok r) = Passes ws.limits item_longer (item_in c) (drop at ws.words) nothing (drop r.1 ws.words) (λ u. (record { patterns = []; value = r.0.tree }, r.0.height))
GivesValue c ws at (Err fault) = Gives item_longer (item_in c) ws at (Err fault)

-- of two faults the refusal further right, or memory that is out
abbrev pub Joined : Fault → Fault → Fault → Type 0
Joined (Refused i c) (Refused j d) (Refused n why) = IsFarther i c j d n why
Joined Memory second (Refused n why) = ⊥
Joined (Refused i c) Memory (Refused n why) = ⊥
Joined first second Memory = Unit {0}

-- the marks behind patterns
abbrev pub bars : TokenKind → Bool
bars k.Match = true
bars k.LeftArrow = true
bars k.DoubleLeftArrow = true
bars _ = false

-- the tokens begin with none of these kinds
pub data NoneOf (bar : TokenKind → Bool) : List Word → Type 0 where
  none_at_end : NoneOf bar []
  none_at : (j : Word) (rest : List Word) → bar j.kind ≡ false → NoneOf bar (j ∷ rest)

-- the marks behind a pattern of a generator
abbrev pub arrows : TokenKind → Bool
arrows k.Match = true
arrows k.LeftArrow = true
arrows _ = false

-- a pattern of a generator, with its arrow
abbrev pub generated_in : Context → Placed Pattern → List Goal
generated_in c y = Of (APattern (in_mode InSize c) y.at y.tree y.height) ∷ Mark k.LeftArrow ∷ []

-- the segments of a generator of bits, behind `<<`, with their arrow
abbrev pub segments_in : Context → List Segment × ℕ → List Goal
segments_in c r = Of (PatternBits (in_mode InSize c) r.0 r.1) ∷ Mark k.DoubleLeftArrow ∷ []

-- `<<` stands there, at that place of the text
pub record OpensBits (ws : Readable) (at : ℕ) (place : Span) : Type 0 where
  pub word : Word
  pub is : drop at ws.words ≡ word ∷ drop (at + 1) ws.words
  pub kind : word.kind ≡ k.LeftBits
  pub place_is : word.at ≡ place

-- what was tried for a generator of bits: nothing where no `<<` stands
abbrev pub BitsTried : Context → Readable → ℕ → Option Fault → Type 0
BitsTried c ws at None = NoMark k.LeftBits (drop at ws.words)
BitsTried c ws at (Some fault) = (c.open_ < ws.limits.brackets) × IsAt ws at k.LeftBits × Gives closed (segments_in c) ws (at + 1) (Err fault)

-- of the faults of two readings, or three, the refusal furthest right, or memory that is out
abbrev pub Joined3 : Fault → Option Fault → Fault → Fault → Type 0
Joined3 first None third result = Joined first third result
Joined3 first (Some second) third result = (later : Fault) × Joined second third later × Joined first later result

-- a mark of a match or of a generator stands there
pub record BarStands (ws : Readable) (at : ℕ) : Type 0 where
  pub word : Word
  pub is : drop at ws.words ≡ word ∷ drop (at + 1) ws.words
  pub bar : IsTrue (bars word.kind)

-- the expression that was read is the filter
pub record IsFilterOf (read : Result (Placed Expr × ℕ) Fault) (r : (Qual × ℕ) × ℕ) : Type 0 where
  pub test : Placed Expr
  pub read_is : read ≡ Ok (test, r.1)
  pub height_is : r.0.1 ≡ test.height
