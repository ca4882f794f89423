-- What the readers of lists and bit expressions want between their brackets, and what stands there.
use Rattle.std.specs.Prelude.{◌≡◌, ℕ, ◌+◌, Bool, true, false, List, [], ◌∷◌, ◌++◌, drop, Some, None, Result}
use Rattle.erl_syntax.specs.Grammar.{Mode, InBody, Context, Goal, Mark, Of, Prefixed, MoreSegments, AfterValue, AfterFirst, ListItems}
use Rattle.erl_syntax.specs.Operators.{prefix_of}
use Rattle.erl_syntax.specs.Word.{Word}
use Rattle.erl_syntax.specs.declared.span.Span.{Span}
use Rattle.erl_syntax.specs.declared.token.TokenKind.{TokenKind}
use Rattle.erl_syntax.specs.declared.token.TokenKind.TheVariants as k
use Rattle.erl_syntax.specs.declared.expr.Expr.{Expr}
use Rattle.erl_syntax.specs.declared.expr.Prefix.{Prefix}
use Rattle.erl_syntax.specs.declared.segment.Segment.{Segment}
use Rattle.pattern_read.specs.declared.fault.Fault.{Fault}
use Rattle.pattern_read.specs.declared.placed.Placed.{Placed}
use Rattle.pattern_read.specs.Reading.{Passes, Gives, closed}
use Rattle.pattern_read.specs.Wanted.{level_in, NoMark}
use Rattle.pattern_read.specs.Cursor.{Readable}

-- a segment with an operator before its value
abbrev pub prefixed_in : Context → Segment × ℕ → List Goal
prefixed_in c r = Of (Prefixed c r.0 r.1) ∷ []

-- more segments, up to `>>`
abbrev pub more_segments_in : Context → List Segment × ℕ → List Goal
more_segments_in c r = Of (MoreSegments c r.0 r.1) ∷ []

-- a bit expression, behind its first value
abbrev pub after_value_in : Context → Span → Placed Expr → Expr × ℕ → List Goal
after_value_in c at y r = Of (AfterValue c at y.at y.tree y.height r.0 r.1) ∷ []

-- a list, behind its first item
abbrev pub after_first_in : Context → Span → Placed Expr → Expr × ℕ → List Goal
after_first_in c at y r = Of (AfterFirst c at y.tree y.height r.0 r.1) ∷ []

-- more items of a list and its tail, up to `]`
abbrev pub list_items_in : Context → (List Expr × List Expr) × ℕ → List Goal
list_items_in c r = Of (ListItems c r.0.0 r.0.1 r.1) ∷ []

-- an expression and the closing bracket
abbrev pub last_in : TokenKind → Context → Placed Expr → List Goal
last_in close c y = level_in 0 c y ++ (Mark close ∷ [])

-- a segment's value begins so, with no operator before it
abbrev pub begins_simple : TokenKind → Bool
begins_simple k.Atom = true
begins_simple k.Variable = true
begins_simple k.Integer = true
begins_simple k.Character = true
begins_simple k.Str = true
begins_simple k.LeftBits = true
begins_simple k.LeftParen = true
begins_simple _ = false

-- ---- What stands at a place

-- an operator before an expression stands there
pub record PrefixAt (ws : Readable) (at : ℕ) (span : Span) (op : Prefix) : Type 0 where
  pub word : Word
  pub is : drop at ws.words ≡ word ∷ drop (at + 1) ws.words
  pub prefix : prefix_of word.kind ≡ Some op
  pub place : word.at ≡ span

pub data NoPrefix : List Word → Type 0 where
  no_prefix_end : NoPrefix []
  no_prefix_word : (j : Word) (rest : List Word) → prefix_of j.kind ≡ None → NoPrefix (j ∷ rest)

-- no `||`, or none that may stand there
abbrev pub NoRow : Mode → List Word → Type 0
NoRow mode rest = mode ≡ InBody → NoMark k.DoubleBar rest

-- What was wanted at an earlier place, and of which `left` is left here, is answered.
abbrev pub GivesBehind : {X Y : Type 0} → (X → List Goal) → (Y → List Goal) → (Y → X) → Readable → ℕ → Result (X × ℕ) Fault → Type 0
GivesBehind wanted left make ws at result = (start : ℕ) → Passes ws.limits closed wanted (drop start ws.words) left (drop at ws.words) make → Gives closed wanted ws start result
