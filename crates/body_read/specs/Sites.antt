-- What an expression begins with and goes on with, in a body and in a guard.
use Rattle.std.specs.Prelude.{◌≡◌, ◌≢◌, ℕ, ◌+◌, Bool, true, false, if◌then◌else◌, IsTrue, List, [], ◌∷◌, ◌++◌, drop, Some, ◌⊎◌}
use Rattle.erl_syntax.specs.Grammar.{InBody, Context, Goal, Mark, Of, Alts}
use Rattle.erl_syntax.specs.Operators.{operator_of, level_of}
use Rattle.erl_syntax.specs.Word.{Word}
use Rattle.erl_syntax.specs.declared.token.TokenKind.{TokenKind}
use Rattle.erl_syntax.specs.declared.token.TokenKind.TheVariants as k
use Rattle.erl_syntax.specs.declared.expr.Op.{Op}
use Rattle.erl_syntax.specs.declared.expr.Op.TheVariants as o
use Rattle.pattern_read.specs.declared.fault.Cause.{Cause}
use Rattle.pattern_read.specs.declared.fault.Cause.TheVariants.{Syntax, TooDeep}
use Rattle.body_read.specs.declared.site.Site.{Site}
use Rattle.body_read.specs.declared.site.Site.TheVariants.{Body as AsBody, Guard as AsGuard}
use Rattle.erl_syntax.specs.declared.expr.Expr.{Expr}
use Rattle.erl_syntax.specs.declared.clause.Alt.{Alt}
use Rattle.pattern_read.specs.declared.placed.Placed.{Placed}
use Rattle.pattern_read.specs.Wanted.{NoneFollows, level_in}
use Rattle.body_read.specs.WantedExprs.{mode_of}
use Rattle.pattern_read.specs.Cursor.{Readable}

-- the words with which blocks begin
abbrev pub begins_block : TokenKind → Bool
begins_block k.Case = true
begins_block k.Receive = true
begins_block k.If = true
begins_block _ = false

-- a block begins so, in a body
abbrev pub IsBlock : Site → TokenKind → Type 0
IsBlock s kind = (s ≡ AsBody) × IsTrue (begins_block kind)

-- an expression of a guard begins so
abbrev pub begins_guard : TokenKind → Bool
begins_guard k.Plus = true
begins_guard k.Minus = true
begins_guard k.Bnot = true
begins_guard k.Not = true
begins_guard k.Atom = true
begins_guard k.Question = true
begins_guard k.LeftBrace = true
begins_guard k.LeftBracket = true
begins_guard k.Variable = true
begins_guard k.Integer = true
begins_guard k.Character = true
begins_guard k.Str = true
begins_guard k.LeftBits = true
begins_guard k.LeftParen = true
begins_guard _ = false

-- an expression begins so
abbrev pub begins_in : Site → TokenKind → Bool
begins_in AsBody kind = if begins_block kind then true else begins_guard kind
begins_in AsGuard kind = begins_guard kind

pub data NoneBegins (s : Site) : List Word → Type 0 where
  none_at_end : NoneBegins s []
  none_at : (j : Word) (rest : List Word) → begins_in s j.kind ≡ false → NoneBegins s (j ∷ rest)

-- why no expression stands where it would be too deep
pub data FirstIn (s : Site) : List Word → Cause → Type 0 where
  only_deeper_in : (j : Word) (rest : List Word) → IsTrue (begins_in s j.kind) → FirstIn s (j ∷ rest) TooDeep
  none_first : (rest : List Word) → NoneBegins s rest → FirstIn s rest Syntax

-- `!` stands in bodies only
abbrev pub MayStand : Site → Op → Type 0
MayStand s op = mode_of s ≡ InBody ⊎ op ≢ o.Send

-- an operator of the level stands there
pub record OperatorIn (s : Site) (ws : Readable) (at n : ℕ) (op : Op) : Type 0 where
  pub word : Word
  pub is : drop at ws.words ≡ word ∷ drop (at + 1) ws.words
  pub operator : operator_of word.kind ≡ Some op
  pub level : level_of op ≡ n
  pub stands : MayStand s op

-- no operator of the level follows that may stand there
abbrev pub NoneIn : Site → ℕ → List Word → Type 0
NoneIn s n words = (c : Context) → c.mode ≡ mode_of s → NoneFollows n c words

-- behind the value of a `case`
abbrev pub of_alts : Context → Placed Expr → List Alt × ℕ → List Goal
of_alts c y r = Mark k.Of ∷ Of (Alts c r.0 r.1) ∷ []

-- behind `case`, up to `end`
abbrev pub case_in : Context → Placed Expr × (List Alt × ℕ) → List Goal
case_in c p = level_in 0 c p.0 ++ of_alts c p.0 p.1
