-- What the readers of expressions, guards and bodies want, and the tokens with which it could go on.
use Rattle.std.specs.Prelude.{ℕ, Bool, true, false, List, [], ◌∷◌}
use Rattle.erl_syntax.specs.Grammar.{Mode, InBody, InGuard, Context, Goal, Of, Common, ListRest, BitsRest, ASegment, Simple, SegmentRest, Quals, AQual, Guarded, Tests, Body, AnItem, Alts, AnAlt, Branches, ABranch}
use Rattle.erl_syntax.specs.declared.span.Span.{Span}
use Rattle.erl_syntax.specs.declared.token.TokenKind.{TokenKind}
use Rattle.erl_syntax.specs.declared.token.TokenKind.TheVariants as k
use Rattle.erl_syntax.specs.declared.expr.Expr.{Expr}
use Rattle.erl_syntax.specs.declared.segment.Segment.{Segment}
use Rattle.erl_syntax.specs.declared.qual.Qual.{Qual}
use Rattle.erl_syntax.specs.declared.clause.Guard.{Guard}
use Rattle.erl_syntax.specs.declared.clause.Item.{Item}
use Rattle.erl_syntax.specs.declared.clause.Alt.{Alt}
use Rattle.erl_syntax.specs.declared.clause.Branch.{Branch}
use Rattle.body_read.specs.declared.site.Site.{Site}
use Rattle.body_read.specs.declared.site.Site.TheVariants.{Body as AsBody, Guard as AsGuard}
use Rattle.pattern_read.specs.declared.placed.Placed.{Placed}
use Rattle.pattern_read.specs.Wanted.{extends}

abbrev pub mode_of : Site → Mode
mode_of AsBody = InBody
mode_of AsGuard = InGuard

abbrev pub in_site : Site → ℕ → ℕ → Context
in_site site deep brackets = record { mode = mode_of site; deep = deep; open_ = brackets }

abbrev pub in_body : ℕ → ℕ → Context
in_body deep brackets = record { mode = InBody; deep = deep; open_ = brackets }

abbrev pub in_guard : ℕ → ℕ → Context
in_guard deep brackets = record { mode = InGuard; deep = deep; open_ = brackets }

-- a segment goes on with a size and the words of its type
abbrev pub segment_longer : TokenKind → Bool
segment_longer k.Colon = true
segment_longer k.Slash = true
segment_longer k.Minus = true
segment_longer _ = false

-- an item goes on as an expression, and as a pattern with `=`
abbrev pub item_longer : TokenKind → Bool
item_longer k.Match = true
item_longer kind = extends 0 kind

-- a body goes on with more items
abbrev pub body_longer : TokenKind → Bool
body_longer k.Comma = true
body_longer kind = item_longer kind

-- a qualifier goes on as an expression, and as a pattern with its arrow
abbrev pub qual_longer : TokenKind → Bool
qual_longer k.Match = true
qual_longer k.LeftArrow = true
qual_longer k.DoubleLeftArrow = true
qual_longer kind = extends 0 kind

abbrev pub common_in : Context → Placed Expr → List Goal
common_in c r = Of (Common c r.at r.tree r.height) ∷ []

-- a list, behind `[`
abbrev pub list_in : Context → Span → Expr × ℕ → List Goal
list_in c at r = Of (ListRest c at r.0 r.1) ∷ []

-- a bit expression, behind `<<`
abbrev pub bits_in : Context → Span → Expr × ℕ → List Goal
bits_in c at r = Of (BitsRest c at r.0 r.1) ∷ []

abbrev pub segment_in : Context → Segment × ℕ → List Goal
segment_in c r = Of (ASegment c r.0 r.1) ∷ []

abbrev pub simple_in : Context → Placed Expr → List Goal
simple_in c r = Of (Simple c r.at r.tree r.height) ∷ []

-- a segment, behind its value
abbrev pub segment_rest_in : Context → Placed Expr → Segment × ℕ → List Goal
segment_rest_in c y r = Of (SegmentRest c y.at y.tree y.height r.0 r.1) ∷ []

-- qualifiers up to the closing bracket
abbrev pub quals_in : TokenKind → Context → List Qual × ℕ → List Goal
quals_in close c r = Of (Quals close c r.0 r.1) ∷ []

abbrev pub qual_in : Context → Qual × ℕ → List Goal
qual_in c r = Of (AQual c r.0 r.1) ∷ []

-- a guard, if there is one, and the arrow
abbrev pub guarded_in : Context → Guard × ℕ → List Goal
guarded_in c r = Of (Guarded c r.0 r.1) ∷ []

-- the alternatives of a guard, and the arrow
abbrev pub tests_in : Context → Placed (List (List Expr)) → List Goal
tests_in c r = Of (Tests c r.at r.tree r.height) ∷ []

abbrev pub body_in : Context → List Item × ℕ → List Goal
body_in c r = Of (Body c r.0 r.1) ∷ []

abbrev pub item_in : Context → Item × ℕ → List Goal
item_in c r = Of (AnItem c r.0 r.1) ∷ []

-- the clauses of `case` and `receive`, up to `end`
abbrev pub alts_in : Context → List Alt × ℕ → List Goal
alts_in c r = Of (Alts c r.0 r.1) ∷ []

abbrev pub alt_in : Context → Alt × ℕ → List Goal
alt_in c r = Of (AnAlt c r.0 r.1) ∷ []

-- the clauses of `if`, up to `end`
abbrev pub branches_in : Context → List Branch × ℕ → List Goal
branches_in c r = Of (Branches c r.0 r.1) ∷ []

abbrev pub branch_in : Context → Branch × ℕ → List Goal
branch_in c r = Of (ABranch c r.0 r.1) ∷ []
