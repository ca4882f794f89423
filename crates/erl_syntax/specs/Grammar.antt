-- The grammar of modules: which tokens spell which tree (Erlang Reference Manual, "Modules", "Functions",
-- "Expressions", "Patterns", "Bit Syntax Expressions"), within the limits on depth.
--
-- What is wanted is a list of goals, each a token or a part with its tree. `Produces` has one line a production:
-- a part may be spelled by these goals, one after another. `Spells` says that tokens spell goals.
use Rattle.std.specs.Prelude.{◌≡◌, ◌≢◌, ℕ, ℤ, pos, ◌+◌, ◌≤◌, ◌<◌, max, nat_lt, Bool, true, false, if◌then◌else◌, List, [], ◌∷◌, ◌++◌, length, Option, Some, None, ◌⊎◌}
use Rattle.std.specs.List.{Contains}
use Rattle.erl_syntax.specs.Word.{Word}
use Rattle.erl_syntax.specs.Operators.{operator_of, level_of, prefix_of}
use Rattle.erl_syntax.specs.Names.{module_word, export_word, skipped_words, IsAttribute, module_macro, unit_word, Names as IsNamed, Signed}
use Rattle.erl_syntax.specs.declared.span.Span.{Span}
use Rattle.erl_syntax.specs.declared.token.TokenKind.{TokenKind}
use Rattle.erl_syntax.specs.declared.token.TokenKind.TheVariants as k
use Rattle.erl_syntax.specs.declared.expr.Expr.{Expr}
use Rattle.erl_syntax.specs.declared.expr.Expr.TheVariants as x
use Rattle.erl_syntax.specs.declared.expr.Op.{Op}
use Rattle.erl_syntax.specs.declared.expr.Op.TheVariants as o
use Rattle.erl_syntax.specs.declared.expr.Prefix.{Prefix}
use Rattle.erl_syntax.specs.declared.pattern.Pattern.{Pattern}
use Rattle.erl_syntax.specs.declared.pattern.Pattern.TheVariants as p
use Rattle.erl_syntax.specs.declared.segment.Segment.{Segment}
use Rattle.erl_syntax.specs.declared.segment.Spec.{Spec}
use Rattle.erl_syntax.specs.declared.segment.Spec.TheVariants as s
use Rattle.erl_syntax.specs.declared.clause.Guard.{Guard}
use Rattle.erl_syntax.specs.declared.clause.Item.{Item}
use Rattle.erl_syntax.specs.declared.clause.Alt.{Alt, roll-Alt}
use Rattle.erl_syntax.specs.declared.clause.Branch.{Branch, roll-Branch}
use Rattle.erl_syntax.specs.declared.qual.Qual.{Qual}
use Rattle.erl_syntax.specs.declared.qual.Qual.TheVariants as q
use Rattle.erl_syntax.specs.declared.module.Head.{Head}
use Rattle.erl_syntax.specs.declared.module.Name.{Name}
use Rattle.erl_syntax.specs.declared.module.Function.{Function}
use Rattle.erl_syntax.specs.declared.module.Clause.{Clause}

-- Where an expression stands. A guard has no `!`, `case`, `if`, `receive` and no comprehension.
-- A size in a pattern is as a guard, and has no tuple, list, string or bit expression either.
pub data Mode : Type 0 where
  InBody : Mode
  InGuard : Mode
  InSize : Mode

-- `deep` is how deep in its tree a part stands, the whole tree at 1; `open` is how many brackets and block words are open.
pub record Context : Type 0 where
  pub mode : Mode
  pub deep : ℕ
  pub open_ : ℕ

-- for what is one deeper in the tree
abbrev pub under : Context → Context
under c = record { mode = c.mode; deep = c.deep + 1; open_ = c.open_ }

-- for what stands behind one more bracket or block word
abbrev pub inside : Context → Context
inside c = record { mode = c.mode; deep = c.deep; open_ = c.open_ + 1 }

abbrev pub in_mode : Mode → Context → Context
in_mode m c = record { mode = m; deep = c.deep; open_ = c.open_ }

-- for a whole tree, so many brackets inside its form
abbrev pub whole : Mode → ℕ → Context
whole m n = record { mode = m; deep = 1; open_ = n }

-- How deep trees and brackets may be, whether any attribute may stand in a form, and any word in a segment's type.
-- Modules are spelled within the `strict` limits. Others say why a token is refused.
pub record Limits : Type 0 where
  pub trees : ℕ
  pub brackets : ℕ
  pub any_attribute : Bool
  pub any_type : Bool

abbrev pub strict : Limits
strict = record { trees = 256; brackets = 64; any_attribute = false; any_type = false }

-- the level of what stands right of an operator: `!`, `orelse` and `andalso` group to the right
abbrev pub right_of : ℕ → ℕ
right_of n = if nat_lt n 3 then n else n + 1

-- The parts of a module, each with the tree that it spells. A span is the place of the part's first token.
-- The last number of an expression, of a pattern or of a list of them is its height: 1 for a tree with no expression
-- or pattern inside it, any other is 1 higher than the highest inside it; of a list the highest in it, or 0.
pub data Part : Type 0 where
  Level : ℕ → Context → Span → Expr → ℕ → Part
  Tail : ℕ → Context → Span → Expr → ℕ → Expr → ℕ → Part
  Operand : Context → Span → Expr → ℕ → Part
  Common : Context → Span → Expr → ℕ → Part
  AfterAtom : Context → Span → ℕ → Expr → ℕ → Part
  Qualified : Context → Span → Expr → Expr → ℕ → Part
  Exprs : TokenKind → Context → List Expr → ℕ → Part
  MoreExprs : TokenKind → Context → List Expr → ℕ → Part
  ListRest : Context → Span → Expr → ℕ → Part
  AfterFirst : Context → Span → Expr → ℕ → Expr → ℕ → Part
  ListItems : Context → List Expr → List Expr → ℕ → Part
  BitsRest : Context → Span → Expr → ℕ → Part
  AfterValue : Context → Span → Span → Expr → ℕ → Expr → ℕ → Part
  Prefixed : Context → Segment → ℕ → Part
  ASegment : Context → Segment → ℕ → Part
  MoreSegments : Context → List Segment → ℕ → Part
  Simple : Context → Span → Expr → ℕ → Part
  SegmentRest : Context → Span → Expr → ℕ → Segment → ℕ → Part
  SegmentType : Span → Expr → Option Expr → Segment → Part
  ASpec : Spec → Part
  MoreSpecs : List Spec → Part
  Quals : TokenKind → Context → List Qual → ℕ → Part
  MoreQuals : TokenKind → Context → List Qual → ℕ → Part
  AQual : Context → Qual → ℕ → Part
  APattern : Context → Span → Pattern → ℕ → Part
  SameTail : Context → Span → Pattern → ℕ → Pattern → ℕ → Part
  MoreSame : Context → List Pattern → ℕ → Part
  Pat : Context → Span → Pattern → ℕ → Part
  Patterns : TokenKind → Context → List Pattern → ℕ → Part
  MorePatterns : TokenKind → Context → List Pattern → ℕ → Part
  PatternList : Context → List Pattern → List Pattern → ℕ → Part
  PatternItems : Context → List Pattern → List Pattern → ℕ → Part
  PatternBits : Context → List Segment → ℕ → Part
  MorePatternSegments : Context → List Segment → ℕ → Part
  PatternSegment : Context → Segment → ℕ → Part
  PatternValue : Context → Span → Expr → ℕ → Part
  PatternSegmentRest : Context → Span → Expr → ℕ → Segment → ℕ → Part
  PatternSize : Context → Expr → ℕ → Part
  Guarded : Context → Guard → ℕ → Part
  Tests : Context → Span → List (List Expr) → ℕ → Part
  MoreTests : Context → List Expr → List (List Expr) → ℕ → Part
  Body : Context → List Item → ℕ → Part
  MoreItems : Context → List Item → ℕ → Part
  AnItem : Context → Item → ℕ → Part
  Alts : Context → List Alt → ℕ → Part
  MoreAlts : Context → List Alt → ℕ → Part
  AnAlt : Context → Alt → ℕ → Part
  Branches : Context → List Branch → ℕ → Part
  MoreBranches : Context → List Branch → ℕ → Part
  ABranch : Context → Branch → ℕ → Part
  Forms : List Head → List Name → List Function → Part
  Skipped : Part
  Names : List Name → Part
  MoreNames : List Name → Part
  AName : Name → Part
  MoreClauses : List Clause → Part
  AClause : Clause → Part

-- A goal: any token of a kind, one of a kind at a place, that very token, or a part.
pub data Goal : Type 0 where
  Mark : TokenKind → Goal
  At : TokenKind → Span → Goal
  The : Word → Goal
  Of : Part → Goal

pub data Produces (l : Limits) : Part → List Goal → Type 0 where
  -- Operators. Levels 0 to 5 are those of binary operators, from the one that binds least; 6 is an operand.
  level : (n : ℕ) (c : Context) (at : Span) (y : Expr) (dy : ℕ) (e : Expr) (d : ℕ) → n < 6 →
      Produces l (Level n c at e d) (Of (Level (n + 1) c at y dy) ∷ Of (Tail n c at y dy e d) ∷ [])
  operand : (n : ℕ) (c : Context) (at : Span) (e : Expr) (d : ℕ) → 6 ≤ n →
      Produces l (Level n c at e d) (Of (Operand c at e d) ∷ [])
  alone : (n : ℕ) (c : Context) (at : Span) (y : Expr) (dy : ℕ) (e : Expr) (d : ℕ) → e ≡ y → d ≡ dy →
      Produces l (Tail n c at y dy e d) []
  -- an operator that doesn't group to the left: one stands at the level; what stands left of it is now one deeper
  right : (n : ℕ) (c : Context) (at : Span) (y : Expr) (dy : ℕ) (e : Expr) (d : ℕ) (t : Word) (op : Op) (az : Span) (z : Expr) (dz : ℕ) → n < 4 →
      operator_of t.kind ≡ Some op → level_of op ≡ n → (c.mode ≡ InBody ⊎ op ≢ o.Send) → c.deep + dy ≤ l.trees →
      e ≡ x.Binary at op (y ∷ z ∷ []) → d ≡ max dy dz + 1 →
      Produces l (Tail n c at y dy e d) (The t ∷ Of (Level (right_of n) (under c) az z dz) ∷ [])
  -- an operator of sums or products groups to the left
  left : (n : ℕ) (c : Context) (at : Span) (y : Expr) (dy : ℕ) (e : Expr) (d : ℕ) (t : Word) (op : Op) (az : Span) (z : Expr) (dz : ℕ) → 4 ≤ n →
      operator_of t.kind ≡ Some op → level_of op ≡ n → c.deep + dy ≤ l.trees →
      Produces l (Tail n c at y dy e d) (The t ∷ Of (Level (n + 1) (under c) az z dz) ∷ Of (Tail n c at (x.Binary at op (y ∷ z ∷ [])) (max dy dz + 1) e d) ∷ [])
  -- Operands
  prefix : (c : Context) (at : Span) (e : Expr) (d : ℕ) (t : Word) (op : Prefix) (ay : Span) (y : Expr) (dy : ℕ) →
      prefix_of t.kind ≡ Some op → at ≡ t.at → c.deep + 1 ≤ l.trees → e ≡ x.Unary at op (y ∷ []) → d ≡ dy + 1 →
      Produces l (Operand c at e d) (The t ∷ Of (Operand (under c) ay y dy) ∷ [])
  atom : (c : Context) (at : Span) (e : Expr) (d : ℕ) (t : Word) → t.kind ≡ k.Atom → at ≡ t.at →
      Produces l (Operand c at e d) (The t ∷ Of (AfterAtom c at t.number e d) ∷ [])
  macro : (c : Context) (at : Span) (e : Expr) (d : ℕ) (t : Word) → t.kind ≡ k.Variable → t.chars ≡ module_macro →
      Produces l (Operand c at e d) (At k.Question at ∷ The t ∷ Of (Qualified c at (x.ModuleName at) e d) ∷ [])
  tuple : (c : Context) (at : Span) (e : Expr) (d : ℕ) (ys : List Expr) (dys : ℕ) → c.mode ≢ InSize → c.open_ < l.brackets → e ≡ x.Tuple at ys → d ≡ dys + 1 →
      Produces l (Operand c at e d) (At k.LeftBrace at ∷ Of (Exprs k.RightBrace (inside (under c)) ys dys) ∷ [])
  list : (c : Context) (at : Span) (e : Expr) (d : ℕ) → c.mode ≢ InSize → c.open_ < l.brackets →
      Produces l (Operand c at e d) (At k.LeftBracket at ∷ Of (ListRest c at e d) ∷ [])
  case : (c : Context) (at : Span) (e : Expr) (d : ℕ) (ay : Span) (y : Expr) (dy : ℕ) (alts : List Alt) (da : ℕ) → c.mode ≡ InBody → c.open_ < l.brackets → c.deep + 1 ≤ l.trees →
      e ≡ x.Case at (y ∷ []) alts → d ≡ max dy da + 1 →
      Produces l (Operand c at e d) (At k.Case at ∷ Of (Level 0 (inside (under c)) ay y dy) ∷ Mark k.Of ∷ Of (Alts (inside (under c)) alts da) ∷ [])
  receive : (c : Context) (at : Span) (e : Expr) (d : ℕ) (alts : List Alt) (da : ℕ) → c.mode ≡ InBody → c.open_ < l.brackets → c.deep + 1 ≤ l.trees →
      e ≡ x.Receive at alts → d ≡ da + 1 →
      Produces l (Operand c at e d) (At k.Receive at ∷ Of (Alts (inside (under c)) alts da) ∷ [])
  if_ : (c : Context) (at : Span) (e : Expr) (d : ℕ) (bs : List Branch) (db : ℕ) → c.mode ≡ InBody → c.open_ < l.brackets → c.deep + 1 ≤ l.trees →
      e ≡ x.If at bs → d ≡ db + 1 →
      Produces l (Operand c at e d) (At k.If at ∷ Of (Branches (inside (under c)) bs db) ∷ [])
  common : (c : Context) (at : Span) (e : Expr) (d : ℕ) →
      Produces l (Operand c at e d) (Of (Common c at e d) ∷ [])
  -- what may stand as an operand and as a segment's value
  variable : (c : Context) (at : Span) (e : Expr) (d : ℕ) (t : Word) → t.kind ≡ k.Variable → at ≡ t.at → e ≡ x.Var at t.chars → d ≡ 1 →
      Produces l (Common c at e d) (The t ∷ [])
  integer : (c : Context) (at : Span) (e : Expr) (d : ℕ) (t : Word) → t.kind ≡ k.Integer → at ≡ t.at → e ≡ x.Int at (pos t.number) → d ≡ 1 →
      Produces l (Common c at e d) (The t ∷ [])
  character : (c : Context) (at : Span) (e : Expr) (d : ℕ) (t : Word) → t.kind ≡ k.Character → at ≡ t.at → e ≡ x.Char at t.number → d ≡ 1 →
      Produces l (Common c at e d) (The t ∷ [])
  string : (c : Context) (at : Span) (e : Expr) (d : ℕ) (t : Word) → c.mode ≢ InSize → t.kind ≡ k.Str → at ≡ t.at → e ≡ x.Str at t.chars → d ≡ 1 →
      Produces l (Common c at e d) (The t ∷ [])
  bits : (c : Context) (at : Span) (e : Expr) (d : ℕ) → c.mode ≢ InSize → c.open_ < l.brackets →
      Produces l (Common c at e d) (At k.LeftBits at ∷ Of (BitsRest c at e d) ∷ [])
  paren : (c : Context) (at : Span) (e : Expr) (d : ℕ) (ay : Span) → c.open_ < l.brackets →
      Produces l (Common c at e d) (At k.LeftParen at ∷ Of (Level 0 (inside c) ay e d) ∷ Mark k.RightParen ∷ [])
  -- Calls. A call's module is an expression inside it.
  call : (c : Context) (at : Span) (n : ℕ) (e : Expr) (d : ℕ) (ys : List Expr) (dys : ℕ) → c.open_ < l.brackets → e ≡ x.Call at [] n ys → d ≡ dys + 1 →
      Produces l (AfterAtom c at n e d) (Mark k.LeftParen ∷ Of (Exprs k.RightParen (inside (under c)) ys dys) ∷ [])
  no_call : (c : Context) (at : Span) (n : ℕ) (e : Expr) (d : ℕ) →
      Produces l (AfterAtom c at n e d) (Of (Qualified c at (x.Atom at n) e d) ∷ [])
  unqualified : (c : Context) (at : Span) (y : Expr) (e : Expr) (d : ℕ) → e ≡ y → d ≡ 1 →
      Produces l (Qualified c at y e d) []
  qualified : (c : Context) (at : Span) (y : Expr) (e : Expr) (d : ℕ) (t : Word) (ys : List Expr) (dys : ℕ) → c.open_ < l.brackets → c.deep + 1 ≤ l.trees → t.kind ≡ k.Atom →
      e ≡ x.Call at (y ∷ []) t.number ys → d ≡ max 1 dys + 1 →
      Produces l (Qualified c at y e d) (Mark k.Colon ∷ The t ∷ Mark k.LeftParen ∷ Of (Exprs k.RightParen (inside (under c)) ys dys) ∷ [])
  -- expressions up to the closing bracket
  no_exprs : (close : TokenKind) (c : Context) (d : ℕ) → d ≡ 0 →
      Produces l (Exprs close c [] d) (Mark close ∷ [])
  exprs : (close : TokenKind) (c : Context) (ay : Span) (y : Expr) (dy : ℕ) (ys : List Expr) (dys d : ℕ) → c.deep ≤ l.trees → d ≡ max dy dys →
      Produces l (Exprs close c (y ∷ ys) d) (Of (Level 0 c ay y dy) ∷ Of (MoreExprs close c ys dys) ∷ [])
  more_exprs : (close : TokenKind) (c : Context) (ay : Span) (y : Expr) (dy : ℕ) (ys : List Expr) (dys d : ℕ) → d ≡ max dy dys →
      Produces l (MoreExprs close c (y ∷ ys) d) (Mark k.Comma ∷ Of (Level 0 c ay y dy) ∷ Of (MoreExprs close c ys dys) ∷ [])
  end_exprs : (close : TokenKind) (c : Context) (d : ℕ) → d ≡ 0 →
      Produces l (MoreExprs close c [] d) (Mark close ∷ [])
  -- Lists, behind `[`
  no_list : (c : Context) (at : Span) (e : Expr) (d : ℕ) → e ≡ x.List at [] [] → d ≡ 1 →
      Produces l (ListRest c at e d) (Mark k.RightBracket ∷ [])
  list_first : (c : Context) (at : Span) (e : Expr) (d : ℕ) (ay : Span) (y : Expr) (dy : ℕ) → c.deep + 1 ≤ l.trees →
      Produces l (ListRest c at e d) (Of (Level 0 (inside (under c)) ay y dy) ∷ Of (AfterFirst c at y dy e d) ∷ [])
  list_for : (c : Context) (at : Span) (y : Expr) (dy : ℕ) (e : Expr) (d : ℕ) (qs : List Qual) (dq : ℕ) → c.mode ≡ InBody → e ≡ x.ListFor at (y ∷ []) qs → d ≡ max dy dq + 1 →
      Produces l (AfterFirst c at y dy e d) (Mark k.DoubleBar ∷ Of (Quals k.RightBracket (inside (under c)) qs dq) ∷ [])
  list_items : (c : Context) (at : Span) (y : Expr) (dy : ℕ) (e : Expr) (d : ℕ) (ys tail : List Expr) (dys : ℕ) → e ≡ x.List at (y ∷ ys) tail → d ≡ max dy dys + 1 →
      Produces l (AfterFirst c at y dy e d) (Of (ListItems (inside (under c)) ys tail dys) ∷ [])
  next_item : (c : Context) (ay : Span) (y : Expr) (dy : ℕ) (ys tail : List Expr) (dys d : ℕ) → d ≡ max dy dys →
      Produces l (ListItems c (y ∷ ys) tail d) (Mark k.Comma ∷ Of (Level 0 c ay y dy) ∷ Of (ListItems c ys tail dys) ∷ [])
  list_tail : (c : Context) (ay : Span) (y : Expr) (d : ℕ) →
      Produces l (ListItems c [] (y ∷ []) d) (Mark k.Bar ∷ Of (Level 0 c ay y d) ∷ Mark k.RightBracket ∷ [])
  end_list : (c : Context) (d : ℕ) → d ≡ 0 →
      Produces l (ListItems c [] [] d) (Mark k.RightBracket ∷ [])
  -- Bit expressions, behind `<<`
  no_bits : (c : Context) (at : Span) (e : Expr) (d : ℕ) → e ≡ x.Bits at [] → d ≡ 1 →
      Produces l (BitsRest c at e d) (Mark k.RightBits ∷ [])
  bits_prefixed : (c : Context) (at : Span) (e : Expr) (d : ℕ) (sg : Segment) (ds : ℕ) (sgs : List Segment) (dss : ℕ) → c.deep + 1 ≤ l.trees →
      e ≡ x.Bits at (sg ∷ sgs) → d ≡ max ds dss + 1 →
      Produces l (BitsRest c at e d) (Of (Prefixed (inside (under c)) sg ds) ∷ Of (MoreSegments (inside (under c)) sgs dss) ∷ [])
  bits_first : (c : Context) (at : Span) (e : Expr) (d : ℕ) (ay : Span) (y : Expr) (dy : ℕ) → c.deep + 1 ≤ l.trees →
      Produces l (BitsRest c at e d) (Of (Simple (inside (under c)) ay y dy) ∷ Of (AfterValue c at ay y dy e d) ∷ [])
  bits_for : (c : Context) (at ay : Span) (y : Expr) (dy : ℕ) (e : Expr) (d : ℕ) (qs : List Qual) (dq : ℕ) → c.mode ≡ InBody → e ≡ x.BitsFor at (y ∷ []) qs → d ≡ max dy dq + 1 →
      Produces l (AfterValue c at ay y dy e d) (Mark k.DoubleBar ∷ Of (Quals k.RightBits (inside (under c)) qs dq) ∷ [])
  bits_segments : (c : Context) (at ay : Span) (y : Expr) (dy : ℕ) (e : Expr) (d : ℕ) (sg : Segment) (ds : ℕ) (sgs : List Segment) (dss : ℕ) →
      e ≡ x.Bits at (sg ∷ sgs) → d ≡ max ds dss + 1 →
      Produces l (AfterValue c at ay y dy e d) (Of (SegmentRest (inside (under c)) ay y dy sg ds) ∷ Of (MoreSegments (inside (under c)) sgs dss) ∷ [])
  more_segments : (c : Context) (sg : Segment) (ds : ℕ) (sgs : List Segment) (dss d : ℕ) → d ≡ max ds dss →
      Produces l (MoreSegments c (sg ∷ sgs) d) (Mark k.Comma ∷ Of (ASegment c sg ds) ∷ Of (MoreSegments c sgs dss) ∷ [])
  end_segments : (c : Context) (d : ℕ) → d ≡ 0 →
      Produces l (MoreSegments c [] d) (Mark k.RightBits ∷ [])
  segment_prefixed : (c : Context) (sg : Segment) (d : ℕ) →
      Produces l (ASegment c sg d) (Of (Prefixed c sg d) ∷ [])
  segment : (c : Context) (sg : Segment) (d : ℕ) (ay : Span) (y : Expr) (dy : ℕ) →
      Produces l (ASegment c sg d) (Of (Simple c ay y dy) ∷ Of (SegmentRest c ay y dy sg d) ∷ [])
  prefixed : (c : Context) (sg : Segment) (d : ℕ) (t : Word) (op : Prefix) (ay : Span) (y : Expr) (dy : ℕ) → prefix_of t.kind ≡ Some op → c.deep + 1 ≤ l.trees →
      Produces l (Prefixed c sg d) (The t ∷ Of (Simple (under c) ay y dy) ∷ Of (SegmentRest c t.at (x.Unary t.at op (y ∷ [])) (dy + 1) sg d) ∷ [])
  simple_atom : (c : Context) (at : Span) (e : Expr) (d : ℕ) (t : Word) → t.kind ≡ k.Atom → at ≡ t.at → e ≡ x.Atom at t.number → d ≡ 1 →
      Produces l (Simple c at e d) (The t ∷ [])
  simple : (c : Context) (at : Span) (e : Expr) (d : ℕ) →
      Produces l (Simple c at e d) (Of (Common c at e d) ∷ [])
  sized : (c : Context) (at : Span) (y : Expr) (dy : ℕ) (sg : Segment) (d : ℕ) (az : Span) (z : Expr) (dz : ℕ) → d ≡ max dy dz →
      Produces l (SegmentRest c at y dy sg d) (Mark k.Colon ∷ Of (Simple c az z dz) ∷ Of (SegmentType at y (Some z) sg) ∷ [])
  unsized : (c : Context) (at : Span) (y : Expr) (dy : ℕ) (sg : Segment) (d : ℕ) → d ≡ dy →
      Produces l (SegmentRest c at y dy sg d) (Of (SegmentType at y None sg) ∷ [])
  -- the words of a segment's type
  typed : (at : Span) (y : Expr) (size : Option Expr) (sg : Segment) (sp : Spec) (sps : List Spec) → sg ≡ record { at = at; value = y; size = size; specs = sp ∷ sps } →
      Produces l (SegmentType at y size sg) (Mark k.Slash ∷ Of (ASpec sp) ∷ Of (MoreSpecs sps) ∷ [])
  untyped : (at : Span) (y : Expr) (size : Option Expr) (sg : Segment) → sg ≡ record { at = at; value = y; size = size; specs = [] } →
      Produces l (SegmentType at y size sg) []
  more_specs : (sp : Spec) (sps : List Spec) →
      Produces l (MoreSpecs (sp ∷ sps)) (Mark k.Minus ∷ Of (ASpec sp) ∷ Of (MoreSpecs sps) ∷ [])
  end_specs : Produces l (MoreSpecs []) []
  spec : (sp : Spec) (t : Word) → t.kind ≡ k.Atom → IsNamed t.chars sp →
      Produces l (ASpec sp) (The t ∷ [])
  unit : (sp : Spec) (t n : Word) → t.kind ≡ k.Atom → t.chars ≡ unit_word → n.kind ≡ k.Integer → sp ≡ s.Unit (pos n.number) →
      Produces l (ASpec sp) (The t ∷ Mark k.Colon ∷ The n ∷ [])
  any_spec : (sp : Spec) (t : Word) → l.any_type ≡ true → t.kind ≡ k.Atom → t.chars ≢ unit_word → ((named : Spec) → IsNamed t.chars named → ⊥) →
      Produces l (ASpec sp) (The t ∷ [])
  -- Qualifiers up to the closing bracket
  quals : (close : TokenKind) (c : Context) (ql : Qual) (dq : ℕ) (qs : List Qual) (dqs d : ℕ) → d ≡ max dq dqs →
      Produces l (Quals close c (ql ∷ qs) d) (Of (AQual c ql dq) ∷ Of (MoreQuals close c qs dqs) ∷ [])
  more_quals : (close : TokenKind) (c : Context) (ql : Qual) (dq : ℕ) (qs : List Qual) (dqs d : ℕ) → d ≡ max dq dqs →
      Produces l (MoreQuals close c (ql ∷ qs) d) (Mark k.Comma ∷ Of (AQual c ql dq) ∷ Of (MoreQuals close c qs dqs) ∷ [])
  end_quals : (close : TokenKind) (c : Context) (d : ℕ) → d ≡ 0 →
      Produces l (MoreQuals close c [] d) (Mark close ∷ [])
  generator : (c : Context) (ql : Qual) (d : ℕ) (at : Span) (pt : Pattern) (dp : ℕ) (az : Span) (z : Expr) (dz : ℕ) → ql ≡ q.Items at pt z → d ≡ max dp dz →
      Produces l (AQual c ql d) (Of (APattern (in_mode InSize c) at pt dp) ∷ Mark k.LeftArrow ∷ Of (Level 0 c az z dz) ∷ [])
  bits_generator : (c : Context) (ql : Qual) (d : ℕ) (at : Span) (sgs : List Segment) (ds : ℕ) (az : Span) (z : Expr) (dz : ℕ) → c.open_ < l.brackets → ql ≡ q.Bits at sgs z → d ≡ max ds dz →
      Produces l (AQual c ql d) (At k.LeftBits at ∷ Of (PatternBits (in_mode InSize c) sgs ds) ∷ Mark k.DoubleLeftArrow ∷ Of (Level 0 c az z dz) ∷ [])
  filter : (c : Context) (ql : Qual) (d : ℕ) (at : Span) (y : Expr) → ql ≡ q.Filter at y →
      Produces l (AQual c ql d) (Of (Level 0 c at y d) ∷ [])
  -- Patterns. Those of one `=` chain are one node.
  pattern : (c : Context) (at : Span) (e : Pattern) (d : ℕ) (y : Pattern) (dy : ℕ) →
      Produces l (APattern c at e d) (Of (Pat c at y dy) ∷ Of (SameTail c at y dy e d) ∷ [])
  not_same : (c : Context) (at : Span) (y : Pattern) (dy : ℕ) (e : Pattern) (d : ℕ) → e ≡ y → d ≡ dy →
      Produces l (SameTail c at y dy e d) []
  same : (c : Context) (at : Span) (y : Pattern) (dy : ℕ) (e : Pattern) (d : ℕ) (az : Span) (z : Pattern) (dz : ℕ) (zs : List Pattern) (dzs : ℕ) → c.deep + dy ≤ l.trees →
      e ≡ p.Same at (y ∷ z ∷ zs) → d ≡ max dy (max dz dzs) + 1 →
      Produces l (SameTail c at y dy e d) (Mark k.Match ∷ Of (Pat (under c) az z dz) ∷ Of (MoreSame (under c) zs dzs) ∷ [])
  more_same : (c : Context) (az : Span) (z : Pattern) (dz : ℕ) (zs : List Pattern) (dzs d : ℕ) → d ≡ max dz dzs →
      Produces l (MoreSame c (z ∷ zs) d) (Mark k.Match ∷ Of (Pat c az z dz) ∷ Of (MoreSame c zs dzs) ∷ [])
  end_same : (c : Context) (d : ℕ) → d ≡ 0 →
      Produces l (MoreSame c [] d) []
  pat_variable : (c : Context) (at : Span) (e : Pattern) (d : ℕ) (t : Word) → t.kind ≡ k.Variable → at ≡ t.at → e ≡ p.Var at t.chars → d ≡ 1 →
      Produces l (Pat c at e d) (The t ∷ [])
  pat_wild : (c : Context) (at : Span) (e : Pattern) (d : ℕ) → e ≡ p.Wild at → d ≡ 1 →
      Produces l (Pat c at e d) (At k.Underscore at ∷ [])
  pat_integer : (c : Context) (at : Span) (e : Pattern) (d : ℕ) (t : Word) → t.kind ≡ k.Integer → at ≡ t.at → e ≡ p.Int at (pos t.number) → d ≡ 1 →
      Produces l (Pat c at e d) (The t ∷ [])
  pat_signed : (c : Context) (at : Span) (e : Pattern) (d : ℕ) (t n : Word) (z : ℤ) → at ≡ t.at → n.kind ≡ k.Integer → Signed t.kind n.number z → e ≡ p.Int at z → d ≡ 1 →
      Produces l (Pat c at e d) (The t ∷ The n ∷ [])
  pat_character : (c : Context) (at : Span) (e : Pattern) (d : ℕ) (t : Word) → t.kind ≡ k.Character → at ≡ t.at → e ≡ p.Char at t.number → d ≡ 1 →
      Produces l (Pat c at e d) (The t ∷ [])
  pat_atom : (c : Context) (at : Span) (e : Pattern) (d : ℕ) (t : Word) → t.kind ≡ k.Atom → at ≡ t.at → e ≡ p.Atom at t.number → d ≡ 1 →
      Produces l (Pat c at e d) (The t ∷ [])
  pat_string : (c : Context) (at : Span) (e : Pattern) (d : ℕ) (t : Word) → t.kind ≡ k.Str → at ≡ t.at → e ≡ p.Str at t.chars → d ≡ 1 →
      Produces l (Pat c at e d) (The t ∷ [])
  pat_paren : (c : Context) (at : Span) (e : Pattern) (d : ℕ) (ay : Span) → c.open_ < l.brackets →
      Produces l (Pat c at e d) (At k.LeftParen at ∷ Of (APattern (inside c) ay e d) ∷ Mark k.RightParen ∷ [])
  pat_tuple : (c : Context) (at : Span) (e : Pattern) (d : ℕ) (ys : List Pattern) (dys : ℕ) → c.open_ < l.brackets → e ≡ p.Tuple at ys → d ≡ dys + 1 →
      Produces l (Pat c at e d) (At k.LeftBrace at ∷ Of (Patterns k.RightBrace (inside (under c)) ys dys) ∷ [])
  pat_list : (c : Context) (at : Span) (e : Pattern) (d : ℕ) (ys tail : List Pattern) (dys : ℕ) → c.open_ < l.brackets → e ≡ p.List at ys tail → d ≡ dys + 1 →
      Produces l (Pat c at e d) (At k.LeftBracket at ∷ Of (PatternList (inside (under c)) ys tail dys) ∷ [])
  pat_bits : (c : Context) (at : Span) (e : Pattern) (d : ℕ) (sgs : List Segment) → c.open_ < l.brackets → e ≡ p.Bits at sgs →
      Produces l (Pat c at e d) (At k.LeftBits at ∷ Of (PatternBits c sgs d) ∷ [])
  no_patterns : (close : TokenKind) (c : Context) (d : ℕ) → d ≡ 0 →
      Produces l (Patterns close c [] d) (Mark close ∷ [])
  patterns : (close : TokenKind) (c : Context) (ay : Span) (y : Pattern) (dy : ℕ) (ys : List Pattern) (dys d : ℕ) → c.deep ≤ l.trees → d ≡ max dy dys →
      Produces l (Patterns close c (y ∷ ys) d) (Of (APattern c ay y dy) ∷ Of (MorePatterns close c ys dys) ∷ [])
  more_patterns : (close : TokenKind) (c : Context) (ay : Span) (y : Pattern) (dy : ℕ) (ys : List Pattern) (dys d : ℕ) → d ≡ max dy dys →
      Produces l (MorePatterns close c (y ∷ ys) d) (Mark k.Comma ∷ Of (APattern c ay y dy) ∷ Of (MorePatterns close c ys dys) ∷ [])
  end_patterns : (close : TokenKind) (c : Context) (d : ℕ) → d ≡ 0 →
      Produces l (MorePatterns close c [] d) (Mark close ∷ [])
  no_pattern_list : (c : Context) (d : ℕ) → d ≡ 0 →
      Produces l (PatternList c [] [] d) (Mark k.RightBracket ∷ [])
  pattern_list : (c : Context) (ay : Span) (y : Pattern) (dy : ℕ) (ys tail : List Pattern) (dys d : ℕ) → c.deep ≤ l.trees → d ≡ max dy dys →
      Produces l (PatternList c (y ∷ ys) tail d) (Of (APattern c ay y dy) ∷ Of (PatternItems c ys tail dys) ∷ [])
  next_pattern : (c : Context) (ay : Span) (y : Pattern) (dy : ℕ) (ys tail : List Pattern) (dys d : ℕ) → d ≡ max dy dys →
      Produces l (PatternItems c (y ∷ ys) tail d) (Mark k.Comma ∷ Of (APattern c ay y dy) ∷ Of (PatternItems c ys tail dys) ∷ [])
  pattern_tail : (c : Context) (ay : Span) (y : Pattern) (d : ℕ) →
      Produces l (PatternItems c [] (y ∷ []) d) (Mark k.Bar ∷ Of (APattern c ay y d) ∷ Mark k.RightBracket ∷ [])
  end_pattern_list : (c : Context) (d : ℕ) → d ≡ 0 →
      Produces l (PatternItems c [] [] d) (Mark k.RightBracket ∷ [])
  -- Bit patterns, behind `<<`
  no_pattern_bits : (c : Context) (d : ℕ) → d ≡ 1 →
      Produces l (PatternBits c [] d) (Mark k.RightBits ∷ [])
  pattern_bits : (c : Context) (sg : Segment) (ds : ℕ) (sgs : List Segment) (dss d : ℕ) → c.deep + 1 ≤ l.trees → d ≡ max ds dss + 1 →
      Produces l (PatternBits c (sg ∷ sgs) d) (Of (PatternSegment (inside (under c)) sg ds) ∷ Of (MorePatternSegments (inside (under c)) sgs dss) ∷ [])
  more_pattern_segments : (c : Context) (sg : Segment) (ds : ℕ) (sgs : List Segment) (dss d : ℕ) → d ≡ max ds dss →
      Produces l (MorePatternSegments c (sg ∷ sgs) d) (Mark k.Comma ∷ Of (PatternSegment c sg ds) ∷ Of (MorePatternSegments c sgs dss) ∷ [])
  end_pattern_segments : (c : Context) (d : ℕ) → d ≡ 0 →
      Produces l (MorePatternSegments c [] d) (Mark k.RightBits ∷ [])
  pattern_segment : (c : Context) (sg : Segment) (d : ℕ) (ay : Span) (y : Expr) (dy : ℕ) →
      Produces l (PatternSegment c sg d) (Of (PatternValue c ay y dy) ∷ Of (PatternSegmentRest c ay y dy sg d) ∷ [])
  value_variable : (c : Context) (at : Span) (e : Expr) (d : ℕ) (t : Word) → t.kind ≡ k.Variable → at ≡ t.at → e ≡ x.Var at t.chars → d ≡ 1 →
      Produces l (PatternValue c at e d) (The t ∷ [])
  value_wild : (c : Context) (at : Span) (e : Expr) (d : ℕ) → e ≡ x.Wild at → d ≡ 1 →
      Produces l (PatternValue c at e d) (At k.Underscore at ∷ [])
  value_integer : (c : Context) (at : Span) (e : Expr) (d : ℕ) (t : Word) → t.kind ≡ k.Integer → at ≡ t.at → e ≡ x.Int at (pos t.number) → d ≡ 1 →
      Produces l (PatternValue c at e d) (The t ∷ [])
  value_signed : (c : Context) (at : Span) (e : Expr) (d : ℕ) (t n : Word) (op : Prefix) → (t.kind ≡ k.Plus ⊎ t.kind ≡ k.Minus) → prefix_of t.kind ≡ Some op → at ≡ t.at → c.deep + 1 ≤ l.trees →
      n.kind ≡ k.Integer → e ≡ x.Unary at op (x.Int n.at (pos n.number) ∷ []) → d ≡ 2 →
      Produces l (PatternValue c at e d) (The t ∷ The n ∷ [])
  value_character : (c : Context) (at : Span) (e : Expr) (d : ℕ) (t : Word) → t.kind ≡ k.Character → at ≡ t.at → e ≡ x.Char at t.number → d ≡ 1 →
      Produces l (PatternValue c at e d) (The t ∷ [])
  value_string : (c : Context) (at : Span) (e : Expr) (d : ℕ) (t : Word) → t.kind ≡ k.Str → at ≡ t.at → e ≡ x.Str at t.chars → d ≡ 1 →
      Produces l (PatternValue c at e d) (The t ∷ [])
  pattern_sized : (c : Context) (at : Span) (y : Expr) (dy : ℕ) (sg : Segment) (d : ℕ) (z : Expr) (dz : ℕ) → d ≡ max dy dz →
      Produces l (PatternSegmentRest c at y dy sg d) (Mark k.Colon ∷ Of (PatternSize c z dz) ∷ Of (SegmentType at y (Some z) sg) ∷ [])
  pattern_unsized : (c : Context) (at : Span) (y : Expr) (dy : ℕ) (sg : Segment) (d : ℕ) → d ≡ dy →
      Produces l (PatternSegmentRest c at y dy sg d) (Of (SegmentType at y None sg) ∷ [])
  size_integer : (c : Context) (e : Expr) (d : ℕ) (t : Word) → t.kind ≡ k.Integer → e ≡ x.Int t.at (pos t.number) → d ≡ 1 →
      Produces l (PatternSize c e d) (The t ∷ [])
  size_variable : (c : Context) (e : Expr) (d : ℕ) (t : Word) → t.kind ≡ k.Variable → e ≡ x.Var t.at t.chars → d ≡ 1 →
      Produces l (PatternSize c e d) (The t ∷ [])
  size_paren : (c : Context) (e : Expr) (d : ℕ) (ay : Span) → c.open_ < l.brackets →
      Produces l (PatternSize c e d) (Mark k.LeftParen ∷ Of (Level 0 (inside c) ay e d) ∷ Mark k.RightParen ∷ [])
  -- Guards, up to `->`. Tests are joined by `,`, alternatives by `;`.
  unguarded : (c : Context) (g : Guard) (d : ℕ) → g ≡ record { alternatives = [] } → d ≡ 0 →
      Produces l (Guarded c g d) (Mark k.Arrow ∷ [])
  guarded : (c : Context) (g : Guard) (d : ℕ) (at : Span) (ts : List (List Expr)) → g ≡ record { alternatives = ts } →
      Produces l (Guarded c g d) (Mark k.When ∷ Of (Tests (in_mode InGuard c) at ts d) ∷ [])
  tests : (c : Context) (at : Span) (y : Expr) (dy : ℕ) (ys : List Expr) (more : List (List Expr)) (dm d : ℕ) → d ≡ max dy dm →
      Produces l (Tests c at ((y ∷ ys) ∷ more) d) (Of (Level 0 c at y dy) ∷ Of (MoreTests c ys more dm) ∷ [])
  next_test : (c : Context) (ay : Span) (y : Expr) (dy : ℕ) (ys : List Expr) (more : List (List Expr)) (dm d : ℕ) → d ≡ max dy dm →
      Produces l (MoreTests c (y ∷ ys) more d) (Mark k.Comma ∷ Of (Level 0 c ay y dy) ∷ Of (MoreTests c ys more dm) ∷ [])
  next_alternative : (c : Context) (ay : Span) (y : Expr) (dy : ℕ) (ys : List Expr) (more : List (List Expr)) (dm d : ℕ) → d ≡ max dy dm →
      Produces l (MoreTests c [] ((y ∷ ys) ∷ more) d) (Mark k.Semicolon ∷ Of (Level 0 c ay y dy) ∷ Of (MoreTests c ys more dm) ∷ [])
  end_tests : (c : Context) (d : ℕ) → d ≡ 0 →
      Produces l (MoreTests c [] [] d) (Mark k.Arrow ∷ [])
  -- Bodies. An `=` of an item, inside no brackets, is the item's own.
  body : (c : Context) (i : Item) (di : ℕ) (is : List Item) (dis d : ℕ) → d ≡ max di dis →
      Produces l (Body c (i ∷ is) d) (Of (AnItem c i di) ∷ Of (MoreItems c is dis) ∷ [])
  more_items : (c : Context) (i : Item) (di : ℕ) (is : List Item) (dis d : ℕ) → d ≡ max di dis →
      Produces l (MoreItems c (i ∷ is) d) (Mark k.Comma ∷ Of (AnItem c i di) ∷ Of (MoreItems c is dis) ∷ [])
  end_items : (c : Context) (d : ℕ) → d ≡ 0 →
      Produces l (MoreItems c [] d) []
  item_match : (c : Context) (ps : List Pattern) (value : Expr) (i : Item) (d : ℕ) (at : Span) (pt : Pattern) (dp di : ℕ) → i ≡ record { patterns = pt ∷ ps; value = value } → d ≡ max dp di →
      Produces l (AnItem c i d) (Of (Pat (in_mode InSize c) at pt dp) ∷ Mark k.Match ∷ Of (AnItem c (record { patterns = ps; value = value }) di) ∷ [])
  item_value : (c : Context) (i : Item) (d : ℕ) (at : Span) (y : Expr) → i ≡ record { patterns = []; value = y } →
      Produces l (AnItem c i d) (Of (Level 0 c at y d) ∷ [])
  -- Clauses of `case` and `receive`, and of `if`, up to `end`
  alts : (c : Context) (a : Alt) (da : ℕ) (as_ : List Alt) (das d : ℕ) → d ≡ max da das →
      Produces l (Alts c (a ∷ as_) d) (Of (AnAlt c a da) ∷ Of (MoreAlts c as_ das) ∷ [])
  more_alts : (c : Context) (a : Alt) (da : ℕ) (as_ : List Alt) (das d : ℕ) → d ≡ max da das →
      Produces l (MoreAlts c (a ∷ as_) d) (Mark k.Semicolon ∷ Of (AnAlt c a da) ∷ Of (MoreAlts c as_ das) ∷ [])
  end_alts : (c : Context) (d : ℕ) → d ≡ 0 →
      Produces l (MoreAlts c [] d) (Mark k.End ∷ [])
  alt : (c : Context) (a : Alt) (d : ℕ) (at : Span) (pt : Pattern) (dp : ℕ) (g : Guard) (dg : ℕ) (is : List Item) (di : ℕ) →
      a ≡ roll-Alt (record { at = at; pattern = pt; guard = g; body = is }) → d ≡ max dp (max dg di) →
      Produces l (AnAlt c a d) (Of (APattern (in_mode InSize c) at pt dp) ∷ Of (Guarded c g dg) ∷ Of (Body c is di) ∷ [])
  branches : (c : Context) (b : Branch) (db : ℕ) (bs : List Branch) (dbs d : ℕ) → d ≡ max db dbs →
      Produces l (Branches c (b ∷ bs) d) (Of (ABranch c b db) ∷ Of (MoreBranches c bs dbs) ∷ [])
  more_branches : (c : Context) (b : Branch) (db : ℕ) (bs : List Branch) (dbs d : ℕ) → d ≡ max db dbs →
      Produces l (MoreBranches c (b ∷ bs) d) (Mark k.Semicolon ∷ Of (ABranch c b db) ∷ Of (MoreBranches c bs dbs) ∷ [])
  end_branches : (c : Context) (d : ℕ) → d ≡ 0 →
      Produces l (MoreBranches c [] d) (Mark k.End ∷ [])
  branch : (c : Context) (b : Branch) (d : ℕ) (at : Span) (ts : List (List Expr)) (dt : ℕ) (is : List Item) (di : ℕ) →
      b ≡ roll-Branch (record { at = at; guard = record { alternatives = ts }; body = is }) → d ≡ max dt di →
      Produces l (ABranch c b d) (Of (Tests (in_mode InGuard c) at ts dt) ∷ Of (Body c is di) ∷ [])
  -- Forms. A form of a skipped attribute has no effect.
  no_forms : Produces l (Forms [] [] []) []
  head : (h : Head) (hs : List Head) (es : List Name) (fs : List Function) (at : Span) (t n : Word) → t.kind ≡ k.Atom → t.chars ≡ module_word → n.kind ≡ k.Atom →
      h ≡ record { at = at; name = n.number } →
      Produces l (Forms (h ∷ hs) es fs) (At k.Minus at ∷ The t ∷ Mark k.LeftParen ∷ The n ∷ Mark k.RightParen ∷ Mark k.FullStop ∷ Of (Forms hs es fs) ∷ [])
  export : (hs : List Head) (es ns more : List Name) (fs : List Function) (t : Word) → t.kind ≡ k.Atom → t.chars ≡ export_word → es ≡ ns ++ more →
      Produces l (Forms hs es fs) (Mark k.Minus ∷ The t ∷ Mark k.LeftParen ∷ Mark k.LeftBracket ∷ Of (Names ns) ∷ Mark k.RightParen ∷ Mark k.FullStop ∷ Of (Forms hs more fs) ∷ [])
  skipped : (hs : List Head) (es : List Name) (fs : List Function) (t : Word) → t.kind ≡ k.Atom → Contains skipped_words t.chars →
      Produces l (Forms hs es fs) (Mark k.Minus ∷ The t ∷ Of Skipped ∷ Of (Forms hs es fs) ∷ [])
  any_form : (hs : List Head) (es : List Name) (fs : List Function) (t : Word) → l.any_attribute ≡ true → t.kind ≡ k.Atom → (IsAttribute t.chars → ⊥) →
      Produces l (Forms hs es fs) (Mark k.Minus ∷ The t ∷ Of Skipped ∷ Of (Forms hs es fs) ∷ [])
  function : (hs : List Head) (es : List Name) (f : Function) (fs : List Function) (cl : Clause) (cls : List Clause) →
      f ≡ record { name = cl.name; arity = length cl.patterns; clauses = cl ∷ cls } →
      Produces l (Forms hs es (f ∷ fs)) (Of (AClause cl) ∷ Of (MoreClauses cls) ∷ Of (Forms hs es fs) ∷ [])
  end_skipped : Produces l Skipped (Mark k.FullStop ∷ [])
  skips : (t : Word) → t.kind ≢ k.FullStop →
      Produces l Skipped (The t ∷ Of Skipped ∷ [])
  no_names : Produces l (Names []) (Mark k.RightBracket ∷ [])
  names : (n : Name) (ns : List Name) →
      Produces l (Names (n ∷ ns)) (Of (AName n) ∷ Of (MoreNames ns) ∷ [])
  more_names : (n : Name) (ns : List Name) →
      Produces l (MoreNames (n ∷ ns)) (Mark k.Comma ∷ Of (AName n) ∷ Of (MoreNames ns) ∷ [])
  end_names : Produces l (MoreNames []) (Mark k.RightBracket ∷ [])
  name : (n : Name) (t i : Word) → t.kind ≡ k.Atom → i.kind ≡ k.Integer → n ≡ record { at = t.at; name = t.number; arity = pos i.number } →
      Produces l (AName n) (The t ∷ Mark k.Slash ∷ The i ∷ [])
  more_clauses : (cl : Clause) (cls : List Clause) →
      Produces l (MoreClauses (cl ∷ cls)) (Mark k.Semicolon ∷ Of (AClause cl) ∷ Of (MoreClauses cls) ∷ [])
  end_clauses : Produces l (MoreClauses []) (Mark k.FullStop ∷ [])
  clause : (cl : Clause) (t : Word) (ps : List Pattern) (dp : ℕ) (g : Guard) (dg : ℕ) (is : List Item) (di : ℕ) → t.kind ≡ k.Atom →
      cl ≡ record { at = t.at; name = t.number; patterns = ps; guard = g; body = is } →
      Produces l (AClause cl) (The t ∷ Mark k.LeftParen ∷ Of (Patterns k.RightParen (whole InSize 1) ps dp) ∷ Of (Guarded (whole InBody 0) g dg) ∷ Of (Body (whole InBody 0) is di) ∷ [])

-- These tokens spell the goals, one after another.
pub data Spells (l : Limits) : List Goal → List Word → Type 0 where
  ends : Spells l [] []
  takes : {kind : TokenKind} {gs : List Goal} {w : List Word} (t : Word) → t.kind ≡ kind → Spells l gs w → Spells l (Mark kind ∷ gs) (t ∷ w)
  begins : {kind : TokenKind} {at : Span} {gs : List Goal} {w : List Word} (t : Word) → t.kind ≡ kind → at ≡ t.at → Spells l gs w → Spells l (At kind at ∷ gs) (t ∷ w)
  this : {t : Word} {gs : List Goal} {w : List Word} → Spells l gs w → Spells l (The t ∷ gs) (t ∷ w)
  expands : {g : Part} {gs : List Goal} {w : List Word} (goals : List Goal) → Produces l g goals → Spells l (goals ++ gs) w → Spells l (Of g ∷ gs) w
