-- What the readers want, and the tokens with which it could go on.
use Rattle.std.specs.Prelude.{◌≡◌, ◌≢◌, ℕ, ◌+◌, max, Bool, true, false, IsTrue, nat_le, List, [], ◌∷◌, drop, Option, Some, None, ◌⊎◌}
use Rattle.erl_syntax.specs.Grammar.{Context, InBody, InSize, Goal, Mark, Of, Level, Tail, Operand, AfterAtom, Qualified, Exprs, MoreExprs}
use Rattle.erl_syntax.specs.Operators.{operator_of, level_of, prefix_of}
use Rattle.erl_syntax.specs.Names.{module_macro}
use Rattle.erl_syntax.specs.Word.{Word}
use Rattle.erl_syntax.specs.declared.span.Span.{Span}
use Rattle.erl_syntax.specs.declared.token.TokenKind.{TokenKind}
use Rattle.erl_syntax.specs.declared.token.TokenKind.TheVariants as k
use Rattle.erl_syntax.specs.declared.expr.Expr.{Expr}
use Rattle.erl_syntax.specs.declared.expr.Expr.TheVariants as x
use Rattle.erl_syntax.specs.declared.expr.Op.{Op}
use Rattle.erl_syntax.specs.declared.expr.Op.TheVariants as o
use Rattle.pattern_read.specs.declared.fault.Cause.{Cause}
use Rattle.pattern_read.specs.declared.fault.Cause.TheVariants.{Syntax, TooDeep}
use Rattle.pattern_read.specs.declared.placed.Placed.{Placed}
use Rattle.pattern_read.specs.Cursor.{Readable}

-- in a size of a pattern
abbrev pub in_size : ℕ → ℕ → Context
in_size deep brackets = record { mode = InSize; deep = deep; open_ = brackets }

-- an atom or `?MODULE` goes on with these, as a call
abbrev pub calls : TokenKind → Bool
calls k.LeftParen = true
calls k.Colon = true
calls _ = false

abbrev pub lengthens : ℕ → TokenKind → Option Op → Bool
lengthens n kind (Some op) = nat_le n (level_of op)
lengthens n kind None = calls kind

-- an expression of a level goes on with an operator of this level or one that binds more tightly, or as a call
abbrev pub extends : ℕ → TokenKind → Bool
extends n kind = lengthens n kind (operator_of kind)

-- an expression begins so
abbrev pub begins_expr : TokenKind → Bool
begins_expr k.Plus = true
begins_expr k.Minus = true
begins_expr k.Bnot = true
begins_expr k.Not = true
begins_expr k.Atom = true
begins_expr k.Question = true
begins_expr k.LeftBrace = true
begins_expr k.LeftBracket = true
begins_expr k.Case = true
begins_expr k.Receive = true
begins_expr k.If = true
begins_expr k.Variable = true
begins_expr k.Integer = true
begins_expr k.Character = true
begins_expr k.Str = true
begins_expr k.LeftBits = true
begins_expr k.LeftParen = true
begins_expr _ = false

-- an expression in a size begins so
abbrev pub begins_size : TokenKind → Bool
begins_size k.Plus = true
begins_size k.Minus = true
begins_size k.Bnot = true
begins_size k.Not = true
begins_size k.Atom = true
begins_size k.Question = true
begins_size k.Variable = true
begins_size k.Integer = true
begins_size k.Character = true
begins_size k.LeftParen = true
begins_size _ = false

abbrev pub level_in : ℕ → Context → Placed Expr → List Goal
level_in n c r = Of (Level n c r.at r.tree r.height) ∷ []

-- what stands at a level behind a first operand
abbrev pub tail_in : ℕ → Context → Placed Expr → Expr × ℕ → List Goal
tail_in n c y r = Of (Tail n c y.at y.tree y.height r.0 r.1) ∷ []

abbrev pub operand_in : Context → Placed Expr → List Goal
operand_in c r = Of (Operand c r.at r.tree r.height) ∷ []

-- what begins with an atom of that number, behind it
abbrev pub after_atom_in : Context → Span → ℕ → Expr × ℕ → List Goal
after_atom_in c at n r = Of (AfterAtom c at n r.0 r.1) ∷ []

-- what begins with a module's name, behind it
abbrev pub qualified_in : Context → Span → Expr → Expr × ℕ → List Goal
qualified_in c at y r = Of (Qualified c at y r.0 r.1) ∷ []

-- expressions up to a closing bracket
abbrev pub exprs_in : TokenKind → Context → List Expr × ℕ → List Goal
exprs_in close c r = Of (Exprs close c r.0 r.1) ∷ []

abbrev pub more_exprs_in : TokenKind → Context → List Expr × ℕ → List Goal
more_exprs_in close c r = Of (MoreExprs close c r.0 r.1) ∷ []

-- an operator between two parts
abbrev pub placed_binary : Placed Expr → Op → Placed Expr → Placed Expr
placed_binary left op right = record { at = left.at; tree = x.Binary left.at op (left.tree ∷ right.tree ∷ []); height = max left.height right.height + 1 }

abbrev pub mark_in : TokenKind → Unit {0} → List Goal
mark_in kind u = Mark kind ∷ []

-- ---- What stands at a place

-- a token of the kind stands there
pub record IsAt (ws : Readable) (at : ℕ) (kind : TokenKind) : Type 0 where
  pub word : Word
  pub is : drop at ws.words ≡ word ∷ drop (at + 1) ws.words
  pub kind_is : word.kind ≡ kind

-- the tokens begin with none of the kind
pub data NoMark (kind : TokenKind) : List Word → Type 0 where
  no_mark_end : NoMark kind []
  no_mark : (j : Word) (rest : List Word) → (j.kind ≡ kind → ⊥) → NoMark kind (j ∷ rest)

-- an atom of that number stands there
pub record AtomAt (ws : Readable) (at n : ℕ) : Type 0 where
  pub word : Word
  pub is : drop at ws.words ≡ word ∷ drop (at + 1) ws.words
  pub kind : word.kind ≡ k.Atom
  pub number : word.number ≡ n

-- the variable `MODULE` stands there
pub record ModuleAt (ws : Readable) (at : ℕ) : Type 0 where
  pub word : Word
  pub is : drop at ws.words ≡ word ∷ drop (at + 1) ws.words
  pub kind : word.kind ≡ k.Variable
  pub chars : word.chars ≡ module_macro

pub data NoModule : List Word → Type 0 where
  no_word : NoModule []
  no_module : (m : Word) (rest : List Word) → (m.kind ≡ k.Variable → m.chars ≡ module_macro → ⊥) → NoModule (m ∷ rest)

-- an operator of the level stands there
pub record OperatorAt (ws : Readable) (at n : ℕ) (op : Op) : Type 0 where
  pub word : Word
  pub is : drop at ws.words ≡ word ∷ drop (at + 1) ws.words
  pub operator : operator_of word.kind ≡ Some op
  pub level : level_of op ≡ n
  pub other : op ≢ o.Send

-- no operator of the level, or none that may stand here
pub record IsNoOperator (n : ℕ) (c : Context) (kind : TokenKind) : Type 0 where
  pub none : (op : Op) → operator_of kind ≡ Some op → level_of op ≡ n → (c.mode ≡ InBody ⊎ op ≢ o.Send) → ⊥

pub data NoneFollows (n : ℕ) (c : Context) : List Word → Type 0 where
  ended : NoneFollows n c []
  other : (j : Word) (rest : List Word) → IsNoOperator n c j.kind → NoneFollows n c (j ∷ rest)

abbrev pub NoneInSize : ℕ → List Word → Type 0
NoneInSize n words = (c : Context) → c.mode ≡ InSize → NoneFollows n c words

-- a bracket that closes, with which no expression begins and none goes on
pub record Closes (close : TokenKind) : Type 0 where
  pub begins : begins_expr close ≡ false
  pub extends : extends 0 close ≡ false
  pub comma : close ≢ k.Comma

-- no operand of a size begins so
pub record BeginsNoSize (j : Word) : Type 0 where
  pub prefix : prefix_of j.kind ≡ None
  pub atom : j.kind ≡ k.Atom → ⊥
  pub question : j.kind ≡ k.Question → ⊥
  pub variable : j.kind ≡ k.Variable → ⊥
  pub integer : j.kind ≡ k.Integer → ⊥
  pub character : j.kind ≡ k.Character → ⊥
  pub paren : j.kind ≡ k.LeftParen → ⊥

pub data NoSize : List Word → Type 0 where
  at_end : NoSize []
  at_other : (j : Word) (rest : List Word) → BeginsNoSize j → NoSize (j ∷ rest)

-- why no expression of a size stands where it would be too deep
pub data FirstCause : List Word → Cause → Type 0 where
  only_deeper : (j : Word) (rest : List Word) → IsTrue (begins_size j.kind) → FirstCause (j ∷ rest) TooDeep
  no_size : (rest : List Word) → NoSize rest → FirstCause rest Syntax
