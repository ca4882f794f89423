-- The reserved words and the marks (Reference Manual, "Expressions" and "Reserved Words").
use Rattle.std.specs.Prelude.{ℕ, Bool, ◌&&◌, ◌==◌, List, [], length, codes}
use Rattle.std.specs.List.{starts_with}
use Rattle.erl_syntax.specs.declared.token.TokenKind.{TokenKind}
use Rattle.erl_syntax.specs.declared.token.TokenKind.TheVariants as k

-- the characters of a reserved word or a mark
abbrev pub spelling : TokenKind → List ℕ
spelling k.After = codes "after"
spelling k.And = codes "and"
spelling k.AndAlso = codes "andalso"
spelling k.Band = codes "band"
spelling k.Begin = codes "begin"
spelling k.Bnot = codes "bnot"
spelling k.Bor = codes "bor"
spelling k.Bsl = codes "bsl"
spelling k.Bsr = codes "bsr"
spelling k.Bxor = codes "bxor"
spelling k.Case = codes "case"
spelling k.Catch = codes "catch"
spelling k.Cond = codes "cond"
spelling k.Div = codes "div"
spelling k.End = codes "end"
spelling k.Fun = codes "fun"
spelling k.If = codes "if"
spelling k.Let = codes "let"
spelling k.Not = codes "not"
spelling k.Of = codes "of"
spelling k.Or = codes "or"
spelling k.OrElse = codes "orelse"
spelling k.Receive = codes "receive"
spelling k.Rem = codes "rem"
spelling k.Try = codes "try"
spelling k.When = codes "when"
spelling k.Xor = codes "xor"
spelling k.TripleDot = codes "..."
spelling k.ExactlyEqual = codes "=:="
spelling k.ExactlyNotEqual = codes "=/="
spelling k.DoubleColon = codes "::"
spelling k.DoubleBar = codes "||"
spelling k.Arrow = codes "->"
spelling k.LeftArrow = codes "<-"
spelling k.DoubleLeftArrow = codes "<="
spelling k.LeftBits = codes "<<"
spelling k.RightBits = codes ">>"
spelling k.Equal = codes "=="
spelling k.NotEqual = codes "/="
spelling k.AtMost = codes "=<"
spelling k.AtLeast = codes ">="
spelling k.Becomes = codes ":="
spelling k.MapsTo = codes "=>"
spelling k.DoublePlus = codes "++"
spelling k.DoubleMinus = codes "--"
spelling k.DoubleDot = codes ".."
spelling k.LeftParen = codes "("
spelling k.RightParen = codes ")"
spelling k.LeftBracket = codes "["
spelling k.RightBracket = codes "]"
spelling k.LeftBrace = codes "{"
spelling k.RightBrace = codes "}"
spelling k.Comma = codes ","
spelling k.Semicolon = codes ";"
spelling k.Colon = codes ":"
spelling k.Bar = codes "|"
spelling k.Match = codes "="
spelling k.Less = codes "<"
spelling k.Greater = codes ">"
spelling k.Plus = codes "+"
spelling k.Minus = codes "-"
spelling k.Star = codes "*"
spelling k.Slash = codes "/"
spelling k.Bang = codes "!"
spelling k.Question = codes "?"
spelling k.Hash = codes "#"
spelling k.Atom = []
spelling k.Variable = []
spelling k.Underscore = []
spelling k.Integer = []
spelling k.Character = []
spelling k.Str = []
spelling k.FullStop = []

-- the text begins with the characters of the kind
abbrev pub begins_with : List ℕ → TokenKind → Bool
begins_with bs kind = starts_with (λ a b. a == b) bs (spelling kind)

-- the word is spelled so
abbrev pub is_spelled : List ℕ → TokenKind → Bool
is_spelled word kind = length word == length (spelling kind) && begins_with word kind
