-- The operators (Erlang Reference Manual, "Expressions").
use Rattle.std.specs.Prelude.{ℕ, Option, Some, None}
use Rattle.erl_syntax.specs.declared.token.TokenKind.{TokenKind}
use Rattle.erl_syntax.specs.declared.token.TokenKind.TheVariants as k
use Rattle.erl_syntax.specs.declared.expr.Op.{Op}
use Rattle.erl_syntax.specs.declared.expr.Op.TheVariants as o
use Rattle.erl_syntax.specs.declared.expr.Prefix.{Prefix}
use Rattle.erl_syntax.specs.declared.expr.Prefix.TheVariants as p

-- the operator that a token is between two expressions
abbrev pub operator_of : TokenKind → Option Op
operator_of k.Star = Some o.Mul
operator_of k.Div = Some o.Div
operator_of k.Rem = Some o.Rem
operator_of k.Band = Some o.Band
operator_of k.Plus = Some o.Add
operator_of k.Minus = Some o.Sub
operator_of k.Bor = Some o.Bor
operator_of k.Bxor = Some o.Bxor
operator_of k.Bsl = Some o.Bsl
operator_of k.Bsr = Some o.Bsr
operator_of k.Equal = Some o.Eq
operator_of k.NotEqual = Some o.Ne
operator_of k.AtMost = Some o.Le
operator_of k.Less = Some o.Lt
operator_of k.AtLeast = Some o.Ge
operator_of k.Greater = Some o.Gt
operator_of k.ExactlyEqual = Some o.Same
operator_of k.ExactlyNotEqual = Some o.NotSame
operator_of k.AndAlso = Some o.AndAlso
operator_of k.OrElse = Some o.OrElse
operator_of k.Bang = Some o.Send
operator_of _ = None

-- how tightly an operator binds, from 0 for `!` to 5
abbrev pub level_of : Op → ℕ
level_of o.Send = 0
level_of o.OrElse = 1
level_of o.AndAlso = 2
level_of o.Eq = 3
level_of o.Ne = 3
level_of o.Le = 3
level_of o.Lt = 3
level_of o.Ge = 3
level_of o.Gt = 3
level_of o.Same = 3
level_of o.NotSame = 3
level_of o.Add = 4
level_of o.Sub = 4
level_of o.Bor = 4
level_of o.Bxor = 4
level_of o.Bsl = 4
level_of o.Bsr = 4
level_of o.Mul = 5
level_of o.Div = 5
level_of o.Rem = 5
level_of o.Band = 5

-- the operator that a token is before an expression
abbrev pub prefix_of : TokenKind → Option Prefix
prefix_of k.Plus = Some p.Plus
prefix_of k.Minus = Some p.Minus
prefix_of k.Bnot = Some p.Bnot
prefix_of k.Not = Some p.Not
prefix_of _ = None
