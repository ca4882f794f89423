-- Truth values as atoms, what comparisons say of an order, and operators before integers (Erlang Reference Manual,
-- "Expressions": Term Comparisons, Arithmetic Expressions).
use Rattle.std.specs.Prelude.{ℕ, ℤ, neg_ℤ, Bool, true, false, not}
use Rattle.std.specs.declared.cmp.Ordering.{Ordering}
use Rattle.std.specs.Ordering.{is_eq, is_lt, is_gt, is_le, is_ge}
use Rattle.erl_syntax.specs.Atoms.{a_true, a_false}
use Rattle.erl_syntax.specs.declared.expr.Op.{Op}
use Rattle.erl_syntax.specs.declared.expr.Prefix.{Prefix}
use Rattle.erl_syntax.specs.declared.expr.Prefix.TheVariants.{Minus, Bnot}
use Rattle.term_value.specs.Arithmetic.{no_bits}
use Rattle.erl_syntax.specs.declared.expr.Op.TheVariants.{Eq, Ne, Le, Lt, Ge, Gt, Same, NotSame}

-- the number of the atom `true` or `false`
abbrev pub truth_number : Bool → ℕ
truth_number true = a_true
truth_number false = a_false

abbrev pub is_comparison : Op → Bool
is_comparison Eq = true
is_comparison Ne = true
is_comparison Same = true
is_comparison NotSame = true
is_comparison Lt = true
is_comparison Le = true
is_comparison Gt = true
is_comparison Ge = true
is_comparison op = false

-- whether the comparison holds of values in this order
abbrev pub holds_in : Op → Ordering → Bool
holds_in Eq order = is_eq order
holds_in Same order = is_eq order
holds_in Ne order = not (is_eq order)
holds_in NotSame order = not (is_eq order)
holds_in Lt order = is_lt order
holds_in Le order = is_le order
holds_in Gt order = is_gt order
holds_in Ge order = is_ge order
holds_in op order = false

-- the exact number that an operator before an integer gives
abbrev pub exact_of : Prefix → ℤ → ℤ
exact_of Minus n = neg_ℤ n
exact_of Bnot n = no_bits n
exact_of _ n = n
