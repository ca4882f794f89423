-- What the size expressions of slots are (Erlang Reference Manual, "Expressions": Variables, Arithmetic Expressions).
use Rattle.std.specs.Prelude.{ℕ, negsuc, List, [], Option, Some, None, slice_get}
use Rattle.erl_syntax.specs.declared.expr.Prefix.TheVariants.{Minus}
use Rattle.term_value.specs.Setting.{Setting}
use Rattle.term_value.specs.Tree.{Prefixed, Table, Tree, Val, Var, All, end, and}
use Rattle.term_value.specs.Value.{VInt}
use Rattle.match_tests.specs.declared.slots.SizeRule.{SizeRule}
use Rattle.match_tests.specs.declared.slots.SizeRule.TheVariants.{Number, ValueOf, MinusOf}

-- no size names an atom, nor the process
abbrev pub slots_setting : Setting
slots_setting = record { names = λ atom. []; pid = 0 }

abbrev pub rule_tree : SizeRule → Tree
rule_tree (Number n) = Val (VInt n)
rule_tree (ValueOf x) = Var x
rule_tree (MinusOf x) = All (Table (Prefixed Minus)) (and (Var x) end)

-- a number that no expression has stands for -1, which is no size
abbrev pub rule_tree_or : Option SizeRule → Tree
rule_tree_or (Some rule) = rule_tree rule
rule_tree_or None = Val (VInt (negsuc 0))

abbrev pub rule_trees : List SizeRule → ℕ → Tree
rule_trees rules e = rule_tree_or (slice_get rules e)
