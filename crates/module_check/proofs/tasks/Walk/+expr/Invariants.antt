use Rattle.std.proofs.Common.{List, [], ◌++◌, take, drop}
use Rattle.erl_syntax.specs.Scopes.{Scope, behind, past_items}
use Rattle.erl_syntax.specs.declared.expr.Expr.{Expr}
use Rattle.module_check.specs.Spots.{alt_in, branch_in, items_in, built_in_turn, expr_in}
use Rattle.module_check.specs.Tasks.{Means, left_behind, built_exprs}
use Rattle.module_check.specs.Unsafe.{alts_unsafe, branches_unsafe}
use Rattle.module_check.proofs.Tasked.{Far}
use Rattle.module_check.proofs.tasks.Walk.+expr.Given as goal

abbrev pub invariant-push_alts-loop-index : goal.invariant-push_alts-loop-index
invariant-push_alts-loop-index l = (s : Scope) → Means l.initial.self.nodes.items l.fn.facts s → Far l.initial.self l.self (alt_in s) [] (take l.index l.alts) (drop l.index l.alts) l.alts × Means l.self.nodes.items l.joined (left_behind (alts_unsafe (take l.index l.alts)) s)

abbrev pub invariant-push_branches-loop-index : goal.invariant-push_branches-loop-index
invariant-push_branches-loop-index l = (s : Scope) → Means l.initial.self.nodes.items l.fn.facts s → Far l.initial.self l.self (branch_in s) [] (take l.index l.branches) (drop l.index l.branches) l.branches × Means l.self.nodes.items l.joined (left_behind (branches_unsafe (take l.index l.branches)) s)

abbrev pub invariant-push_items-loop-item : goal.invariant-push_items-loop-item
invariant-push_items-loop-item l = (s : Scope) → Means l.initial.self.nodes.items l.fn.facts s → Far l.initial.self l.self (items_in s) [] (take l.item-index l.items) (drop l.item-index l.items) l.items × Means l.self.nodes.items l.after (past_items (take l.item-index l.items) s)

abbrev pub invariant-push_built-loop-index : goal.invariant-push_built-loop-index
invariant-push_built-loop-index l = (s : Scope) → Means l.initial.self.nodes.items l.fn.facts s → Far l.initial.self l.self (built_in_turn s) [] (take l.index l.segments) (drop l.index l.segments) l.segments × Means l.self.nodes.items l.after (behind (built_exprs (take l.index l.segments)) s)

abbrev pub invariant-push_exprs-loop-expr : goal.invariant-push_exprs-loop-expr
invariant-push_exprs-loop-expr l = (s : Scope) (front : List Expr) → Means l.initial.self.nodes.items l.fn.facts (behind front s) → Far l.initial.self l.self (expr_in s) front (take l.expr-index l.exprs) (drop l.expr-index l.exprs) l.exprs × Means l.self.nodes.items l.after (behind (front ++ take l.expr-index l.exprs) s)
