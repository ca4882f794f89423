use Rattle.std.proofs.Common.{◌≡◌}
use Rattle.code_layout.proofs.segments.+target.Given as goal

abbrev pub invariant-first_target-loop-expr : goal.invariant-first_target-loop-expr
invariant-first_target-loop-expr l = l.expr-index ≡ 0
