use Rattle.std.proofs.Common.{◌≡◌, ℕ, cond, None, map, drop}
use Rattle.pattern_compile.specs.Meaning.{wants}
use Rattle.pattern_compile.specs.Patterns.{one_binds}
use Rattle.match_context.proofs.matching.unbind_all.Given as goal

abbrev pub invariant-loop-op : goal.invariant-loop-op
invariant-loop-op g l = record {
  unbound : (x : ℕ) → cond (one_binds (map wants (drop l.op-index l.ops)) x) None (g.E.Env.held l.env x) ≡ cond (one_binds (map wants l.ops) x) None (g.E.Env.held l.initial.env x);
  kept : g.E.Env.fixed l.env ≡ g.E.Env.fixed l.initial.env;
}
