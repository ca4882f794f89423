use Rattle.std.proofs.Common.{◌≡◌, ◌≤◌, ℕ, List, false, map, drop, length}
use Rattle.term_value.specs.Match.{all_taken}
use Rattle.term_value.specs.Tree.{Bound}
use Rattle.pattern_compile.specs.Meaning.{means, wants}
use Rattle.pattern_compile.specs.Patterns.{TargetsFit, one_binds}
use Rattle.match_context.specs.Contexts.{left}
use Rattle.match_context.specs.Envs.{Agrees, AreThere, known}
use Rattle.match_context.proofs.matching.place_behind.Given as goal

abbrev pub invariant-loop-op : goal.invariant-loop-op
invariant-loop-op g l = record {
  is : (bs : List Bound) → Agrees (g.S.Store.shown l.store) (g.E.Env.held l.initial.env) bs
      → (found : List Bound) × (all_taken (g.E.Env.fixed l.initial.env).setting (means (g.E.Env.fixed l.initial.env).trees (drop l.op-index l.ops)) found (drop l.at (g.S.Store.shown l.store l.context.of))
      ≡ all_taken (g.E.Env.fixed l.initial.env).setting (means (g.E.Env.fixed l.initial.env).trees l.ops) bs (left (g.S.Store.shown l.store) l.context)) × Agrees (g.S.Store.shown l.store) (g.E.Env.held l.env) found;
  inside : l.at ≤ length (g.S.Store.shown l.store l.context.of);
  fits : TargetsFit (g.E.Env.fixed l.initial.env).variables (known (g.E.Env.held l.env)) (map wants (drop l.op-index l.ops));
  others : (x : ℕ) → one_binds (map wants l.ops) x ≡ false → g.E.Env.held l.env x ≡ g.E.Env.held l.initial.env x;
  there : AreThere (g.S.Store.has l.store) (g.E.Env.held l.env);
  kept : g.E.Env.fixed l.env ≡ g.E.Env.fixed l.initial.env;
}
