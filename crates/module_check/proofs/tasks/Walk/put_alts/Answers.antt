use Rattle.std.proofs.Common.{◌∙◌, ap, List, ◌++◌}
use Rattle.std.proofs.lemmas.Result.{IfOk-weaker}
use Rattle.erl_syntax.specs.Bindings.{names, targets}
use Rattle.erl_syntax.specs.declared.clause.Alt.{out-Alt}
use Rattle.module_check.specs.declared.scopes.Target.{Target}
use Rattle.module_check.specs.Nodes.{bounds_of}
use Rattle.module_check.specs.Unsafe.{alt_bound, alts_unsafe}
use Rattle.module_check.proofs.Alternatives.{means_larger}
use Rattle.module_check.proofs.tasks.Walk.put_alts.Goals as goal

pub returns : goal.returns
returns c = IfOk-weaker c.join.result _ _ (λ n h. (
  h.0,
  λ s m k.
      let a = out-Alt c.args.alt.now in
      let before = alts_unsafe c.args.before.now in
      means_larger _ _ c.args.joined n s before h.0.grown h.1.0 h.1.1.0 m c.args.after (targets a.pattern) a.body (names (bounds_of c.deref.result.now))
      (ap (λ (zs : List Target). names (bounds_of zs)) c.deref.ensures.value ∙ c.in_ok-add_alts.ensures ∙ ap (λ ns. ns ++ before) (c.in_ok-add_alt_bound.ensures ∙ ap (λ (zs : List Target). names (bounds_of zs) ++ alt_bound c.args.alt.now) c.new-found.ensures.items)) k h.1.1.1,
)) c.join.ensures
