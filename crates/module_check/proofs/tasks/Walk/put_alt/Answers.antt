use Rattle.std.proofs.Common.{◌∙◌, ap, List, ◌++◌}
use Rattle.std.proofs.lemmas.Result.{IfOk-weaker}
use Rattle.erl_syntax.specs.Bindings.{names}
use Rattle.module_check.specs.declared.scopes.Target.{Target}
use Rattle.module_check.specs.Nodes.{bounds_of}
use Rattle.module_check.specs.Unsafe.{alt_unsafe}
use Rattle.module_check.proofs.Alternatives.{means_smaller}
use Rattle.module_check.proofs.tasks.Walk.put_alt.Goals as goal

pub returns : goal.returns
returns c = IfOk-weaker c.join.result _ _ (λ n h. (
  h.0,
  λ s before m.
      let alt = c.args.alt.now in
      means_smaller _ _ c.args.joined n s before h.0.grown h.1.0 h.1.1.0 m (names (bounds_of c.deref.result.now)) (alt_unsafe alt)
      (ap (λ (zs : List Target). names (bounds_of zs)) c.deref.ensures.value ∙ c.in_ok-add_alt.ensures ∙ ap (λ (zs : List Target). names (bounds_of zs) ++ alt_unsafe alt) c.new-found.ensures.items) h.1.1.1,
)) c.join.ensures
