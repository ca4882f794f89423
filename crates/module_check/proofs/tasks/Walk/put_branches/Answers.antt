use Rattle.std.proofs.Common.{sym, ◌∙◌, ap, List, [], ◌++◌}
use Rattle.std.proofs.lemmas.Result.{IfOk-weaker}
use Rattle.erl_syntax.specs.Bindings.{names}
use Rattle.erl_syntax.specs.Scopes.{past_items}
use Rattle.module_check.specs.declared.scopes.Target.{Target}
use Rattle.module_check.specs.Nodes.{bounds_of}
use Rattle.module_check.specs.Unsafe.{items_bound, branches_unsafe}
use Rattle.module_check.proofs.Alternatives.{means_larger}
use Rattle.module_check.proofs.Tasked.{means_same, with_none}
use Rattle.module_check.proofs.tasks.Walk.put_branches.Goals as goal

pub returns : goal.returns
returns c = IfOk-weaker c.join.result _ _ (λ n h. (
  h.0,
  λ s m k.
      let is = c.args.items.now in
      let before = branches_unsafe c.args.before.now in
      means_larger _ _ c.args.joined n s before h.0.grown h.1.0 h.1.1.0 m c.args.after [] is (names (bounds_of c.deref.result.now))
      (ap (λ (zs : List Target). names (bounds_of zs)) c.deref.ensures.value ∙ c.in_ok-add_branches.ensures ∙ ap (λ ns. ns ++ before) (c.in_ok-add_bound.ensures ∙ ap (λ (zs : List Target). names (bounds_of zs) ++ items_bound is) c.new-found.ensures.items))
      (means_same _ _ _ _ (ap (λ z. past_items is z) (sym (with_none s))) k) h.1.1.1,
)) c.join.ensures
