use Rattle.std.proofs.Common.{◌∙◌, List, [], ◌∷◌, ◌++◌, ap}
use Rattle.std.proofs.lemmas.Result.{IfOk-weaker}
use Rattle.erl_syntax.specs.Bindings.{vars_of, segment_targets}
use Rattle.module_check.specs.declared.scopes.Target.{Target}
use Rattle.module_check.specs.Nodes.{bounds_of}
use Rattle.module_check.specs.Tasks.{passed}
use Rattle.module_check.proofs.Left.{own_value}
use Rattle.module_check.proofs.Passing.{passes_front, segments_more}
use Rattle.module_check.proofs.tasks.Walk.pass_segment.Goals as goal

pub returns-clause-adds : goal.returns-clause-adds
returns-clause-adds c = c.pass_targets.ensures.adds

pub returns-clause-means : goal.returns-clause-means
returns-clause-means c = IfOk-weaker c.pass_targets.result _ _ (λ a h s front m.
    let own = (vars_of c.args.segment.now.value).own in
    passes_front _ _ (λ zs. passed zs s) (segment_targets front ++ bounds_of c.deref.result.now) (segment_targets (front ++ c.args.segment.now ∷ []))
    (ap (λ zs. segment_targets front ++ zs) (ap (λ (zs : List Target). bounds_of zs) c.deref.ensures.value ∙ c.in_ok-add_segment_target.ensures ∙ ap (λ (zs : List Target). bounds_of zs ++ own) c.new-found.ensures.items ∙ own_value c.args.segment.now) ∙ segments_more front c.args.segment.now)
    (h s (segment_targets front) m)) c.pass_targets.ensures.means
