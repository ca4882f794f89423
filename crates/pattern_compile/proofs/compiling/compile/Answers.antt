use Rattle.std.proofs.Common.{List, map, ap, sym, subst, ◌∙◌}
use Rattle.pattern_compile.specs.Meaning.{wants, size_form, means, segments_of, TakeAlike}
use Rattle.pattern_compile.specs.Patterns.{given, target_in}
use Rattle.pattern_compile.specs.declared.operation.Operation.{Operation}
use Rattle.pattern_compile.proofs.Alike.{compiled_alike, targets_kept, sizes_kept}
use Rattle.pattern_compile.proofs.compiling.compile.Goals as goal

pub returns-clause-means : goal.returns-clause-means
returns-clause-means c = λ trees. subst (λ (ops : List Operation). TakeAlike (means trees ops) (segments_of trees c.args.segments.now)) (sym (c.of.ensures ∙ c.in_ok-ops.ensures)) (compiled_alike trees c.args.segments.now c.requires)

pub returns-clause-targets : goal.returns-clause-targets
returns-clause-targets c = ap (map wants) (c.of.ensures ∙ c.in_ok-ops.ensures) ∙ targets_kept target_in c.args.segments.now

pub returns-clause-sizes : goal.returns-clause-sizes
returns-clause-sizes c = ap (map (λ (op : Operation). given (size_form op))) (c.of.ensures ∙ c.in_ok-ops.ensures) ∙ sizes_kept target_in c.args.segments.now c.requires
