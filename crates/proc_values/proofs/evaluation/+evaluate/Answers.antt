use Rattle.std.proofs.Common.{◌≡◌, ◌+◌, ◌++◌, ◌∷◌, [], List, drop, ap, sym, subst, ◌∙◌, arith, rules}
use Rattle.std.specs.declared.result.Result.TheVariants.{Err}
use Rattle.bit_store.specs.Stores.{AnyAtom}
use Rattle.term_value.specs.Guards.{of_all, result_of, results_of, tabled}
use Rattle.term_value.specs.PutIn.{put_in, puts_in}
use Rattle.term_value.specs.Seen.{AreKnown, meanings}
use Rattle.term_value.specs.Terms.{row}
use Rattle.term_value.specs.declared.term.Term.{Term}
use Rattle.code_tree.specs.declared.pattern.Pattern.TheViews.{sized-AndAlso, sized-OrElse}
use Rattle.code_tree.specs.Reading.{form_of, tree_of, trees_of}
use Rattle.expr_eval.specs.Answers.{setting}
use Rattle.expr_eval.proofs.Evaluations.{evaluated}
use Rattle.proc_values.specs.Rows.{behind}
use Rattle.proc_values.proofs.Evaluated.{all_given, all_is, and_is, or_is, fault_here, value_more}
use Rattle.proc_values.proofs.Known.{keeps_then, all_still_known, same_meanings, still_agrees, still_there}
use Rattle.proc_values.proofs.Prepended.{known_more}
use Rattle.proc_values.proofs.Quiet.{all_quiet, part_quiet}
use Rattle.proc_values.proofs.Tabled.{stopped_is}
use Rattle.proc_values.proofs.evaluation.+evaluate.Goals as goal

pub evaluated-evaluated-requires : goal.evaluated-evaluated-requires
evaluated-evaluated-requires g t c κs within = (grind (arith, sized-AndAlso, c.decreases, c.in-AndAlso.is, c.get-in-None.ensures), (within.0, (within.1.0, (within.1.1, still_there g.A.Access.shown g.A.Access.has c.args.access.now c.evaluated-answer.new.access c.evaluated-answer.ensures.keeps (g.V.Variables.held c.args.variables.now) c.requires.there))))

pub evaluated-evaluated-requires-in-None-decided : goal.evaluated-evaluated-requires-in-None-decided
evaluated-evaluated-requires-in-None-decided g t c κs within = (grind (arith, sized-OrElse, c.decreases, c.in-OrElse.is, c.get-in-None-decided.ensures), (within.0, (within.1.0, (within.1.1, still_there g.A.Access.shown g.A.Access.has c.args.access.now c.evaluated-answer-in-OrElse.new.access c.evaluated-answer-in-OrElse.ensures.keeps (g.V.Variables.held c.args.variables.now) c.requires.there))))

pub evaluated-returns-in-Ok-clause-is : goal.evaluated-returns-in-Ok-clause-is
evaluated-returns-in-Ok-clause-is g t c = λ bs a.
    let s = setting c.args.caller.now.names.now c.args.caller.now.pid in
    let form = c.in-All.form in
    evaluated (g.A.Access.shown c.tabled.new.access) c.tabled.result (tabled s (form_of form) (meanings (g.A.Access.shown c.values_of.new.access) (row c.in-Ok.values.items))) (result_of s (put_in bs (tree_of c.args.tree.now)))
    (ap (of_all (tabled s (form_of form))) (c.in-Ok.ensures.values bs a) ∙ all_is s bs c.args.tree.now form c.in-All.parts c.items.result.now c.in-All.is c.items.ensures) c.tabled.ensures.is

pub evaluated-returns-in-Ok-clause-quiet : goal.evaluated-returns-in-Ok-clause-quiet
evaluated-returns-in-Ok-clause-quiet g t c = λ m small.
    let quiet = all_quiet c.args.tree.now m c.in-All.form c.in-All.parts c.items.result.now c.in-All.is c.items.ensures in
    c.tabled.ensures.quiet quiet.0 ∙ c.in-Ok.ensures.quiet quiet.1 small

pub evaluated-returns-in-Err-clause-quiet : goal.evaluated-returns-in-Err-clause-quiet
evaluated-returns-in-Err-clause-quiet g t c = λ m small. c.in-Err.ensures.quiet (all_quiet c.args.tree.now m c.in-All.form c.in-All.parts c.items.result.now c.in-All.is c.items.ensures).1 small

pub evaluated-returns-in-Err-clause-is : goal.evaluated-returns-in-Err-clause-is
evaluated-returns-in-Err-clause-is g t c = λ bs a.
    let s = setting c.args.caller.now.names.now c.args.caller.now.pid in
    let shown = g.A.Access.shown c.values_of.new.access in
    let form = c.in-All.form in
    let due = results_of s (puts_in bs (trees_of c.items.result.now)) in
    evaluated shown (Err c.in-Err.fault) (of_all (tabled s (form_of form)) due) (result_of s (put_in bs (tree_of c.args.tree.now)))
    (all_is s bs c.args.tree.now form c.in-All.parts c.items.result.now c.in-All.is c.items.ensures) (stopped_is shown s form due c.in-Err.fault (c.in-Err.ensures.stops bs a))

pub evaluated-returns-in-None-clause-is : goal.evaluated-returns-in-None-clause-is
evaluated-returns-in-None-clause-is g t c = λ bs a.
    let s = setting c.args.caller.now.names.now c.args.caller.now.pid in
    let first = result_of s (put_in bs (tree_of c.get.result.now)) in
    let second = result_of s (put_in bs (tree_of c.get-in-None.result.now)) in
    let agrees = still_agrees g.A.Access.shown g.A.Access.has c.args.access.now c.evaluated-answer.new.access c.evaluated-answer.ensures.keeps (g.V.Variables.held c.args.variables.now) bs c.requires.there a in
    evaluated (g.A.Access.shown c.evaluated.new.access) c.evaluated.result second (result_of s (put_in bs (tree_of c.args.tree.now)))
    (sym (c.in-None.ensures.is first second (c.evaluated-answer.ensures.is bs a)) ∙ and_is s bs c.args.tree.now c.in-AndAlso.first c.in-AndAlso.second c.get.result.now c.get-in-None.result.now c.in-AndAlso.is c.get.ensures c.get-in-None.ensures)
    (c.evaluated.ensures.is bs agrees)

pub evaluated-returns-in-None-decided-clause-is : goal.evaluated-returns-in-None-decided-clause-is
evaluated-returns-in-None-decided-clause-is g t c = λ bs a.
    let s = setting c.args.caller.now.names.now c.args.caller.now.pid in
    let first = result_of s (put_in bs (tree_of c.get-in-OrElse.result.now)) in
    let second = result_of s (put_in bs (tree_of c.get-in-None-decided.result.now)) in
    let agrees = still_agrees g.A.Access.shown g.A.Access.has c.args.access.now c.evaluated-answer-in-OrElse.new.access c.evaluated-answer-in-OrElse.ensures.keeps (g.V.Variables.held c.args.variables.now) bs c.requires.there a in
    evaluated (g.A.Access.shown c.evaluated-in-None-decided.new.access) c.evaluated-in-None-decided.result second (result_of s (put_in bs (tree_of c.args.tree.now)))
    (sym (c.in-None-decided.ensures.is first second (c.evaluated-answer-in-OrElse.ensures.is bs a)) ∙ or_is s bs c.args.tree.now c.in-OrElse.first c.in-OrElse.second c.get-in-OrElse.result.now c.get-in-None-decided.result.now c.in-OrElse.is c.get-in-OrElse.ensures c.get-in-None-decided.ensures)
    (c.evaluated-in-None-decided.ensures.is bs agrees)

pub values_of-returns-in-Err-clause-stops : goal.values_of-returns-in-Err-clause-stops
values_of-returns-in-Err-clause-stops g t c = λ bs a.
    let s = setting c.args.caller.now.names.now c.args.caller.now.pid in
    let shown = g.A.Access.shown in
    let agrees = still_agrees shown g.A.Access.has c.args.access.now c.loop-part.access c.loop-part.invariant.keeps (g.V.Variables.held c.args.variables.now) bs c.requires.there a in
    fault_here s bs c.args.parts.now c.loop-part.part-index c.part-item.result c.loop-part-test.true c.part-item.is (results_of s (puts_in bs (trees_of c.args.parts.now))) (shown c.evaluated.new.access) c.in-Err.fault
    (meanings (shown c.loop-part.access) (row c.loop-part.values.items)) (c.in-Err.ensures.is bs agrees) (c.loop-part.invariant.rest bs a)

pub values_of-returns-in-Err-clause-quiet : goal.values_of-returns-in-Err-clause-quiet
values_of-returns-in-Err-clause-quiet g t c = λ m small.
    c.in-Err.ensures.quiet (part_quiet c.args.parts.now c.loop-part.part-index c.part-item.result c.loop-part-test.true c.part-item.is m) (omega (arith, small, c.loop-part.invariant.quiet m small))
    ∙ c.loop-part.invariant.quiet m small

pub values_of-returns-then-is_err-clause-quiet : goal.values_of-returns-then-is_err-clause-quiet
values_of-returns-then-is_err-clause-quiet g t c = λ m small.
    c.in-Ok.ensures.quiet (part_quiet c.args.parts.now c.loop-part.part-index c.part-item.result c.loop-part-test.true c.part-item.is m) (omega (arith, small, c.loop-part.invariant.quiet m small))
    ∙ c.loop-part.invariant.quiet m small

pub values_of-loop-part-preserved : goal.values_of-loop-part-preserved
values_of-loop-part-preserved g t c =
    let s = setting c.args.caller.now.names.now c.args.caller.now.pid in
    let shown = g.A.Access.shown in
    let has = g.A.Access.has in
    let held = g.V.Variables.held c.args.variables.now in
    let start = c.args.access.now in
    let old = c.loop-part.access in
    let new = c.evaluated.new.access in
    let values = c.loop-part.values.items in
    let value = c.in-Ok.value in
    let keeps = c.evaluated.ensures.keeps in
    let pushed : c.push.new.self.items ≡ values ++ value ∷ [] = search rules in
    record {
      keeps = keeps_then shown has start old new c.loop-part.invariant.keeps keeps;
      there = still_there shown has old new keeps held c.loop-part.invariant.there;
      quiet = λ m small.
          c.in-Ok.ensures.quiet (part_quiet c.args.parts.now c.loop-part.part-index c.part-item.result c.loop-part-test.true c.part-item.is m) (omega (arith, small, c.loop-part.invariant.quiet m small))
          ∙ c.loop-part.invariant.quiet m small;
      known = subst (λ (ts : List (Term g.row.R.Denot)). AreKnown (has new) AnyAtom (row ts)) (sym pushed)
          (known_more (has new) values value (all_still_known shown has AnyAtom old new keeps (row values) c.loop-part.invariant.known) c.in-Ok.ensures.known);
      rest = λ bs a.
          let agrees = still_agrees shown has start old c.loop-part.invariant.keeps held bs c.requires.there a in
          ap (λ (ts : List (Term g.row.R.Denot)). behind (meanings (shown new) (row ts)) (results_of s (puts_in bs (trees_of (drop (c.loop-part.part-index + 1) c.args.parts.now))))) pushed
          ∙ value_more s bs c.args.parts.now c.loop-part.part-index c.part-item.result c.loop-part-test.true c.part-item.is (results_of s (puts_in bs (trees_of c.args.parts.now))) (shown new) values value (meanings (shown old) (row values))
          (same_meanings shown has AnyAtom old new keeps (row values) c.loop-part.invariant.known) (c.in-Ok.ensures.is bs agrees) (c.loop-part.invariant.rest bs a);
    }

pub values_of-returns-clause-values : goal.values_of-returns-clause-values
values_of-returns-clause-values g t c = λ bs a.
    let s = setting c.args.caller.now.names.now c.args.caller.now.pid in
    all_given s bs c.args.parts.now c.loop-part.part-index (results_of s (puts_in bs (trees_of c.args.parts.now))) (meanings (g.A.Access.shown c.loop-part.access) (row c.loop-part.values.items)) c.loop-part-test.false (c.loop-part.invariant.rest bs a)
