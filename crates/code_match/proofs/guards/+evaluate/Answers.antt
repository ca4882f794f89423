use Rattle.std.proofs.Common.{◌≡◌, ◌+◌, ◌++◌, ◌∷◌, [], List, Bool, drop, ap, sym, subst, ◌∙◌, rules}
use Rattle.bit_store.specs.Stores.{itself}
use Rattle.term_value.specs.Guards.{of_all, result_of, results_of, tabled}
use Rattle.term_value.specs.PutIn.{put_in, puts_in}
use Rattle.term_value.specs.Seen.{AreKnown}
use Rattle.term_value.specs.Terms.{row}
use Rattle.term_value.specs.Tree as t
use Rattle.term_value.specs.declared.term.Term.{Term}
use Rattle.code_tree.specs.PlainTerms.{IsShort, AnyAtom}
use Rattle.code_tree.specs.Reading.{form_of, tree_of, trees_of}
use Rattle.code_tree.specs.declared.tree.Tree.{Tree}
use Rattle.code_tree.proofs.Equations.{tree_of-All}
use Rattle.expr_eval.specs.Answers.{setting}
use Rattle.expr_eval.proofs.Evaluations.{evaluated}
use Rattle.code_match.specs.Binds.{bounds}
use Rattle.code_match.specs.Rows.{behind}
use Rattle.code_match.proofs.Evaluated.{value_more, all_given}
use Rattle.code_match.proofs.Prepended.{known_more}
use Rattle.code_match.proofs.guards.+evaluate.Goals as goal

pub result_of-returns-in-All-clause-is : goal.result_of-returns-in-All-clause-is
result_of-returns-in-All-clause-is g c =
    let s = setting c.args.caller.now.names.now c.args.caller.now.pid in
    let bs = bounds c.args.bindings.now in
    let due = results_of s (puts_in bs (trees_of c.items.result.now)) in
    evaluated itself c.tabled.result (of_all (tabled s (form_of c.in-All.form)) due) (result_of s (put_in bs (tree_of c.args.tree.now)))
    (ap (λ (us : List Tree). of_all (tabled s (form_of c.in-All.form)) (results_of s (puts_in bs (trees_of us)))) c.items.ensures
    ∙ ap (λ (q : t.Tree). result_of s (put_in bs q)) (sym (tree_of-All c.in-All.form c.in-All.parts))
    ∙ ap (λ (u : Tree). result_of s (put_in bs (tree_of u))) (sym c.in-All.is))
    (c.tabled.ensures.is due c.values_of.ensures.values c.values_of.ensures.stops)

pub values_of-loop-part-preserved : goal.values_of-loop-part-preserved
values_of-loop-part-preserved g c =
    let s = setting c.args.caller.now.names.now c.args.caller.now.pid in
    let bs = bounds c.args.bindings.now in
    let pushed : c.push.new.self.items ≡ c.loop-part.values.items ++ c.in-Ok.value ∷ [] = search rules in
    record {
      rest = ap (λ ts. behind ts (results_of s (puts_in bs (trees_of (drop (c.loop-part.part-index + 1) c.args.parts.now))))) pushed
          ∙ value_more s bs c.args.parts.now c.loop-part.part-index c.part-item.result c.loop-part-test.true c.part-item.is c.loop-part.values.items c.in-Ok.value
          (results_of s (puts_in bs (trees_of c.args.parts.now))) c.in-Ok.ensures.is c.loop-part.invariant.rest;
      over = subst (λ (ts : List (Term (List Bool))). AreKnown IsShort AnyAtom (row ts)) (sym pushed) (known_more c.loop-part.values.items c.in-Ok.value c.loop-part.invariant.over c.in-Ok.ensures.over);
    }

pub values_of-returns-clause-values : goal.values_of-returns-clause-values
values_of-returns-clause-values g c =
    let s = setting c.args.caller.now.names.now c.args.caller.now.pid in
    let bs = bounds c.args.bindings.now in
    all_given s bs c.args.parts.now c.loop-part.part-index c.loop-part.values.items (results_of s (puts_in bs (trees_of c.args.parts.now))) c.loop-part-test.false c.loop-part.invariant.rest
