-- The values of all parts, one by one.
use Rattle.std.proofs.Common.{◌≡◌, ◌<◌, ◌≤◌, ◌+◌, ℕ, Bool, true, false, List, [], ◌∷◌, ◌++◌, length, drop, get_or, refl, ap, sym, ◌∙◌}
use Rattle.std.proofs.lemmas.List.{at_drop_more, drop_all}
use Rattle.term_value.specs.Value.{Values, none, more}
use Rattle.term_value.specs.Seen.{meanings}
use Rattle.term_value.specs.Terms.{row, value_of}
use Rattle.term_value.specs.Result.{Stop, Raise, Limit, Gives, Stops}
use Rattle.term_value.specs.Setting.{Setting}
use Rattle.term_value.specs.Tree.{Bound}
use Rattle.term_value.specs.Tree as t
use Rattle.term_value.specs.PutIn.{put_in, puts_in, in_guard}
use Rattle.term_value.specs.Guards.{Results, AllGive, OneStops, value_before, of_all, second_of, tabled, result_of, results_of, verdict_of, all_hold, and_verdict, or_verdict, guard_holds}
use Rattle.term_value.specs.Guards as v
use Rattle.term_value.specs.declared.term.Term.{Term}
use Rattle.code_tree.specs.declared.tree.Tree.{Tree}
use Rattle.code_tree.specs.declared.form.Form.{Form}
use Rattle.code_tree.specs.declared.tree.Tree.TheVariants as u
use Rattle.code_tree.specs.Reading.{form_of, tree_of, trees_of, guard_of}
use Rattle.code_tree.proofs.Equations.{tree_of-All, tree_of-AndAlso, tree_of-OrElse}
use Rattle.std.specs.declared.result.Result.TheVariants.{Err}
use Rattle.expr_eval.specs.Answers.{IsEvaluated, reason_of}
use Rattle.expr_eval.specs.declared.reason.EvalFault.{EvalFault}
use Rattle.expr_eval.specs.declared.reason.EvalFault.TheVariants as f
use Rattle.proc_values.specs.Rows.{behind, IsStop}

behind_none : (vs : Values) → behind vs (AllGive none) ≡ AllGive vs
behind_none none = refl
behind_none (more v vs) = ap (value_before (Gives v)) (behind_none vs)

behind_stop : (vs : Values) (stop : Stop) → behind vs (OneStops stop) ≡ OneStops stop
behind_stop none stop = refl
behind_stop (more v vs) stop = ap (value_before (Gives v)) (behind_stop vs stop)

behind_more : {R : Type 0} (shown : R → List Bool) (ts : List (Term R)) (t : Term R) (rs : Results) → behind (meanings shown (row (ts ++ t ∷ []))) rs ≡ behind (meanings shown (row ts)) (value_before (Gives (value_of shown t)) rs)
behind_more shown [] t rs = refl
behind_more shown (u ∷ ts) t rs = ap (value_before (Gives (value_of shown u))) (behind_more shown ts t rs)

-- behind the last part
pub all_given : (s : Setting) (bs : List Bound) (xs : List Tree) (i : ℕ) (due : Results) (vs : Values) → length xs ≤ i → behind vs (results_of s (puts_in bs (trees_of (drop i xs)))) ≡ due → AllGive vs ≡ due
all_given s bs xs i due vs l inv = sym (behind_none vs) ∙ ap (λ ys. behind vs (results_of s (puts_in bs (trees_of ys)))) (sym (drop_all i xs l)) ∙ inv

module _ (s : Setting) (bs : List Bound) (xs : List Tree) (i : ℕ) (p : Tree) (l : i < length xs) (here : p ≡ get_or xs i p) where
  next : (vs : Values) → behind vs (results_of s (puts_in bs (trees_of (drop i xs)))) ≡ behind vs (value_before (result_of s (put_in bs (tree_of p))) (results_of s (puts_in bs (trees_of (drop (i + 1) xs)))))
  next vs = at_drop_more (λ ys. behind vs (results_of s (puts_in bs (trees_of ys)))) xs i p l ∙ ap (λ q. behind vs (value_before (result_of s (put_in bs (tree_of q))) (results_of s (puts_in bs (trees_of (drop (i + 1) xs)))))) (sym here)

  module _ (due : Results) where
    -- The part gave a value. The values of those before it are what they were, where the store keeps what it had.
    pub value_more : {R : Type 0} (shown : R → List Bool) (ts : List (Term R)) (t : Term R) (vs : Values) → meanings shown (row ts) ≡ vs → Gives (value_of shown t) ≡ result_of s (put_in bs (tree_of p)) → behind vs (results_of s (puts_in bs (trees_of (drop i xs)))) ≡ due
        → behind (meanings shown (row (ts ++ t ∷ []))) (results_of s (puts_in bs (trees_of (drop (i + 1) xs)))) ≡ due
    value_more shown ts t vs same e inv =
        behind_more shown ts t _ ∙ ap (λ r. behind (meanings shown (row ts)) (value_before r (results_of s (puts_in bs (trees_of (drop (i + 1) xs)))))) e ∙ sym (next (meanings shown (row ts)))
        ∙ ap (λ ws. behind ws (results_of s (puts_in bs (trees_of (drop i xs))))) same ∙ inv

    stop_here : (vs : Values) (stop : Stop) → Stops stop ≡ result_of s (put_in bs (tree_of p)) → behind vs (results_of s (puts_in bs (trees_of (drop i xs)))) ≡ due → OneStops stop ≡ due
    stop_here vs stop e inv = sym (behind_stop vs stop) ∙ ap (λ r. behind vs (value_before r (results_of s (puts_in bs (trees_of (drop (i + 1) xs)))))) e ∙ sym (next vs) ∙ inv

    pub fault_here : {R : Type 0} (shown : R → List Bool) (fault : EvalFault R) (vs : Values) → IsEvaluated shown (Err fault) (result_of s (put_in bs (tree_of p))) → behind vs (results_of s (puts_in bs (trees_of (drop i xs)))) ≡ due → IsStop shown fault due
    fault_here shown (f.Raised reason) vs e inv = stop_here vs (Raise (reason_of shown reason)) e inv
    fault_here shown f.Limit vs e inv = stop_here vs Limit e inv
    fault_here shown f.NoMemory vs e inv = tt

  -- the next test of an alternative
  next_test : all_hold s (puts_in bs (trees_of (drop i xs))) ≡ and_verdict (verdict_of (result_of s (put_in bs (tree_of p)))) (all_hold s (puts_in bs (trees_of (drop (i + 1) xs))))
  next_test = at_drop_more (λ ys. all_hold s (puts_in bs (trees_of ys))) xs i p l ∙ ap (λ q. and_verdict (verdict_of (result_of s (put_in bs (tree_of q)))) (all_hold s (puts_in bs (trees_of (drop (i + 1) xs))))) (sym here)

  pub test_is : (verdict due : v.Verdict) → verdict ≡ verdict_of (result_of s (put_in bs (tree_of p))) → all_hold s (puts_in bs (trees_of (drop i xs))) ≡ due → and_verdict verdict (all_hold s (puts_in bs (trees_of (drop (i + 1) xs)))) ≡ due
  test_is verdict due e inv = ap (λ w. and_verdict w (all_hold s (puts_in bs (trees_of (drop (i + 1) xs))))) e ∙ sym next_test ∙ inv

module _ (s : Setting) (bs : List Bound) (xs : List (List Tree)) (i : ℕ) (p : List Tree) (l : i < length xs) (here : p ≡ get_or xs i p) where
  -- the next alternative of a guard
  next_tests : guard_holds s (in_guard bs (guard_of (drop i xs))) ≡ or_verdict (all_hold s (puts_in bs (trees_of p))) (guard_holds s (in_guard bs (guard_of (drop (i + 1) xs))))
  next_tests = at_drop_more (λ ys. guard_holds s (in_guard bs (guard_of ys))) xs i p l ∙ ap (λ q. or_verdict (all_hold s (puts_in bs (trees_of q))) (guard_holds s (in_guard bs (guard_of (drop (i + 1) xs))))) (sym here)

  pub tests_are : (verdict due : v.Verdict) → verdict ≡ all_hold s (puts_in bs (trees_of p)) → guard_holds s (in_guard bs (guard_of (drop i xs))) ≡ due → or_verdict verdict (guard_holds s (in_guard bs (guard_of (drop (i + 1) xs)))) ≡ due
  tests_are verdict due e inv = ap (λ w. or_verdict w (guard_holds s (in_guard bs (guard_of (drop (i + 1) xs))))) e ∙ sym next_tests ∙ inv

-- what a form of an expression comes to, by its parts
module _ (s : Setting) (bs : List Bound) (tree : Tree) where
  pub all_is : (form : Form) (parts items : List Tree) → tree ≡ u.All form parts → items ≡ parts → of_all (tabled s (form_of form)) (results_of s (puts_in bs (trees_of items))) ≡ result_of s (put_in bs (tree_of tree))
  all_is form parts items e same =
      ap (λ (ts : List Tree). of_all (tabled s (form_of form)) (results_of s (puts_in bs (trees_of ts)))) same ∙ ap (λ (q : t.Tree). result_of s (put_in bs q)) (sym (tree_of-All form parts))
      ∙ ap (λ (v : Tree). result_of s (put_in bs (tree_of v))) (sym e)

  pub and_is : (one two first second : Tree) → tree ≡ u.AndAlso one two → first ≡ one → second ≡ two
      → second_of true (result_of s (put_in bs (tree_of second))) (result_of s (put_in bs (tree_of first))) ≡ result_of s (put_in bs (tree_of tree))
  and_is one two first second e f g =
      ap (λ (v : Tree). second_of true (result_of s (put_in bs (tree_of v))) (result_of s (put_in bs (tree_of first)))) g ∙ ap (λ (v : Tree). second_of true (result_of s (put_in bs (tree_of two))) (result_of s (put_in bs (tree_of v)))) f
      ∙ ap (λ (q : t.Tree). result_of s (put_in bs q)) (sym (tree_of-AndAlso one two)) ∙ ap (λ (v : Tree). result_of s (put_in bs (tree_of v))) (sym e)

  pub or_is : (one two first second : Tree) → tree ≡ u.OrElse one two → first ≡ one → second ≡ two
      → second_of false (result_of s (put_in bs (tree_of second))) (result_of s (put_in bs (tree_of first))) ≡ result_of s (put_in bs (tree_of tree))
  or_is one two first second e f g =
      ap (λ (v : Tree). second_of false (result_of s (put_in bs (tree_of v))) (result_of s (put_in bs (tree_of first)))) g ∙ ap (λ (v : Tree). second_of false (result_of s (put_in bs (tree_of two))) (result_of s (put_in bs (tree_of v)))) f
      ∙ ap (λ (q : t.Tree). result_of s (put_in bs q)) (sym (tree_of-OrElse one two)) ∙ ap (λ (v : Tree). result_of s (put_in bs (tree_of v))) (sym e)
