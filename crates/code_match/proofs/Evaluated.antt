-- The values of all parts, one by one.
use Rattle.std.proofs.Common.{◌≡◌, ◌<◌, ◌≤◌, ◌+◌, ℕ, Bool, List, [], ◌∷◌, ◌++◌, length, drop, get_or, refl, ap, sym, ◌∙◌}
use Rattle.std.proofs.lemmas.List.{at_drop_more, drop_all}
use Rattle.bit_store.specs.Stores.{itself}
use Rattle.term_value.specs.Value.{none}
use Rattle.term_value.specs.Seen.{meanings}
use Rattle.term_value.specs.Terms.{row, value_of}
use Rattle.term_value.specs.Result.{Stop, Raise, Limit, Gives, Stops}
use Rattle.term_value.specs.Setting.{Setting}
use Rattle.term_value.specs.Tree.{Bound}
use Rattle.term_value.specs.PutIn.{put_in, puts_in, in_guard}
use Rattle.term_value.specs.Guards.{Results, AllGive, OneStops, value_before, result_of, results_of, verdict_of, all_hold, and_verdict, or_verdict, guard_holds}
use Rattle.term_value.specs.Guards as v
use Rattle.term_value.specs.declared.term.Term.{Term}
use Rattle.code_tree.specs.declared.tree.Tree.{Tree}
use Rattle.code_tree.specs.Reading.{tree_of, trees_of, guard_of}
use Rattle.std.specs.declared.result.Result.TheVariants.{Err}
use Rattle.expr_eval.specs.Answers.{IsEvaluated, reason_of}
use Rattle.expr_eval.specs.declared.reason.EvalFault.{EvalFault}
use Rattle.expr_eval.specs.declared.reason.EvalFault.TheVariants as f
use Rattle.code_match.specs.Rows.{behind, IsStop}

pub behind_more : (ts : List (Term (List Bool))) (t : Term (List Bool)) (rs : Results) → behind (ts ++ t ∷ []) rs ≡ behind ts (value_before (Gives (value_of itself t)) rs)
behind_more [] t rs = refl
behind_more (u ∷ ts) t rs = ap (value_before (Gives (value_of itself u))) (behind_more ts t rs)

pub behind_none : (ts : List (Term (List Bool))) → behind ts (AllGive none) ≡ AllGive (meanings itself (row ts))
behind_none [] = refl
behind_none (t ∷ ts) = ap (value_before (Gives (value_of itself t))) (behind_none ts)

pub behind_stop : (ts : List (Term (List Bool))) (stop : Stop) → behind ts (OneStops stop) ≡ OneStops stop
behind_stop [] stop = refl
behind_stop (t ∷ ts) stop = ap (value_before (Gives (value_of itself t))) (behind_stop ts stop)

-- behind the last part
pub all_given : (s : Setting) (bs : List Bound) (xs : List Tree) (i : ℕ) (ts : List (Term (List Bool))) (due : Results) → length xs ≤ i → behind ts (results_of s (puts_in bs (trees_of (drop i xs)))) ≡ due → AllGive (meanings itself (row ts)) ≡ due
all_given s bs xs i ts due l inv = sym (behind_none ts) ∙ ap (λ ys. behind ts (results_of s (puts_in bs (trees_of ys)))) (sym (drop_all i xs l)) ∙ inv

module _ (s : Setting) (bs : List Bound) (xs : List Tree) (i : ℕ) (p : Tree) (l : i < length xs) (here : p ≡ get_or xs i p) where
  pub one_more : (ts : List (Term (List Bool))) → behind ts (results_of s (puts_in bs (trees_of (drop i xs)))) ≡ behind ts (value_before (result_of s (put_in bs (tree_of p))) (results_of s (puts_in bs (trees_of (drop (i + 1) xs)))))
  one_more ts = at_drop_more (λ ys. behind ts (results_of s (puts_in bs (trees_of ys)))) xs i p l ∙ ap (λ q. behind ts (value_before (result_of s (put_in bs (tree_of q))) (results_of s (puts_in bs (trees_of (drop (i + 1) xs)))))) (sym here)

  pub value_more : (ts : List (Term (List Bool))) (t : Term (List Bool)) (due : Results) → Gives (value_of itself t) ≡ result_of s (put_in bs (tree_of p)) → behind ts (results_of s (puts_in bs (trees_of (drop i xs)))) ≡ due
      → behind (ts ++ t ∷ []) (results_of s (puts_in bs (trees_of (drop (i + 1) xs)))) ≡ due
  value_more ts t due e inv = behind_more ts t _ ∙ ap (λ r. behind ts (value_before r (results_of s (puts_in bs (trees_of (drop (i + 1) xs)))))) e ∙ sym (one_more ts) ∙ inv

  pub stop_here : (ts : List (Term (List Bool))) (stop : Stop) (due : Results) → Stops stop ≡ result_of s (put_in bs (tree_of p)) → behind ts (results_of s (puts_in bs (trees_of (drop i xs)))) ≡ due → OneStops stop ≡ due
  stop_here ts stop due e inv = sym (behind_stop ts stop) ∙ ap (λ r. behind ts (value_before r (results_of s (puts_in bs (trees_of (drop (i + 1) xs)))))) e ∙ sym (one_more ts) ∙ inv

  pub fault_here : (ts : List (Term (List Bool))) (fault : EvalFault (List Bool)) (due : Results) → IsEvaluated itself (Err fault) (result_of s (put_in bs (tree_of p))) → behind ts (results_of s (puts_in bs (trees_of (drop i xs)))) ≡ due → IsStop fault due
  fault_here ts (f.Raised reason) due e inv = stop_here ts (Raise (reason_of itself reason)) due e inv
  fault_here ts f.Limit due e inv = stop_here ts Limit due e inv
  fault_here ts f.NoMemory due e inv = tt

  -- the next test of an alternative
  pub next_test : all_hold s (puts_in bs (trees_of (drop i xs))) ≡ and_verdict (verdict_of (result_of s (put_in bs (tree_of p)))) (all_hold s (puts_in bs (trees_of (drop (i + 1) xs))))
  next_test = at_drop_more (λ ys. all_hold s (puts_in bs (trees_of ys))) xs i p l ∙ ap (λ q. and_verdict (verdict_of (result_of s (put_in bs (tree_of q)))) (all_hold s (puts_in bs (trees_of (drop (i + 1) xs))))) (sym here)

  pub test_is : (verdict due : v.Verdict) → verdict ≡ verdict_of (result_of s (put_in bs (tree_of p))) → all_hold s (puts_in bs (trees_of (drop i xs))) ≡ due → and_verdict verdict (all_hold s (puts_in bs (trees_of (drop (i + 1) xs)))) ≡ due
  test_is verdict due e inv = ap (λ w. and_verdict w (all_hold s (puts_in bs (trees_of (drop (i + 1) xs))))) e ∙ sym next_test ∙ inv

module _ (s : Setting) (bs : List Bound) (xs : List (List Tree)) (i : ℕ) (p : List Tree) (l : i < length xs) (here : p ≡ get_or xs i p) where
  -- the next alternative of a guard
  pub next_tests : guard_holds s (in_guard bs (guard_of (drop i xs))) ≡ or_verdict (all_hold s (puts_in bs (trees_of p))) (guard_holds s (in_guard bs (guard_of (drop (i + 1) xs))))
  next_tests = at_drop_more (λ ys. guard_holds s (in_guard bs (guard_of ys))) xs i p l ∙ ap (λ q. or_verdict (all_hold s (puts_in bs (trees_of q))) (guard_holds s (in_guard bs (guard_of (drop (i + 1) xs))))) (sym here)

  pub tests_are : (verdict due : v.Verdict) → verdict ≡ all_hold s (puts_in bs (trees_of p)) → guard_holds s (in_guard bs (guard_of (drop i xs))) ≡ due → or_verdict verdict (guard_holds s (in_guard bs (guard_of (drop (i + 1) xs)))) ≡ due
  tests_are verdict due e inv = ap (λ w. or_verdict w (guard_holds s (in_guard bs (guard_of (drop (i + 1) xs))))) e ∙ sym next_tests ∙ inv
