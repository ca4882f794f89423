-- The parts of what makes no bitstring make none.
use Rattle.std.proofs.Common.{◌≡◌, ◌<◌, ℕ, zero, suc, List, [], ◌∷◌, length, get_or, ap, sym, subst, arith, ◌∙◌}
use Rattle.term_value.specs.Tree as t
use Rattle.code_tree.specs.declared.form.Form.{Form}
use Rattle.code_tree.specs.declared.tree.Tree.{Tree}
use Rattle.code_tree.specs.declared.tree.Tree.TheVariants as u
use Rattle.code_tree.specs.Reading.{form_of, tree_of, trees_of, guard_of}
use Rattle.code_tree.proofs.Equations.{tree_of-All, tree_of-AndAlso, tree_of-OrElse}
use Rattle.proc_values.specs.MadeBits.{FormMakesNoBits, MakesNoBits, MakeNoBits, GuardMakesNoBits}

-- one of the parts
pub part_quiet : (xs : List Tree) (i : ℕ) (p : Tree) → i < length xs → p ≡ get_or xs i p → MakeNoBits (trees_of xs) → MakesNoBits (tree_of p)
part_quiet [] i p l e m = absurd (omega arith)
part_quiet (x ∷ xs) zero p l e m = subst (λ (y : Tree). MakesNoBits (tree_of y)) (sym e) m.0
part_quiet (x ∷ xs) (suc i) p l e m = part_quiet xs i p (omega (arith, l)) e m.1

-- one of the alternatives
pub tests_quiet : (xs : List (List Tree)) (i : ℕ) (p : List Tree) → i < length xs → p ≡ get_or xs i p → GuardMakesNoBits (guard_of xs) → MakeNoBits (trees_of p)
tests_quiet [] i p l e m = absurd (omega arith)
tests_quiet (x ∷ xs) zero p l e m = subst (λ (ys : List Tree). MakeNoBits (trees_of ys)) (sym e) m.0
tests_quiet (x ∷ xs) (suc i) p l e m = tests_quiet xs i p (omega (arith, l)) e m.1

module _ (tree : Tree) (m : MakesNoBits (tree_of tree)) where
  pub all_quiet : (form : Form) (parts items : List Tree) → tree ≡ u.All form parts → items ≡ parts → FormMakesNoBits (form_of form) × MakeNoBits (trees_of items)
  all_quiet form parts items e same =
      let here : MakesNoBits (t.All (form_of form) (trees_of parts)) = subst MakesNoBits (ap tree_of e ∙ tree_of-All form parts) m in
      (here.0, subst (λ (ts : List Tree). MakeNoBits (trees_of ts)) (sym same) here.1)

  pub and_quiet : (one two first second : Tree) → tree ≡ u.AndAlso one two → first ≡ one → second ≡ two → MakesNoBits (tree_of first) × MakesNoBits (tree_of second)
  and_quiet one two first second e f g =
      let here : MakesNoBits (t.First (tree_of one) (t.AndAlso (tree_of two))) = subst MakesNoBits (ap tree_of e ∙ tree_of-AndAlso one two) m in
      (subst (λ (v : Tree). MakesNoBits (tree_of v)) (sym f) here.0, subst (λ (v : Tree). MakesNoBits (tree_of v)) (sym g) here.1)

  pub or_quiet : (one two first second : Tree) → tree ≡ u.OrElse one two → first ≡ one → second ≡ two → MakesNoBits (tree_of first) × MakesNoBits (tree_of second)
  or_quiet one two first second e f g =
      let here : MakesNoBits (t.First (tree_of one) (t.OrElse (tree_of two))) = subst MakesNoBits (ap tree_of e ∙ tree_of-OrElse one two) m in
      (subst (λ (v : Tree). MakesNoBits (tree_of v)) (sym f) here.0, subst (λ (v : Tree). MakesNoBits (tree_of v)) (sym g) here.1)
