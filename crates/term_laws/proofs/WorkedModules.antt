-- A small module's functions, one layer after another.
use Rattle.std.proofs.Common.{◌≡◌, ℕ, ℤ, pos, true, false, List, [], ◌∷◌, map, codes, refl, sym, ap, ◌∙◌}
use Rattle.erl_syntax.specs.Checking.{number_at}
use Rattle.erl_syntax.specs.declared.span.Span.{Span}
use Rattle.erl_syntax.specs.declared.expr.Expr.{Expr}
use Rattle.erl_syntax.specs.declared.expr.Expr.TheVariants as x
use Rattle.erl_syntax.specs.declared.expr.Expr.TheOpen as O
use Rattle.erl_syntax.specs.declared.expr.Expr.TheFolds.{fold-roll-Expr, fold-roll-Pattern, fold_out-Item, fold_out-Guard}
use Rattle.erl_syntax.specs.declared.pattern.Pattern.TheVariants as p
use Rattle.erl_syntax.specs.declared.clause.Guard as syntax
use Rattle.erl_syntax.specs.declared.clause.Item as syntax_item
use Rattle.term_value.specs.Value.{VInt}
use Rattle.term_value.specs.Tree.{Call, Tree, Var, All, First, end, and, Then, Clauses, Module, clause, no_clause, Guard, never, or, Pattern, PVar, no_pattern, pattern_and}
use Rattle.term_value.specs.Read.{Reading, Read, literal, Piece, Branch, Qualifier, Line, body, call, guard_of, patterns}
use Rattle.term_value.specs.ReadTrees.{variable, expr_layer, pattern_layer, qual_layer, alt_layer, branch_layer, guard_layer, item_layer, segment_layer, tree_of, pattern_of, guard_tree, line_of, reading, function_clauses}
use Rattle.term_laws.specs.Worked.{number}
use Rattle.term_laws.specs.WorkedModules.{EachFunctionCounts, at, a_f, a_m, a_main, main_body, main_clause, f_body, f_clause, two_functions, two_functions_atoms}
use Rattle.term_laws.proofs.CallLaws.{expr_read, call_read}

module _ (r : Reading) where
  integer_read : (here : Span) (n : ℤ) → expr_read r (x.Int here n) ≡ literal (VInt n)
  integer_read here n = ap (expr_read r) (sym (x.rolls-Int here n)) ∙ fold-roll-Expr Read Pattern Qualifier Branch Branch Guard Line (List Piece) (expr_layer r) (pattern_layer r) qual_layer alt_layer branch_layer guard_layer item_layer segment_layer (O.Expr::Int here n)

  variable_read : (here : Span) (name : List ℕ) → expr_read r (x.Var here name) ≡ variable (r.number_at here)
  variable_read here name = ap (expr_read r) (sym (x.rolls-Var here name)) ∙ fold-roll-Expr Read Pattern Qualifier Branch Branch Guard Line (List Piece) (expr_layer r) (pattern_layer r) qual_layer alt_layer branch_layer guard_layer item_layer segment_layer (O.Expr::Var here name)

  target_read : (here : Span) (name : List ℕ) → pattern_of r (p.Var here name) ≡ PVar (r.number_at here)
  target_read here name = ap (pattern_of r) (sym (p.rolls-Var here name)) ∙ fold-roll-Pattern Read Pattern Qualifier Branch Branch Guard Line (List Piece) (expr_layer r) (pattern_layer r) qual_layer alt_layer branch_layer guard_layer item_layer segment_layer (O.Pattern::Var here name)

  item_read : (i : syntax_item.Item) → line_of r i ≡ record { patterns = map (pattern_of r) i.patterns; value = tree_of r i.value }
  item_read i = fold_out-Item Read Pattern Qualifier Branch Branch Guard Line (List Piece) (expr_layer r) (pattern_layer r) qual_layer alt_layer branch_layer guard_layer item_layer segment_layer i

  lined : (i : syntax_item.Item) (ps : List Pattern) (t : Tree) → map (pattern_of r) i.patterns ≡ ps → tree_of r i.value ≡ t → line_of r i ≡ record { patterns = ps; value = t }
  lined i ps t e h =
      let with_patterns : List Pattern → Line = λ qs. record { patterns = qs; value = tree_of r i.value } in
      let with_value : Tree → Line = λ u. record { patterns = ps; value = u } in
      item_read i ∙ ap with_patterns e ∙ ap with_value h

  no_guard : (let g : syntax.Guard = record { alternatives = [] } in guard_tree r g) ≡ or end never
  no_guard = fold_out-Guard Read Pattern Qualifier Branch Branch Guard Line (List Piece) (expr_layer r) (pattern_layer r) qual_layer alt_layer branch_layer guard_layer item_layer segment_layer (record { alternatives = [] })

abbrev main_reading : Reading
main_reading = reading (number_at (record { at = at 2 11; number = 0; binds = true } ∷ record { at = at 2 20; number = 0; binds = false } ∷ [])) two_functions

abbrev f_reading : Reading
f_reading = reading (number_at (record { at = at 3 3; number = 0; binds = true } ∷ record { at = at 3 9; number = 0; binds = false } ∷ [])) two_functions

-- the lines of `main`
abbrev matched : Line
matched = record { patterns = PVar 0 ∷ []; value = number 1 }

abbrev calling : Line
calling = record { patterns = []; value = All (Call 1) (and (Var 0) end) }

main_lines : map (line_of main_reading) main_body ≡ matched ∷ calling ∷ []
main_lines =
    let first : syntax_item.Item = record { patterns = p.Var (at 2 11) (codes "X") ∷ []; value = x.Int (at 2 15) (pos 1) } in
    let argument : Expr = x.Var (at 2 20) (codes "X") in
    let second : syntax_item.Item = record { patterns = []; value = x.Call (at 2 18) [] a_f (argument ∷ []) } in
    let matched_read : line_of main_reading first ≡ matched =
    lined main_reading first (PVar 0 ∷ []) (number 1) (ap (λ q. q ∷ []) (target_read main_reading (at 2 11) (codes "X"))) (ap (λ (u : Read). u.tree) (integer_read main_reading (at 2 15) (pos 1))) in
    let called_read : line_of main_reading second ≡ calling =
    lined main_reading second [] (All (Call 1) (and (Var 0) end)) refl
    (ap (λ (u : Read). u.tree) (call_read main_reading second.value (at 2 18) [] a_f (argument ∷ []) refl) ∙ ap (λ u. call main_reading [] a_f (u ∷ [])) (variable_read main_reading (at 2 20) (codes "X"))) in
    ap (λ l. l ∷ line_of main_reading second ∷ []) matched_read ∙ ap (λ l. matched ∷ l ∷ []) called_read

abbrev main_clauses : Clauses
main_clauses = clause no_pattern (or end never) (First (number 1) (Then (pattern_and (PVar 0) no_pattern) (All (Call 1) (and (Var 0) end)))) no_clause

main_read : function_clauses main_reading (main_clause ∷ []) ≡ main_clauses
main_read =
    ap (λ ls. clause no_pattern (guard_tree main_reading main_clause.guard) (body ls) no_clause) main_lines
    ∙ ap (λ g. clause no_pattern g (body (matched ∷ calling ∷ [])) no_clause) (no_guard main_reading)

f_lines : map (line_of f_reading) f_body ≡ (let l : Line = record { patterns = []; value = Var 0 } in l ∷ [])
f_lines =
    let only : syntax_item.Item = record { patterns = []; value = x.Var (at 3 9) (codes "Y") } in
    ap (λ l. l ∷ []) (lined f_reading only [] (Var 0) refl (ap (λ (u : Read). u.tree) (variable_read f_reading (at 3 9) (codes "Y"))))

abbrev f_clauses : Clauses
f_clauses = clause (pattern_and (PVar 0) no_pattern) (or end never) (Var 0) no_clause

f_read : function_clauses f_reading (f_clause ∷ []) ≡ f_clauses
f_read =
    ap (λ ls. clause (patterns (map (pattern_of f_reading) f_clause.patterns)) (guard_tree f_reading f_clause.guard) (body ls) no_clause) f_lines
    ∙ ap (λ g. clause (patterns (map (pattern_of f_reading) f_clause.patterns)) g (Var 0) no_clause) (no_guard f_reading)
    ∙ ap (λ q. clause (pattern_and q no_pattern) (or end never) (Var 0) no_clause) (target_read f_reading (at 3 3) (codes "Y"))

pub each_function_counts : EachFunctionCounts
each_function_counts =
    let with_clauses : Clauses → Clauses → Module = λ c d. record {
      atoms = two_functions_atoms;
      name = a_m;
      functions = record { name = a_main; arity = 0; exported = true; clauses = c } ∷ record { name = a_f; arity = 1; exported = false; clauses = d } ∷ [];
    } in
    ap (λ c. with_clauses c (function_clauses f_reading (f_clause ∷ []))) main_read ∙ ap (with_clauses main_clauses) f_read
