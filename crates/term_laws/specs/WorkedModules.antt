-- A small module as it is read, where each function has the numbers of its own variables (worked by hand from the Erlang
-- Reference Manual, "Functions" and "Expressions").
use Rattle.std.specs.Prelude.{◌≡◌, ℕ, pos, true, false, List, [], ◌∷◌, ◌++◌, codes}
use Rattle.erl_syntax.specs.Atoms.{fixed_atoms}
use Rattle.erl_syntax.specs.declared.span.Span.{Span}
use Rattle.erl_syntax.specs.declared.checking.VarUse.{VarUse}
use Rattle.erl_syntax.specs.declared.expr.Expr.TheVariants as x
use Rattle.erl_syntax.specs.declared.pattern.Pattern.TheVariants as p
use Rattle.erl_syntax.specs.declared.clause.Item.{Item}
use Rattle.erl_syntax.specs.declared.module.Clause.{Clause}
use Rattle.erl_syntax.specs.declared.module.Function as syntax_function
use Rattle.erl_syntax.specs.declared.module.Module as syntax_module
use Rattle.term_value.specs.Tree.{Call, Module, Tree, Var, All, First, end, and, Then, clause, no_clause, never, or, PVar, no_pattern, pattern_and}
use Rattle.term_value.specs.ReadTrees.{module_of}
use Rattle.term_laws.specs.Worked.{number}

-- -module(m). -export([main/0]).
-- main() -> X = 1, f(X).
-- f(Y) -> Y.
abbrev pub a_m : ℕ
a_m = 16

abbrev pub a_main : ℕ
a_main = 18

abbrev pub a_f : ℕ
a_f = 19

-- the fixed ones, and then each other in the order of the text
abbrev pub two_functions_atoms : List (List ℕ)
two_functions_atoms = fixed_atoms ++ codes "module" ∷ codes "m" ∷ codes "export" ∷ codes "main" ∷ codes "f" ∷ []

abbrev pub at : ℕ → ℕ → Span
at line column = record { line = line; column = column }

abbrev pub main_body : List Item
main_body =
    record { patterns = p.Var (at 2 11) (codes "X") ∷ []; value = x.Int (at 2 15) (pos 1) }
    ∷ record { patterns = []; value = x.Call (at 2 18) [] a_f (x.Var (at 2 20) (codes "X") ∷ []) }
    ∷ []

abbrev pub main_clause : Clause
main_clause = record { at = at 2 1; name = a_main; patterns = []; guard = record { alternatives = [] }; body = main_body }

abbrev pub f_body : List Item
f_body = record { patterns = []; value = x.Var (at 3 9) (codes "Y") } ∷ []

abbrev pub f_clause : Clause
f_clause = record { at = at 3 1; name = a_f; patterns = p.Var (at 3 3) (codes "Y") ∷ []; guard = record { alternatives = [] }; body = f_body }

abbrev pub two_functions : syntax_module.Module
two_functions = record {
  heads = record { at = at 1 1; name = a_m } ∷ [];
  exports = record { at = at 1 22; name = a_main; arity = pos 0 } ∷ [];
  functions = record { name = a_main; arity = 0; clauses = main_clause ∷ [] } ∷ record { name = a_f; arity = 1; clauses = f_clause ∷ [] } ∷ [];
  atoms = two_functions_atoms;
  last = at 4 1;
}

-- X and Y have the number 0, each in its function
abbrev pub two_numberings : List (List VarUse)
two_numberings =
    (record { at = at 2 11; number = 0; binds = true } ∷ record { at = at 2 20; number = 0; binds = false } ∷ [])
    ∷ (record { at = at 3 3; number = 0; binds = true } ∷ record { at = at 3 9; number = 0; binds = false } ∷ [])
    ∷ []

abbrev pub two_functions_read : Module
two_functions_read = record {
  atoms = two_functions_atoms;
  name = a_m;
  functions =
      record { name = a_main; arity = 0; exported = true; clauses = clause no_pattern (or end never) (First (number 1) (Then (pattern_and (PVar 0) no_pattern) (All (Call 1) (and (Var 0) end)))) no_clause }
      ∷ record { name = a_f; arity = 1; exported = false; clauses = clause (pattern_and (PVar 0) no_pattern) (or end never) (Var 0) no_clause }
      ∷ [];
}

abbrev pub EachFunctionCounts : Type 0
EachFunctionCounts = module_of two_numberings two_functions ≡ two_functions_read
