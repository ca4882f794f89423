-- Small expressions and patterns of modules as they are read, and what they then come to (worked by hand from the Erlang
-- Reference Manual, "Expressions").
use Rattle.std.specs.Prelude.{◌≡◌, ℕ, ◌||◌, cond, nat_eq, negsuc, List, [], ◌∷◌, ◌++◌, codes, Some}
use Rattle.bits_value.specs.Bits.{all_bits}
use Rattle.erl_syntax.specs.Atoms.{fixed_atoms, a_badarg}
use Rattle.erl_syntax.specs.Reading.{characters_in}
use Rattle.erl_syntax.specs.declared.span.Span.{Span}
use Rattle.erl_syntax.specs.declared.expr.Expr.TheOpen as O
use Rattle.erl_syntax.specs.declared.expr.Prefix.TheVariants.{Minus}
use Rattle.erl_syntax.specs.declared.built_in.BuiltIn.TheVariants.{SelfPid}
use Rattle.term_value.specs.Value.{VInt, VAtom, VTuple, VList, VBits, row}
use Rattle.term_value.specs.Tree.{Native, Table, Call, Anything, Equal, Tree, All, First, end, Last, Clauses, no_clause, clause, PVar, Pattern, no_pattern, pattern_and}
use Rattle.term_value.specs.Read.{Reading, Read, literal, Piece, Branch, Qualifier, Line, pieces, body}
use Rattle.term_value.specs.ReadTrees.{expr_layer, pattern_layer, qual_layer, string, variable}
use Rattle.term_value.specs.Tree as tree
use Rattle.term_value.specs.Local.{EndsRaised}
use Rattle.term_value.specs.AskOf.{ask_of}
use Rattle.term_laws.specs.Worked.{int, number, table, a_m, a_s}
use Rattle.term_laws.specs.WorkedRuns.{no_guard, function, program, standing, asks, displays, display}

-- the atoms of a module that has the name of the built-in functions' module: the fixed ones, `erlang` and `self`
abbrev pub names : List (List ℕ)
names = fixed_atoms ++ codes "erlang" ∷ codes "self" ∷ []

abbrev pub a_erlang : ℕ
a_erlang = 15

abbrev pub a_self : ℕ
a_self = 16

-- the module `erlang`, whose function `self/0` stands first
abbrev pub in_erlang : Reading
in_erlang = record { number_at = λ at. at.column; names = characters_in names; module_name = a_erlang; place = λ name arity. 0 }

abbrev pub here : Span
here = record { line = 1; column = 1 }

abbrev pub read : O.Expr-F Read Pattern Qualifier Branch Branch tree.Guard Line (List Piece) → Read
read e = expr_layer in_erlang e

abbrev pub one : Read
one = literal (int 1)

-- the list of one item
abbrev pub single : Read → Read
single item = read (O.Expr::List here (item ∷ []) [])

-- `[1 | [2]]` is `[1,2]`
abbrev pub TailIsRead : Type 0
TailIsRead = displays (asks (display (read (O.Expr::List here (one ∷ []) (single (literal (int 2)) ∷ []))).tree) 3) ≡ Some (VList (row (int 1 ∷ int 2 ∷ [])))

-- `[[1] | 1]` is no list
abbrev pub TailIsNoList : Type 0
TailIsNoList = asks (read (O.Expr::List here (single one ∷ []) (one ∷ []))).tree 3 ≡ EndsRaised (VAtom a_badarg)

-- `erlang:self()` is the built-in function in every module, and `?MODULE:self()` the module's own
abbrev pub calls_self : Read → Tree
calls_self home = (read (O.Call here (home ∷ []) a_self [])).tree

abbrev pub HomeIsBuiltIn : Type 0
HomeIsBuiltIn = calls_self (read (O.Expr::Atom here a_erlang)) ≡ All (Table (Native SelfPid)) end

abbrev pub MacroIsOwn : Type 0
MacroIsOwn = calls_self (read (O.ModuleName here)) ≡ All (Call 0) end

-- `<<"ab":16>>` is `<<0,97,0,98>>`
abbrev pub StringSpreads : Type 0
StringSpreads = displays (asks (display (read (O.Expr::Bits here (pieces (string (codes "ab")) (Some (literal (int 16))) [] ∷ []))).tree) 3) ≡ Some (VBits (all_bits (0 ∷ 97 ∷ 0 ∷ 98 ∷ [])))

-- a segment `-1` of a pattern wants that number
abbrev pub SignIsWanted : Type 0
SignIsWanted = (read (O.Unary here Minus (one ∷ []))).target ≡ Equal (VInt (negsuc 0))

-- a sign before a variable, which no text has there, binds none
abbrev pub SignBindsNone : Type 0
SignBindsNone = (read (O.Unary here Minus (variable 0 ∷ []))).target ≡ Anything

-- `A = B = 1` matches B first
abbrev pub MatchesFromTheRight : Type 0
MatchesFromTheRight = body ((let line : Line = record { patterns = PVar 0 ∷ PVar 1 ∷ []; value = number 1 } in line) ∷ []) ≡ First (number 1) (Last (pattern_and (PVar 1) (pattern_and (PVar 0) no_pattern)))

-- `main() -> X = 1, {[X || X <- s([2, 3])], X}.` and `s(L) -> L.`, read function by function: the generator's `X` is a new one, with
-- a number of its own. The columns are those of the text.
abbrev pub at_column : ℕ → Span
at_column column = record { line = 1; column = column }

abbrev pub in_m : (Span → ℕ) → Reading
in_m number_at = record { number_at = number_at; names = characters_in table; module_name = a_m; place = λ name arity. 1 }

abbrev pub of_main : Reading
of_main = in_m (λ at. cond (nat_eq at.column 20 || nat_eq at.column 25) 1 0)

abbrev pub of_s : Reading
of_s = in_m (λ at. 0)

abbrev pub of_expr : Reading → O.Expr-F Read Pattern Qualifier Branch Branch tree.Guard Line (List Piece) → Read
of_expr r e = expr_layer r e

abbrev pub new_variable : Reading → List ℕ → ℕ → Pattern
new_variable r name column = pattern_layer r (O.Pattern::Var (at_column column) name)

abbrev pub own_variable : Reading → List ℕ → ℕ → Read
own_variable r name column = of_expr r (O.Expr::Var (at_column column) name)

abbrev pub called_s : Read
called_s = of_expr of_main (O.Call (at_column 30) [] a_s (of_expr of_main (O.Expr::List (at_column 32) (literal (int 2) ∷ literal (int 3) ∷ []) []) ∷ []))

abbrev pub inner : Read
inner = of_expr of_main (O.ListFor (at_column 19) (own_variable of_main (codes "X") 20 ∷ []) (qual_layer (O.Items (at_column 25) (new_variable of_main (codes "X") 25) called_s) ∷ []))

abbrev pub line : List Pattern → Read → Line
line patterns value = record { patterns = patterns; value = value.tree }

abbrev pub main_body : Tree
main_body = body (line (new_variable of_main (codes "X") 11 ∷ []) (literal (int 1)) ∷ line [] (of_expr of_main (O.Expr::Tuple (at_column 18) (inner ∷ own_variable of_main (codes "X") 42 ∷ []))) ∷ [])

abbrev pub s_clauses : Clauses
s_clauses = clause (pattern_and (new_variable of_s (codes "L") 3) no_pattern) no_guard (body (line [] (own_variable of_s (codes "L") 9) ∷ [])) no_clause

abbrev pub InnerIsNew : Type 0
InnerIsNew = displays (ask_of (program (display main_body) (function a_s 1 s_clauses ∷ [])) (standing (display main_body) 4)) ≡ Some (VTuple (row (VList (row (int 2 ∷ int 3 ∷ [])) ∷ int 1 ∷ [])))
