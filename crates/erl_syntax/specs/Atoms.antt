-- The atoms that the rules name (Erlang Reference Manual, "Errors and Error Handling"; the choice of them is this project's own).
-- They stand at the head of each module's table of atoms, in this order.
use Rattle.std.specs.Prelude.{ℕ, List, [], ◌∷◌, codes}

abbrev pub fixed_atoms : List (List ℕ)
fixed_atoms = codes "badarg" ∷ codes "badarith" ∷ codes "badmatch" ∷ codes "case_clause" ∷ codes "if_clause" ∷ codes "function_clause"
    ∷ codes "bad_generator" ∷ codes "bad_filter" ∷ codes "undef" ∷ codes "system_limit" ∷ codes "reductions"
    ∷ codes "true" ∷ codes "false" ∷ codes "ok" ∷ codes "normal" ∷ []

abbrev pub a_badarg : ℕ
a_badarg = 0

abbrev pub a_badarith : ℕ
a_badarith = 1

abbrev pub a_badmatch : ℕ
a_badmatch = 2

abbrev pub a_case_clause : ℕ
a_case_clause = 3

abbrev pub a_if_clause : ℕ
a_if_clause = 4

abbrev pub a_function_clause : ℕ
a_function_clause = 5

abbrev pub a_bad_generator : ℕ
a_bad_generator = 6

abbrev pub a_bad_filter : ℕ
a_bad_filter = 7

abbrev pub a_undef : ℕ
a_undef = 8

abbrev pub a_system_limit : ℕ
a_system_limit = 9

abbrev pub a_reductions : ℕ
a_reductions = 10

abbrev pub a_true : ℕ
a_true = 11

abbrev pub a_false : ℕ
a_false = 12

abbrev pub a_ok : ℕ
a_ok = 13

abbrev pub a_normal : ℕ
a_normal = 14
