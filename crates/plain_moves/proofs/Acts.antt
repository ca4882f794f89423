-- What a form does with the values of all its parts.
use Rattle.std.proofs.Common.{◌≡◌, ℕ, Bool, List, [], ◌∷◌, ◌++◌, map, reverse, refl, ap, sym, ◌∙◌, Some, None, slice_get}
use Rattle.std.proofs.lemmas.List.{map-append, reverse-append}
use Rattle.erl_syntax.specs.Atoms.{a_function_clause, a_undef}
use Rattle.term_value.specs.Value.{Value, Values, none, more, row}
use Rattle.term_value.specs.Result.{Stop, Result, raise}
use Rattle.term_value.specs.Setting.{Setting}
use Rattle.term_value.specs.Primitives.{prim}
use Rattle.term_value.specs.Match.{picked}
use Rattle.term_value.specs.Machine.{value_trees}
use Rattle.term_value.specs.Tree.{Prim, Form, Table, Call, Val, All, Trees, end, and, Function}
use Rattle.term_value.specs.Step.{World, Step, Ready, Falls, lift, of_result, of_picked, entered, acted, setting, step, steps}
use Rattle.term_value.specs.Seen.{Seen}
use Rattle.code_tree.specs.PlainTerms.{value}
use Rattle.term_layers.specs.Environments as e
use Rattle.term_layers.specs.Layers.{rewound}
use Rattle.term_layers.proofs.InEnvironment.{chosen_picked}
use Rattle.term_layers.proofs.Nothing.{clauses_same}

steps_ready : (w : World) (vs : Values) → steps w (value_trees vs) ≡ Ready vs
steps_ready w none = refl
steps_ready w (more v vs) = ap (lift (λ us. Ready (more v us)) (and (Val v))) (steps_ready w vs)

-- a form whose parts all have values acts on them
pub acts_on : (w : World) (form : Form) (vs : Values) → step w (All form (value_trees vs)) ≡ acted w form vs
acts_on w form vs = ap (lift (acted w form) (All form)) (steps_ready w vs)

rewound_last : (vs : List Value) (v : Value) (ts : Trees) → rewound (vs ++ v ∷ []) ts ≡ and (Val v) (rewound vs ts)
rewound_last [] v ts = refl
rewound_last (u ∷ vs) v ts = rewound_last vs v (and (Val u) ts)

-- the last of the values is the last part
pub rewound_row : (vs : List Value) (v : Value) → rewound (reverse vs) (and (Val v) end) ≡ value_trees (row (vs ++ v ∷ []))
rewound_row [] v = refl
rewound_row (u ∷ vs) v = ap (λ us. rewound us (and (Val v) end)) (reverse-append (u ∷ []) vs) ∙ rewound_last (reverse vs) u (and (Val v) end) ∙ ap (and (Val u)) (rewound_row vs v)

-- the terms of all parts, of which one more has its value
pub rewound_terms : (xs : List (Seen (List Bool))) (x : Seen (List Bool)) → value_trees (row (map value (xs ++ x ∷ []))) ≡ rewound (reverse (map value xs)) (and (Val (value x)) end)
rewound_terms xs x = ap (λ vs. value_trees (row vs)) (map-append value xs (x ∷ [])) ∙ sym (rewound_row (map value xs) (value x))

choice_is : (cost : ℕ) (stop : Stop) (c : e.Choice) → of_picked cost stop (e.picked_of c) ≡ lift Ready e.tree_in (e.of_choice cost stop c)
choice_is cost stop (e.Chosen env body) = refl
choice_is cost stop e.NotChosen = refl
choice_is cost stop e.ChoiceLimit = refl

-- a call of a function that is there
pub call_goes : (w : World) (f : ℕ) (function : Function) (vs : Values) (c : e.Choice) → slice_get w.code.functions f ≡ Some function → c ≡ e.chosen (setting w) [] function.clauses vs
    → step w (All (Call f) (value_trees vs)) ≡ lift Ready e.tree_in (e.of_choice 1 (raise a_function_clause) c)
call_goes w f function vs c there h =
    acts_on w (Call f) vs
    ∙ ap (λ o. entered w o vs) there
    ∙ ap (λ cs. of_picked 1 (raise a_function_clause) (picked (setting w) cs vs)) (sym (clauses_same function.clauses))
    ∙ ap (of_picked 1 (raise a_function_clause)) (sym (chosen_picked (setting w) [] function.clauses vs))
    ∙ ap (λ d. of_picked 1 (raise a_function_clause) (e.picked_of d)) (sym h)
    ∙ choice_is 1 (raise a_function_clause) c

-- a call of a function that is not there
pub call_falls : (w : World) (f : ℕ) (vs : Values) → slice_get w.code.functions f ≡ None → step w (All (Call f) (value_trees vs)) ≡ Falls 1 (raise a_undef)
call_falls w f vs none_there = acts_on w (Call f) vs ∙ ap (λ o. entered w o vs) none_there

-- what the values of all parts alone determine
pub result_is : (w : World) (s : Setting) (p : Prim) (vs us : Values) (r : Result) → s ≡ setting w → us ≡ vs → r ≡ prim s p us → step w (All (Table p) (value_trees vs)) ≡ of_result r
result_is w s p vs us r same are h = acts_on w (Table p) vs ∙ ap of_result (ap (λ z. prim z p vs) (sym same) ∙ ap (prim s p) (sym are) ∙ sym h)
