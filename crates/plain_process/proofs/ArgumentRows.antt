-- The items of a list of arguments.
use Rattle.std.proofs.Common.{◌≡◌, ◌∙◌, ℕ, List, [], ◌∷◌, ◌++◌, Bool, Some, refl, ap, map}
use Rattle.term_value.specs.Value.{Values, none, more, row}
use Rattle.term_value.specs.Seen.{Seen}
use Rattle.term_value.specs.Setting.{Setting}
use Rattle.term_value.specs.Tree.{All, Call}
use Rattle.term_value.specs.Local as l
use Rattle.term_value.specs.Machine.{value_trees, call_of}
use Rattle.term_layers.proofs.Nothing.{same}
use Rattle.code_tree.specs.PlainTerms.{value}
use Rattle.plain_moves.specs.Reading.{call_tree}
use Rattle.plain_moves.specs.declared.focus.Focus.TheVariants as f
use Rattle.plain_moves.specs.declared.focus.Open.TheVariants as o
use Rattle.plain_moves.specs.declared.frame.Frame.{Frame}
use Rattle.plain_process.specs.declared.standing.Course.TheVariants.{At}
use Rattle.plain_process.specs.Standing.{course_in}

-- the values of terms, and then others
abbrev pub onto : List (Seen (List Bool)) → Values → Values
onto [] vs = vs
onto (s ∷ ss) vs = more (value s) (onto ss vs)

pub onto_last : (ss : List (Seen (List Bool))) (s : Seen (List Bool)) (vs : Values) → onto (ss ++ s ∷ []) vs ≡ onto ss (more (value s) vs)
onto_last [] s vs = refl
onto_last (t ∷ ss) s vs = ap (more (value t)) (onto_last ss s vs)

pub onto_none : (ss : List (Seen (List Bool))) → onto ss none ≡ row (map value ss)
onto_none [] = refl
onto_none (s ∷ ss) = ap (more (value s)) (onto_none ss)

-- a process that begins with the call of a function, without frames
pub call_is : (s : Setting) (function : ℕ) (items : List (Seen (List Bool))) (frames : List Frame) (vs : Values) → frames ≡ [] → row (map value items) ≡ vs
    → course_in s (At (f.Goes (o.Call function items)) frames) ≡ call_of (Some function) vs
call_is s function items frames vs bare e =
    ap (λ (fs : List Frame). course_in s (At (f.Goes (o.Call function items)) fs)) bare
    ∙ ap l.At (same (call_tree function items) ∙ ap (λ ws. All (Call function) (value_trees ws)) e)
