-- What the items of a body stand for.
use Rattle.std.proofs.Common.{◌≡◌, List, [], ◌∷◌, map, length, refl, ap, ◌∙◌}
use Rattle.std.proofs.lemmas.List.{nil_from_length}
use Rattle.term_value.specs.Tree as t
use Rattle.code_tree.specs.declared.clause.Line.{Line, out-Line}
use Rattle.code_tree.specs.declared.pattern.Pattern.{Pattern}
use Rattle.code_tree.specs.Reading.{LineRead, patterns, last, pattern_of, patterns_of, tree_of, body_of}
use Rattle.code_tree.proofs.Equations.{line_of-parts}

-- the last item, without patterns
pub bare : (l : Line) → length (out-Line l).patterns ≡ 0 → body_of (l ∷ []) ≡ tree_of (out-Line l).value
bare l h = ap (λ (r : LineRead). last r.patterns r.value) (line_of-parts l) ∙ ap (λ ps. last (map pattern_of ps) (tree_of (out-Line l).value)) (nil_from_length (out-Line l).patterns h)

last_with : (ps : List Pattern) (u : t.Tree) → (length ps ≡ 0 → ⊥) → last (map pattern_of ps) u ≡ t.First u (t.Last (patterns_of ps))
last_with [] u h = absurd (h refl)
last_with (p ∷ ps) u h = refl

-- the last item, with patterns
pub patterned : (l : Line) → (length (out-Line l).patterns ≡ 0 → ⊥) → body_of (l ∷ []) ≡ t.First (tree_of (out-Line l).value) (t.Last (patterns_of (out-Line l).patterns))
patterned l h = ap (λ (r : LineRead). last r.patterns r.value) (line_of-parts l) ∙ last_with (out-Line l).patterns (tree_of (out-Line l).value) h

-- an item before others
pub before : (l : Line) (rest : List Line) → (length rest ≡ 0 → ⊥) → body_of (l ∷ rest) ≡ t.First (tree_of (out-Line l).value) (t.Then (patterns_of (out-Line l).patterns) (body_of rest))
before l [] h = absurd (h refl)
before l (k ∷ ks) h = ap (λ (r : LineRead). t.First r.value (t.Then (patterns r.patterns) (body_of (k ∷ ks)))) (line_of-parts l)
