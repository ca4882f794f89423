-- A list of patterns has no more patterns than tokens.
use Rattle.std.proofs.Common.{◌≡◌, ℕ, ◌+◌, ◌≤◌, List, [], ◌∷◌, ◌++◌, length, drop, Ok, ap, ◌∙◌, arith, append-nil}
use Rattle.std.proofs.lemmas.List.{length-append, length-drop}
use Rattle.erl_syntax.specs.declared.token.TokenKind.{TokenKind}
use Rattle.erl_syntax.specs.declared.pattern.Pattern.{Pattern}
use Rattle.erl_syntax.specs.Word.{Word}
use Rattle.erl_syntax.specs.Grammar.{Context, Limits, Goal, Mark, At, The, Of, Part, APattern, Pat, Patterns, MorePatterns, Produces, pattern, pat_variable, pat_wild, pat_integer, pat_signed, pat_character, pat_atom, pat_string, pat_paren, pat_tuple, pat_list, pat_bits, no_patterns, patterns, more_patterns, end_patterns, Spells, ends, takes, begins, this, expands}
use Rattle.pattern_read.specs.Reading.{closed, Gives, IsWide}
use Rattle.pattern_read.specs.WantedPatterns.{patterns_in}
use Rattle.pattern_read.specs.Cursor.{Readable}

-- how many tokens a part needs at least, as far as patterns go
abbrev need : Part → ℕ
need (APattern c at e d) = 1
need (Pat c at e d) = 1
need (Patterns close c ys d) = length ys
need (MorePatterns close c ys d) = length ys
need _ = 0

abbrev needs : List Goal → ℕ
needs [] = 0
needs (Mark kind ∷ gs) = 1 + needs gs
needs (At kind at ∷ gs) = 1 + needs gs
needs (The t ∷ gs) = 1 + needs gs
needs (Of p ∷ gs) = need p + needs gs

needs_both : (gs bs : List Goal) → needs (gs ++ bs) ≡ needs gs + needs bs
needs_both [] bs = omega arith
needs_both (Mark kind ∷ gs) bs = let e : needs (gs ++ bs) ≡ needs gs + needs bs = needs_both gs bs in omega (arith, e)
needs_both (At kind at ∷ gs) bs = let e : needs (gs ++ bs) ≡ needs gs + needs bs = needs_both gs bs in omega (arith, e)
needs_both (The t ∷ gs) bs = let e : needs (gs ++ bs) ≡ needs gs + needs bs = needs_both gs bs in omega (arith, e)
needs_both (Of p ∷ gs) bs = let e : needs (gs ++ bs) ≡ needs gs + needs bs = needs_both gs bs in omega (arith, e)

part_needs : (l : Limits) (p : Part) (gs : List Goal) → Produces l p gs → need p ≤ needs gs
part_needs l _ _ (pattern c at e d y dy) = omega arith
part_needs l _ _ (pat_variable c at e d t q0 q1 q2 q3) = omega arith
part_needs l _ _ (pat_wild c at e d q0 q1) = omega arith
part_needs l _ _ (pat_integer c at e d t q0 q1 q2 q3) = omega arith
part_needs l _ _ (pat_signed c at e d t n z q0 q1 q2 q3 q4) = omega arith
part_needs l _ _ (pat_character c at e d t q0 q1 q2 q3) = omega arith
part_needs l _ _ (pat_atom c at e d t q0 q1 q2 q3) = omega arith
part_needs l _ _ (pat_string c at e d t q0 q1 q2 q3) = omega arith
part_needs l _ _ (pat_paren c at e d ay q0) = omega arith
part_needs l _ _ (pat_tuple c at e d ys dys q0 q1 q2) = omega arith
part_needs l _ _ (pat_list c at e d ys tail dys q0 q1 q2) = omega arith
part_needs l _ _ (pat_bits c at e d sgs q0 q1) = omega arith
part_needs l _ _ (no_patterns close c d q0) = omega arith
part_needs l _ _ (patterns close c ay y dy ys dys d q0 q1) = omega arith
part_needs l _ _ (more_patterns close c ay y dy ys dys d q0) = omega arith
part_needs l _ _ (end_patterns close c d q0) = omega arith
part_needs l _ _ _ = omega arith

enough : (l : Limits) (gs : List Goal) (w : List Word) → Spells l gs w → needs gs ≤ length w
enough l _ _ ends = omega arith
enough l _ _ (takes {gs = gs} {w = w} t h z) = let e : needs gs ≤ length w = enough l gs w z in omega (arith, e)
enough l _ _ (begins {gs = gs} {w = w} t h a z) = let e : needs gs ≤ length w = enough l gs w z in omega (arith, e)
enough l _ _ (this {gs = gs} {w = w} z) = let e : needs gs ≤ length w = enough l gs w z in omega (arith, e)
enough l _ _ (expands {g = g} {gs = gs} {w = w} goals p z) =
    let e : needs (goals ++ gs) ≤ length w = enough l (goals ++ gs) w z in
    let f : needs (goals ++ gs) ≡ needs goals + needs gs = needs_both goals gs in
    let n : need g ≤ needs goals = part_needs l g goals p in omega (arith, e, f, n)

pub patterns_few : (close : TokenKind) (c : Context) (ws : Readable) (at after : ℕ) (ps : List Pattern × ℕ) → Gives closed (patterns_in close c) ws at (Ok (ps, after)) → length ps.0 ≤ length ws.words
patterns_few close c ws at after ps g =
    let v : IsWide ws.limits ws.limits = record { trees = omega arith; brackets = omega arith } in
    let e : needs (patterns_in close c ps ++ []) ≤ length (g.front ++ []) = enough ws.limits (patterns_in close c ps ++ []) (g.front ++ []) (g.back ws.limits v tt [] [] ends) in
    let n : length (g.front ++ []) ≡ length g.front = ap length (append-nil g.front) in
    let m : length (drop at ws.words) ≡ length g.front + length (drop after ws.words) = ap length g.whole ∙ length-append g.front (drop after ws.words) in
    omega (arith, e, n, m, length-drop at ws.words)
