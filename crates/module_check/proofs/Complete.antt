-- What stands in a function stands inside one of its clauses.
use Rattle.std.proofs.Common.{◌≡◌, ◌≢◌, List, [], ◌∷◌, ◌++◌, reverse, Option, Some, None, refl, sym, ◌∙◌, ap, subst}
use Rattle.std.specs.List.{Contains, flat_map}
use Rattle.std.proofs.lemmas.List.{append_assoc, reverse-append}
use Rattle.std.proofs.lemmas.List.Elements.{Contains-append_left, Contains-append_right}
use Rattle.erl_syntax.specs.Bindings.{targets, targets_of}
use Rattle.erl_syntax.specs.Scopes.{Scope, Part, AnExpr, APattern, ABody, ASegment, Stands, nothing_known, with_known, behind, in_guard, to_match, to_generate, past_patterns, past_segments, past_items, generated, past_quals, past_row, is_empty, sizes_of, Parts, Chooses, Comprehends, PatternParts, HasSource, tuple, list, call, case, unary, binary, receive, same, bits, items, filter, head, head_guard, head_body, item_value, item_pattern, pattern_part, pattern_segment, pattern_size, part, segment, segment_value, segment_size, alt_pattern, alt_guard, alt_body, if_guard, if_body, row, source, generator, bit_generator}
use Rattle.erl_syntax.specs.declared.span.Span.{Span}
use Rattle.erl_syntax.specs.declared.expr.Expr.{Expr}
use Rattle.erl_syntax.specs.declared.expr.Expr.TheVariants as x
use Rattle.erl_syntax.specs.declared.expr.Expr.TheOpen as O
use Rattle.erl_syntax.specs.declared.pattern.Pattern.{Pattern}
use Rattle.erl_syntax.specs.declared.segment.Segment.{Segment}
use Rattle.erl_syntax.specs.declared.qual.Qual.{Qual}
use Rattle.erl_syntax.specs.declared.clause.Item.{Item}
use Rattle.erl_syntax.specs.declared.clause.Guard.{Guard}
use Rattle.erl_syntax.specs.declared.clause.Alt.{Alt, roll-Alt, out-roll-Alt}
use Rattle.erl_syntax.specs.declared.clause.Branch.{Branch, roll-Branch, out-roll-Branch}
use Rattle.erl_syntax.specs.declared.module.Function.{Function}
use Rattle.erl_syntax.specs.declared.module.Clause.{Clause}
use Rattle.erl_syntax.specs.declared.typing.SideUse.{SideUse}
use Rattle.erl_syntax.specs.declared.typing.SideUse.TheVariants as side
use Rattle.module_check.specs.Spots.{Spot, spot, each, expr_in, exprs_in, same_in, tests_in, guard_in, pattern_in, patterns_in, matched_in, items_in, built_in_turn, segment_in, alt_layer_in, alt_in, branch_layer_in, branch_in, qual_in, quals_in, comprehension_in, inside_expr, inside_pattern, size_scope, inside_segment, inside, clause_in, Under, here, deeper, IsUnder}
use Rattle.module_check.proofs.Spots.{Contains-head, Contains-tail, each_at, each_by}
use Rattle.module_check.proofs.Standing.{in_tuple, in_list, in_bits, in_list_for, in_bits_for, in_call, in_case, in_receive, in_if, in_unary, in_binary, in_pattern_tuple, in_pattern_list, in_pattern_bits, in_same, in_items, in_bit_items, in_filter, along, one_size_scope}

under_more : (a b d : Spot) → Under a b → Contains (inside b.scope b.part) d → Under a d
under_more a b d (here _ _ e) h = let P : Spot → Type 0 = λ z. Contains (inside z.scope z.part) d in deeper a d d (subst P (sym e) h) (here d d refl)
under_more a b d (deeper _ c _ i u) h = deeper a c d i (under_more c b d u h)

pub one_more : (f : Function) (b d : Spot) → IsUnder f b → Contains (inside b.scope b.part) d → IsUnder f d
one_more f b d h i = record { root = h.root; among = h.among; under = under_more h.root b d h.under i }

root_in : (f : Function) (c : Clause) (d : Spot) → Contains f.clauses c → Contains (clause_in [] c []) d → IsUnder f d
root_in f c d h i = record { root = d; among = each_by clause_in f.clauses c d h (λ front back. i); under = here d d refl }

pub in_guard_of : (s : Scope) (g : Guard) (tests : List Expr) (e : Expr) → Contains g.alternatives tests → Contains tests e → Contains (guard_in s g) (spot s (AnExpr e))
in_guard_of s g tests e h i = each_by (tests_in s) g.alternatives tests (spot s (AnExpr e)) h (λ front back. each_by (same_in s) tests e (spot s (AnExpr e)) i (λ fr bk. Contains-head (spot s (AnExpr e)) []))

pub in_sizes : (s : Scope) (sg : Segment) (e : Expr) → sg.size ≡ Some e → Contains (each (same_in s) [] (sizes_of sg)) (spot s (AnExpr e))
in_sizes s sg e h =
    let P : Option Expr → Type 0 = λ o. Contains (each (same_in s) [] (elim o [ None ↦ [] | Some y ↦ y ∷ [] ])) (spot s (AnExpr e)) in
    subst P (sym h) (Contains-head (spot s (AnExpr e)) [])

pub in_parts : (s : Scope) (e : Expr) (ys front : List Expr) (y : Expr) (back : List Expr) → Parts e ys → ys ≡ front ++ y ∷ back → Contains (inside_expr s e) (spot (behind front s) (AnExpr y))
in_parts s e ys front y back (tuple _ at _ h) i = along _ _ _ (in_tuple s e at ys h) (each_at (expr_in s) ys front y back _ i (Contains-head (spot (behind front s) (AnExpr y)) []))
in_parts s e ys front y back (list _ at zs tail h) i = along _ _ _ (in_list s e at zs tail h) (each_at (expr_in s) ys front y back _ i (Contains-head (spot (behind front s) (AnExpr y)) []))
in_parts s e ys front y back (call _ at home n _ h) i = along _ _ _ (in_call s e at home n ys h) (each_at (expr_in s) ys front y back _ i (Contains-head (spot (behind front s) (AnExpr y)) []))
in_parts s e ys front y back (case _ at _ alts h) i = along _ _ _ (in_case s e at ys alts h) (Contains-append_left (exprs_in s ys) (each (alt_in (behind ys s)) [] alts) _ (each_at (expr_in s) ys front y back _ i (Contains-head (spot (behind front s) (AnExpr y)) [])))
in_parts s e ys front y back (unary _ at op _ h) i = along _ _ _ (in_unary s e at op ys h) (each_at (expr_in s) ys front y back _ i (Contains-head (spot (behind front s) (AnExpr y)) []))
in_parts s e ys front y back (binary _ at op _ h) i = along _ _ _ (in_binary s e at op ys h) (each_at (expr_in s) ys front y back _ i (Contains-head (spot (behind front s) (AnExpr y)) []))

pub in_pattern_parts : (s : Scope) (pt : Pattern) (ps front : List Pattern) (y : Pattern) (back : List Pattern) → PatternParts pt ps → ps ≡ front ++ y ∷ back → Contains (inside_pattern s pt) (spot (past_patterns front s) (APattern y))
in_pattern_parts s pt ps front y back (tuple _ at _ h) i = along _ _ _ (in_pattern_tuple s pt at ps h) (each_at (pattern_in s) ps front y back _ i (Contains-head (spot (past_patterns front s) (APattern y)) []))
in_pattern_parts s pt ps front y back (list _ at zs tail h) i = along _ _ _ (in_pattern_list s pt at zs tail h) (each_at (pattern_in s) ps front y back _ i (Contains-head (spot (past_patterns front s) (APattern y)) []))
in_pattern_parts s pt ps front y back (same _ at _ h) i = along _ _ _ (in_same s pt at ps h) (each_at (pattern_in s) ps front y back _ i (Contains-head (spot (past_patterns front s) (APattern y)) []))

pub in_choice : (s : Scope) (e : Expr) (ys : List Expr) (alts : List Alt) (r : O.Alt-F Expr Pattern Qual Alt Branch Guard Item Segment) (d : Spot) → Chooses e ys alts → Contains alts (roll-Alt r) → Contains (alt_layer_in (behind ys s) r) d → Contains (inside_expr s e) d
in_choice s e ys alts r d (case _ at _ _ h) i k =
    let P : O.Alt-F Expr Pattern Qual Alt Branch Guard Item Segment → Type 0 = λ v. Contains (alt_layer_in (behind ys s) v) d in
    along _ _ _ (in_case s e at ys alts h) (Contains-append_right (exprs_in s ys) (each (alt_in (behind ys s)) [] alts) d (each_by (alt_in (behind ys s)) alts (roll-Alt r) d i (λ front back. subst P (sym (out-roll-Alt r)) k)))
in_choice s e ys alts r d (receive _ at _ h) i k =
    let P : O.Alt-F Expr Pattern Qual Alt Branch Guard Item Segment → Type 0 = λ v. Contains (alt_layer_in (behind [] s) v) d in
    along _ _ _ (in_receive s e at alts h) (each_by (alt_in (behind [] s)) alts (roll-Alt r) d i (λ front back. subst P (sym (out-roll-Alt r)) k))

pub in_branch : (s : Scope) (e : Expr) (at : Span) (bs : List Branch) (r : O.Branch-F Expr Pattern Qual Alt Branch Guard Item Segment) (d : Spot) → e ≡ x.If at bs → Contains bs (roll-Branch r) → Contains (branch_layer_in s r) d → Contains (inside_expr s e) d
in_branch s e at bs r d h i k =
    let P : O.Branch-F Expr Pattern Qual Alt Branch Guard Item Segment → Type 0 = λ v. Contains (branch_layer_in s v) d in
    along _ _ _ (in_if s e at bs h) (each_by (branch_in s) bs (roll-Branch r) d i (λ front back. subst P (sym (out-roll-Branch r)) k))

comprehended : (s : Scope) (e : Expr) (ys : List Expr) (quals : List Qual) → Comprehends e ys quals → inside_expr s e ≡ comprehension_in s ys quals
comprehended s e ys quals (list _ at _ _ h) = in_list_for s e at ys quals h
comprehended s e ys quals (bits _ at _ _ h) = in_bits_for s e at ys quals h

pub in_row : (s : Scope) (e : Expr) (ys : List Expr) (quals : List Qual) (y : Expr) → Comprehends e ys quals → Contains ys y → Contains (inside_expr s e) (spot (record s { known = generated quals s.known }) (AnExpr y))
in_row s e ys quals y c h =
    let t : Scope = record s { known = generated quals s.known } in
    along _ _ _ (comprehended s e ys quals c) (Contains-append_left (each (same_in t) [] ys) (each (quals_in (past_row ys quals s)) [] quals) _ (each_by (same_in t) ys y _ h (λ front back. Contains-head (spot t (AnExpr y)) [])))

pub in_qual : (s : Scope) (e : Expr) (ys : List Expr) (quals front : List Qual) (g : Qual) (back : List Qual) (d : Spot) → Comprehends e ys quals → quals ≡ front ++ g ∷ back → Contains (qual_in (past_quals front (past_row ys quals s)) g) d → Contains (inside_expr s e) d
in_qual s e ys quals front g back d c h k =
    along _ _ _ (comprehended s e ys quals c) (Contains-append_right (each (same_in (record s { known = generated quals s.known })) [] ys) (each (quals_in (past_row ys quals s)) [] quals) d (each_at (quals_in (past_row ys quals s)) quals front g back d h k))

source_in : (t : Scope) (g : Qual) (y : Expr) → HasSource g y → Contains (qual_in t g) (spot t (AnExpr y))
source_in t g y (items _ at pt _ h) = along _ _ _ (in_items t g at pt y h) (Contains-head (spot t (AnExpr y)) (spot (to_generate t) (APattern pt) ∷ []))
source_in t g y (bits _ at sgs _ h) = along _ _ _ (in_bit_items t g at sgs y h) (Contains-head (spot t (AnExpr y)) (each (segment_in side.Generator (to_generate t)) [] sgs))
source_in t g y (filter _ at _ h) = along _ _ _ (in_filter t g at y h) (Contains-head (spot t (AnExpr y)) [])

pub reversed : (left : List Pattern) (pt : Pattern) (right : List Pattern) → reverse (left ++ pt ∷ right) ≡ reverse right ++ pt ∷ reverse left
reversed left pt right = reverse-append left (pt ∷ right) ∙ ap (λ zs. zs ++ reverse left) (reverse-append (pt ∷ []) right) ∙ append_assoc (reverse right) (pt ∷ []) (reverse left)

in_size : (s : Scope) (on : SideUse) (sg : Segment) (e : Expr) → on ≢ side.Build → sg.size ≡ Some e → Contains (inside_segment s on sg) (spot (size_scope s) (AnExpr e))
in_size s side.Build sg e ne h = absurd (ne refl)
in_size s side.Match sg e ne h = in_sizes (size_scope s) sg e h
in_size s side.Generator sg e ne h = in_sizes (size_scope s) sg e h

abbrev rest_of : Clause → List Spot
rest_of c = guard_in (in_guard (past_patterns c.patterns nothing_known)) c.guard ++ spot (past_patterns c.patterns nothing_known) (ABody c.body) ∷ []

pub complete : (f : Function) (s : Scope) (part : Part) → Stands f s part → IsUnder f (spot s part)
complete f _ _ (head c front pt back hc e) =
    root_in f c _ hc (Contains-append_left (patterns_in (to_match nothing_known) c.patterns) (rest_of c) _ (each_at (pattern_in (to_match nothing_known)) c.patterns front pt back _ e (Contains-head (spot (past_patterns front (to_match nothing_known)) (APattern pt)) [])))
complete f _ _ (head_guard c tests e hc ht he) =
    root_in f c _ hc (Contains-append_right (patterns_in (to_match nothing_known) c.patterns) (rest_of c) _ (Contains-append_left (guard_in (in_guard (past_patterns c.patterns nothing_known)) c.guard) (spot (past_patterns c.patterns nothing_known) (ABody c.body) ∷ []) _ (in_guard_of (in_guard (past_patterns c.patterns nothing_known)) c.guard tests e ht he)))
complete f _ _ (head_body c hc) =
    root_in f c _ hc (Contains-append_right (patterns_in (to_match nothing_known) c.patterns) (rest_of c) _ (Contains-append_right (guard_in (in_guard (past_patterns c.patterns nothing_known)) c.guard) (spot (past_patterns c.patterns nothing_known) (ABody c.body) ∷ []) _ (Contains-head (spot (past_patterns c.patterns nothing_known) (ABody c.body)) [])))
complete f _ _ (item_value s is front i back st e) =
    one_more f (spot s (ABody is)) _ (complete f s (ABody is) st) (each_at (items_in s) is front i back _ e (Contains-head (spot (past_items front s) (AnExpr i.value)) (each (matched_in (past_items front s)) [] (reverse i.patterns))))
complete f _ _ (item_pattern s is front i back left pt right st e ep) =
    let t : Scope = past_items front s in
    one_more f (spot s (ABody is)) _ (complete f s (ABody is) st) (each_at (items_in s) is front i back _ e
    (Contains-tail (spot t (AnExpr i.value)) (each (matched_in t) [] (reverse i.patterns)) _
    (each_at (matched_in t) (reverse i.patterns) (reverse right) pt (reverse left) _ (ap reverse ep ∙ reversed left pt right) (Contains-head (spot (to_match (with_known (targets_of (reverse right)) t)) (APattern pt)) []))))
complete f _ _ (pattern_part s pt ps front y back st h e) = one_more f (spot s (APattern pt)) _ (complete f s (APattern pt) st) (in_pattern_parts s pt ps front y back h e)
complete f _ _ (pattern_segment s pt at sgs front sg back st h e) =
    one_more f (spot s (APattern pt)) _ (complete f s (APattern pt) st) (along _ _ _ (in_pattern_bits s pt at sgs h) (each_at (segment_in side.Match s) sgs front sg back _ e (Contains-head (spot (past_segments front s) (ASegment side.Match (is_empty back) sg)) [])))
complete f _ _ (pattern_size s t on last sg e st ne h sz) =
    let P : Scope → Type 0 = λ z. IsUnder f (spot z (AnExpr e)) in
    subst P (sym (one_size_scope s t sz)) (one_more f (spot s (ASegment on last sg)) _ (complete f s (ASegment on last sg) st) (in_size s on sg e ne h))
complete f _ _ (part s e ys front y back st h i) = one_more f (spot s (AnExpr e)) _ (complete f s (AnExpr e) st) (in_parts s e ys front y back h i)
complete f _ _ (segment s e at sgs front sg back st h i) =
    one_more f (spot s (AnExpr e)) _ (complete f s (AnExpr e) st) (along _ _ _ (in_bits s e at sgs h) (each_at (built_in_turn s) sgs front sg back _ i (Contains-head (spot (behind (flat_map (λ g. g.value ∷ sizes_of g) front) s) (ASegment side.Build (is_empty back) sg)) [])))
complete f _ _ (segment_value s last sg st) = one_more f (spot s (ASegment side.Build last sg)) _ (complete f s (ASegment side.Build last sg) st) (Contains-head (spot s (AnExpr sg.value)) (each (same_in (behind (sg.value ∷ []) s)) [] (sizes_of sg)))
complete f _ _ (segment_size s last sg e st h) = one_more f (spot s (ASegment side.Build last sg)) _ (complete f s (ASegment side.Build last sg) st) (Contains-tail (spot s (AnExpr sg.value)) (each (same_in (behind (sg.value ∷ []) s)) [] (sizes_of sg)) _ (in_sizes (behind (sg.value ∷ []) s) sg e h))
complete f _ _ (alt_pattern s e ys alts at pt g is st h i) =
    one_more f (spot s (AnExpr e)) _ (complete f s (AnExpr e) st) (in_choice s e ys alts (record { at = at; pattern = pt; guard = g; body = is }) _ h i (Contains-head (spot (to_match (behind ys s)) (APattern pt)) (guard_in (in_guard (with_known (targets pt) (behind ys s))) g ++ spot (with_known (targets pt) (behind ys s)) (ABody is) ∷ [])))
complete f _ _ (alt_guard s e ys alts at pt g is tests y st h i ht hy) =
    let t : Scope = in_guard (with_known (targets pt) (behind ys s)) in
    one_more f (spot s (AnExpr e)) _ (complete f s (AnExpr e) st) (in_choice s e ys alts (record { at = at; pattern = pt; guard = g; body = is }) _ h i
    (Contains-tail (spot (to_match (behind ys s)) (APattern pt)) (guard_in (in_guard (with_known (targets pt) (behind ys s))) g ++ spot (with_known (targets pt) (behind ys s)) (ABody is) ∷ []) _ (Contains-append_left (guard_in t g) (spot (with_known (targets pt) (behind ys s)) (ABody is) ∷ []) _ (in_guard_of t g tests y ht hy))))
complete f _ _ (alt_body s e ys alts at pt g is st h i) =
    let t : Scope = with_known (targets pt) (behind ys s) in
    one_more f (spot s (AnExpr e)) _ (complete f s (AnExpr e) st) (in_choice s e ys alts (record { at = at; pattern = pt; guard = g; body = is }) _ h i
    (Contains-tail (spot (to_match (behind ys s)) (APattern pt)) (guard_in (in_guard (with_known (targets pt) (behind ys s))) g ++ spot (with_known (targets pt) (behind ys s)) (ABody is) ∷ []) _ (Contains-append_right (guard_in (in_guard t) g) (spot t (ABody is) ∷ []) _ (Contains-head (spot t (ABody is)) []))))
complete f _ _ (if_guard s e at bs az g is tests y st h i ht hy) =
    one_more f (spot s (AnExpr e)) _ (complete f s (AnExpr e) st) (in_branch s e at bs (record { at = az; guard = g; body = is }) _ h i (Contains-append_left (guard_in (in_guard s) g) (spot s (ABody is) ∷ []) _ (in_guard_of (in_guard s) g tests y ht hy)))
complete f _ _ (if_body s e at bs az g is st h i) =
    one_more f (spot s (AnExpr e)) _ (complete f s (AnExpr e) st) (in_branch s e at bs (record { at = az; guard = g; body = is }) _ h i (Contains-append_right (guard_in (in_guard s) g) (spot s (ABody is) ∷ []) _ (Contains-head (spot s (ABody is)) [])))
complete f _ _ (row s e ys quals y st c h) = one_more f (spot s (AnExpr e)) _ (complete f s (AnExpr e) st) (in_row s e ys quals y c h)
complete f _ _ (source s e ys quals front g back y st c h hs) =
    one_more f (spot s (AnExpr e)) _ (complete f s (AnExpr e) st) (in_qual s e ys quals front g back _ c h (source_in (past_quals front (past_row ys quals s)) g y hs))
complete f _ _ (generator s e ys quals front g back at pt y st c h hg) =
    let t : Scope = past_quals front (past_row ys quals s) in
    one_more f (spot s (AnExpr e)) _ (complete f s (AnExpr e) st) (in_qual s e ys quals front g back _ c h (along _ _ _ (in_items t g at pt y hg) (Contains-tail (spot t (AnExpr y)) (spot (to_generate t) (APattern pt) ∷ []) _ (Contains-head (spot (to_generate t) (APattern pt)) []))))
complete f _ _ (bit_generator s e ys quals front g back at sgs left sg right y st c h hg i) =
    let t : Scope = past_quals front (past_row ys quals s) in
    one_more f (spot s (AnExpr e)) _ (complete f s (AnExpr e) st) (in_qual s e ys quals front g back _ c h (along _ _ _ (in_bit_items t g at sgs y hg) (Contains-tail (spot t (AnExpr y)) (each (segment_in side.Generator (to_generate t)) [] sgs) _
    (each_at (segment_in side.Generator (to_generate t)) sgs left sg right _ i (Contains-head (spot (past_segments left (to_generate t)) (ASegment side.Generator (is_empty right) sg)) [])))))
