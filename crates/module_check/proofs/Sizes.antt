-- How much is left to look at: how many parts there are.
use Rattle.std.proofs.Common.{◌≡◌, ℕ, ◌+◌, ◌<◌, ◌≤◌, Bool, true, false, List, [], ◌∷◌, ◌++◌, length, map, reverse, Option, Some, None, refl, ◌∙◌, ap, subst, inl, inr, arith}
use Rattle.std.proofs.lemmas.List.{reverse-append, map-append}
use Rattle.erl_syntax.specs.Bindings.{targets}
use Rattle.erl_syntax.specs.Scopes.{Scope, Part, AnExpr, APattern, ABody, ASegment, with_known, behind, in_guard, to_generate, past_items, generated, past_quals, past_row}
use Rattle.erl_syntax.specs.declared.span.Span.{Span}
use Rattle.erl_syntax.specs.declared.expr.Expr.{Expr, out-Expr, roll-Expr, roll-out-Expr}
use Rattle.erl_syntax.specs.declared.expr.Expr.TheOpen as O
use Rattle.erl_syntax.specs.declared.pattern.Pattern.{Pattern, out-Pattern, roll-Pattern, roll-out-Pattern}
use Rattle.erl_syntax.specs.declared.segment.Segment.{Segment}
use Rattle.erl_syntax.specs.declared.qual.Qual.{Qual, out-Qual, roll-Qual, roll-out-Qual}
use Rattle.erl_syntax.specs.declared.clause.Item.{Item}
use Rattle.erl_syntax.specs.declared.clause.Guard.{Guard}
use Rattle.erl_syntax.specs.declared.clause.Alt.{Alt, out-Alt}
use Rattle.erl_syntax.specs.declared.clause.Branch.{Branch, out-Branch}
use Rattle.erl_syntax.specs.declared.typing.SideUse.{SideUse}
use Rattle.erl_syntax.specs.declared.typing.SideUse.TheVariants as side
use Rattle.module_check.specs.Spots.{Spot, spot, each, expr_in, exprs_in, same_in, tests_in, guard_in, pattern_in, patterns_in, matched_in, item_in, items_in, built_in_turn, segment_in, alt_layer_in, alt_in, branch_layer_in, branch_in, qual_layer_in, qual_in, quals_in, comprehension_in, expr_layer_in, inside_expr, pattern_layer_in, inside_pattern, size_scope, inside_segment, inside}
use Rattle.erl_syntax.specs.declared.expr.Expr.TheFolds.{fold-Expr, fold-Pattern, fold-Qual, fold-Alt, fold-Branch, fold-Guard, fold-Item, fold-Segment, fold-roll-Expr, fold-roll-Pattern, fold-roll-Qual, fold_out-Alt, fold_out-Branch, fold_out-Guard, fold_out-Item, fold_out-Segment}
use Rattle.erl_syntax.specs.declared.segment.Spec.{Spec}
use Rattle.module_check.specs.declared.trees.Node.{Node}
use Rattle.module_check.specs.declared.tasks.Task.{Task}
use Rattle.module_check.specs.declared.tasks.Walk.{Walk}
use Rattle.module_check.specs.Tasks.{part_of, Fits, Look, left_in, Covers, no_spots, as_whole, by_itself, AllFit, Adds}
use Rattle.std.specs.List.{Contains}
use Rattle.std.proofs.lemmas.List.Elements.{Contains-append_cases}
use Rattle.module_check.proofs.Spots.{none_in, only_one}
use Rattle.module_check.proofs.Walking.{last_of}

abbrev pub tot : List ℕ → ℕ
tot [] = 0
tot (n ∷ ns) = n + tot ns

abbrev opt : Option ℕ → ℕ
opt None = 0
opt (Some n) = n

abbrev w_expr : O.Expr-F ℕ ℕ ℕ ℕ ℕ ℕ ℕ ℕ → ℕ
w_expr (O.Expr::Tuple at ys) = 1 + tot ys
w_expr (O.Expr::List at ys tail) = 1 + (tot ys + tot tail)
w_expr (O.Expr::Bits at sgs) = 1 + tot sgs
w_expr (O.ListFor at ys quals) = 1 + (tot ys + tot quals)
w_expr (O.BitsFor at ys quals) = 1 + (tot ys + tot quals)
w_expr (O.Call at home n ys) = 1 + tot ys
w_expr (O.Case at ys alts) = 1 + (tot ys + tot alts)
w_expr (O.Receive at alts) = 1 + tot alts
w_expr (O.If at bs) = 1 + tot bs
w_expr (O.Unary at op ys) = 1 + tot ys
w_expr (O.Binary at op ys) = 1 + tot ys
w_expr _ = 1

abbrev w_pattern : O.Pattern-F ℕ ℕ ℕ ℕ ℕ ℕ ℕ ℕ → ℕ
w_pattern (O.Pattern::Tuple at ps) = 1 + tot ps
w_pattern (O.Pattern::List at ps tail) = 1 + (tot ps + tot tail)
w_pattern (O.Pattern::Bits at sgs) = 1 + tot sgs
w_pattern (O.Same at ps) = 1 + tot ps
w_pattern _ = 1

abbrev w_qual : O.Qual-F ℕ ℕ ℕ ℕ ℕ ℕ ℕ ℕ → ℕ
w_qual (O.Items at pt y) = y + pt
w_qual (O.Qual::Bits at sgs y) = y + tot sgs
w_qual (O.Filter at y) = y

abbrev w_alt : O.Alt-F ℕ ℕ ℕ ℕ ℕ ℕ ℕ ℕ → ℕ
w_alt a = a.pattern + (a.guard + (1 + tot a.body))

abbrev w_branch : O.Branch-F ℕ ℕ ℕ ℕ ℕ ℕ ℕ ℕ → ℕ
w_branch b = b.guard + (1 + tot b.body)

abbrev w_guard : O.Guard-F ℕ ℕ ℕ ℕ ℕ ℕ ℕ ℕ → ℕ
w_guard g = tot (map tot g.alternatives)

abbrev w_item : O.Item-F ℕ ℕ ℕ ℕ ℕ ℕ ℕ ℕ → ℕ
w_item i = i.value + tot i.patterns

abbrev w_segment : O.Segment-F ℕ ℕ ℕ ℕ ℕ ℕ ℕ ℕ → ℕ
w_segment s = 1 + (s.value + opt s.size)

abbrev pub size_of_expr : Expr → ℕ
size_of_expr y = fold-Expr ℕ ℕ ℕ ℕ ℕ ℕ ℕ ℕ w_expr w_pattern w_qual w_alt w_branch w_guard w_item w_segment y

abbrev pub size_of_pattern : Pattern → ℕ
size_of_pattern y = fold-Pattern ℕ ℕ ℕ ℕ ℕ ℕ ℕ ℕ w_expr w_pattern w_qual w_alt w_branch w_guard w_item w_segment y

abbrev pub size_of_qual : Qual → ℕ
size_of_qual y = fold-Qual ℕ ℕ ℕ ℕ ℕ ℕ ℕ ℕ w_expr w_pattern w_qual w_alt w_branch w_guard w_item w_segment y

abbrev pub size_of_alt : Alt → ℕ
size_of_alt y = fold-Alt ℕ ℕ ℕ ℕ ℕ ℕ ℕ ℕ w_expr w_pattern w_qual w_alt w_branch w_guard w_item w_segment y

abbrev pub size_of_branch : Branch → ℕ
size_of_branch y = fold-Branch ℕ ℕ ℕ ℕ ℕ ℕ ℕ ℕ w_expr w_pattern w_qual w_alt w_branch w_guard w_item w_segment y

abbrev pub size_of_guard : Guard → ℕ
size_of_guard y = fold-Guard ℕ ℕ ℕ ℕ ℕ ℕ ℕ ℕ w_expr w_pattern w_qual w_alt w_branch w_guard w_item w_segment y

abbrev pub size_of_item : Item → ℕ
size_of_item y = fold-Item ℕ ℕ ℕ ℕ ℕ ℕ ℕ ℕ w_expr w_pattern w_qual w_alt w_branch w_guard w_item w_segment y

abbrev pub size_of_segment : Segment → ℕ
size_of_segment y = fold-Segment ℕ ℕ ℕ ℕ ℕ ℕ ℕ ℕ w_expr w_pattern w_qual w_alt w_branch w_guard w_item w_segment y

opt_size : Option Expr → ℕ
opt_size None = 0
opt_size (Some e) = size_of_expr e

tests_size : List Expr → ℕ
tests_size ts = tot (map size_of_expr ts)

guard_lists : (tss : List (List Expr)) → tot (map tot (map (map size_of_expr) tss)) ≡ tot (map (λ ts. tot (map size_of_expr ts)) tss)
guard_lists [] = refl
guard_lists (ts ∷ tss) = ap (λ n. tot (map size_of_expr ts) + n) (guard_lists tss)

guard_size : (g : Guard) → size_of_guard g ≡ tot (map (λ ts. tot (map size_of_expr ts)) g.alternatives)
guard_size g = fold_out-Guard ℕ ℕ ℕ ℕ ℕ ℕ ℕ ℕ w_expr w_pattern w_qual w_alt w_branch w_guard w_item w_segment g ∙ guard_lists g.alternatives

item_size : (i : Item) → size_of_item i ≡ size_of_expr i.value + tot (map size_of_pattern i.patterns)
item_size i = fold_out-Item ℕ ℕ ℕ ℕ ℕ ℕ ℕ ℕ w_expr w_pattern w_qual w_alt w_branch w_guard w_item w_segment i

alt_size : (a : Alt) → size_of_alt a ≡ size_of_pattern (out-Alt a).pattern + (size_of_guard (out-Alt a).guard + (1 + tot (map size_of_item (out-Alt a).body)))
alt_size a = fold_out-Alt ℕ ℕ ℕ ℕ ℕ ℕ ℕ ℕ w_expr w_pattern w_qual w_alt w_branch w_guard w_item w_segment a

branch_size : (b : Branch) → size_of_branch b ≡ size_of_guard (out-Branch b).guard + (1 + tot (map size_of_item (out-Branch b).body))
branch_size b = fold_out-Branch ℕ ℕ ℕ ℕ ℕ ℕ ℕ ℕ w_expr w_pattern w_qual w_alt w_branch w_guard w_item w_segment b

segment_part : (at : Span) (value : Expr) (size : Option Expr) (specs : List Spec) → (let s : Segment = record { at = at; value = value; size = size; specs = specs } in size_of_segment s) ≡ 1 + (size_of_expr value + opt_size size)
unfolding opt_size
segment_part at value None specs = fold_out-Segment ℕ ℕ ℕ ℕ ℕ ℕ ℕ ℕ w_expr w_pattern w_qual w_alt w_branch w_guard w_item w_segment (record { at = at; value = value; size = None; specs = specs })
segment_part at value (Some e) specs = fold_out-Segment ℕ ℕ ℕ ℕ ℕ ℕ ℕ ℕ w_expr w_pattern w_qual w_alt w_branch w_guard w_item w_segment (record { at = at; value = value; size = Some e; specs = specs })

segment_size_is : (s : Segment) → size_of_segment s ≡ 1 + (size_of_expr s.value + opt_size s.size)
segment_size_is s = segment_part s.at s.value s.size s.specs

abbrev pub size_of_part : Part → ℕ
size_of_part (AnExpr e) = size_of_expr e
size_of_part (APattern pt) = size_of_pattern pt
size_of_part (ABody is) = 1 + tot (map size_of_item is)
size_of_part (ASegment on last sg) = size_of_segment sg

abbrev pub total : List Spot → ℕ
total [] = 0
total (d ∷ ds) = size_of_part d.part + total ds

total_joined : (ds es : List Spot) → total (ds ++ es) ≡ total ds + total es
total_joined [] es = omega arith
total_joined (d ∷ ds) es = (let h = total_joined ds es in omega (arith, h))

total_each : {X : Type 0} (At : List X → X → List X → List Spot) (w : X → ℕ) → ((f : List X) (y : X) (b : List X) → total (At f y b) ≤ w y) → (front ys : List X) → total (each At front ys) ≤ tot (map w ys)
total_each At w h front [] = omega arith
total_each At w h front (y ∷ ys) =
    let a = total_joined (At front y ys) (each At (front ++ y ∷ []) ys) in
    let b = h front y ys in
    let c = total_each At w h (front ++ y ∷ []) ys in
    omega (arith, a, b, c)

tot_joined : (xs ys : List ℕ) → tot (xs ++ ys) ≡ tot xs + tot ys
tot_joined [] ys = omega arith
tot_joined (x ∷ xs) ys = (let h = tot_joined xs ys in omega (arith, h))

tot_reverse : (ps : List Pattern) → tot (map size_of_pattern (reverse ps)) ≡ tot (map size_of_pattern ps)
tot_reverse [] = refl
tot_reverse (p ∷ ps) =
    let a : tot (map size_of_pattern (reverse (p ∷ ps))) ≡ tot (map size_of_pattern (reverse ps)) + (size_of_pattern p + 0) =
    ap (λ zs. tot (map size_of_pattern zs)) (reverse-append (p ∷ []) ps) ∙ ap tot (map-append size_of_pattern (reverse ps) (p ∷ [])) ∙ tot_joined (map size_of_pattern (reverse ps)) (size_of_pattern p ∷ []) in
    let h = tot_reverse ps in
    omega (arith, a, h)

exprs_total : (s : Scope) (front ys : List Expr) → total (each (expr_in s) front ys) ≤ tot (map size_of_expr ys)
exprs_total s front ys = total_each (expr_in s) size_of_expr (λ f y b. omega arith) front ys

same_total : (s : Scope) (ys : List Expr) → total (each (same_in s) [] ys) ≤ tot (map size_of_expr ys)
same_total s ys = total_each (same_in s) size_of_expr (λ f y b. omega arith) [] ys

guard_total : (s : Scope) (g : Guard) → total (guard_in s g) ≤ size_of_guard g
guard_total s g = (let a = total_each (tests_in s) (λ ts. tot (map size_of_expr ts)) (λ f y b. same_total s y) [] g.alternatives in let b = guard_size g in omega (arith, a, b))

patterns_total : (s : Scope) (ps : List Pattern) → total (patterns_in s ps) ≤ tot (map size_of_pattern ps)
patterns_total s ps = total_each (pattern_in s) size_of_pattern (λ f y b. omega arith) [] ps

matched_total : (s : Scope) (ps : List Pattern) → total (each (matched_in s) [] ps) ≤ tot (map size_of_pattern ps)
matched_total s ps = total_each (matched_in s) size_of_pattern (λ f y b. omega arith) [] ps

item_total : (s : Scope) (i : Item) → total (item_in s i) ≤ size_of_item i
item_total s i = (let a = matched_total s (reverse i.patterns) in let b = tot_reverse i.patterns in let c = item_size i in omega (arith, a, b, c))

items_total : (s : Scope) (is : List Item) → total (each (items_in s) [] is) ≤ tot (map size_of_item is)
items_total s is = total_each (items_in s) size_of_item (λ f y b. item_total (past_items f s) y) [] is

built_total : (s : Scope) (sgs : List Segment) → total (each (built_in_turn s) [] sgs) ≤ tot (map size_of_segment sgs)
built_total s sgs = total_each (built_in_turn s) size_of_segment (λ f y b. omega arith) [] sgs

segments_total : (on : SideUse) (s : Scope) (sgs : List Segment) → total (each (segment_in on s) [] sgs) ≤ tot (map size_of_segment sgs)
segments_total on s sgs = total_each (segment_in on s) size_of_segment (λ f y b. omega arith) [] sgs

alt_total : (s : Scope) (y : Alt) → total (alt_layer_in s (out-Alt y)) ≤ size_of_alt y
alt_total s y =
    let a = out-Alt y in
    let t : Scope = with_known (targets a.pattern) s in
    let g = guard_total (in_guard t) a.guard in
    let j = total_joined (guard_in (in_guard t) a.guard) (spot t (ABody a.body) ∷ []) in
    let z = alt_size y in
    omega (arith, g, j, z)

branch_total : (s : Scope) (y : Branch) → total (branch_layer_in s (out-Branch y)) ≤ size_of_branch y
branch_total s y =
    let b = out-Branch y in
    let g = guard_total (in_guard s) b.guard in
    let j = total_joined (guard_in (in_guard s) b.guard) (spot s (ABody b.body) ∷ []) in
    let z = branch_size y in
    omega (arith, g, j, z)

alts_total : (s : Scope) (alts : List Alt) → total (each (alt_in s) [] alts) ≤ tot (map size_of_alt alts)
alts_total s alts = total_each (alt_in s) size_of_alt (λ f y b. alt_total s y) [] alts

branches_total : (s : Scope) (bs : List Branch) → total (each (branch_in s) [] bs) ≤ tot (map size_of_branch bs)
branches_total s bs = total_each (branch_in s) size_of_branch (λ f y b. branch_total s y) [] bs

qual_layer_total : (s : Scope) (v : O.Qual-F Expr Pattern Qual Alt Branch Guard Item Segment) → total (qual_layer_in s v) ≤ size_of_qual (roll-Qual v)
qual_layer_total s (O.Items at pt y) = (let e = fold-roll-Qual ℕ ℕ ℕ ℕ ℕ ℕ ℕ ℕ w_expr w_pattern w_qual w_alt w_branch w_guard w_item w_segment (O.Items at pt y) in omega (arith, e))
qual_layer_total s (O.Qual::Bits at sgs y) = (let e = fold-roll-Qual ℕ ℕ ℕ ℕ ℕ ℕ ℕ ℕ w_expr w_pattern w_qual w_alt w_branch w_guard w_item w_segment (O.Qual::Bits at sgs y) in let a = segments_total side.Generator (to_generate s) sgs in omega (arith, e, a))
qual_layer_total s (O.Filter at y) = (let e = fold-roll-Qual ℕ ℕ ℕ ℕ ℕ ℕ ℕ ℕ w_expr w_pattern w_qual w_alt w_branch w_guard w_item w_segment (O.Filter at y) in omega (arith, e))

qual_total : (s : Scope) (g : Qual) → total (qual_in s g) ≤ size_of_qual g
qual_total s g = (let P : Qual → Type 0 = λ z. total (qual_in s g) ≤ size_of_qual z in subst P (roll-out-Qual g) (qual_layer_total s (out-Qual g)))

quals_total : (s : Scope) (gs : List Qual) → total (each (quals_in s) [] gs) ≤ tot (map size_of_qual gs)
quals_total s gs = total_each (quals_in s) size_of_qual (λ f y b. qual_total (past_quals f s) y) [] gs

comprehension_total : (s : Scope) (ys : List Expr) (gs : List Qual) → total (comprehension_in s ys gs) ≤ tot (map size_of_expr ys) + tot (map size_of_qual gs)
comprehension_total s ys gs =
    let t : Scope = record s { known = generated gs s.known } in
    let a = same_total t ys in
    let b = quals_total (past_row ys gs s) gs in
    let j = total_joined (each (same_in t) [] ys) (each (quals_in (past_row ys gs s)) [] gs) in
    omega (arith, a, b, j)

smaller_expr : (s : Scope) (v : O.Expr-F Expr Pattern Qual Alt Branch Guard Item Segment) → total (expr_layer_in s v) < size_of_expr (roll-Expr v)
smaller_expr s (O.Expr::Tuple at ys) = (let e = fold-roll-Expr ℕ ℕ ℕ ℕ ℕ ℕ ℕ ℕ w_expr w_pattern w_qual w_alt w_branch w_guard w_item w_segment (O.Expr::Tuple at ys) in let a = exprs_total s [] ys in omega (arith, e, a))
smaller_expr s (O.Call at home n ys) = (let e = fold-roll-Expr ℕ ℕ ℕ ℕ ℕ ℕ ℕ ℕ w_expr w_pattern w_qual w_alt w_branch w_guard w_item w_segment (O.Call at home n ys) in let a = exprs_total s [] ys in omega (arith, e, a))
smaller_expr s (O.Unary at op ys) = (let e = fold-roll-Expr ℕ ℕ ℕ ℕ ℕ ℕ ℕ ℕ w_expr w_pattern w_qual w_alt w_branch w_guard w_item w_segment (O.Unary at op ys) in let a = exprs_total s [] ys in omega (arith, e, a))
smaller_expr s (O.Binary at op ys) = (let e = fold-roll-Expr ℕ ℕ ℕ ℕ ℕ ℕ ℕ ℕ w_expr w_pattern w_qual w_alt w_branch w_guard w_item w_segment (O.Binary at op ys) in let a = exprs_total s [] ys in omega (arith, e, a))
smaller_expr s (O.Expr::List at ys tail) = (let e = fold-roll-Expr ℕ ℕ ℕ ℕ ℕ ℕ ℕ ℕ w_expr w_pattern w_qual w_alt w_branch w_guard w_item w_segment (O.Expr::List at ys tail) in let a = exprs_total s [] (ys ++ tail) in let b = ap tot (map-append size_of_expr ys tail) ∙ tot_joined (map size_of_expr ys) (map size_of_expr tail) in omega (arith, e, a, b))
smaller_expr s (O.Expr::Bits at sgs) = (let e = fold-roll-Expr ℕ ℕ ℕ ℕ ℕ ℕ ℕ ℕ w_expr w_pattern w_qual w_alt w_branch w_guard w_item w_segment (O.Expr::Bits at sgs) in let a = built_total s sgs in omega (arith, e, a))
smaller_expr s (O.ListFor at ys quals) = (let e = fold-roll-Expr ℕ ℕ ℕ ℕ ℕ ℕ ℕ ℕ w_expr w_pattern w_qual w_alt w_branch w_guard w_item w_segment (O.ListFor at ys quals) in let a = comprehension_total s ys quals in omega (arith, e, a))
smaller_expr s (O.BitsFor at ys quals) = (let e = fold-roll-Expr ℕ ℕ ℕ ℕ ℕ ℕ ℕ ℕ w_expr w_pattern w_qual w_alt w_branch w_guard w_item w_segment (O.BitsFor at ys quals) in let a = comprehension_total s ys quals in omega (arith, e, a))
smaller_expr s (O.Case at ys alts) = (let e = fold-roll-Expr ℕ ℕ ℕ ℕ ℕ ℕ ℕ ℕ w_expr w_pattern w_qual w_alt w_branch w_guard w_item w_segment (O.Case at ys alts) in let a = exprs_total s [] ys in let b = alts_total (behind ys s) alts in let j = total_joined (exprs_in s ys) (each (alt_in (behind ys s)) [] alts) in omega (arith, e, a, b, j))
smaller_expr s (O.Receive at alts) = (let e = fold-roll-Expr ℕ ℕ ℕ ℕ ℕ ℕ ℕ ℕ w_expr w_pattern w_qual w_alt w_branch w_guard w_item w_segment (O.Receive at alts) in let b = alts_total (behind [] s) alts in omega (arith, e, b))
smaller_expr s (O.If at bs) = (let e = fold-roll-Expr ℕ ℕ ℕ ℕ ℕ ℕ ℕ ℕ w_expr w_pattern w_qual w_alt w_branch w_guard w_item w_segment (O.If at bs) in let b = branches_total s bs in omega (arith, e, b))
smaller_expr s (O.Expr::Var at name) = (let e = fold-roll-Expr ℕ ℕ ℕ ℕ ℕ ℕ ℕ ℕ w_expr w_pattern w_qual w_alt w_branch w_guard w_item w_segment (O.Expr::Var at name) in omega (arith, e))
smaller_expr s (O.Expr::Wild at) = (let e = fold-roll-Expr ℕ ℕ ℕ ℕ ℕ ℕ ℕ ℕ w_expr w_pattern w_qual w_alt w_branch w_guard w_item w_segment (O.Expr::Wild at) in omega (arith, e))
smaller_expr s (O.Expr::Int at value) = (let e = fold-roll-Expr ℕ ℕ ℕ ℕ ℕ ℕ ℕ ℕ w_expr w_pattern w_qual w_alt w_branch w_guard w_item w_segment (O.Expr::Int at value) in omega (arith, e))
smaller_expr s (O.Expr::Char at value) = (let e = fold-roll-Expr ℕ ℕ ℕ ℕ ℕ ℕ ℕ ℕ w_expr w_pattern w_qual w_alt w_branch w_guard w_item w_segment (O.Expr::Char at value) in omega (arith, e))
smaller_expr s (O.Expr::Atom at atom) = (let e = fold-roll-Expr ℕ ℕ ℕ ℕ ℕ ℕ ℕ ℕ w_expr w_pattern w_qual w_alt w_branch w_guard w_item w_segment (O.Expr::Atom at atom) in omega (arith, e))
smaller_expr s (O.ModuleName at) = (let e = fold-roll-Expr ℕ ℕ ℕ ℕ ℕ ℕ ℕ ℕ w_expr w_pattern w_qual w_alt w_branch w_guard w_item w_segment (O.ModuleName at) in omega (arith, e))
smaller_expr s (O.Expr::Str at chars) = (let e = fold-roll-Expr ℕ ℕ ℕ ℕ ℕ ℕ ℕ ℕ w_expr w_pattern w_qual w_alt w_branch w_guard w_item w_segment (O.Expr::Str at chars) in omega (arith, e))

smaller_pattern : (s : Scope) (v : O.Pattern-F Expr Pattern Qual Alt Branch Guard Item Segment) → total (pattern_layer_in s v) < size_of_pattern (roll-Pattern v)
smaller_pattern s (O.Pattern::Tuple at ps) = (let e = fold-roll-Pattern ℕ ℕ ℕ ℕ ℕ ℕ ℕ ℕ w_expr w_pattern w_qual w_alt w_branch w_guard w_item w_segment (O.Pattern::Tuple at ps) in let a = patterns_total s ps in omega (arith, e, a))
smaller_pattern s (O.Same at ps) = (let e = fold-roll-Pattern ℕ ℕ ℕ ℕ ℕ ℕ ℕ ℕ w_expr w_pattern w_qual w_alt w_branch w_guard w_item w_segment (O.Same at ps) in let a = patterns_total s ps in omega (arith, e, a))
smaller_pattern s (O.Pattern::List at ps tail) = (let e = fold-roll-Pattern ℕ ℕ ℕ ℕ ℕ ℕ ℕ ℕ w_expr w_pattern w_qual w_alt w_branch w_guard w_item w_segment (O.Pattern::List at ps tail) in let a = patterns_total s (ps ++ tail) in let b = ap tot (map-append size_of_pattern ps tail) ∙ tot_joined (map size_of_pattern ps) (map size_of_pattern tail) in omega (arith, e, a, b))
smaller_pattern s (O.Pattern::Bits at sgs) = (let e = fold-roll-Pattern ℕ ℕ ℕ ℕ ℕ ℕ ℕ ℕ w_expr w_pattern w_qual w_alt w_branch w_guard w_item w_segment (O.Pattern::Bits at sgs) in let a = segments_total side.Match s sgs in omega (arith, e, a))
smaller_pattern s (O.Pattern::Var at name) = (let e = fold-roll-Pattern ℕ ℕ ℕ ℕ ℕ ℕ ℕ ℕ w_expr w_pattern w_qual w_alt w_branch w_guard w_item w_segment (O.Pattern::Var at name) in omega (arith, e))
smaller_pattern s (O.Pattern::Wild at) = (let e = fold-roll-Pattern ℕ ℕ ℕ ℕ ℕ ℕ ℕ ℕ w_expr w_pattern w_qual w_alt w_branch w_guard w_item w_segment (O.Pattern::Wild at) in omega (arith, e))
smaller_pattern s (O.Pattern::Int at value) = (let e = fold-roll-Pattern ℕ ℕ ℕ ℕ ℕ ℕ ℕ ℕ w_expr w_pattern w_qual w_alt w_branch w_guard w_item w_segment (O.Pattern::Int at value) in omega (arith, e))
smaller_pattern s (O.Pattern::Char at value) = (let e = fold-roll-Pattern ℕ ℕ ℕ ℕ ℕ ℕ ℕ ℕ w_expr w_pattern w_qual w_alt w_branch w_guard w_item w_segment (O.Pattern::Char at value) in omega (arith, e))
smaller_pattern s (O.Pattern::Atom at atom) = (let e = fold-roll-Pattern ℕ ℕ ℕ ℕ ℕ ℕ ℕ ℕ w_expr w_pattern w_qual w_alt w_branch w_guard w_item w_segment (O.Pattern::Atom at atom) in omega (arith, e))
smaller_pattern s (O.Pattern::Str at chars) = (let e = fold-roll-Pattern ℕ ℕ ℕ ℕ ℕ ℕ ℕ ℕ w_expr w_pattern w_qual w_alt w_branch w_guard w_item w_segment (O.Pattern::Str at chars) in omega (arith, e))

sizes_total : (s : Scope) (o : Option Expr) → total (each (same_in s) [] (elim o [ None ↦ [] | Some y ↦ y ∷ [] ])) ≤ opt_size o
unfolding opt_size
sizes_total s None = omega arith
sizes_total s (Some e) = omega arith

smaller_segment : (s : Scope) (on : SideUse) (sg : Segment) → total (inside_segment s on sg) < size_of_segment sg
smaller_segment s side.Build sg = (let a = sizes_total (behind (sg.value ∷ []) s) sg.size in let b = segment_size_is sg in omega (arith, a, b))
smaller_segment s side.Match sg = (let a = sizes_total (size_scope s) sg.size in let b = segment_size_is sg in omega (arith, a, b))
smaller_segment s side.Generator sg = (let a = sizes_total (size_scope s) sg.size in let b = segment_size_is sg in omega (arith, a, b))

-- what stands right inside a part is smaller
pub smaller : (s : Scope) (y : Part) → total (inside s y) < size_of_part y
smaller s (AnExpr e) = (let P : Expr → Type 0 = λ z. total (inside_expr s e) < size_of_expr z in subst P (roll-out-Expr e) (smaller_expr s (out-Expr e)))
smaller s (APattern pt) = (let P : Pattern → Type 0 = λ z. total (inside_pattern s pt) < size_of_pattern z in subst P (roll-out-Pattern pt) (smaller_pattern s (out-Pattern pt)))
smaller s (ABody is) = (let a = items_total s is in omega (arith, a))
smaller s (ASegment on last sg) = smaller_segment s on sg

pub within : (ds : List Spot) (d : Spot) → Contains ds d → size_of_part d.part ≤ total ds
within [] d h = absurd (none_in d h)
within (e ∷ ds) d h = elim (Contains-append_cases (e ∷ []) ds d h) [
  | inl k ↦ (let P : Spot → Type 0 = λ z. size_of_part z.part ≤ total (e ∷ ds) in subst P (only_one e d k) (omega arith))
  | inr k ↦ (let r = within ds d k in omega (arith, r))
]

-- what stands inside a spot that is looked at by itself is counted for its own tasks
abbrev share : Bool → Part → ℕ
share true y = size_of_part y
share false y = 1

abbrev pub left_over : List Task → ℕ
left_over [] = 0
left_over (t ∷ ts) = share t.whole (part_of t.part) + left_over ts

abbrev shares : List Look → ℕ
shares [] = 0
shares (l ∷ ls) = share l.whole l.spot.part + shares ls

left_joined : (ts us : List Task) → left_over (ts ++ us) ≡ left_over ts + left_over us
left_joined [] us = omega arith
left_joined (t ∷ ts) us = (let h = left_joined ts us in omega (arith, h))

shares_joined : (ls ms : List Look) → shares (ls ++ ms) ≡ shares ls + shares ms
shares_joined [] ms = omega arith
shares_joined (l ∷ ls) ms = (let h = shares_joined ls ms in omega (arith, h))

left_total : (nodes : List Node) (least : ℕ) (ts : List Task) (ls : List Look) → AllFit nodes least ts ls → left_over ts ≡ shares ls
left_total nodes least [] [] h = refl
left_total nodes least [] (d ∷ ds) h = absurd h
left_total nodes least (t ∷ ts) [] h = absurd h
left_total nodes least (t ∷ ts) (l ∷ ls) h =
    let a = left_total nodes t.mark ts ls h.1 in
    let b : share t.whole (part_of t.part) ≡ share l.whole l.spot.part = ap (λ z. share z (part_of t.part)) h.0.whole ∙ ap (share l.whole) h.0.fits.part in
    omega (arith, a, b)

shares_total : (ds : List Spot) (ls : List Look) → Covers ds ls → shares ls ≤ total ds
shares_total _ _ no_spots = omega arith
shares_total _ _ (as_whole d ds ls c) = (let h = shares_total ds ls c in omega (arith, h))
shares_total _ _ (by_itself d ds within ls i c) =
    let a = shares_total (inside d.scope d.part) within i in
    let b = shares_total ds ls c in
    let j = shares_joined within ls in
    let less = smaller d.scope d.part in
    omega (arith, a, b, j, less)

left_less : (b : Bool) (d : Spot) → total (left_in b d) < share b d.part
left_less true d = smaller d.scope d.part
left_less false d = omega arith

pub falls : (w v : Walk) (old rest : List Task) (task : Task) (looks : List Look) → old ≡ rest ++ task ∷ [] → w.tasks.items ≡ rest
    → ((d : Spot) → Fits w.nodes.items task d → Adds w v (left_in task.whole d)) → AllFit w.nodes.items 0 old looks → left_over v.tasks.items < left_over old
falls w v old rest task looks e g adds fit =
    let P : List Task → Type 0 = λ zs. AllFit w.nodes.items 0 zs looks in
    let p = last_of w.nodes.items 0 rest task looks (subst P e fit) in
    let d = p.one.spot in
    let a = adds d p.fits in
    let new : left_over v.tasks.items ≡ left_over rest + left_over a.added = ap left_over (a.is ∙ ap (λ zs. zs ++ a.added) g) ∙ left_joined rest a.added in
    let before : left_over old ≡ left_over rest + (share task.whole (part_of task.part) + 0) = ap left_over e ∙ left_joined rest (task ∷ []) in
    let added = left_total v.nodes.items (length w.nodes.items) a.added a.looks a.fit in
    let all = shares_total (left_in task.whole d) a.looks a.covers in
    let less = left_less task.whole d in
    let same = ap (share task.whole) p.fits.part in
    omega (arith, new, before, added, all, less, same)
