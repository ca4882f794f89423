-- What stands inside a clause of a function stands in the function.
use Rattle.std.proofs.Common.{◌≡◌, ◌≢◌, Bool, List, [], ◌∷◌, ◌++◌, reverse, Option, Some, None, refl, sym, ◌∙◌, ap, subst, ◌⊎◌, inl, inr}
use Rattle.std.specs.List.{Contains, flat_map}
use Rattle.std.proofs.lemmas.List.{reverse-reverse}
use Rattle.std.proofs.lemmas.List.Elements.{Contains-append_cases}
use Rattle.erl_syntax.specs.Bindings.{Bound, targets, targets_of, segment_targets}
use Rattle.erl_syntax.specs.Scopes.{Scope, Part, AnExpr, APattern, ABody, ASegment, Stands, IsKnown, nothing_known, with_known, behind, in_guard, to_match, to_generate, past_patterns, past_segments, past_items, generated, past_quals, past_row, is_empty, sizes_of, Parts, Chooses, Comprehends, PatternParts, tuple, list, call, case, unary, binary, receive, same, bits, items, filter, head, head_guard, head_body, item_value, item_pattern, pattern_part, pattern_segment, pattern_size, part, segment, segment_value, segment_size, alt_pattern, alt_guard, alt_body, if_guard, if_body, row, source, generator, bit_generator}
use Rattle.erl_syntax.specs.declared.span.Span.{Span}
use Rattle.erl_syntax.specs.declared.expr.Expr.{Expr, out-Expr, roll-Expr, roll-out-Expr}
use Rattle.erl_syntax.specs.declared.expr.Expr.TheVariants as x
use Rattle.erl_syntax.specs.declared.expr.Expr.TheOpen as O
use Rattle.erl_syntax.specs.declared.pattern.Pattern.{Pattern, out-Pattern, roll-Pattern, roll-out-Pattern}
use Rattle.erl_syntax.specs.declared.pattern.Pattern.TheVariants as p
use Rattle.erl_syntax.specs.declared.segment.Segment.{Segment}
use Rattle.erl_syntax.specs.declared.qual.Qual.{Qual, out-Qual, roll-Qual, roll-out-Qual}
use Rattle.erl_syntax.specs.declared.qual.Qual.TheVariants as q
use Rattle.erl_syntax.specs.declared.clause.Item.{Item}
use Rattle.erl_syntax.specs.declared.clause.Guard.{Guard}
use Rattle.erl_syntax.specs.declared.clause.Alt.{Alt, out-Alt, roll-Alt, roll-out-Alt}
use Rattle.erl_syntax.specs.declared.clause.Branch.{Branch, out-Branch, roll-Branch, roll-out-Branch}
use Rattle.erl_syntax.specs.declared.module.Function.{Function}
use Rattle.erl_syntax.specs.declared.typing.SideUse.{SideUse}
use Rattle.erl_syntax.specs.declared.typing.SideUse.TheVariants as side
use Rattle.module_check.specs.Spots.{Spot, spot, each, expr_in, exprs_in, same_in, tests_in, guard_in, pattern_in, patterns_in, matched_in, item_in, items_in, built_in_turn, segment_in, alt_in, branch_in, qual_layer_in, quals_in, comprehension_in, expr_layer_in, pattern_layer_in, size_scope, inside_segment, inside, clause_in, clauses_in, Under, here, deeper}
use Rattle.module_check.proofs.Spots.{none_in, only_one, cut_in, each_from}
use Rattle.module_check.proofs.Standing.{a_size_scope, left_known}
use Rattle.module_check.proofs.Complete.{reversed}

first_or_later : {X : Type 0} (y : X) (ys : List X) (d : X) → Contains (y ∷ ys) d → (y ≡ d) ⊎ Contains ys d
first_or_later y ys d h = elim (Contains-append_cases (y ∷ []) ys d h) [ inl k ↦ inl (only_one y d k) | inr k ↦ inr k ]

contains_one : {X : Type 0} (ys front : List X) (y : X) (back : List X) → ys ≡ front ++ y ∷ back → Contains ys y
contains_one {X} ys front y back e = let P : List X → Type 0 = λ zs. Contains zs y in subst P (sym e) (cut_in front y back)

abbrev pub Stand : Function → Spot → Type 0
Stand f d = Stands f d.scope d.part

moved : (f : Function) (b d : Spot) → b ≡ d → Stand f b → Stand f d
moved f b d e h = let P : Spot → Type 0 = λ z. Stands f z.scope z.part in subst P e h

module _ (f : Function) where
  from_guard : (s : Scope) (g : Guard) (d : Spot) → ((tests : List Expr) (y : Expr) → Contains g.alternatives tests → Contains tests y → Stands f s (AnExpr y)) → Contains (guard_in s g) d → Stand f d
  from_guard s g d k h =
      let r = each_from (tests_in s) [] g.alternatives d h in
      let t = each_from (same_in s) [] r.one d r.adds in
      moved f (spot s (AnExpr t.one)) d (only_one _ d t.adds) (k r.one t.one (contains_one g.alternatives r.front r.one r.back r.is) (contains_one r.one t.front t.one t.back t.is))

  from_same : (s : Scope) (ys : List Expr) (d : Spot) → ((y : Expr) → Contains ys y → Stands f s (AnExpr y)) → Contains (each (same_in s) [] ys) d → Stand f d
  from_same s ys d k h =
      let t = each_from (same_in s) [] ys d h in
      moved f (spot s (AnExpr t.one)) d (only_one _ d t.adds) (k t.one (contains_one ys t.front t.one t.back t.is))

  from_sizes : (s : Scope) (sg : Segment) (d : Spot) → ((e : Expr) → sg.size ≡ Some e → Stands f s (AnExpr e)) → Contains (each (same_in s) [] (sizes_of sg)) d → Stand f d
  from_sizes s sg d k h = by_size sg.size k h
    where
      by_size : (o : Option Expr) → ((e : Expr) → o ≡ Some e → Stands f s (AnExpr e)) → Contains (each (same_in s) [] (elim o [ None ↦ [] | Some y ↦ y ∷ [] ])) d → Stand f d
      by_size None k h = absurd (none_in d h)
      by_size (Some y) k h = moved f (spot s (AnExpr y)) d (only_one (spot s (AnExpr y)) d h) (k y refl)

  module _ (s : Scope) (e : Expr) (st : Stands f s (AnExpr e)) (d : Spot) where
    from_parts : (ys : List Expr) → Parts e ys → Contains (exprs_in s ys) d → Stand f d
    from_parts ys pa h =
        let r = each_from (expr_in s) [] ys d h in
        moved f (spot (behind r.front s) (AnExpr r.one)) d (only_one _ d r.adds) (part s e ys r.front r.one r.back st pa r.is)

    from_segments : (at : Span) (sgs : List Segment) → e ≡ x.Bits at sgs → Contains (each (built_in_turn s) [] sgs) d → Stand f d
    from_segments at sgs i h =
        let r = each_from (built_in_turn s) [] sgs d h in
        moved f (spot (behind (flat_map (λ g. g.value ∷ sizes_of g) r.front) s) (ASegment side.Build (is_empty r.back) r.one)) d (only_one _ d r.adds) (segment s e at sgs r.front r.one r.back st i r.is)

    from_alts : (ys : List Expr) (alts : List Alt) → Chooses e ys alts → Contains (each (alt_in (behind ys s)) [] alts) d → Stand f d
    from_alts ys alts ch h =
        let r = each_from (alt_in (behind ys s)) [] alts d h in
        let a = out-Alt r.one in
        let P : Alt → Type 0 = λ z. Contains alts z in
        let among : Contains alts (roll-Alt (out-Alt r.one)) = subst P (sym (roll-out-Alt r.one)) (contains_one alts r.front r.one r.back r.is) in
        let t : Scope = with_known (targets a.pattern) (behind ys s) in
        elim (first_or_later (spot (to_match (behind ys s)) (APattern a.pattern)) (guard_in (in_guard t) a.guard ++ spot t (ABody a.body) ∷ []) d r.adds) [
          | inl k ↦ moved f (spot (to_match (behind ys s)) (APattern a.pattern)) d k (alt_pattern s e ys alts a.at a.pattern a.guard a.body st ch among)
          | inr k ↦ elim (Contains-append_cases (guard_in (in_guard t) a.guard) (spot t (ABody a.body) ∷ []) d k) [
            | inl m ↦ from_guard (in_guard t) a.guard d (λ tests y ht hy. alt_guard s e ys alts a.at a.pattern a.guard a.body tests y st ch among ht hy) m
            | inr m ↦ moved f (spot t (ABody a.body)) d (only_one (spot t (ABody a.body)) d m) (alt_body s e ys alts a.at a.pattern a.guard a.body st ch among)
          ]
        ]

    from_branches : (at : Span) (bs : List Branch) → e ≡ x.If at bs → Contains (each (branch_in s) [] bs) d → Stand f d
    from_branches at bs i h =
        let r = each_from (branch_in s) [] bs d h in
        let b = out-Branch r.one in
        let P : Branch → Type 0 = λ z. Contains bs z in
        let among : Contains bs (roll-Branch (out-Branch r.one)) = subst P (sym (roll-out-Branch r.one)) (contains_one bs r.front r.one r.back r.is) in
        elim (Contains-append_cases (guard_in (in_guard s) b.guard) (spot s (ABody b.body) ∷ []) d r.adds) [
          | inl m ↦ from_guard (in_guard s) b.guard d (λ tests y ht hy. if_guard s e at bs b.at b.guard b.body tests y st i among ht hy) m
          | inr m ↦ moved f (spot s (ABody b.body)) d (only_one (spot s (ABody b.body)) d m) (if_body s e at bs b.at b.guard b.body st i among)
        ]

    from_qual : (ys : List Expr) (quals front : List Qual) (g : Qual) (back : List Qual) → Comprehends e ys quals → quals ≡ front ++ g ∷ back →
        (v : O.Qual-F Expr Pattern Qual Alt Branch Guard Item Segment) → g ≡ roll-Qual v → Contains (qual_layer_in (past_quals front (past_row ys quals s)) v) d → Stand f d
    from_qual ys quals front g back co i (O.Items at pt y) h k =
        let t : Scope = past_quals front (past_row ys quals s) in
        let is : g ≡ q.Items at pt y = h ∙ q.rolls-Items at pt y in
        elim (first_or_later (spot t (AnExpr y)) (spot (to_generate t) (APattern pt) ∷ []) d k) [
          | inl m ↦ moved f (spot t (AnExpr y)) d m (source s e ys quals front g back y st co i (items g at pt y is))
          | inr m ↦ moved f (spot (to_generate t) (APattern pt)) d (only_one (spot (to_generate t) (APattern pt)) d m) (generator s e ys quals front g back at pt y st co i is)
        ]
    from_qual ys quals front g back co i (O.Qual::Bits at sgs y) h k =
        let t : Scope = past_quals front (past_row ys quals s) in
        let is : g ≡ q.Bits at sgs y = h ∙ q.rolls-Bits at sgs y in
        elim (first_or_later (spot t (AnExpr y)) (each (segment_in side.Generator (to_generate t)) [] sgs) d k) [
          | inl m ↦ moved f (spot t (AnExpr y)) d m (source s e ys quals front g back y st co i (bits g at sgs y is))
          | inr m ↦ (let r = each_from (segment_in side.Generator (to_generate t)) [] sgs d m in
              moved f (spot (past_segments r.front (to_generate t)) (ASegment side.Generator (is_empty r.back) r.one)) d (only_one _ d r.adds)
              (bit_generator s e ys quals front g back at sgs r.front r.one r.back y st co i is r.is))
        ]
    from_qual ys quals front g back co i (O.Filter at y) h k =
        let t : Scope = past_quals front (past_row ys quals s) in
        moved f (spot t (AnExpr y)) d (only_one (spot t (AnExpr y)) d k) (source s e ys quals front g back y st co i (filter g at y (h ∙ q.rolls-Filter at y)))

    from_comprehension : (ys : List Expr) (quals : List Qual) → Comprehends e ys quals → Contains (comprehension_in s ys quals) d → Stand f d
    from_comprehension ys quals co h =
        elim (Contains-append_cases (each (same_in (record s { known = generated quals s.known })) [] ys) (each (quals_in (past_row ys quals s)) [] quals) d h) [
          | inl k ↦ from_same (record s { known = generated quals s.known }) ys d (λ y m. row s e ys quals y st co m) k
          | inr k ↦ (let r = each_from (quals_in (past_row ys quals s)) [] quals d k in
              from_qual ys quals r.front r.one r.back co r.is (out-Qual r.one) (sym (roll-out-Qual r.one)) r.adds)
        ]

    from_expr : (v : O.Expr-F Expr Pattern Qual Alt Branch Guard Item Segment) → e ≡ roll-Expr v → Contains (expr_layer_in s v) d → Stand f d
    from_expr (O.Expr::Tuple at ys) h k = from_parts ys (tuple e at ys (h ∙ x.rolls-Tuple at ys)) k
    from_expr (O.Expr::List at ys tail) h k = from_parts (ys ++ tail) (list e at ys tail (h ∙ x.rolls-List at ys tail)) k
    from_expr (O.Expr::Bits at sgs) h k = from_segments at sgs (h ∙ x.rolls-Bits at sgs) k
    from_expr (O.ListFor at ys quals) h k = from_comprehension ys quals (list e at ys quals (h ∙ x.rolls-ListFor at ys quals)) k
    from_expr (O.BitsFor at ys quals) h k = from_comprehension ys quals (bits e at ys quals (h ∙ x.rolls-BitsFor at ys quals)) k
    from_expr (O.Call at home n ys) h k = from_parts ys (call e at home n ys (h ∙ x.rolls-Call at home n ys)) k
    from_expr (O.Case at ys alts) h k = elim (Contains-append_cases (exprs_in s ys) (each (alt_in (behind ys s)) [] alts) d k) [
      | inl m ↦ from_parts ys (case e at ys alts (h ∙ x.rolls-Case at ys alts)) m
      | inr m ↦ from_alts ys alts (case e at ys alts (h ∙ x.rolls-Case at ys alts)) m
    ]
    from_expr (O.Receive at alts) h k = from_alts [] alts (receive e at alts (h ∙ x.rolls-Receive at alts)) k
    from_expr (O.If at bs) h k = from_branches at bs (h ∙ x.rolls-If at bs) k
    from_expr (O.Unary at op ys) h k = from_parts ys (unary e at op ys (h ∙ x.rolls-Unary at op ys)) k
    from_expr (O.Binary at op ys) h k = from_parts ys (binary e at op ys (h ∙ x.rolls-Binary at op ys)) k
    from_expr _ h k = absurd (none_in d k)

  module _ (s : Scope) (pt : Pattern) (st : Stands f s (APattern pt)) (d : Spot) where
    from_pattern_parts : (ps : List Pattern) → PatternParts pt ps → Contains (patterns_in s ps) d → Stand f d
    from_pattern_parts ps pa h =
        let r = each_from (pattern_in s) [] ps d h in
        moved f (spot (past_patterns r.front s) (APattern r.one)) d (only_one _ d r.adds) (pattern_part s pt ps r.front r.one r.back st pa r.is)

    from_pattern : (v : O.Pattern-F Expr Pattern Qual Alt Branch Guard Item Segment) → pt ≡ roll-Pattern v → Contains (pattern_layer_in s v) d → Stand f d
    from_pattern (O.Pattern::Tuple at ps) h k = from_pattern_parts ps (tuple pt at ps (h ∙ p.rolls-Tuple at ps)) k
    from_pattern (O.Pattern::List at ps tail) h k = from_pattern_parts (ps ++ tail) (list pt at ps tail (h ∙ p.rolls-List at ps tail)) k
    from_pattern (O.Pattern::Bits at sgs) h k =
        let r = each_from (segment_in side.Match s) [] sgs d k in
        moved f (spot (past_segments r.front s) (ASegment side.Match (is_empty r.back) r.one)) d (only_one _ d r.adds) (pattern_segment s pt at sgs r.front r.one r.back st (h ∙ p.rolls-Bits at sgs) r.is)
    from_pattern (O.Same at ps) h k = from_pattern_parts ps (same pt at ps (h ∙ p.rolls-Same at ps)) k
    from_pattern _ h k = absurd (none_in d k)

  -- the segments further left in a pattern's scope have values there
  left_is_known : (s : Scope) (on : SideUse) (last : Bool) (sg : Segment) → Stands f s (ASegment on last sg) → on ≢ side.Build → (b : Bound) → Contains s.left b → IsKnown s.known b.name
  left_is_known _ _ _ _ (pattern_segment s pt at sgs front sg back st h e) ne b i = left_known s.known (segment_targets front) b i
  left_is_known _ _ _ _ (segment s e at sgs front sg back st h i) ne b k = absurd (ne refl)
  left_is_known _ _ _ _ (bit_generator s e ys quals front g back at sgs left sg right y st c h hg i) ne b k = left_known (to_generate (past_quals front (past_row ys quals s))).known (segment_targets left) b k

  from_size : (s : Scope) (on : SideUse) (last : Bool) (sg : Segment) → Stands f s (ASegment on last sg) → on ≢ side.Build → (e : Expr) → sg.size ≡ Some e → Stands f (size_scope s) (AnExpr e)
  from_size s on last sg st ne e h = pattern_size s (size_scope s) on last sg e st ne h (a_size_scope s (left_is_known s on last sg st ne))

  from_segment : (s : Scope) (on : SideUse) (last : Bool) (sg : Segment) (d : Spot) → Stands f s (ASegment on last sg) → Contains (inside_segment s on sg) d → Stand f d
  from_segment s side.Build last sg d st h = elim (first_or_later (spot s (AnExpr sg.value)) (each (same_in (behind (sg.value ∷ []) s)) [] (sizes_of sg)) d h) [
    | inl k ↦ moved f (spot s (AnExpr sg.value)) d k (segment_value s last sg st)
    | inr k ↦ from_sizes (behind (sg.value ∷ []) s) sg d (λ e i. segment_size s last sg e st i) k
  ]
  from_segment s side.Match last sg d st h = from_sizes (size_scope s) sg d (λ e i. from_size s side.Match last sg st (λ k. cc) e i) h
  from_segment s side.Generator last sg d st h = from_sizes (size_scope s) sg d (λ e i. from_size s side.Generator last sg st (λ k. cc) e i) h

  from_item : (s : Scope) (is front : List Item) (i : Item) (back : List Item) (d : Spot) → Stands f s (ABody is) → is ≡ front ++ i ∷ back → Contains (item_in (past_items front s) i) d → Stand f d
  from_item s is front i back d st e h =
      let t : Scope = past_items front s in
      elim (first_or_later (spot t (AnExpr i.value)) (each (matched_in t) [] (reverse i.patterns)) d h) [
        | inl k ↦ moved f (spot t (AnExpr i.value)) d k (item_value s is front i back st e)
        | inr k ↦ (let r = each_from (matched_in t) [] (reverse i.patterns) d k in
            let back_again : i.patterns ≡ reverse r.back ++ r.one ∷ reverse r.front = sym (reverse-reverse i.patterns) ∙ ap reverse r.is ∙ reversed r.front r.one r.back in
            let P : List Pattern → Type 0 = λ zs. Stands f (to_match (with_known (targets_of zs) t)) (APattern r.one) in
            moved f (spot (to_match (with_known (targets_of r.front) t)) (APattern r.one)) d (only_one _ d r.adds)
            (subst P (reverse-reverse r.front) (item_pattern s is front i back (reverse r.back) r.one (reverse r.front) st e back_again)))
      ]

  sound_of : (s : Scope) (y : Part) (d : Spot) → Stands f s y → Contains (inside s y) d → Stand f d
  sound_of s (AnExpr e) d st h = from_expr s e st d (out-Expr e) (sym (roll-out-Expr e)) h
  sound_of s (APattern pt) d st h = from_pattern s pt st d (out-Pattern pt) (sym (roll-out-Pattern pt)) h
  sound_of s (ABody is) d st h = (let r = each_from (items_in s) [] is d h in from_item s is r.front r.one r.back d st r.is r.adds)
  sound_of s (ASegment on last sg) d st h = from_segment s on last sg d st h

  -- what stands inside a part of the function stands in the function
  pub sound : (b d : Spot) → Stand f b → Contains (inside b.scope b.part) d → Stand f d
  sound b d st h = sound_of b.scope b.part d st h

  pub root_stands : (d : Spot) → Contains (clauses_in f) d → Stand f d
  root_stands d h =
      let r = each_from clause_in [] f.clauses d h in
      let c = r.one in
      let among = contains_one f.clauses r.front c r.back r.is in
      let t : Scope = past_patterns c.patterns nothing_known in
      elim (Contains-append_cases (patterns_in (to_match nothing_known) c.patterns) (guard_in (in_guard t) c.guard ++ spot t (ABody c.body) ∷ []) d r.adds) [
        | inl k ↦ (let m = each_from (pattern_in (to_match nothing_known)) [] c.patterns d k in
            moved f (spot (past_patterns m.front (to_match nothing_known)) (APattern m.one)) d (only_one _ d m.adds) (head c m.front m.one m.back among m.is))
        | inr k ↦ elim (Contains-append_cases (guard_in (in_guard t) c.guard) (spot t (ABody c.body) ∷ []) d k) [
          | inl m ↦ from_guard (in_guard t) c.guard d (λ tests y ht hy. head_guard c tests y among ht hy) m
          | inr m ↦ moved f (spot t (ABody c.body)) d (only_one (spot t (ABody c.body)) d m) (head_body c among)
        ]
      ]

  pub under_stands : (b d : Spot) → Stand f b → Under b d → Stand f d
  under_stands b d st (here _ _ e) = moved f b d e st
  under_stands b d st (deeper _ c _ i u) = under_stands c d (sound b c st i) u
