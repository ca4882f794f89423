-- Each variable that has a value gets it at a place where it binds.
use Rattle.std.proofs.Common.{◌≡◌, ◌≢◌, ℕ, suc, zero, ◌≤◌, Bool, List, [], ◌∷◌, ◌++◌, reverse, refl, sym, ◌∙◌, ap, subst, inl, inr, arith}
use Rattle.std.specs.List.{Contains, flat_map, All}
use Rattle.std.proofs.lemmas.List.{append-nil, append_assoc, reverse-reverse}
use Rattle.std.proofs.lemmas.List.Elements.{All-head, All-tail, Contains-append_left}
use Rattle.std.proofs.lemmas.Grind.{flat_map-append}
use Rattle.erl_syntax.specs.Bindings.{Bound, Vars, Row, expr_layer, pattern_layer, qual_layer, alt_layer, branch_layer, guard_layer, item_layer, segment_layer, vars_of, vars_of_segment, targets, targets_of, segment_targets, new_names}
use Rattle.erl_syntax.specs.Scopes.{Scope, Part, AnExpr, APattern, ABody, ASegment, Stands, IsKnown, Found, nothing_known, with_known, behind, to_match, to_generate, past_patterns, past_segments, past_items, generated, past_quals, past_row, is_empty, Comprehends, PatternParts, tuple, list, same, head, head_guard, head_body, item_value, item_pattern, pattern_part, pattern_segment, pattern_size, part, segment, segment_value, segment_size, alt_pattern, alt_guard, alt_body, if_guard, if_body, row, source, generator, bit_generator}
use Rattle.erl_syntax.specs.Checking.{IsTarget, in_pattern, in_segment, Place, IsPlace, read, compared, bound}
use Rattle.erl_syntax.specs.declared.span.Span.{Span}
use Rattle.erl_syntax.specs.declared.expr.Expr.{Expr, out-Expr, roll-Expr, roll-out-Expr}
use Rattle.erl_syntax.specs.declared.expr.Expr.TheVariants as x
use Rattle.erl_syntax.specs.declared.expr.Expr.TheOpen as O
use Rattle.erl_syntax.specs.declared.expr.Expr.TheFolds.{fold-roll-Expr, fold-roll-Pattern}
use Rattle.erl_syntax.specs.declared.pattern.Pattern.{Pattern, out-Pattern, roll-Pattern, roll-out-Pattern}
use Rattle.erl_syntax.specs.declared.pattern.Pattern.TheVariants as p
use Rattle.erl_syntax.specs.declared.segment.Segment.{Segment}
use Rattle.erl_syntax.specs.declared.qual.Qual.{Qual, out-Qual, roll-Qual, roll-out-Qual}
use Rattle.erl_syntax.specs.declared.qual.Qual.TheVariants as q
use Rattle.erl_syntax.specs.declared.clause.Item.{Item}
use Rattle.erl_syntax.specs.declared.clause.Guard.{Guard}
use Rattle.erl_syntax.specs.declared.clause.Alt.{Alt}
use Rattle.erl_syntax.specs.declared.clause.Branch.{Branch}
use Rattle.erl_syntax.specs.declared.module.Function.{Function}
use Rattle.erl_syntax.specs.declared.module.Clause.{Clause}
use Rattle.erl_syntax.specs.declared.typing.SideUse.{SideUse}
use Rattle.erl_syntax.specs.declared.typing.SideUse.TheVariants as side
use Rattle.module_check.specs.Spots.{spot, inside_pattern}
use Rattle.module_check.proofs.Chained.{found_joined}
use Rattle.module_check.proofs.Spots.{Contains-head, Contains-tail, cut_at}
use Rattle.module_check.proofs.Sizes.{size_of_pattern, smaller, within}
use Rattle.module_check.proofs.Left.{own_value, own_var, tuple_targets, list_targets, bits_targets, same_targets, items_new, bits_new, filter_new}
use Rattle.module_check.proofs.Complete.{in_pattern_parts, reversed}
use Rattle.module_check.proofs.Tasked.{items_more}

module _ (f : Function) where
  -- what is found here gets its value at a place where a variable binds
  abbrev pub Backed : List Bound → Type 0
  Backed bs = (name : List ℕ) (at : Span) → Found bs name at → IsPlace f (record { at = at; bound_at = at })

  backed_none : Backed []
  backed_none = λ n z h. absurd h

  backed_joined : (bs cs : List Bound) → Backed bs → Backed cs → Backed (bs ++ cs)
  backed_joined bs cs b c = λ n z h. elim (found_joined bs cs n z h) [ inl k ↦ b n z k | inr k ↦ c n z k.1 ]

  moved_to : (bs cs : List Bound) → bs ≡ cs → Backed bs → Backed cs
  moved_to bs cs e b = subst Backed e b

  backed_nil : (known more : List Bound) → [] ≡ more → Backed known → Backed (known ++ more)
  backed_nil known more e b = moved_to known (known ++ more) (sym (append-nil known) ∙ ap (λ zs. known ++ zs) e) b

  -- a variable that a pattern binds or compares
  backed_target : (s : Scope) (at : Span) (name : List ℕ) → IsTarget f s at name → Backed s.known → Backed (s.known ++ record { name = name; at = at } ∷ [])
  backed_target s at name t b = λ n z h. elim (found_joined s.known (record { name = name; at = at } ∷ []) n z h) [
    | inl k ↦ b n z k
    | inr k ↦ elim k.1 [
      | inl m ↦ (let P : Span → Type 0 = λ y. IsPlace f (record { at = y; bound_at = y }) in
          let Q : List ℕ → Type 0 = λ y. IsKnown s.known y → ⊥ in
          subst P m.1 (bound s at name t (subst Q (sym m.0) k.0)))
      | inr m ↦ absurd m.1
    ]
  ]

  -- lists that add variables, one element behind another
  module _ {X : Type 0} (T : X → List Bound) (known : List Bound) (xs : List X)
      (one : (front : List X) (y : X) (back : List X) → xs ≡ front ++ y ∷ back → Backed (known ++ flat_map T front) → Backed ((known ++ flat_map T front) ++ T y)) where
    more : (front : List X) (y : X) → (known ++ flat_map T front) ++ T y ≡ known ++ flat_map T (front ++ y ∷ [])
    more front y =
        append_assoc known (flat_map T front) (T y)
        ∙ ap (λ zs. known ++ zs) (ap (λ zs. flat_map T front ++ zs) (sym (append-nil (T y))) ∙ sym (flat_map-append T front (y ∷ [])))

    go : (front back : List X) → xs ≡ front ++ back → Backed (known ++ flat_map T front) → Backed (known ++ flat_map T xs)
    go front [] e b = moved_to _ _ (ap (λ zs. known ++ flat_map T zs) (sym (e ∙ append-nil front))) b
    go front (y ∷ back) e b =
        go (front ++ y ∷ []) back (e ∙ sym (append_assoc front (y ∷ []) back)) (moved_to _ _ (more front y) (one front y back e b))

    backed_list : Backed known → Backed (known ++ flat_map T xs)
    backed_list b = go [] xs refl (moved_to _ _ (sym (append-nil known)) b)

  -- the segments of a bit pattern
  own_by : (s : Scope) (on : SideUse) (last : Bool) (sg : Segment) → Stands f s (ASegment on last sg) → on ≢ side.Build → Backed s.known → (v : O.Expr-F Expr Pattern Qual Alt Branch Guard Item Segment) → sg.value ≡ roll-Expr v → Backed (s.known ++ (vars_of (roll-Expr v)).own)
  own_by s on last sg st ne b (O.Expr::Var at name) h = moved_to _ _ (ap (λ zs. s.known ++ zs) (own_var (roll-Expr (O.Expr::Var at name)) at name (x.rolls-Var at name))) (backed_target s at name (in_segment s on last sg at name st ne (h ∙ x.rolls-Var at name)) b)
  own_by s on last sg st ne b v h = backed_nil s.known (vars_of (roll-Expr v)).own (sym (ap (λ r. r.own) (fold-roll-Expr Vars (List Bound) Row (List (List ℕ)) (List (List ℕ)) (Unit {0}) (List (List ℕ)) Vars expr_layer pattern_layer qual_layer alt_layer branch_layer guard_layer item_layer segment_layer v))) b

  backed_segment : (s : Scope) (on : SideUse) (last : Bool) (sg : Segment) → Stands f s (ASegment on last sg) → on ≢ side.Build → Backed s.known → Backed (s.known ++ (vars_of_segment sg).own)
  backed_segment s on last sg st ne b =
      let e : (vars_of (roll-Expr (out-Expr sg.value))).own ≡ (vars_of_segment sg).own = ap (λ z. (vars_of z).own) (roll-out-Expr sg.value) ∙ own_value sg in
      moved_to _ _ (ap (λ zs. s.known ++ zs) e) (own_by s on last sg st ne b (out-Expr sg.value) (sym (roll-out-Expr sg.value)))

  backed_segments : (s : Scope) (on : SideUse) (sgs : List Segment) → on ≢ side.Build → ((front : List Segment) (sg : Segment) (back : List Segment) → sgs ≡ front ++ sg ∷ back → Stands f (past_segments front s) (ASegment on (is_empty back) sg)) → Backed s.known → Backed (s.known ++ segment_targets sgs)
  backed_segments s on sgs ne st b = backed_list (λ sg. (vars_of_segment sg).own) s.known sgs (λ front sg back e c. backed_segment (past_segments front s) on (is_empty back) sg (st front sg back e) ne c) b

  -- a pattern
  size_falls : (n : ℕ) (s : Scope) (pt : Pattern) (ps front : List Pattern) (y : Pattern) (back : List Pattern) → size_of_pattern pt ≤ suc n → PatternParts pt ps → ps ≡ front ++ y ∷ back → size_of_pattern y ≤ n
  size_falls n s pt ps front y back l h e =
      let a = within (inside_pattern s pt) (spot (past_patterns front s) (APattern y)) (in_pattern_parts s pt ps front y back h e) in
      let c = smaller s (APattern pt) in
      omega (arith, a, c, l)

  abbrev Smaller : ℕ → Type 0
  Smaller n = (s : Scope) (pt : Pattern) → size_of_pattern pt ≤ n → Stands f s (APattern pt) → Backed s.known → Backed (s.known ++ targets pt)

  by_parts : (n : ℕ) (ih : Smaller n) (s : Scope) (pt : Pattern) → size_of_pattern pt ≤ suc n → Stands f s (APattern pt) → Backed s.known → (ps : List Pattern) → PatternParts pt ps → Backed (s.known ++ targets_of ps)
  by_parts n ih s pt l st b ps h = backed_list targets s.known ps (λ front y back e c. ih (past_patterns front s) y (size_falls n s pt ps front y back l h e) (pattern_part s pt ps front y back st h e) c) b

  by_form : (n : ℕ) (ih : Smaller n) (s : Scope) (pt : Pattern) → size_of_pattern pt ≤ suc n → Stands f s (APattern pt) → Backed s.known → (v : O.Pattern-F Expr Pattern Qual Alt Branch Guard Item Segment) → pt ≡ roll-Pattern v → Backed (s.known ++ targets (roll-Pattern v))
  by_form n ih s pt l st b (O.Pattern::Tuple at ps) h = moved_to _ _ (ap (λ zs. s.known ++ zs) (tuple_targets (roll-Pattern (O.Pattern::Tuple at ps)) at ps (p.rolls-Tuple at ps))) (by_parts n ih s pt l st b ps (tuple pt at ps (h ∙ p.rolls-Tuple at ps)))
  by_form n ih s pt l st b (O.Pattern::List at ps tail) h = moved_to _ _ (ap (λ zs. s.known ++ zs) (flat_map-append targets ps tail ∙ list_targets (roll-Pattern (O.Pattern::List at ps tail)) at ps tail (p.rolls-List at ps tail))) (by_parts n ih s pt l st b (ps ++ tail) (list pt at ps tail (h ∙ p.rolls-List at ps tail)))
  by_form n ih s pt l st b (O.Same at ps) h = moved_to _ _ (ap (λ zs. s.known ++ zs) (same_targets (roll-Pattern (O.Same at ps)) at ps (p.rolls-Same at ps))) (by_parts n ih s pt l st b ps (same pt at ps (h ∙ p.rolls-Same at ps)))
  by_form n ih s pt l st b (O.Pattern::Bits at sgs) h = moved_to _ _ (ap (λ zs. s.known ++ zs) (bits_targets (roll-Pattern (O.Pattern::Bits at sgs)) at sgs (p.rolls-Bits at sgs))) (backed_segments s side.Match sgs (λ e. cc) (λ front sg back e. pattern_segment s pt at sgs front sg back st (h ∙ p.rolls-Bits at sgs) e) b)
  by_form n ih s pt l st b (O.Pattern::Var at name) h =
      let e : record { name = name; at = at } ∷ [] ≡ targets (roll-Pattern (O.Pattern::Var at name)) = sym (fold-roll-Pattern Vars (List Bound) Row (List (List ℕ)) (List (List ℕ)) (Unit {0}) (List (List ℕ)) Vars expr_layer pattern_layer qual_layer alt_layer branch_layer guard_layer item_layer segment_layer (O.Pattern::Var at name)) in
      moved_to _ _ (ap (λ zs. s.known ++ zs) e) (backed_target s at name (in_pattern s pt at name st (h ∙ p.rolls-Var at name)) b)
  by_form n ih s pt l st b v h = backed_nil s.known (targets (roll-Pattern v)) (sym (fold-roll-Pattern Vars (List Bound) Row (List (List ℕ)) (List (List ℕ)) (Unit {0}) (List (List ℕ)) Vars expr_layer pattern_layer qual_layer alt_layer branch_layer guard_layer item_layer segment_layer v)) b

  backed_pattern : (n : ℕ) (s : Scope) (pt : Pattern) → size_of_pattern pt ≤ n → Stands f s (APattern pt) → Backed s.known → Backed (s.known ++ targets pt)
  backed_pattern zero s pt l st b = (let c = smaller s (APattern pt) in absurd (omega (arith, c, l)))
  backed_pattern (suc n) s pt l st b = (let P : Pattern → Type 0 = λ z. Backed (s.known ++ targets z) in subst P (roll-out-Pattern pt) (by_form n (backed_pattern n) s pt l st b (out-Pattern pt) (sym (roll-out-Pattern pt))))

  matched : (s : Scope) (pt : Pattern) → Stands f s (APattern pt) → Backed s.known → Backed (s.known ++ targets pt)
  matched s pt st b = backed_pattern (size_of_pattern pt) s pt (omega arith) st b

  -- the heads of a clause
  heads : (c : Clause) (front back : List Pattern) → Contains f.clauses c → c.patterns ≡ front ++ back → Backed (targets_of front)
  heads c front back hc e = backed_list targets [] front (λ fr y bk h b. matched (past_patterns fr (to_match nothing_known)) y (head c fr y (bk ++ back) hc (e ∙ ap (λ zs. zs ++ back) h ∙ append_assoc fr (y ∷ bk) back)) b) backed_none

  -- items
  module _ (s : Scope) (is : List Item) (st : Stands f s (ABody is)) where
    one_item : (front : List Item) (i : Item) (back : List Item) → is ≡ front ++ i ∷ back → (past : List Pattern) (rest : List Pattern) → reverse i.patterns ≡ past ++ rest → Backed (past_items front s).known → Backed ((past_items front s).known ++ targets_of past)
    one_item front i back e past rest h b =
        let t : Scope = past_items front s in
        backed_list targets t.known past (λ fr y bk g c.
        let turned : i.patterns ≡ reverse (bk ++ rest) ++ y ∷ reverse fr = sym (reverse-reverse i.patterns) ∙ ap reverse (h ∙ ap (λ zs. zs ++ rest) g ∙ append_assoc fr (y ∷ bk) rest) ∙ reversed fr y (bk ++ rest) in
        let P : List Pattern → Type 0 = λ zs. Stands f (to_match (with_known (targets_of zs) t)) (APattern y) in
        matched (to_match (with_known (targets_of fr) t)) y (subst P (reverse-reverse fr) (item_pattern s is front i back (reverse (bk ++ rest)) y (reverse fr) st e turned)) c) b

    items_go : (front middle back : List Item) → is ≡ front ++ (middle ++ back) → Backed (past_items front s).known → Backed (past_items (front ++ middle) s).known
    items_go front [] back e b = moved_to _ _ (ap (λ zs. (past_items zs s).known) (sym (append-nil front))) b
    items_go front (i ∷ middle) back e b =
        let next = one_item front i (middle ++ back) e (reverse i.patterns) [] (sym (append-nil (reverse i.patterns))) b in
        let there : Backed (past_items (front ++ i ∷ []) s).known = moved_to _ _ (ap (λ (z : Scope). z.known) (items_more front i s)) next in
        moved_to _ _ (ap (λ zs. (past_items zs s).known) (append_assoc front (i ∷ []) middle)) (items_go (front ++ i ∷ []) middle back (e ∙ sym (append_assoc front (i ∷ []) (middle ++ back))) there)

    backed_items : (front back : List Item) → is ≡ front ++ back → Backed s.known → Backed (past_items front s).known
    backed_items front back e b = items_go [] front back e b

  -- comprehensions
  module _ (s : Scope) (e : Expr) (ys : List Expr) (quals : List Qual) (st : Stands f s (AnExpr e)) (co : Comprehends e ys quals) where
    new_by : (front : List Qual) (g : Qual) (back : List Qual) → quals ≡ front ++ g ∷ back → (v : O.Qual-F Expr Pattern Qual Alt Branch Guard Item Segment) → g ≡ roll-Qual v → Backed (new_names g)
    new_by front g back i (O.Items at pt y) h =
        let t : Scope = to_generate (past_quals front (past_row ys quals s)) in
        moved_to _ _ (items_new g at pt y (h ∙ q.rolls-Items at pt y)) (matched t pt (generator s e ys quals front g back at pt y st co i (h ∙ q.rolls-Items at pt y)) backed_none)
    new_by front g back i (O.Qual::Bits at sgs y) h =
        let t : Scope = to_generate (past_quals front (past_row ys quals s)) in
        moved_to _ _ (bits_new g at sgs y (h ∙ q.rolls-Bits at sgs y)) (backed_segments t side.Generator sgs (λ k. cc) (λ left sg right k. bit_generator s e ys quals front g back at sgs left sg right y st co i (h ∙ q.rolls-Bits at sgs y) k) backed_none)
    new_by front g back i (O.Filter at y) h = moved_to _ _ (filter_new g at y (h ∙ q.rolls-Filter at y)) backed_none

    new_backed : (g : Qual) → Contains quals g → Backed (new_names g)
    new_backed g h = (let k = cut_at quals g h in new_by k.front g k.back k.is (out-Qual g) (sym (roll-out-Qual g)))

    generated_backed : (gs : List Qual) (known : List Bound) → ((g : Qual) → Contains gs g → Backed (new_names g)) → Backed known → Backed (generated gs known)
    generated_backed [] known h b = b
    generated_backed (g ∷ gs) known h b = generated_backed gs (new_names g ++ known) (λ z k. h z (Contains-tail g gs z k)) (backed_joined (new_names g) known (h g (Contains-head g gs)) b)

    past_known : (gs : List Qual) (t : Scope) → generated gs t.known ≡ (past_quals gs t).known
    past_known [] t = refl
    past_known (g ∷ gs) t = past_known gs _

    past_outer : (gs : List Qual) (t : Scope) → t.outer ≡ (past_quals gs t).outer
    past_outer [] t = refl
    past_outer (g ∷ gs) t = past_outer gs _

    front_backed : (front : List Qual) (g : Qual) (back : List Qual) → quals ≡ front ++ g ∷ back → Backed s.known → Backed (past_quals front (past_row ys quals s)).known
    front_backed front g back i b = moved_to _ _ (past_known front (past_row ys quals s)) (generated_backed front s.known (λ z k. new_backed z (let P : List Qual → Type 0 = λ zs. Contains zs z in subst P (sym i) (in_front front z (g ∷ back) k))) b)
      where
        in_front : (xs : List Qual) (z : Qual) (more : List Qual) → Contains xs z → Contains (xs ++ more) z
        in_front xs z more h = Contains-append_left xs more z h

  items_outer : (is : List Item) (s : Scope) → s.outer ≡ (past_items is s).outer
  items_outer [] s = refl
  items_outer (i ∷ is) s = items_outer is _

  -- what a size sees
  found_shown : (known shown : List Bound) → All (λ (b : Bound). Found known b.name b.at) shown → (name : List ℕ) (at : Span) → Found shown name at → Found known name at
  found_shown known [] h name at k = absurd k
  found_shown known (b ∷ bs) h name at (inl k) =
      let P : List ℕ → Type 0 = λ n. Found known n at in
      let Q : Span → Type 0 = λ z. Found known b.name z in
      subst P k.0 (subst Q k.1 (All-head (λ (b : Bound). Found known b.name b.at) b bs h))
  found_shown known (b ∷ bs) h name at (inr k) = found_shown known bs (All-tail (λ (b : Bound). Found known b.name b.at) b bs h) name at k.1

  -- in each scope, what is known and what stands outside
  abbrev pub Both : Scope → Type 0
  Both s = Backed s.known × Backed s.outer

  pub backed : (s : Scope) (y : Part) → Stands f s y → Both s
  backed _ _ (head c front pt back hc e) = (heads c front (pt ∷ back) hc e, backed_none)
  backed _ _ (head_guard c tests e hc ht he) = (heads c c.patterns [] hc (sym (append-nil c.patterns)), backed_none)
  backed _ _ (head_body c hc) = (heads c c.patterns [] hc (sym (append-nil c.patterns)), backed_none)
  backed _ _ (item_value s is front i back st e) = (let b = backed s (ABody is) st in (backed_items s is st front (i ∷ back) e b.0, moved_to _ _ (items_outer front s) b.1))
  backed _ _ (item_pattern s is front i back left pt right st e ep) =
      let b = backed s (ABody is) st in
      let k = one_item s is st front i back e (reverse right) (pt ∷ reverse left) (ap reverse ep ∙ reversed left pt right) (backed_items s is st front (i ∷ back) e b.0) in
      (k, k)
  backed _ _ (pattern_part s pt ps front y back st h e) =
      let b = backed s (APattern pt) st in
      (backed_list targets s.known front (λ fr z bk g c. matched (past_patterns fr s) z (pattern_part s pt ps fr z (bk ++ y ∷ back) st h (e ∙ ap (λ zs. zs ++ y ∷ back) g ∙ append_assoc fr (z ∷ bk) (y ∷ back))) c) b.0, b.1)
  backed _ _ (pattern_segment s pt at sgs front sg back st h e) =
      let b = backed s (APattern pt) st in
      (backed_list (λ g. (vars_of_segment g).own) s.known front (λ fr z bk g c. backed_segment (past_segments fr s) side.Match (is_empty (bk ++ sg ∷ back)) z (pattern_segment s pt at sgs fr z (bk ++ sg ∷ back) st h (e ∙ ap (λ zs. zs ++ sg ∷ back) g ∙ append_assoc fr (z ∷ bk) (sg ∷ back))) (λ k. cc) c) b.0, b.1)
  backed _ _ (pattern_size s t on last sg e st ne h z) =
      let b = backed s (ASegment on last sg) st in
      let P : Scope → Type 0 = Both in
      subst P (sym z.is) (backed_joined z.shown s.outer (λ n at k. b.0 n at (found_shown s.known z.shown z.places n at k)) b.1, backed_none)
  backed _ _ (part s e ys front y back st h i) = backed s (AnExpr e) st
  backed _ _ (segment s e at sgs front sg back st h i) = backed s (AnExpr e) st
  backed _ _ (segment_value s last sg st) = backed s (ASegment side.Build last sg) st
  backed _ _ (segment_size s last sg e st h) = backed s (ASegment side.Build last sg) st
  backed _ _ (alt_pattern s e ys alts at pt g is st h i) = (let b = backed s (AnExpr e) st in (b.0, b.0))
  backed _ _ (alt_guard s e ys alts at pt g is tests y st h i ht hy) = (let b = backed s (AnExpr e) st in (matched (to_match (behind ys s)) pt (alt_pattern s e ys alts at pt g is st h i) b.0, b.1))
  backed _ _ (alt_body s e ys alts at pt g is st h i) = (let b = backed s (AnExpr e) st in (matched (to_match (behind ys s)) pt (alt_pattern s e ys alts at pt g is st h i) b.0, b.1))
  backed _ _ (if_guard s e at bs az g is tests y st h i ht hy) = backed s (AnExpr e) st
  backed _ _ (if_body s e at bs az g is st h i) = backed s (AnExpr e) st
  backed _ _ (row s e ys quals y st c h) = (let b = backed s (AnExpr e) st in (generated_backed s e ys quals st c quals s.known (new_backed s e ys quals st c) b.0, b.1))
  backed _ _ (source s e ys quals front g back y st c h hs) =
      let b = backed s (AnExpr e) st in
      (front_backed s e ys quals st c front g back h b.0, moved_to _ _ (past_outer s e ys quals st c front (past_row ys quals s)) b.1)
  backed _ _ (generator s e ys quals front g back at pt y st c h hg) =
      let b = backed s (AnExpr e) st in
      (backed_none, front_backed s e ys quals st c front g back h b.0)
  backed _ _ (bit_generator s e ys quals front g back at sgs left sg right y st c h hg i) =
      let b = backed s (AnExpr e) st in
      let t : Scope = to_generate (past_quals front (past_row ys quals s)) in
      (backed_list (λ z. (vars_of_segment z).own) [] left (λ fr z bk k d. backed_segment (past_segments fr t) side.Generator (is_empty (bk ++ sg ∷ right)) z (bit_generator s e ys quals front g back at sgs fr z (bk ++ sg ∷ right) y st c h hg (i ∙ ap (λ zs. zs ++ sg ∷ right) k ∙ append_assoc fr (z ∷ bk) (sg ∷ right))) (λ m. cc) d) backed_none, front_backed s e ys quals st c front g back h b.0)

  -- a variable gets its value at a place where it binds
  pub binder : (a : Place) → IsPlace f a → IsPlace f (record { at = a.bound_at; bound_at = a.bound_at })
  binder _ (read s at name bound_at r h) = (backed s (AnExpr r.expr) r.stands).0 name bound_at h
  binder _ (compared s at name bound_at (in_pattern _ pt _ _ st e) h) = (backed s (APattern pt) st).0 name bound_at h
  binder _ (compared s at name bound_at (in_segment _ on last sg _ _ st ne e) h) = (backed s (ASegment on last sg) st).0 name bound_at h
  binder _ (bound s at name t h) = bound s at name t h
