-- What stands in a function stands inside one of its clauses, and the other way round.
use Rattle.std.proofs.Common.{◌≡◌, ℕ, Bool, true, false, cond, List, [], ◌∷◌, ◌++◌, map, refl, sym, ◌∙◌, ap, subst, ◌⊎◌, inl, inr, arith}
use Rattle.std.specs.List.{Contains, All}
use Rattle.std.specs.Str.{bytes_eq}
use Rattle.std.proofs.lemmas.List.{map-append}
use Rattle.std.proofs.lemmas.List.Elements.{Contains-append_right, Contains-append_cases, All-head, All-tail, All-cons, All-nil}
use Rattle.std.proofs.lemmas.Slice.Eq.{bytes_eq-Decides}
use Rattle.erl_syntax.specs.Bindings.{Bound, names}
use Rattle.erl_syntax.specs.Scopes.{Scope, AnExpr, APattern, Found, IsKnown, behind, to_generate, IsSizeScope}
use Rattle.erl_syntax.specs.declared.span.Span.{Span}
use Rattle.erl_syntax.specs.declared.expr.Expr.{Expr, out-Expr, roll-Expr, out-roll-Expr, roll-out-Expr}
use Rattle.erl_syntax.specs.declared.expr.Expr.TheVariants as x
use Rattle.erl_syntax.specs.declared.expr.Expr.TheOpen as O
use Rattle.erl_syntax.specs.declared.expr.Op.{Op}
use Rattle.erl_syntax.specs.declared.expr.Prefix.{Prefix}
use Rattle.erl_syntax.specs.declared.pattern.Pattern.{Pattern, out-Pattern, roll-Pattern, out-roll-Pattern, roll-out-Pattern}
use Rattle.erl_syntax.specs.declared.pattern.Pattern.TheVariants as p
use Rattle.erl_syntax.specs.declared.segment.Segment.{Segment}
use Rattle.erl_syntax.specs.declared.qual.Qual.{Qual, out-roll-Qual}
use Rattle.erl_syntax.specs.declared.qual.Qual.TheVariants as q
use Rattle.erl_syntax.specs.declared.clause.Guard.{Guard}
use Rattle.erl_syntax.specs.declared.clause.Item.{Item}
use Rattle.erl_syntax.specs.declared.clause.Alt.{Alt}
use Rattle.erl_syntax.specs.declared.clause.Branch.{Branch}
use Rattle.erl_syntax.specs.declared.typing.SideUse.TheVariants as side
use Rattle.module_check.specs.Spots.{Spot, spot, each, exprs_in, patterns_in, built_in_turn, segment_in, alt_in, branch_in, qual_layer_in, qual_in, comprehension_in, expr_layer_in, inside_expr, pattern_layer_in, inside_pattern, place_of, shown, size_scope}
use Rattle.module_check.proofs.Spots.{Contains-head, Contains-tail, none_in, only_one}

-- by the form of an expression
module _ (s : Scope) (e : Expr) (at : Span) where
  pub in_tuple : (ys : List Expr) → e ≡ x.Tuple at ys → inside_expr s e ≡ exprs_in s ys
  in_tuple ys h = ap (inside_expr s) (h ∙ sym (x.rolls-Tuple at ys)) ∙ ap (expr_layer_in s) (out-roll-Expr (O.Expr::Tuple at ys))

  pub in_list : (ys tail : List Expr) → e ≡ x.List at ys tail → inside_expr s e ≡ exprs_in s (ys ++ tail)
  in_list ys tail h = ap (inside_expr s) (h ∙ sym (x.rolls-List at ys tail)) ∙ ap (expr_layer_in s) (out-roll-Expr (O.Expr::List at ys tail))

  pub in_bits : (sgs : List Segment) → e ≡ x.Bits at sgs → inside_expr s e ≡ each (built_in_turn s) [] sgs
  in_bits sgs h = ap (inside_expr s) (h ∙ sym (x.rolls-Bits at sgs)) ∙ ap (expr_layer_in s) (out-roll-Expr (O.Expr::Bits at sgs))

  pub in_list_for : (row : List Expr) (quals : List Qual) → e ≡ x.ListFor at row quals → inside_expr s e ≡ comprehension_in s row quals
  in_list_for row quals h = ap (inside_expr s) (h ∙ sym (x.rolls-ListFor at row quals)) ∙ ap (expr_layer_in s) (out-roll-Expr (O.ListFor at row quals))

  pub in_bits_for : (row : List Expr) (quals : List Qual) → e ≡ x.BitsFor at row quals → inside_expr s e ≡ comprehension_in s row quals
  in_bits_for row quals h = ap (inside_expr s) (h ∙ sym (x.rolls-BitsFor at row quals)) ∙ ap (expr_layer_in s) (out-roll-Expr (O.BitsFor at row quals))

  pub in_call : (home : List Expr) (n : ℕ) (ys : List Expr) → e ≡ x.Call at home n ys → inside_expr s e ≡ exprs_in s ys
  in_call home n ys h = ap (inside_expr s) (h ∙ sym (x.rolls-Call at home n ys)) ∙ ap (expr_layer_in s) (out-roll-Expr (O.Call at home n ys))

  pub in_case : (ys : List Expr) (alts : List Alt) → e ≡ x.Case at ys alts → inside_expr s e ≡ exprs_in s ys ++ each (alt_in (behind ys s)) [] alts
  in_case ys alts h = ap (inside_expr s) (h ∙ sym (x.rolls-Case at ys alts)) ∙ ap (expr_layer_in s) (out-roll-Expr (O.Case at ys alts))

  pub in_receive : (alts : List Alt) → e ≡ x.Receive at alts → inside_expr s e ≡ each (alt_in (behind [] s)) [] alts
  in_receive alts h = ap (inside_expr s) (h ∙ sym (x.rolls-Receive at alts)) ∙ ap (expr_layer_in s) (out-roll-Expr (O.Receive at alts))

  pub in_if : (bs : List Branch) → e ≡ x.If at bs → inside_expr s e ≡ each (branch_in s) [] bs
  in_if bs h = ap (inside_expr s) (h ∙ sym (x.rolls-If at bs)) ∙ ap (expr_layer_in s) (out-roll-Expr (O.If at bs))

  pub in_unary : (op : Prefix) (ys : List Expr) → e ≡ x.Unary at op ys → inside_expr s e ≡ exprs_in s ys
  in_unary op ys h = ap (inside_expr s) (h ∙ sym (x.rolls-Unary at op ys)) ∙ ap (expr_layer_in s) (out-roll-Expr (O.Unary at op ys))

  pub in_binary : (op : Op) (ys : List Expr) → e ≡ x.Binary at op ys → inside_expr s e ≡ exprs_in s ys
  in_binary op ys h = ap (inside_expr s) (h ∙ sym (x.rolls-Binary at op ys)) ∙ ap (expr_layer_in s) (out-roll-Expr (O.Binary at op ys))

-- by the form of a pattern
module _ (s : Scope) (pt : Pattern) (at : Span) where
  pub in_pattern_tuple : (ps : List Pattern) → pt ≡ p.Tuple at ps → inside_pattern s pt ≡ patterns_in s ps
  in_pattern_tuple ps h = ap (inside_pattern s) (h ∙ sym (p.rolls-Tuple at ps)) ∙ ap (pattern_layer_in s) (out-roll-Pattern (O.Pattern::Tuple at ps))

  pub in_pattern_list : (ps tail : List Pattern) → pt ≡ p.List at ps tail → inside_pattern s pt ≡ patterns_in s (ps ++ tail)
  in_pattern_list ps tail h = ap (inside_pattern s) (h ∙ sym (p.rolls-List at ps tail)) ∙ ap (pattern_layer_in s) (out-roll-Pattern (O.Pattern::List at ps tail))

  pub in_pattern_bits : (sgs : List Segment) → pt ≡ p.Bits at sgs → inside_pattern s pt ≡ each (segment_in side.Match s) [] sgs
  in_pattern_bits sgs h = ap (inside_pattern s) (h ∙ sym (p.rolls-Bits at sgs)) ∙ ap (pattern_layer_in s) (out-roll-Pattern (O.Pattern::Bits at sgs))

  pub in_same : (ps : List Pattern) → pt ≡ p.Same at ps → inside_pattern s pt ≡ patterns_in s ps
  in_same ps h = ap (inside_pattern s) (h ∙ sym (p.rolls-Same at ps)) ∙ ap (pattern_layer_in s) (out-roll-Pattern (O.Same at ps))

-- where it has none of these forms, nothing stands inside it
module _ (s : Scope) (e : Expr)
    (not_Tuple : (at : Span) (ys : List Expr) → e ≡ x.Tuple at ys → ⊥)
    (not_List : (at : Span) (ys tail : List Expr) → e ≡ x.List at ys tail → ⊥)
    (not_Bits : (at : Span) (sgs : List Segment) → e ≡ x.Bits at sgs → ⊥)
    (not_ListFor : (at : Span) (ys : List Expr) (gs : List Qual) → e ≡ x.ListFor at ys gs → ⊥)
    (not_BitsFor : (at : Span) (ys : List Expr) (gs : List Qual) → e ≡ x.BitsFor at ys gs → ⊥)
    (not_Call : (at : Span) (home : List Expr) (n : ℕ) (ys : List Expr) → e ≡ x.Call at home n ys → ⊥)
    (not_Case : (at : Span) (ys : List Expr) (alts : List Alt) → e ≡ x.Case at ys alts → ⊥)
    (not_Receive : (at : Span) (alts : List Alt) → e ≡ x.Receive at alts → ⊥)
    (not_If : (at : Span) (bs : List Branch) → e ≡ x.If at bs → ⊥)
    (not_Unary : (at : Span) (op : Prefix) (ys : List Expr) → e ≡ x.Unary at op ys → ⊥)
    (not_Binary : (at : Span) (op : Op) (ys : List Expr) → e ≡ x.Binary at op ys → ⊥) where
  plain_expr_by : (v : O.Expr-F Expr Pattern Qual Alt Branch Guard Item Segment) → e ≡ roll-Expr v → expr_layer_in s v ≡ []
  plain_expr_by (O.Expr::Tuple at ys) h = absurd (not_Tuple at ys (h ∙ x.rolls-Tuple at ys))
  plain_expr_by (O.Expr::List at ys tail) h = absurd (not_List at ys tail (h ∙ x.rolls-List at ys tail))
  plain_expr_by (O.Expr::Bits at sgs) h = absurd (not_Bits at sgs (h ∙ x.rolls-Bits at sgs))
  plain_expr_by (O.ListFor at ys gs) h = absurd (not_ListFor at ys gs (h ∙ x.rolls-ListFor at ys gs))
  plain_expr_by (O.BitsFor at ys gs) h = absurd (not_BitsFor at ys gs (h ∙ x.rolls-BitsFor at ys gs))
  plain_expr_by (O.Call at home n ys) h = absurd (not_Call at home n ys (h ∙ x.rolls-Call at home n ys))
  plain_expr_by (O.Case at ys alts) h = absurd (not_Case at ys alts (h ∙ x.rolls-Case at ys alts))
  plain_expr_by (O.Receive at alts) h = absurd (not_Receive at alts (h ∙ x.rolls-Receive at alts))
  plain_expr_by (O.If at bs) h = absurd (not_If at bs (h ∙ x.rolls-If at bs))
  plain_expr_by (O.Unary at op ys) h = absurd (not_Unary at op ys (h ∙ x.rolls-Unary at op ys))
  plain_expr_by (O.Binary at op ys) h = absurd (not_Binary at op ys (h ∙ x.rolls-Binary at op ys))
  plain_expr_by _ h = refl

  pub plain_expr : inside_expr s e ≡ []
  plain_expr = plain_expr_by (out-Expr e) (sym (roll-out-Expr e))

-- where it has none of these forms, nothing stands inside it
module _ (s : Scope) (pt : Pattern)
    (not_Tuple : (at : Span) (ps : List Pattern) → pt ≡ p.Tuple at ps → ⊥)
    (not_List : (at : Span) (ps tail : List Pattern) → pt ≡ p.List at ps tail → ⊥)
    (not_Bits : (at : Span) (sgs : List Segment) → pt ≡ p.Bits at sgs → ⊥)
    (not_Same : (at : Span) (ps : List Pattern) → pt ≡ p.Same at ps → ⊥) where
  plain_pattern_by : (v : O.Pattern-F Expr Pattern Qual Alt Branch Guard Item Segment) → pt ≡ roll-Pattern v → pattern_layer_in s v ≡ []
  plain_pattern_by (O.Pattern::Tuple at ps) h = absurd (not_Tuple at ps (h ∙ p.rolls-Tuple at ps))
  plain_pattern_by (O.Pattern::List at ps tail) h = absurd (not_List at ps tail (h ∙ p.rolls-List at ps tail))
  plain_pattern_by (O.Pattern::Bits at sgs) h = absurd (not_Bits at sgs (h ∙ p.rolls-Bits at sgs))
  plain_pattern_by (O.Same at ps) h = absurd (not_Same at ps (h ∙ p.rolls-Same at ps))
  plain_pattern_by _ h = refl

  pub plain_pattern : inside_pattern s pt ≡ []
  plain_pattern = plain_pattern_by (out-Pattern pt) (sym (roll-out-Pattern pt))

-- by the form of a qualifier
module _ (s : Scope) (g : Qual) (at : Span) where
  pub in_items : (pt : Pattern) (y : Expr) → g ≡ q.Items at pt y → qual_in s g ≡ spot s (AnExpr y) ∷ spot (to_generate s) (APattern pt) ∷ []
  in_items pt y h = ap (qual_in s) (h ∙ sym (q.rolls-Items at pt y)) ∙ ap (qual_layer_in s) (out-roll-Qual (O.Items at pt y))

  pub in_bit_items : (sgs : List Segment) (y : Expr) → g ≡ q.Bits at sgs y → qual_in s g ≡ spot s (AnExpr y) ∷ each (segment_in side.Generator (to_generate s)) [] sgs
  in_bit_items sgs y h = ap (qual_in s) (h ∙ sym (q.rolls-Bits at sgs y)) ∙ ap (qual_layer_in s) (out-roll-Qual (O.Qual::Bits at sgs y))

  pub in_filter : (y : Expr) → g ≡ q.Filter at y → qual_in s g ≡ spot s (AnExpr y) ∷ []
  in_filter y h = ap (qual_in s) (h ∙ sym (q.rolls-Filter at y)) ∙ ap (qual_layer_in s) (out-roll-Qual (O.Filter at y))

pub along : (xs ys : List Spot) (d : Spot) → xs ≡ ys → Contains ys d → Contains xs d
along xs ys d e h = let P : List Spot → Type 0 = λ zs. Contains zs d in subst P (sym e) h

-- the scope of a size
same_bound : (a b : Bound) → a.name ≡ b.name → a.at ≡ b.at → a ≡ b
same_bound a b e h =
    let f : List ℕ → Bound = λ n. record { name = n; at = a.at } in
    let g : Span → Bound = λ z. record { name = b.name; at = z } in
    ap f e ∙ ap g h

pub found_place : (known : List Bound) (name : List ℕ) (at d : Span) → Found known name at → place_of known name d ≡ at
found_place [] name at d h = absurd h
found_place (b ∷ bs) name at d (inl h) = ap (λ t. cond t b.at (place_of bs name d)) ((bytes_eq-Decides b.name name).1 h.0) ∙ h.1
found_place (b ∷ bs) name at d (inr h) =
    elim (the_test (bytes_eq b.name name)) [
      | inl t ↦ absurd (h.0 ((bytes_eq-Decides b.name name).0 t))
      | inr t ↦ ap (λ t. cond t b.at (place_of bs name d)) t ∙ found_place bs name at d h.1
    ]
  where
    the_test : (r : Bool) → (r ≡ true) ⊎ (r ≡ false)
    the_test true = inl refl
    the_test false = inr refl

test : (r : Bool) → (r ≡ true) ⊎ (r ≡ false)
test true = inl refl
test false = inr refl

pub known_found : (known : List Bound) (name : List ℕ) (d : Span) → IsKnown known name → Found known name (place_of known name d)
known_found [] name d h = absurd (omega (arith, h.1))
known_found (b ∷ bs) name d h =
    let P : Bool → Type 0 = λ t. Found (b ∷ bs) name (cond t b.at (place_of bs name d)) in
    elim (test (bytes_eq b.name name)) [
      | inl t ↦ subst P (sym t) (inl ((bytes_eq-Decides b.name name).0 t, refl))
      | inr t ↦ subst P (sym t) (inr ((λ e. let k : true ≡ false = sym ((bytes_eq-Decides b.name name).1 e) ∙ t in cc), known_found bs name d (elim (Contains-append_cases (b.name ∷ []) (names bs) name h) [ inl k ↦ absurd (let k2 : true ≡ false = sym ((bytes_eq-Decides b.name name).1 (only_one b.name name k)) ∙ t in cc) | inr k ↦ k ])))
    ]

same_shown : (known sh left : List Bound) → map (λ b. b.name) sh ≡ names left → All (λ (b : Bound). Found known b.name b.at) sh → sh ≡ map (λ b. record { name = b.name; at = place_of known b.name b.at }) left
same_shown known [] [] e h = refl
same_shown known [] (b ∷ left) e h = cc
same_shown known (a ∷ sh) [] e h = cc
same_shown known (a ∷ sh) (b ∷ left) e h =
    let en : a.name ≡ b.name = cc in
    let er : map (λ b. b.name) sh ≡ names left = cc in
    let here = All-head (λ b. Found known b.name b.at) a sh h in
    let ih = same_shown known sh left er (All-tail (λ b. Found known b.name b.at) a sh h) in
    let Q : List ℕ → Type 0 = λ n. Found known n a.at in
    let c : Bound = record { name = b.name; at = place_of known b.name b.at } in
    let one : a ≡ c = same_bound a c en (sym (found_place known b.name a.at b.at (subst Q en here))) in
    ap (λ z. z ∷ sh) one ∙ ap (λ zs. c ∷ zs) ih

pub one_size_scope : (s t : Scope) → IsSizeScope s t → t ≡ size_scope s
one_size_scope s t h =
    let f : List Bound → Scope = λ bs. record { known = bs ++ s.outer; outer = []; left = []; dangers = s.dangers; guarded = true } in
    h.is ∙ ap f (same_shown s.known h.shown s.left h.same h.places)

same_names : (known left : List Bound) → names (map (λ b. record { name = b.name; at = place_of known b.name b.at }) left) ≡ names left
same_names known [] = refl
same_names known (b ∷ left) = ap (λ ns. b.name ∷ ns) (same_names known left)

all_found : (known left : List Bound) → ((b : Bound) → Contains left b → IsKnown known b.name) → All (λ (b : Bound). Found known b.name b.at) (map (λ b. record { name = b.name; at = place_of known b.name b.at }) left)
all_found known [] h = All-nil (λ (b : Bound). Found known b.name b.at)
all_found known (b ∷ left) h =
    All-cons (λ (b : Bound). Found known b.name b.at) (record { name = b.name; at = place_of known b.name b.at }) (map (λ b. record { name = b.name; at = place_of known b.name b.at }) left) (known_found known b.name b.at (h b (Contains-head b left)))
    (all_found known left (λ c k. h c (Contains-tail b left c k)))

pub a_size_scope : (s : Scope) → ((b : Bound) → Contains s.left b → IsKnown s.known b.name) → IsSizeScope s (size_scope s)
a_size_scope s h = record { shown = shown s; same = same_names s.known s.left; places = all_found s.known s.left h; is = refl }

named : (bs : List Bound) (b : Bound) → Contains bs b → Contains (names bs) b.name
named [] b h = absurd (none_in b h)
named (a ∷ bs) b h = elim (Contains-append_cases (a ∷ []) bs b h) [
  | inl k ↦ (let P : Bound → Type 0 = λ z. Contains (a.name ∷ names bs) z.name in subst P (only_one a b k) (Contains-head a.name (names bs)))
  | inr k ↦ Contains-tail a.name (names bs) b.name (named bs b k)
]

pub left_known : (known left : List Bound) (b : Bound) → Contains left b → IsKnown (known ++ left) b.name
left_known known left b h =
    let P : List (List ℕ) → Type 0 = λ ns. Contains ns b.name in
    subst P (sym (map-append (λ z. z.name) known left)) (Contains-append_right (names known) (names left) b.name (named left b h))
