-- Scopes and tasks of segments, qualifiers and clauses.
use Rattle.std.proofs.Common.{◌≡◌, ℕ, ◌+◌, ◌<◌, Bool, true, false, List, [], ◌∷◌, ◌++◌, length, map, Option, Some, None, refl, sym, ◌∙◌, ap, subst, ◌⊎◌, inl, inr, arith}
use Rattle.std.specs.List.{Contains, flat_map}
use Rattle.std.proofs.lemmas.List.{append-nil, append_assoc, map-append}
use Rattle.std.proofs.lemmas.List.Elements.{Contains-append_left, Contains-append_cases, Contains-push}
use Rattle.erl_syntax.specs.Bindings.{Bound, names, segment_targets}
use Rattle.erl_syntax.specs.Scopes.{Scope, ASegment, Found, IsKnown, nothing_known, behind, to_generate, past_segments, generated, past_quals, is_empty, sizes_of}
use Rattle.erl_syntax.specs.declared.span.Span.{Span}
use Rattle.erl_syntax.specs.declared.expr.Expr.{Expr}
use Rattle.erl_syntax.specs.declared.segment.Segment.{Segment}
use Rattle.erl_syntax.specs.declared.qual.Qual.{Qual}
use Rattle.erl_syntax.specs.declared.typing.SideUse.{SideUse}
use Rattle.erl_syntax.specs.declared.typing.SideUse.TheVariants as side
use Rattle.module_check.specs.Spots.{Spot, each, same_in, place_of, size_scope}
use Rattle.module_check.proofs.Spots.{Contains-head, Contains-tail, none_in, only_one}
use Rattle.std.proofs.Common.{drop, ◌-◌}
use Rattle.std.proofs.lemmas.Grind.{flat_map-append}
use Rattle.erl_syntax.specs.Scopes.{Danger}
use Rattle.erl_syntax.specs.Bindings.{vars_of, new_names, qual_unsafe}
use Rattle.module_check.specs.declared.trees.Node.{Node}
use Rattle.module_check.specs.declared.tasks.Facts.{Facts}
use Rattle.module_check.specs.Nodes.{Agree, Sees, SeesUnsafe, Grown, TreeOf}
use Rattle.module_check.specs.Tasks.{Means, SeesSizes}
use Rattle.module_check.proofs.Chained.{sees_grown, unsafe_grown, itself}
use Rattle.std.proofs.lemmas.List.{length-drop}
use Rattle.std.proofs.lemmas.Bool.Decides.{Decides-eqb}
use Rattle.std.proofs.Common.{nat_eq, ◌<◌}
use Rattle.erl_syntax.specs.Bindings.{vars_of_segment}
use Rattle.module_check.specs.Tasks.{Passes, passed, with_new, size_in}
use Rattle.module_check.proofs.Chained.{chain_none, found_left, found_right, found_joined, same_known, flip, sees_put, sees_agree, one_place_of, known_cases, same_name}
use Rattle.module_check.proofs.Standing.{found_place, known_found, left_known}
use Rattle.module_check.proofs.Tasked.{means_grown}

by_emptiness : {X : Type 0} (zs : List X) (r : Bool) → (r ≡ true → length zs ≡ 0) → (length zs ≡ 0 → r ≡ true) → r ≡ is_empty zs
by_emptiness [] r h k = k refl
by_emptiness (z ∷ zs) true h k = absurd (let e : length (z ∷ zs) ≡ 0 = h refl in omega (arith, e))
by_emptiness (z ∷ zs) false h k = refl

pub last_is : {X : Type 0} (xs : List X) (i : ℕ) → i < length xs → nat_eq (i + 1) (length xs) ≡ is_empty (drop (i + 1) xs)
last_is xs i l =
    let size : length (drop (i + 1) xs) ≡ length xs - (i + 1) = length-drop (i + 1) xs in
    by_emptiness (drop (i + 1) xs) (nat_eq (i + 1) (length xs))
    (λ t. let e : i + 1 ≡ length xs = (Decides-eqb (i + 1) (length xs)).0 t in omega arith)
    (λ t. (Decides-eqb (i + 1) (length xs)).1 (omega arith))

pub behind_joined : (s : Scope) (xs ys : List Expr) → behind ys (behind xs s) ≡ behind (xs ++ ys) s
behind_joined s xs ys =
    let D : Expr → Danger = λ y. record { left_unsafe = (vars_of y).left_unsafe; known = s.known } in
    let F : List Danger → Scope = λ ds. record { known = s.known; outer = s.outer; left = s.left; dangers = ds; guarded = s.guarded } in
    ap F (append_assoc s.dangers (map D xs) (map D ys) ∙ ap (λ zs. s.dangers ++ zs) (sym (map-append D xs ys)))

pub behind_none : (s : Scope) → s ≡ behind [] s
behind_none s =
    let F : List Danger → Scope = λ ds. record { known = s.known; outer = s.outer; left = s.left; dangers = ds; guarded = s.guarded } in
    ap F (sym (append-nil s.dangers))

pub sizes_of_some : (sg : Segment) (e : Expr) → sg.size ≡ Some e → e ∷ [] ≡ sizes_of sg
sizes_of_some sg e h = let P : Option Expr → Type 0 = λ o. e ∷ [] ≡ elim o [ None ↦ [] | Some y ↦ y ∷ [] ] in subst P (sym h) refl

pub sizes_of_none : (sg : Segment) → sg.size ≡ None → [] ≡ sizes_of sg
sizes_of_none sg h = let P : Option Expr → Type 0 = λ o. [] ≡ elim o [ None ↦ [] | Some y ↦ y ∷ [] ] in subst P (sym h) refl

built_step : (front : List Segment) (sg : Segment) → flat_map (λ g. g.value ∷ sizes_of g) front ++ (sg.value ∷ sizes_of sg) ≡ flat_map (λ g. g.value ∷ sizes_of g) (front ++ sg ∷ [])
built_step front sg = ap (λ zs. flat_map (λ g. g.value ∷ sizes_of g) front ++ zs) (sym (append-nil (sg.value ∷ sizes_of sg))) ∙ sym (flat_map-append (λ g. g.value ∷ sizes_of g) front (sg ∷ []))

pub built_more : (s : Scope) (front : List Segment) (sg : Segment) → behind (sg.value ∷ sizes_of sg) (behind (flat_map (λ g. g.value ∷ sizes_of g) front) s) ≡ behind (flat_map (λ g. g.value ∷ sizes_of g) (front ++ sg ∷ [])) s
built_more s front sg = behind_joined s (flat_map (λ g. g.value ∷ sizes_of g) front) (sg.value ∷ sizes_of sg) ∙ ap (λ zs. behind zs s) (built_step front sg)

pub sizes_any : (nodes : List Node) (k : ℕ) (s : Scope) (on : SideUse) (last : Bool) (sg : Segment) → Sees nodes k (size_scope s).known → SeesSizes nodes k s (ASegment on last sg)
sizes_any nodes k s side.Build last sg h = tt
sizes_any nodes k s side.Match last sg h = h
sizes_any nodes k s side.Generator last sg h = h

place_left : (known more : List Bound) (name : List ℕ) (d : Span) → IsKnown known name → place_of (known ++ more) name d ≡ place_of known name d
place_left known more name d h = found_place (known ++ more) name (place_of known name d) d (found_left known more name (place_of known name d) (known_found known name d h))

abbrev shown_by : List Bound → List Bound → List Bound
shown_by known bs = map (λ b. record { name = b.name; at = place_of known b.name b.at }) bs

shown_same : (known more bs : List Bound) → ((b : Bound) → Contains bs b → IsKnown known b.name) → shown_by (known ++ more) bs ≡ shown_by known bs
shown_same known more [] h = refl
shown_same known more (b ∷ bs) h =
    let F : Span → Bound = λ z. record { name = b.name; at = z } in
    ap (λ z. F z ∷ shown_by (known ++ more) bs) (place_left known more b.name b.at (h b (Contains-head b bs)))
    ∙ ap (λ zs. F (place_of known b.name b.at) ∷ zs) (shown_same known more bs (λ c k. h c (Contains-tail b bs c k)))

shown_found : (known bs : List Bound) (name : List ℕ) (z : Span) → ((b : Bound) → Contains bs b → IsKnown known b.name) → Found (shown_by known bs) name z → Found known name z
shown_found known [] name z h f = absurd f
shown_found known (b ∷ bs) name z h (inl f) =
    let P : List ℕ → Type 0 = λ n. Found known n z in
    let Q : Span → Type 0 = λ v. Found known b.name v in
    subst P f.0 (subst Q f.1 (known_found known b.name b.at (h b (Contains-head b bs))))
shown_found known (b ∷ bs) name z h (inr f) = shown_found known bs name z (λ c k. h c (Contains-tail b bs c k)) f.1

-- a variable that stands in front may as well stand behind what has it at the same place
agree_moved : (p : Bound) (xs ys : List Bound) → ((z : Span) → Found xs p.name z → z ≡ p.at) → Agree (p ∷ (xs ++ ys)) ((xs ++ p ∷ []) ++ ys)
agree_moved p xs ys h = record {
  to = λ n z f. elim f [
    | inl i ↦ to_front n z i
    | inr i ↦ elim (found_joined xs ys n z i.1) [
      | inl j ↦ found_left (xs ++ p ∷ []) ys n z (found_left xs (p ∷ []) n z j)
      | inr j ↦ found_right (xs ++ p ∷ []) ys n z (λ k. not_either n i.0 j.0 k) j.1
    ]
  ];
  from = λ n z f. elim (found_joined (xs ++ p ∷ []) ys n z f) [
    | inl j ↦ elim (found_joined xs (p ∷ []) n z j) [
      | inl k ↦ from_front n z k
      | inr k ↦ elim k.1 [ inl m ↦ inl m | inr m ↦ absurd m.1 ]
    ]
    | inr j ↦ inr ((λ e. j.0 (let P : List ℕ → Type 0 = λ v. IsKnown (xs ++ p ∷ []) v in subst P e (last_known))), found_right xs ys n z (λ k. j.0 (let Q : List (List ℕ) → Type 0 = λ v. Contains v n in subst Q (sym (map-append (λ b. b.name) xs (p ∷ []))) (Contains-append_left (names xs) (p.name ∷ []) n k))) j.1)
  ];
}
  where
    last_known : IsKnown (xs ++ p ∷ []) p.name
    last_known = let Q : List (List ℕ) → Type 0 = λ v. Contains v p.name in subst Q (sym (map-append (λ b. b.name) xs (p ∷ []))) (Contains-push (names xs) p.name)

    known_or : (n : List ℕ) → IsKnown xs n ⊎ (IsKnown xs n → ⊥)
    known_or n = known_cases xs n

    to_front : (n : List ℕ) (z : Span) → (p.name ≡ n) × (p.at ≡ z) → Found ((xs ++ p ∷ []) ++ ys) n z
    to_front n z i = found_left (xs ++ p ∷ []) ys n z (elim (known_or p.name) [
      | inl k ↦ (let d : Span = p.at in
          let f = known_found xs p.name d k in
          let P : Span → Type 0 = λ v. Found xs p.name v in
          let Q : List ℕ → Type 0 = λ v. Found (xs ++ p ∷ []) v z in
          subst Q i.0 (found_left xs (p ∷ []) p.name z (subst P (h (place_of xs p.name d) f ∙ i.1) f)))
      | inr k ↦ (let Q : List ℕ → Type 0 = λ v. Found (xs ++ p ∷ []) v z in subst Q i.0 (found_right xs (p ∷ []) p.name z k (inl (refl, i.1))))
    ])

    not_either : (n : List ℕ) → (p.name ≡ n → ⊥) → (IsKnown xs n → ⊥) → IsKnown (xs ++ p ∷ []) n → ⊥
    not_either n a b k =
        let Q : List (List ℕ) → Type 0 = λ v. Contains v n in
        elim (Contains-append_cases (names xs) (p.name ∷ []) n (subst Q (map-append (λ b. b.name) xs (p ∷ [])) k)) [ inl m ↦ b m | inr m ↦ a (only_one p.name n m) ]

    from_front : (n : List ℕ) (z : Span) → Found xs n z → Found (p ∷ (xs ++ ys)) n z
    from_front n z f = elim (same_name p.name n) [
      | inl e ↦ (let P : List ℕ → Type 0 = λ v. Found xs v z in inl (e, sym (h z (subst P (sym e) f))))
      | inr e ↦ inr (e, found_left xs ys n z f)
    ]

pub pass_on : (n0 n1 n2 : List Node) (t : Facts) (known sizes : ℕ) (b : Bound) (place : Span) (s : Scope) (bs : List Bound) → Grown n0 n1 → Grown n1 n2
    → ((ks : List Bound) → Sees n0 t.known ks → Sees n1 known (ks ++ b ∷ [])) → ((cs : List Bound) → TreeOf n1 known cs → Found cs b.name place)
    → ((cs : List Bound) → TreeOf n1 t.sizes cs → TreeOf n2 sizes (record { name = b.name; at = place } ∷ cs))
    → Passes n0 t (passed bs s) → Passes n2 (record t { known = known; sizes = sizes }) (passed (bs ++ b ∷ []) s)
pass_on n0 n1 n2 t known sizes b place s bs g h add found put m =
    let ks = s.known ++ bs in
    let joined : (s.known ++ bs) ++ b ∷ [] ≡ s.known ++ (bs ++ b ∷ []) = append_assoc s.known bs (b ∷ []) in
    let P : List Bound → Type 0 = λ zs. Sees n1 known zs in
    let sees = subst P joined (add ks m.means.known) in
    let ks2 = s.known ++ (bs ++ b ∷ []) in
    let p : Bound = record { name = b.name; at = place } in
    let left : (c : Bound) → Contains bs c → IsKnown ks c.name = λ c k. left_known s.known bs c k in
    let here : Found ks2 b.name place = sees.same.to b.name place (found sees.chain sees.stands) in
    let old : Sees n2 sizes (p ∷ (shown_by ks bs ++ s.outer)) = sees_put n1 n2 t.sizes sizes (shown_by ks bs ++ s.outer) b.name place (sees_grown n0 n1 g t.sizes (shown_by ks bs ++ s.outer) m.sizes) put in
    let apart : (z : Span) → Found (shown_by ks bs) b.name z → z ≡ place = λ z f. one_place_of ks2 b.name z place (let Q : List Bound → Type 0 = λ zs. Found zs b.name z in subst Q joined (found_left ks (b ∷ []) b.name z (shown_found ks bs b.name z left f))) here in
    let new = sees_agree n2 sizes (p ∷ (shown_by ks bs ++ s.outer)) ((shown_by ks bs ++ p ∷ []) ++ s.outer) old (agree_moved p (shown_by ks bs) s.outer apart) in
    let F : Span → Bound = λ z. record { name = b.name; at = z } in
    let same : shown_by ks bs ++ p ∷ [] ≡ shown_by ks2 (bs ++ b ∷ []) =
    ap (λ z. shown_by ks bs ++ F z ∷ []) (sym (found_place ks2 b.name place b.at here))
    ∙ ap (λ zs. zs ++ F (place_of ks2 b.name b.at) ∷ []) (sym (let Q : List Bound → Type 0 = λ zs. shown_by zs bs ≡ shown_by ks bs in subst Q joined (shown_same ks (b ∷ []) bs left)))
    ∙ sym (map-append (λ c. record { name = c.name; at = place_of ks2 c.name c.at }) bs (b ∷ [])) in
    let R : List Bound → Type 0 = λ zs. Sees n2 sizes (zs ++ s.outer) in
    record {
      means = record {
        known = sees_grown n1 n2 h known ks2 sees;
        dangers = unsafe_grown n1 n2 h t.dangers s.dangers (unsafe_grown n0 n1 g t.dangers s.dangers m.means.dangers);
        guarded = m.means.guarded;
      };
      sizes = subst R same new;
    }

pub pass_known : (n0 n1 : List Node) (t : Facts) (known : ℕ) (b : Bound) (s : Scope) (bs : List Bound)
    → ((ks : List Bound) → Sees n0 t.known ks → Sees n1 known (ks ++ b ∷ [])) → ((cs : List Bound) → TreeOf n1 known cs → IsKnown cs b.name → ⊥) → Passes n0 t (passed bs s) → ⊥
pass_known n0 n1 t known b s bs add missing m =
    let ks = s.known ++ bs in
    let sees = add ks m.means.known in
    let Q : List (List ℕ) → Type 0 = λ v. Contains v b.name in
    missing sees.chain sees.stands (same_known (ks ++ b ∷ []) sees.chain b.name (flip sees.chain (ks ++ b ∷ []) sees.same) (subst Q (sym (map-append (λ c. c.name) ks (b ∷ []))) (Contains-push (names ks) b.name)))

pub passes_grown : (old new : List Node) (t : Facts) (s : Scope) → Grown old new → Passes old t s → Passes new t s
passes_grown old new t s g h = record { means = means_grown old new t s g h.means; sizes = sees_grown old new g t.sizes (size_scope s).known h.sizes }

pub passes_front : {X : Type 0} (nodes : List Node) (t : Facts) (F : X → Scope) (a b : X) → a ≡ b → Passes nodes t (F a) → Passes nodes t (F b)
passes_front {X} nodes t F a b e h = let P : X → Type 0 = λ z. Passes nodes t (F z) in subst P e h

pub passes_none : (nodes : List Node) (t : Facts) (s : Scope) → Means nodes t s → Sees nodes t.sizes s.outer → Passes nodes t (past_segments [] s)
passes_none nodes t s m o =
    let P : List Bound → Type 0 = λ zs. Sees nodes t.known zs in
    record { means = record { known = subst P (sym (append-nil s.known)) m.known; dangers = m.dangers; guarded = m.guarded }; sizes = o }

pub segments_more : (front : List Segment) (sg : Segment) → segment_targets front ++ (vars_of_segment sg).own ≡ segment_targets (front ++ sg ∷ [])
segments_more front sg = ap (λ zs. segment_targets front ++ zs) (sym (append-nil (vars_of_segment sg).own)) ∙ sym (flat_map-append (λ g. (vars_of_segment g).own) front (sg ∷ []))

-- qualifiers
pub means_new : (nodes more : List Node) (t : Facts) (k : ℕ) (bs : List Bound) (g : Qual) → bs ≡ new_names g → Grown nodes more → ((ks : List Bound) → Sees nodes t.known ks → Sees more k (bs ++ ks)) → (s : Scope) → Means nodes t s → Means more (record t { known = k }) (with_new g s)
means_new nodes more t k bs g e w put s h =
    let P : List Bound → Type 0 = λ zs. Sees more k (zs ++ s.known) in
    record { known = subst P e (put s.known h.known); dangers = unsafe_grown nodes more w t.dangers s.dangers h.dangers; guarded = h.guarded }

pub means_past_qual : (n0 n1 n2 : List Node) (t u : Facts) (k : ℕ) (ns : List (List ℕ)) (g : Qual) → ns ≡ qual_unsafe g → Grown n0 n1 → Grown n1 n2
    → ((ds : List Danger) (bs : List Bound) → SeesUnsafe n0 t.dangers ds → Sees n0 t.known bs → SeesUnsafe n1 k (ds ++ record { left_unsafe = ns; known = bs } ∷ []))
    → ((s : Scope) → Means n1 t s → Means n2 u (with_new g s)) → (s : Scope) → Means n0 t s → Means n2 (record u { dangers = k }) (past_quals (g ∷ []) s)
means_past_qual n0 n1 n2 t u k ns g e a b put new s h =
    let P : List (List ℕ) → Type 0 = λ zs. SeesUnsafe n1 k (s.dangers ++ record { left_unsafe = zs; known = s.known } ∷ []) in
    let m = new s (means_grown n0 n1 t s a h) in
    record { known = m.known; dangers = unsafe_grown n1 n2 b k (s.dangers ++ record { left_unsafe = qual_unsafe g; known = s.known } ∷ []) (subst P e (put s.dangers s.known h.dangers h.known)); guarded = m.guarded }

pub quals_more : (front : List Qual) (g : Qual) (s : Scope) → past_quals (g ∷ []) (past_quals front s) ≡ past_quals (front ++ g ∷ []) s
quals_more [] g s = refl
quals_more (j ∷ front) g s = quals_more front g (past_quals (j ∷ []) s)

pub generated_more : (front : List Qual) (g : Qual) (known : List Bound) → new_names g ++ generated front known ≡ generated (front ++ g ∷ []) known
generated_more [] g known = refl
generated_more (j ∷ front) g known = generated_more front g (new_names j ++ known)

pub means_generate : (nodes : List Node) (t : Facts) (s : Scope) → Means nodes t s → Means nodes (record t { known = 0; sizes = t.known }) (to_generate s)
means_generate nodes t s h = record { known = record { chain = []; stands = chain_none nodes; same = itself [] }; dangers = h.dangers; guarded = h.guarded }

pub means_size : (nodes : List Node) (t : Facts) (s : Scope) → Means nodes t s → Sees nodes t.sizes (size_scope s).known → Means nodes (record t { known = t.sizes; guarded = true }) (size_scope s)
means_size nodes t s h k = record { known = k; dangers = h.dangers; guarded = refl }

pub means_nothing : (nodes : List Node) → Means nodes (record { known = 0; sizes = 0; dangers = 0; guarded = false }) nothing_known
means_nothing nodes = record {
  known = record { chain = []; stands = chain_none nodes; same = itself [] };
  dangers = record { chain = []; stands = chain_none nodes; to = λ n h. absurd (none_in n h); from = λ n h. absurd (none_in h.0 h.1.0) };
  guarded = refl;
}

pub sees_nothing : (nodes : List Node) → Sees nodes 0 []
sees_nothing nodes = record { chain = []; stands = chain_none nodes; same = itself [] }

pub each_joined : {X : Type 0} (At : List X → X → List X → List Spot) (front xs ys : List X) → ((f : List X) (y : X) (b c : List X) → At f y b ≡ At f y c) → each At front xs ++ each At (front ++ xs) ys ≡ each At front (xs ++ ys)
each_joined At front [] ys h = ap (λ zs. each At zs ys) (append-nil front)
each_joined At front (x ∷ xs) ys h =
    append_assoc (At front x xs) (each At (front ++ x ∷ []) xs) (each At (front ++ (x ∷ xs)) ys)
    ∙ ap (λ zs. At front x xs ++ (each At (front ++ x ∷ []) xs ++ each At zs ys)) (sym (append_assoc front (x ∷ []) xs))
    ∙ ap (λ zs. At front x xs ++ zs) (each_joined At (front ++ x ∷ []) xs ys h)
    ∙ ap (λ zs. zs ++ each At (front ++ x ∷ []) (xs ++ ys)) (h front x xs (xs ++ ys))

pub size_at : (s : Scope) (o : Option Expr) → size_in s o ≡ each (same_in s) [] (elim o [ None ↦ [] | Some y ↦ y ∷ [] ])
size_at s None = refl
size_at s (Some e) = refl
