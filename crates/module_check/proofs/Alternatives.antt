-- What is unsafe behind parts that stand one behind another, and behind alternatives.
use Rattle.std.proofs.Common.{◌≡◌, ℕ, List, [], ◌∷◌, ◌++◌, map, reverse, sym, ◌∙◌, ap, subst, ◌⊎◌, inl, inr}
use Rattle.std.specs.List.{Contains}
use Rattle.std.proofs.lemmas.List.{append-nil, append_assoc, reverse-append, map-append}
use Rattle.std.proofs.lemmas.List.Elements.{Contains-append_left, Contains-append_right, Contains-append_cases}
use Rattle.std.proofs.lemmas.Grind.{flat_map-append}
use Rattle.erl_syntax.specs.Bindings.{Bound, names, vars_of, targets, targets_of}
use Rattle.erl_syntax.specs.Scopes.{Scope, Danger, IsKnown, IsUnsafe, with_known, behind, item_targets, past_items}
use Rattle.erl_syntax.specs.declared.expr.Expr.{Expr}
use Rattle.erl_syntax.specs.declared.pattern.Pattern.{Pattern}
use Rattle.erl_syntax.specs.declared.clause.Item.{Item}
use Rattle.module_check.specs.declared.trees.Node.{Node}
use Rattle.module_check.specs.declared.tasks.Facts.{Facts}
use Rattle.module_check.specs.Nodes.{Sees, SeesUnsafe, Grown}
use Rattle.module_check.specs.Tasks.{Means, left_behind}
use Rattle.module_check.specs.Unsafe.{unsafe_of, item_unsafe, items_unsafe, item_bound, items_bound}
use Rattle.module_check.proofs.Spots.{none_in}
use Rattle.module_check.proofs.Chained.{SameDangers, kept_danger, one_danger, unsafe_split, danger_none, danger_joined, known_cases, sees_same, sees_grown}

pub same_twice : (ds es fs : List Danger) → SameDangers ds es → SameDangers es fs → SameDangers ds fs
same_twice ds es fs a b = record { to = λ n z. b.to n (a.to n z); from = λ n z. a.from n (b.from n z) }

same_back : (ds es : List Danger) → SameDangers ds es → SameDangers es ds
same_back ds es a = record { to = a.from; from = a.to }

same_on : (ds es : List Danger) (d : Danger) → SameDangers ds es → SameDangers (ds ++ d ∷ []) (es ++ d ∷ [])
same_on ds es d a = record { to = λ n z. one ds es a.to n z; from = λ n z. one es ds a.from n z }
  where
    one : (ds es : List Danger) → ((n : List ℕ) → IsUnsafe ds n → IsUnsafe es n) → (n : List ℕ) → IsUnsafe (ds ++ d ∷ []) n → IsUnsafe (es ++ d ∷ []) n
    one ds es to n z = elim (unsafe_split ds d n z) [ inl i ↦ kept_danger es (d ∷ []) n (to n i) | inr i ↦ one_danger es d n i.0 i.1 ]

-- by what is known where the parts begin
module _ (known : List Bound) where
  abbrev left : List (List ℕ) → Danger
  left ns = record { left_unsafe = ns; known = known }

  swapped : (ds : List Danger) (ns ms : List (List ℕ)) → SameDangers (ds ++ left (ns ++ ms) ∷ []) (ds ++ left (ms ++ ns) ∷ [])
  swapped ds ns ms = record { to = λ n z. one ns ms n z; from = λ n z. one ms ns n z }
    where
      one : (ns ms : List (List ℕ)) (n : List ℕ) → IsUnsafe (ds ++ left (ns ++ ms) ∷ []) n → IsUnsafe (ds ++ left (ms ++ ns) ∷ []) n
      one ns ms n z = elim (unsafe_split ds (left (ns ++ ms)) n z) [
        | inl i ↦ kept_danger ds (left (ms ++ ns) ∷ []) n i
        | inr i ↦ one_danger ds (left (ms ++ ns)) n (elim (Contains-append_cases ns ms n i.0) [ inl k ↦ Contains-append_right ms ns n k | inr k ↦ Contains-append_left ms ns n k ]) i.1
      ]

  pub behind_flat : (ds : List Danger) (es : List Expr) → SameDangers (ds ++ map (λ e. record { left_unsafe = (vars_of e).left_unsafe; known = known }) es) (ds ++ record { left_unsafe = unsafe_of es; known = known } ∷ [])
  behind_flat ds [] = let P : List Danger → Type 0 = λ zs. SameDangers zs (ds ++ left [] ∷ []) in subst P (sym (append-nil ds)) (danger_none ds known)
  behind_flat ds (e ∷ es) =
      let D : Expr → Danger = λ y. record { left_unsafe = (vars_of y).left_unsafe; known = known } in
      let to : List Danger = ds ++ left (unsafe_of (e ∷ es)) ∷ [] in
      let P : List Danger → Type 0 = λ zs. SameDangers zs to in
      subst P (append_assoc ds (D e ∷ []) (map D es)) (same_twice ((ds ++ D e ∷ []) ++ map D es) ((ds ++ D e ∷ []) ++ left (unsafe_of es) ∷ []) to (behind_flat (ds ++ D e ∷ []) es) (danger_joined ds known (vars_of e).left_unsafe (unsafe_of es)))

known_left : (bs cs : List Bound) (n : List ℕ) → IsKnown bs n → IsKnown (bs ++ cs) n
known_left bs cs n h = let P : List (List ℕ) → Type 0 = λ zs. Contains zs n in subst P (sym (map-append (λ b. b.name) bs cs)) (Contains-append_left (names bs) (names cs) n h)

known_right : (bs cs : List Bound) (n : List ℕ) → IsKnown cs n → IsKnown (bs ++ cs) n
known_right bs cs n h = let P : List (List ℕ) → Type 0 = λ zs. Contains zs n in subst P (sym (map-append (λ b. b.name) bs cs)) (Contains-append_right (names bs) (names cs) n h)

known_joined : (bs cs : List Bound) (n : List ℕ) → IsKnown (bs ++ cs) n → IsKnown bs n ⊎ IsKnown cs n
known_joined bs cs n h = let P : List (List ℕ) → Type 0 = λ zs. Contains zs n in Contains-append_cases (names bs) (names cs) n (subst P (map-append (λ b. b.name) bs cs) h)

-- the order of patterns changes no names
straight : (ps : List Pattern) (n : List ℕ) → IsKnown (targets_of (reverse ps)) n → IsKnown (targets_of ps) n
straight [] n h = h
straight (p ∷ ps) n h =
    let P : List Bound → Type 0 = λ zs. IsKnown zs n in
    let e : targets_of (reverse (p ∷ ps)) ≡ targets_of (reverse ps) ++ targets_of (p ∷ []) = ap targets_of (reverse-append (p ∷ []) ps) ∙ flat_map-append targets (reverse ps) (p ∷ []) in
    elim (known_joined (targets_of (reverse ps)) (targets_of (p ∷ [])) n (subst P e h)) [
      | inl k ↦ known_right (targets p) (targets_of ps) n (straight ps n k)
      | inr k ↦ known_left (targets p) (targets_of ps) n (subst P (append-nil (targets p)) k)
    ]

abbrev value_danger : Item → Scope → Danger
value_danger i t = record { left_unsafe = (vars_of i.value).left_unsafe; known = t.known }

abbrev past_one : Item → Scope → Scope
past_one i t = with_known (item_targets i) (behind (i.value ∷ []) t)

-- what is unsafe stays so to the end of a body
stays : (is : List Item) (t : Scope) (n : List ℕ) → IsUnsafe t.dangers n → IsUnsafe (past_items is t).dangers n
stays [] t n h = h
stays (i ∷ is) t n h = stays is (past_one i t) n (kept_danger t.dangers (value_danger i t ∷ []) n h)

-- what is unsafe at its end
at_end : (is : List Item) (t : Scope) (n : List ℕ) → IsUnsafe (past_items is t).dangers n → IsUnsafe t.dangers n ⊎ (Contains (items_unsafe is) n × (IsKnown t.known n → ⊥))
at_end [] t n h = inl h
at_end (i ∷ is) t n h = elim (at_end is (past_one i t) n h) [
  | inl k ↦ elim (unsafe_split t.dangers (value_danger i t) n k) [
    | inl z ↦ inl z
    | inr z ↦ inr (Contains-append_left (item_unsafe i) (items_unsafe is) n (Contains-append_right (item_bound i) (vars_of i.value).left_unsafe n z.0), z.1)
  ]
  | inr k ↦ inr (Contains-append_right (item_unsafe i) (items_unsafe is) n k.0, λ m. k.1 (known_left t.known (item_targets i) n m))
]

-- what a body leaves unsafe is so at its end, or it is bound in the body itself
left_or_bound : (is : List Item) (t : Scope) (n : List ℕ) → Contains (items_unsafe is) n → (IsKnown t.known n → ⊥) → IsUnsafe (past_items is t).dangers n ⊎ Contains (items_bound is) n
left_or_bound [] t n h k = absurd (none_in n h)
left_or_bound (i ∷ is) t n h k = elim (Contains-append_cases (item_unsafe i) (items_unsafe is) n h) [
  | inl z ↦ elim (Contains-append_cases (item_bound i) (vars_of i.value).left_unsafe n z) [
    | inl y ↦ inr (Contains-append_left (item_bound i) (items_bound is) n y)
    | inr y ↦ inl (stays is (past_one i t) n (one_danger t.dangers (value_danger i t) n y k))
  ]
  | inr z ↦ elim (known_cases (item_targets i) n) [
    | inl y ↦ inr (Contains-append_left (item_bound i) (items_bound is) n (straight i.patterns n y))
    | inr y ↦ elim (left_or_bound is (past_one i t) n z (λ m. elim (known_joined t.known (item_targets i) n m) [ inl a ↦ k a | inr b ↦ y b ])) [
      | inl a ↦ inl a
      | inr b ↦ inr (Contains-append_right (item_bound i) (items_bound is) n b)
    ]
  ]
]

bound_left : (is : List Item) (n : List ℕ) → Contains (items_bound is) n → Contains (items_unsafe is) n
bound_left [] n h = h
bound_left (i ∷ is) n h = elim (Contains-append_cases (item_bound i) (items_bound is) n h) [
  | inl k ↦ Contains-append_left (item_unsafe i) (items_unsafe is) n (Contains-append_left (item_bound i) (vars_of i.value).left_unsafe n k)
  | inr k ↦ Contains-append_right (item_unsafe i) (items_unsafe is) n (bound_left is n k)
]

-- an alternative where these variables are bound before its body
module _ (s : Scope) (bs : List Bound) (is : List Item) where
  abbrev bound_here : Danger
  bound_here = record { left_unsafe = names bs ++ items_bound is; known = s.known }

  abbrev left_here : Danger
  left_here = record { left_unsafe = names bs ++ items_unsafe is; known = s.known }

  abbrev ended : List Danger
  ended = (past_items is (with_known bs s)).dangers

  alternative : SameDangers (ended ++ bound_here ∷ []) (s.dangers ++ left_here ∷ [])
  alternative = record {
    to = λ n z. elim (unsafe_split ended bound_here n z) [
      | inl i ↦ elim (at_end is (with_known bs s) n i) [
        | inl k ↦ kept_danger s.dangers (left_here ∷ []) n k
        | inr k ↦ one_danger s.dangers left_here n (Contains-append_right (names bs) (items_unsafe is) n k.0) (λ m. k.1 (known_left s.known bs n m))
      ]
      | inr i ↦ one_danger s.dangers left_here n (elim (Contains-append_cases (names bs) (items_bound is) n i.0) [
        | inl k ↦ Contains-append_left (names bs) (items_unsafe is) n k
        | inr k ↦ Contains-append_right (names bs) (items_unsafe is) n (bound_left is n k)
      ]) i.1
    ];
    from = λ n z. elim (unsafe_split s.dangers left_here n z) [
      | inl i ↦ kept_danger ended (bound_here ∷ []) n (stays is (with_known bs s) n i)
      | inr i ↦ elim (Contains-append_cases (names bs) (items_unsafe is) n i.0) [
        | inl k ↦ one_danger ended bound_here n (Contains-append_left (names bs) (items_bound is) n k) i.1
        | inr k ↦ elim (known_cases bs n) [
          | inl y ↦ one_danger ended bound_here n (Contains-append_left (names bs) (items_bound is) n y) i.1
          | inr y ↦ elim (left_or_bound is (with_known bs s) n k (λ m. elim (known_joined s.known bs n m) [ inl a ↦ i.1 a | inr b ↦ y b ])) [
            | inl a ↦ kept_danger ended (bound_here ∷ []) n a
            | inr b ↦ one_danger ended bound_here n (Contains-append_right (names bs) (items_bound is) n b) i.1
          ]
        ]
      ]
    ];
  }

  -- and the names of the alternatives before it
  pub joined_larger : (before : List (List ℕ)) → SameDangers ((past_items is (with_known bs s)).dangers ++ record { left_unsafe = (names bs ++ items_bound is) ++ before; known = s.known } ∷ []) (s.dangers ++ record { left_unsafe = before ++ (names bs ++ items_unsafe is); known = s.known } ∷ [])
  joined_larger before =
      let b : Danger = record { left_unsafe = before; known = s.known } in
      let a : Danger = record { left_unsafe = (names bs ++ items_bound is) ++ before; known = s.known } in
      let c : Danger = record { left_unsafe = (names bs ++ items_unsafe is) ++ before; known = s.known } in
      let d : Danger = record { left_unsafe = before ++ (names bs ++ items_unsafe is); known = s.known } in
      let mid : List Danger = (s.dangers ++ left_here ∷ []) ++ b ∷ [] in
      same_twice (ended ++ a ∷ []) mid (s.dangers ++ d ∷ [])
      (same_twice (ended ++ a ∷ []) ((ended ++ bound_here ∷ []) ++ b ∷ []) mid (same_back _ _ (danger_joined ended s.known (names bs ++ items_bound is) before)) (same_on (ended ++ bound_here ∷ []) (s.dangers ++ left_here ∷ []) b alternative))
      (same_twice mid (s.dangers ++ c ∷ []) (s.dangers ++ d ∷ []) (danger_joined s.dangers s.known (names bs ++ items_unsafe is) before) (swapped s.known s.dangers (names bs ++ items_unsafe is) before))

-- the facts behind parts
pub means_left : (nodes : List Node) (t : Facts) (s : Scope) (ns : List (List ℕ)) (e : Expr) → ns ≡ (vars_of e).left_unsafe → Means nodes t (left_behind ns s) → Means nodes t (behind (e ∷ []) s)
means_left nodes t s ns e h m = let P : List (List ℕ) → Type 0 = λ zs. Means nodes t (left_behind zs s) in subst P h m

pub means_start : (nodes : List Node) (t : Facts) (s : Scope) → Means nodes t s → Means nodes t (left_behind [] s)
means_start nodes t s m = record { known = m.known; dangers = sees_same nodes t.dangers _ _ (danger_none s.dangers s.known) m.dangers; guarded = m.guarded }

pub means_flat : (nodes : List Node) (t : Facts) (s : Scope) (es : List Expr) (e : Expr) → unsafe_of es ≡ (vars_of e).left_unsafe → Means nodes t (behind es s) → Means nodes t (behind (e ∷ []) s)
means_flat nodes t s es e h m = means_left nodes t s (unsafe_of es) e h (record { known = m.known; dangers = sees_same nodes t.dangers _ _ (behind_flat s.known s.dangers es) m.dangers; guarded = m.guarded })

pub means_chosen : (nodes : List Node) (t : Facts) (s : Scope) (ys : List Expr) (ns : List (List ℕ)) (e : Expr) → unsafe_of ys ++ ns ≡ (vars_of e).left_unsafe → Means nodes t (left_behind ns (behind ys s)) → Means nodes t (behind (e ∷ []) s)
means_chosen nodes t s ys ns e h m =
    let d : Danger = record { left_unsafe = ns; known = s.known } in
    let a : Danger = record { left_unsafe = unsafe_of ys; known = s.known } in
    let b : Danger = record { left_unsafe = unsafe_of ys ++ ns; known = s.known } in
    let D : Expr → Danger = λ y. record { left_unsafe = (vars_of y).left_unsafe; known = s.known } in
    means_left nodes t s (unsafe_of ys ++ ns) e h (record {
      known = m.known;
      dangers = sees_same nodes t.dangers ((s.dangers ++ map D ys) ++ d ∷ []) (s.dangers ++ b ∷ []) (same_twice ((s.dangers ++ map D ys) ++ d ∷ []) ((s.dangers ++ a ∷ []) ++ d ∷ []) (s.dangers ++ b ∷ []) (same_on (s.dangers ++ map D ys) (s.dangers ++ a ∷ []) d (behind_flat s.known s.dangers ys)) (danger_joined s.dangers s.known (unsafe_of ys) ns)) m.dangers;
      guarded = m.guarded;
    })

-- what is unsafe behind alternatives where one more is put to them
module _ (old new : List Node) (joined to : Facts) (s : Scope) (before : List (List ℕ)) (grown : Grown old new) (known : to.known ≡ joined.known) (guarded : to.guarded ≡ joined.guarded) (means : Means old joined (left_behind before s)) where
  with_dangers : (ns : List (List ℕ)) → SeesUnsafe new to.dangers (s.dangers ++ record { left_unsafe = ns; known = s.known } ∷ []) → Means new to (left_behind ns s)
  with_dangers ns h = (let P : ℕ → Type 0 = λ k. Sees new k s.known in record { known = subst P (sym known) (sees_grown old new grown joined.known s.known means.known); dangers = h; guarded = guarded ∙ means.guarded })

  pub means_smaller : (ns more : List (List ℕ)) → ns ≡ more → ((ds : List Danger) (bs : List Bound) → SeesUnsafe old joined.dangers ds → Sees old joined.known bs → SeesUnsafe new to.dangers (ds ++ record { left_unsafe = ns; known = bs } ∷ [])) → Means new to (left_behind (before ++ more) s)
  means_smaller ns more e put =
      let P : List (List ℕ) → Type 0 = λ zs. SeesUnsafe new to.dangers ((s.dangers ++ record { left_unsafe = before; known = s.known } ∷ []) ++ record { left_unsafe = zs; known = s.known } ∷ []) in
      with_dangers (before ++ more) (sees_same new to.dangers _ _ (danger_joined s.dangers s.known before more) (subst P e (put _ s.known means.dangers means.known)))

  pub means_larger : (after : Facts) (bs : List Bound) (is : List Item) (ns : List (List ℕ)) → ns ≡ (names bs ++ items_bound is) ++ before → Means old after (past_items is (with_known bs s))
      → ((ds : List Danger) (cs : List Bound) → SeesUnsafe old after.dangers ds → Sees old joined.known cs → SeesUnsafe new to.dangers (ds ++ record { left_unsafe = ns; known = cs } ∷ [])) → Means new to (left_behind (before ++ (names bs ++ items_unsafe is)) s)
  means_larger after bs is ns e m put =
      let P : List (List ℕ) → Type 0 = λ zs. SeesUnsafe new to.dangers ((past_items is (with_known bs s)).dangers ++ record { left_unsafe = zs; known = s.known } ∷ []) in
      with_dangers (before ++ (names bs ++ items_unsafe is)) (sees_same new to.dangers _ _ (joined_larger s bs is before) (subst P e (put _ s.known m.dangers means.known)))
