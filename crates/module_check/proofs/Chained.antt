-- What is known and what is unsafe, by trees of names.
use Rattle.std.proofs.Common.{◌≡◌, ℕ, ◌+◌, ◌<◌, ◌≤◌, Bool, true, false, List, [], ◌∷◌, ◌++◌, length, get_or, refl, sym, ◌∙◌, ap, subst, ◌⊎◌, inl, inr, take, drop}
use Rattle.std.specs.List.{Contains}
use Rattle.std.specs.Str.{bytes_eq}
use Rattle.std.proofs.lemmas.List.{append_assoc, append-nil, map-append, take_more, take_all, drop_more}
use Rattle.std.proofs.lemmas.List.Elements.{Contains-append_cases, Contains-append_left, Contains-append_right, Contains-push}
use Rattle.std.proofs.lemmas.Slice.Eq.{bytes_eq-Decides}
use Rattle.erl_syntax.specs.Bindings.{Bound, names}
use Rattle.erl_syntax.specs.Scopes.{Danger, Found, IsKnown, IsUnsafe}
use Rattle.erl_syntax.specs.declared.span.Span.{Span}
use Rattle.module_check.specs.declared.trees.Node.{Node}
use Rattle.module_check.specs.declared.scopes.Target.{Target}
use Rattle.module_check.specs.Nodes.{TreeOf, none, Agree, Sees, SeesUnsafe, Grown, bound_of, bounds_of}
use Rattle.module_check.proofs.Spots.{Contains-head, Contains-tail, none_in, only_one}
use Rattle.module_check.proofs.Standing.{found_place, known_found}
use Rattle.module_check.proofs.Forked.{tree_grown}

-- what is found is known, at one place
pub found_known : (bs : List Bound) (name : List ℕ) (at : Span) → Found bs name at → IsKnown bs name
found_known [] name at h = absurd h
found_known (b ∷ bs) name at (inl h) = (let P : List ℕ → Type 0 = λ n. IsKnown (b ∷ bs) n in subst P h.0 (Contains-head b.name (names bs)))
found_known (b ∷ bs) name at (inr h) = Contains-tail b.name (names bs) name (found_known bs name at h.1)

pub one_place_of : (bs : List Bound) (name : List ℕ) (a b : Span) → Found bs name a → Found bs name b → a ≡ b
one_place_of bs name a b h k = sym (found_place bs name a a h) ∙ found_place bs name b a k

pub same_known : (bs cs : List Bound) (name : List ℕ) → Agree bs cs → IsKnown bs name → IsKnown cs name
same_known bs cs name a h = let d : Span = record { line = 0; column = 0 } in found_known cs name _ (a.to name _ (known_found bs name d h))

pub flip : (bs cs : List Bound) → Agree bs cs → Agree cs bs
flip bs cs a = record { to = a.from; from = a.to }

pub itself : (bs : List Bound) → Agree bs bs
itself bs = record { to = λ n z h. h; from = λ n z h. h }

pub chained : (bs cs ds : List Bound) → Agree bs cs → Agree cs ds → Agree bs ds
chained bs cs ds a b = record { to = λ n z h. b.to n z (a.to n z h); from = λ n z h. a.from n z (b.from n z h) }

pub known_cases : (bs : List Bound) (name : List ℕ) → IsKnown bs name ⊎ (IsKnown bs name → ⊥)
known_cases [] name = inr (λ h. none_in name h)
known_cases (b ∷ bs) name = elim (test (bytes_eq b.name name)) [
  | inl t ↦ inl (let P : List ℕ → Type 0 = λ n. IsKnown (b ∷ bs) n in subst P ((bytes_eq-Decides b.name name).0 t) (Contains-head b.name (names bs)))
  | inr t ↦ elim (known_cases bs name) [
    | inl k ↦ inl (Contains-tail b.name (names bs) name k)
    | inr k ↦ inr (λ h. elim (Contains-append_cases (b.name ∷ []) (names bs) name h) [
      | inl m ↦ (let f : true ≡ false = sym ((bytes_eq-Decides b.name name).1 (only_one b.name name m)) ∙ t in cc)
      | inr m ↦ k m
    ])
  ]
]
  where
    test : (r : Bool) → (r ≡ true) ⊎ (r ≡ false)
    test true = inl refl
    test false = inr refl

-- in lists that are joined
pub found_left : (bs cs : List Bound) (name : List ℕ) (at : Span) → Found bs name at → Found (bs ++ cs) name at
found_left [] cs name at h = absurd h
found_left (b ∷ bs) cs name at (inl h) = inl h
found_left (b ∷ bs) cs name at (inr h) = inr (h.0, found_left bs cs name at h.1)

pub found_right : (bs cs : List Bound) (name : List ℕ) (at : Span) → (IsKnown bs name → ⊥) → Found cs name at → Found (bs ++ cs) name at
found_right [] cs name at k h = h
found_right (b ∷ bs) cs name at k h = inr ((λ e. k (let P : List ℕ → Type 0 = λ n. IsKnown (b ∷ bs) n in subst P e (Contains-head b.name (names bs)))), found_right bs cs name at (λ m. k (Contains-tail b.name (names bs) name m)) h)

pub found_joined : (bs cs : List Bound) (name : List ℕ) (at : Span) → Found (bs ++ cs) name at → Found bs name at ⊎ ((IsKnown bs name → ⊥) × Found cs name at)
found_joined [] cs name at h = inr ((λ k. none_in name k), h)
found_joined (b ∷ bs) cs name at (inl h) = inl (inl h)
found_joined (b ∷ bs) cs name at (inr h) = elim (found_joined bs cs name at h.1) [
  | inl k ↦ inl (inr (h.0, k))
  | inr k ↦ inr ((λ m. elim (Contains-append_cases (b.name ∷ []) (names bs) name m) [ inl z ↦ h.0 (only_one b.name name z) | inr z ↦ k.0 z ]), k.1)
]

pub agree_joined : (xs bs cs ds : List Bound) → Agree xs bs → Agree cs ds → Agree (xs ++ cs) (bs ++ ds)
agree_joined xs bs cs ds a b = record { to = λ n z h. one xs bs cs ds a b n z h; from = λ n z h. one bs xs ds cs (flip xs bs a) (flip cs ds b) n z h }
  where
    one : (xs bs cs ds : List Bound) → Agree xs bs → Agree cs ds → (n : List ℕ) (z : Span) → Found (xs ++ cs) n z → Found (bs ++ ds) n z
    one xs bs cs ds a b n z h = elim (found_joined xs cs n z h) [
      | inl k ↦ found_left bs ds n z (a.to n z k)
      | inr k ↦ found_right bs ds n z (λ m. k.0 (same_known bs xs n (flip xs bs a) m)) (b.to n z k.1)
    ]

-- a variable that is known already counts for nothing behind
pub agree_known : (bs : List Bound) (b : Bound) → IsKnown bs b.name → Agree bs (bs ++ b ∷ [])
agree_known bs b k = record {
  to = λ n z h. found_left bs (b ∷ []) n z h;
  from = λ n z h. elim (found_joined bs (b ∷ []) n z h) [
    | inl m ↦ m
    | inr m ↦ elim m.1 [
      | inl i ↦ absurd (m.0 (let P : List ℕ → Type 0 = λ v. IsKnown bs v in subst P i.0 k))
      | inr i ↦ absurd i.1
    ]
  ];
}

-- one that is not known may as well stand in front
pub agree_unknown : (bs : List Bound) (b : Bound) → (IsKnown bs b.name → ⊥) → Agree (b ∷ bs) (bs ++ b ∷ [])
agree_unknown bs b k = record {
  to = λ n z h. elim h [
    | inl i ↦ found_right bs (b ∷ []) n z (λ m. k (let P : List ℕ → Type 0 = λ v. IsKnown bs v in subst P (sym i.0) m)) (inl i)
    | inr i ↦ found_left bs (b ∷ []) n z i.1
  ];
  from = λ n z h. elim (found_joined bs (b ∷ []) n z h) [
    | inl m ↦ inr ((λ e. k (let P : List ℕ → Type 0 = λ v. IsKnown bs v in subst P (sym e) (found_known bs n z m))), m)
    | inr m ↦ elim m.1 [
      | inl i ↦ inl i
      | inr i ↦ absurd i.1
    ]
  ];
}

-- nodes that are added change no tree
pub chain_grown : (old new : List Node) → Grown old new → (k : ℕ) (bs : List Bound) → TreeOf old k bs → TreeOf new k bs
chain_grown old new g k bs h = record { sorted = h.sorted; tree = tree_grown old new g k h.sorted h.tree; rising = h.rising; same = h.same }

pub chain_none : (nodes : List Node) → TreeOf nodes 0 []
chain_none nodes = record { sorted = []; tree = none; rising = tt; same = itself [] }

pub grown_twice : (a b c : List Node) → Grown a b → Grown b c → Grown a c
grown_twice a b c g h = record { more = g.more ++ h.more; is = h.is ∙ ap (λ zs. zs ++ h.more) g.is ∙ append_assoc a g.more h.more }

pub grown_same : (a : List Node) → Grown a a
grown_same a = record { more = []; is = sym (append-nil a) }

pub sees_grown : (old new : List Node) → Grown old new → (k : ℕ) (bs : List Bound) → Sees old k bs → Sees new k bs
sees_grown old new g k bs h = record { chain = h.chain; stands = chain_grown old new g k h.chain h.stands; same = h.same }

pub unsafe_grown : (old new : List Node) → Grown old new → (k : ℕ) (ds : List Danger) → SeesUnsafe old k ds → SeesUnsafe new k ds
unsafe_grown old new g k ds h = record { chain = h.chain; stands = chain_grown old new g k h.chain h.stands; to = h.to; from = h.from }

-- what is unsafe behind a part
pub one_danger : (ds : List Danger) (d : Danger) (name : List ℕ) → Contains d.left_unsafe name → (IsKnown d.known name → ⊥) → IsUnsafe (ds ++ d ∷ []) name
one_danger ds d name h k = (d, (Contains-push ds d, (h, k)))

pub kept_danger : (ds es : List Danger) (name : List ℕ) → IsUnsafe ds name → IsUnsafe (ds ++ es) name
kept_danger ds es name (d, (h, k)) = (d, (Contains-append_left ds es d h, k))

pub unsafe_split : (ds : List Danger) (d : Danger) (name : List ℕ) → IsUnsafe (ds ++ d ∷ []) name → IsUnsafe ds name ⊎ (Contains d.left_unsafe name × (IsKnown d.known name → ⊥))
unsafe_split ds d name (e, (h, k)) = elim (Contains-append_cases ds (d ∷ []) e h) [
  | inl z ↦ inl (e, (z, k))
  | inr z ↦ inr (let P : Danger → Type 0 = λ v. Contains v.left_unsafe name × (IsKnown v.known name → ⊥) in subst P (sym (only_one d e z)) k)
]

-- the same dangers
pub record SameDangers (ds es : List Danger) : Type 0 where
  pub to : (name : List ℕ) → IsUnsafe ds name → IsUnsafe es name
  pub from : (name : List ℕ) → IsUnsafe es name → IsUnsafe ds name

pub sees_same : (nodes : List Node) (k : ℕ) (ds es : List Danger) → SameDangers ds es → SeesUnsafe nodes k ds → SeesUnsafe nodes k es
sees_same nodes k ds es s h = record { chain = h.chain; stands = h.stands; to = λ n z. s.to n (h.to n z); from = λ n z. h.from n (s.from n z) }

pub endanger_known : (nodes : List Node) (k : ℕ) (ds : List Danger) (bs : List Bound) (name : List ℕ) → IsKnown bs name → SeesUnsafe nodes k ds → SeesUnsafe nodes k (ds ++ record { left_unsafe = name ∷ []; known = bs } ∷ [])
endanger_known nodes k ds bs name h s =
    let d : Danger = record { left_unsafe = name ∷ []; known = bs } in
    sees_same nodes k ds (ds ++ d ∷ []) (record {
      to = λ n z. kept_danger ds (d ∷ []) n z;
      from = λ n z. elim (unsafe_split ds d n z) [ inl i ↦ i | inr i ↦ absurd (i.1 (let P : List ℕ → Type 0 = λ v. IsKnown bs v in subst P (only_one name n i.0) h)) ];
    }) s

pub endanger_new : (old new : List Node) (k last : ℕ) (ds : List Danger) (bs : List Bound) (name : List ℕ) (at : Span) → (IsKnown bs name → ⊥) → SeesUnsafe old k ds → ((cs : List Bound) → TreeOf old k cs → TreeOf new last (record { name = name; at = at } ∷ cs)) → SeesUnsafe new last (ds ++ record { left_unsafe = name ∷ []; known = bs } ∷ [])
endanger_new old new k last ds bs name at h s put =
    let d : Danger = record { left_unsafe = name ∷ []; known = bs } in
    record {
      chain = record { name = name; at = at } ∷ s.chain;
      stands = put s.chain s.stands;
      to = λ n z. elim (Contains-append_cases (name ∷ []) (names s.chain) n z) [
        | inl i ↦ (let P : List ℕ → Type 0 = λ v. IsUnsafe (ds ++ d ∷ []) v in subst P (only_one name n i) (one_danger ds d name (Contains-head name []) h))
        | inr i ↦ kept_danger ds (d ∷ []) n (s.to n i)
      ];
      from = λ n z. elim (unsafe_split ds d n z) [
        | inl i ↦ Contains-tail name (names s.chain) n (s.from n i)
        | inr i ↦ (let P : List ℕ → Type 0 = λ v. IsKnown (record { name = name; at = at } ∷ s.chain) v in subst P (only_one name n i.0) (Contains-head name (names s.chain)))
      ];
    }

-- names one by one
pub danger_none : (ds : List Danger) (bs : List Bound) → SameDangers ds (ds ++ record { left_unsafe = []; known = bs } ∷ [])
danger_none ds bs =
    let d : Danger = record { left_unsafe = []; known = bs } in
    record {
      to = λ n z. kept_danger ds (d ∷ []) n z;
      from = λ n z. elim (unsafe_split ds d n z) [ inl i ↦ i | inr i ↦ absurd (none_in n i.0) ];
    }

pub danger_joined : (ds : List Danger) (bs : List Bound) (ns ms : List (List ℕ)) → SameDangers ((ds ++ record { left_unsafe = ns; known = bs } ∷ []) ++ record { left_unsafe = ms; known = bs } ∷ []) (ds ++ record { left_unsafe = ns ++ ms; known = bs } ∷ [])
danger_joined ds bs ns ms =
    let a : Danger = record { left_unsafe = ns; known = bs } in
    let b : Danger = record { left_unsafe = ms; known = bs } in
    let d : Danger = record { left_unsafe = ns ++ ms; known = bs } in
    record {
      to = λ n z. elim (unsafe_split (ds ++ a ∷ []) b n z) [
        | inl i ↦ elim (unsafe_split ds a n i) [
          | inl j ↦ kept_danger ds (d ∷ []) n j
          | inr j ↦ one_danger ds d n (Contains-append_left ns ms n j.0) j.1
        ]
        | inr i ↦ one_danger ds d n (Contains-append_right ns ms n i.0) i.1
      ];
      from = λ n z. elim (unsafe_split ds d n z) [
        | inl i ↦ kept_danger (ds ++ a ∷ []) (b ∷ []) n (kept_danger ds (a ∷ []) n i)
        | inr i ↦ elim (Contains-append_cases ns ms n i.0) [
          | inl j ↦ kept_danger (ds ++ a ∷ []) (b ∷ []) n (one_danger ds a n j i.1)
          | inr j ↦ one_danger (ds ++ a ∷ []) b n j i.1
        ]
      ];
    }

pub sees_put : (old new : List Node) (k last : ℕ) (bs : List Bound) (name : List ℕ) (at : Span) → Sees old k bs → ((cs : List Bound) → TreeOf old k cs → TreeOf new last (record { name = name; at = at } ∷ cs)) → Sees new last (record { name = name; at = at } ∷ bs)
sees_put old new k last bs name at s put =
    let b : Bound = record { name = name; at = at } in
    record { chain = b ∷ s.chain; stands = put s.chain s.stands; same = agree_joined (b ∷ []) (b ∷ []) s.chain bs (itself (b ∷ [])) s.same }

pub sees_agree : (nodes : List Node) (k : ℕ) (bs cs : List Bound) → Sees nodes k bs → Agree bs cs → Sees nodes k cs
sees_agree nodes k bs cs s a = record { chain = s.chain; stands = s.stands; same = chained s.chain bs cs s.same a }

pub append_known : (nodes : List Node) (k : ℕ) (name : List ℕ) (at az : Span) (bs : List Bound) → ((cs : List Bound) → TreeOf nodes k cs → Found cs name az) → Sees nodes k bs → Sees nodes k (bs ++ record { name = name; at = at } ∷ [])
append_known nodes k name at az bs f s =
    sees_agree nodes k bs (bs ++ record { name = name; at = at } ∷ []) s (agree_known bs (record { name = name; at = at }) (same_known s.chain bs name s.same (found_known s.chain name az (f s.chain s.stands))))

pub append_new : (old new : List Node) (k last : ℕ) (name : List ℕ) (at : Span) (bs : List Bound) → ((cs : List Bound) → TreeOf old k cs → IsKnown cs name → ⊥) → ((cs : List Bound) → TreeOf old k cs → TreeOf new last (record { name = name; at = at } ∷ cs)) → Sees old k bs → Sees new last (bs ++ record { name = name; at = at } ∷ [])
append_new old new k last name at bs f put s =
    sees_agree new last (record { name = name; at = at } ∷ bs) (bs ++ record { name = name; at = at } ∷ []) (sees_put old new k last bs name at s put)
    (agree_unknown bs (record { name = name; at = at }) (λ h. f s.chain s.stands (same_known bs s.chain name (flip s.chain bs s.same) h)))

-- a variable more
pub bounds_more : (ts : List Target) (i : ℕ) (t : Target) → i < length ts → t ≡ get_or ts i t → bounds_of (take (i + 1) ts) ≡ bounds_of (take i ts) ++ bound_of t ∷ []
bounds_more ts i t l e = ap bounds_of (take_more ts i t l ∙ ap (λ z. take i ts ++ z ∷ []) (sym e)) ∙ map-append bound_of (take i ts) (t ∷ [])

pub bounds_all : (ts : List Target) (i : ℕ) → length ts ≤ i → bounds_of (take i ts) ≡ bounds_of ts
bounds_all ts i l = ap bounds_of (take_all i ts l)

pub bounds_left : (ts : List Target) (i j : ℕ) (t : Target) → j ≡ i + 1 → i < length ts → t ≡ get_or ts i t → bounds_of (drop i ts) ≡ bound_of t ∷ bounds_of (drop j ts)
bounds_left ts i j t k l e = ap bounds_of (drop_more ts i t l ∙ ap (λ z. z ∷ drop (i + 1) ts) (sym e)) ∙ ap (λ n. bound_of t ∷ bounds_of (drop n ts)) (sym k)

pub append_more : (nodes : List Node) (last : ℕ) (ts : List Target) (i : ℕ) (t : Target) (bs : List Bound) → i < length ts → t ≡ get_or ts i t → Sees nodes last ((bs ++ bounds_of (take i ts)) ++ bound_of t ∷ []) → Sees nodes last (bs ++ bounds_of (take (i + 1) ts))
append_more nodes last ts i t bs l e h =
    let P : List Bound → Type 0 = Sees nodes last in
    subst P (append_assoc bs (bounds_of (take i ts)) (bound_of t ∷ []) ∙ ap (λ zs. bs ++ zs) (sym (bounds_more ts i t l e))) h

pub names_more : (ts : List Target) (i : ℕ) (t : Target) → i < length ts → t ≡ get_or ts i t → names (bounds_of (take (i + 1) ts)) ≡ names (bounds_of (take i ts)) ++ t.name.now ∷ []
names_more ts i t l e = ap names (bounds_more ts i t l e) ∙ map-append (λ b. b.name) (bounds_of (take i ts)) (bound_of t ∷ [])

pub endanger_more : (nodes : List Node) (last : ℕ) (ts : List Target) (i : ℕ) (t : Target) (ds : List Danger) (bs : List Bound) → i < length ts → t ≡ get_or ts i t
    → SeesUnsafe nodes last ((ds ++ record { left_unsafe = names (bounds_of (take i ts)); known = bs } ∷ []) ++ record { left_unsafe = t.name.now ∷ []; known = bs } ∷ [])
    → SeesUnsafe nodes last (ds ++ record { left_unsafe = names (bounds_of (take (i + 1) ts)); known = bs } ∷ [])
endanger_more nodes last ts i t ds bs l e h =
    let P : List (List ℕ) → Type 0 = λ ns. SeesUnsafe nodes last (ds ++ record { left_unsafe = ns; known = bs } ∷ []) in
    subst P (sym (names_more ts i t l e)) (sees_same nodes last _ _ (danger_joined ds bs (names (bounds_of (take i ts))) (t.name.now ∷ [])) h)

pub is_known_by : (bs cs : List Bound) (name : List ℕ) (at : Span) → Agree bs cs → Found bs name at → IsKnown cs name
is_known_by bs cs name at a h = found_known cs name at (a.to name at h)

pub is_unknown_by : (bs cs : List Bound) (name : List ℕ) → Agree bs cs → (IsKnown bs name → ⊥) → IsKnown cs name → ⊥
is_unknown_by bs cs name a h k = h (same_known cs bs name (flip bs cs a) k)

pub same_name : (a b : List ℕ) → (a ≡ b) ⊎ (a ≡ b → ⊥)
same_name a b = elim (test (bytes_eq a b)) [
  | inl t ↦ inl ((bytes_eq-Decides a b).0 t)
  | inr t ↦ inr (λ e. let f : true ≡ false = sym ((bytes_eq-Decides a b).1 e) ∙ t in cc)
]
  where
    test : (r : Bool) → (r ≡ true) ⊎ (r ≡ false)
    test true = inl refl
    test false = inr refl
