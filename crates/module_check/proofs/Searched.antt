-- Names in their order, and what is found of them in a tree.
use Rattle.std.proofs.Common.{◌≡◌, ℕ, List, [], ◌∷◌, ◌++◌, refl, sym, ◌∙◌, ap, subst, ◌⊎◌, inl, inr, Less, Equal, Greater}
use Rattle.std.specs.List.{Contains}
use Rattle.std.specs.Ordering.{nat_cmp, ordering_reverse}
use Rattle.std.specs.Cmp.Lexicographic.{slice_cmp}
use Rattle.std.proofs.lemmas.Cmp.{nat_list_cmp_total, tied_itself}
use Rattle.std.proofs.lemmas.Map.Lookups.{exact_bytes}
use Rattle.std.proofs.lemmas.List.{append_assoc, map-append}
use Rattle.std.proofs.lemmas.List.Elements.{Contains-append_cases, Contains-append_left, Contains-append_right}
use Rattle.erl_syntax.specs.Bindings.{Bound, names}
use Rattle.erl_syntax.specs.Scopes.{Found, IsKnown}
use Rattle.erl_syntax.specs.declared.span.Span.{Span}
use Rattle.module_check.specs.declared.trees.Node.{Node}
use Rattle.module_check.specs.Nodes.{Tree, none, Forks, IsLess, Rising, Agree, TreeOf, Grown, named}
use Rattle.module_check.proofs.Forked.{tree_grown}
use Rattle.module_check.proofs.Spots.{Contains-head, Contains-tail, none_in, only_one}
use Rattle.module_check.proofs.Chained.{flip, itself, chained, found_left, found_right, same_known, agree_joined, agree_known, agree_unknown}

-- the order of names
pub is_greater : (a b : List ℕ) → slice_cmp nat_cmp a b ≡ Greater → IsLess b a
is_greater a b e = nat_list_cmp_total.antisymm b a ∙ ap ordering_reverse e

not_itself : (a : List ℕ) → IsLess a a → ⊥
not_itself a h = (let f : Equal ≡ Less = sym (tied_itself nat_list_cmp_total a) ∙ h in cc)

pub not_both : (a b : List ℕ) → IsLess a b → IsLess b a → ⊥
not_both a b h k = not_itself a (nat_list_cmp_total.trans a b a h k)

pub not_same : (a b : List ℕ) → IsLess a b → a ≡ b → ⊥
not_same a b h e = let P : List ℕ → Type 0 = λ n. IsLess a n in not_itself a (subst P (sym e) h)

-- names in lists that are joined
known_joined : (bs cs : List Bound) (name : List ℕ) → IsKnown (bs ++ cs) name → IsKnown bs name ⊎ IsKnown cs name
known_joined bs cs name h = let P : List (List ℕ) → Type 0 = λ ns. Contains ns name in Contains-append_cases (names bs) (names cs) name (subst P (map-append (λ (b : Bound). b.name) bs cs) h)

known_left : (bs cs : List Bound) (name : List ℕ) → IsKnown bs name → IsKnown (bs ++ cs) name
known_left bs cs name h = let P : List (List ℕ) → Type 0 = λ ns. Contains ns name in subst P (sym (map-append (λ (b : Bound). b.name) bs cs)) (Contains-append_left (names bs) (names cs) name h)

known_right : (bs cs : List Bound) (name : List ℕ) → IsKnown cs name → IsKnown (bs ++ cs) name
known_right bs cs name h = let P : List (List ℕ) → Type 0 = λ ns. Contains ns name in subst P (sym (map-append (λ (b : Bound). b.name) bs cs)) (Contains-append_right (names bs) (names cs) name h)

known_here : (bs : List Bound) (x : Bound) (cs : List Bound) → IsKnown (bs ++ x ∷ cs) x.name
known_here bs x cs = known_right bs (x ∷ cs) x.name (Contains-head x.name (names cs))

abbrev pub Below : List Bound → List ℕ → Type 0
Below bs x = (name : List ℕ) → IsKnown bs name → IsLess name x

abbrev pub Above : List ℕ → List Bound → Type 0
Above x bs = (name : List ℕ) → IsKnown bs name → IsLess x name

-- a list in order, at one of its names
pub record Parted (ls : List Bound) (x : Bound) (rs : List Bound) : Type 0 where
  pub before : Below ls x.name
  pub behind : Above x.name rs
  pub lefts : Rising ls
  pub rights : Rising rs

pub part : (ls : List Bound) (x : Bound) (rs : List Bound) → Rising (ls ++ x ∷ rs) → Parted ls x rs
part [] x rs h = record { before = λ n k. absurd (none_in n k); behind = h.0; lefts = tt; rights = h.1 }
part (l ∷ ls) x rs h =
    let p = part ls x rs h.1 in
    record {
      before = λ n k. elim (Contains-append_cases (l.name ∷ []) (names ls) n k) [
        | inl i ↦ (let P : List ℕ → Type 0 = λ v. IsLess v x.name in subst P (only_one l.name n i) (h.0 x.name (known_here ls x rs)))
        | inr i ↦ p.before n i
      ];
      behind = p.behind;
      lefts = ((λ n k. h.0 n (known_left ls (x ∷ rs) n k)), p.lefts);
      rights = p.rights;
    }

pub joins : (ls : List Bound) (x : Bound) (rs : List Bound) → Parted ls x rs → Rising (ls ++ x ∷ rs)
joins [] x rs p = (p.behind, p.rights)
joins (l ∷ ls) x rs p =
    let first : IsLess l.name x.name = p.before l.name (Contains-head l.name (names ls)) in (
      (λ n k. elim (known_joined ls (x ∷ rs) n k) [
        | inl i ↦ p.lefts.0 n i
        | inr i ↦ elim (Contains-append_cases (x.name ∷ []) (names rs) n i) [
          | inl j ↦ (let P : List ℕ → Type 0 = λ v. IsLess l.name v in subst P (only_one x.name n j) first)
          | inr j ↦ nat_list_cmp_total.trans l.name x.name n first (p.behind n j)
        ]
      ]),
      joins ls x rs (record { before = λ n k. p.before n (Contains-tail l.name (names ls) n k); behind = p.behind; lefts = p.lefts.1; rights = p.rights }),
    )

-- a name that comes before one of the list stands before it, if at all
known_before : (ls : List Bound) (x : Bound) (rs : List Bound) (name : List ℕ) → Parted ls x rs → IsLess name x.name → IsKnown (ls ++ x ∷ rs) name → IsKnown ls name
known_before ls x rs name p h k = elim (known_joined ls (x ∷ rs) name k) [
  | inl i ↦ i
  | inr i ↦ elim (Contains-append_cases (x.name ∷ []) (names rs) name i) [
    | inl j ↦ absurd (not_same name x.name h (sym (only_one x.name name j)))
    | inr j ↦ absurd (not_both name x.name h (p.behind name j))
  ]
]

known_behind : (ls : List Bound) (x : Bound) (rs : List Bound) (name : List ℕ) → Parted ls x rs → IsLess x.name name → IsKnown (ls ++ x ∷ rs) name → IsKnown rs name
known_behind ls x rs name p h k = elim (known_joined ls (x ∷ rs) name k) [
  | inl i ↦ absurd (not_both name x.name (p.before name i) h)
  | inr i ↦ elim (Contains-append_cases (x.name ∷ []) (names rs) name i) [
    | inl j ↦ absurd (not_same x.name name h (only_one x.name name j))
    | inr j ↦ j
  ]
]

unknown_before : (ls : List Bound) (x : Bound) (rs : List Bound) (name : List ℕ) → Parted ls x rs → IsLess x.name name → IsKnown ls name → ⊥
unknown_before ls x rs name p h k = not_both name x.name (p.before name k) h

found_behind : (ls : List Bound) (x : Bound) (rs : List Bound) (name : List ℕ) (at : Span) → Parted ls x rs → IsLess x.name name → Found rs name at → Found (ls ++ x ∷ rs) name at
found_behind ls x rs name at p h k = found_right ls (x ∷ rs) name at (unknown_before ls x rs name p h) (inr (not_same x.name name h, k))

found_at : (ls : List Bound) (x : Bound) (rs : List Bound) (name : List ℕ) → Parted ls x rs → x.name ≡ name → Found (ls ++ x ∷ rs) name x.at
found_at ls x rs name p e = found_right ls (x ∷ rs) name x.at (λ k. not_same name x.name (p.before name k) (sym e)) (inl (e, refl))

-- what is found in a tree or further down
pub record Leads (nodes : List Node) (last rest : ℕ) (name : List ℕ) : Type 0 where
  pub leads : (bs : List Bound) → TreeOf nodes last bs → (ts : List Bound) × (Tree nodes rest ts × (Rising ts × (((at : Span) → Found ts name at → Found bs name at) × (IsKnown bs name → IsKnown ts name))))

pub leads_start : (nodes : List Node) (last : ℕ) (name : List ℕ) → Leads nodes last last name
leads_start nodes last name = record { leads = λ bs h. (h.sorted, (h.tree, (h.rising, ((λ at k. h.same.to name at k), (λ k. known_there bs h.sorted (flip h.sorted bs h.same) k))))) }
  where
    known_there : (bs ts : List Bound) → Agree bs ts → IsKnown bs name → IsKnown ts name
    known_there bs ts a k = same_known bs ts name a k

pub find_none : (nodes : List Node) (last rest : ℕ) (name : List ℕ) → ((ts : List Bound) → Tree nodes rest ts → ts ≡ []) → Leads nodes last rest name → (bs : List Bound) → TreeOf nodes last bs → IsKnown bs name → ⊥
find_none nodes last rest name e h bs ch k =
    let t = h.leads bs ch in
    let P : List Bound → Type 0 = λ v. IsKnown v name in
    none_in name (subst P (e t.0 t.1.0) (t.1.1.1.1 k))

pub find_here : (nodes : List Node) (last rest : ℕ) (name : List ℕ) (n : Node) → ((ts : List Bound) → Tree nodes rest ts → Forks nodes n ts) → slice_cmp nat_cmp name n.name.now ≡ Equal → Leads nodes last rest name → (bs : List Bound) → TreeOf nodes last bs → Found bs name n.at
find_here nodes last rest name n o e h bs ch =
    let t = h.leads bs ch in
    let f = o t.0 t.1.0 in
    let P : List Bound → Type 0 = λ v. Rising v in
    let Q : List Bound → Type 0 = λ v. Found v name n.at in
    let p = part f.lefts (named n) f.rights (subst P f.is t.1.1.0) in
    t.1.1.1.0 n.at (subst Q (sym f.is) (found_at f.lefts (named n) f.rights name p (sym (exact_bytes name n.name.now e))))

pub leads_left : (nodes : List Node) (last rest : ℕ) (name : List ℕ) (n : Node) → ((ts : List Bound) → Tree nodes rest ts → Forks nodes n ts) → slice_cmp nat_cmp name n.name.now ≡ Less → Leads nodes last rest name → Leads nodes last n.left name
leads_left nodes last rest name n o e h = record {
  leads = λ bs ch.
      let t = h.leads bs ch in
      let f = o t.0 t.1.0 in
      let P : List Bound → Type 0 = λ v. Rising v in
      let Q : List Bound → Type 0 = λ v. IsKnown v name in
      let p = part f.lefts (named n) f.rights (subst P f.is t.1.1.0) in
      let R : (at : Span) → List Bound → Type 0 = λ at v. Found v name at in
      (f.lefts, (f.left, (p.lefts, ((λ at k. t.1.1.1.0 at (subst (R at) (sym f.is) (found_left f.lefts (named n ∷ f.rights) name at k))), (λ k. known_before f.lefts (named n) f.rights name p e (subst Q f.is (t.1.1.1.1 k)))))));
}

pub leads_right : (nodes : List Node) (last rest : ℕ) (name : List ℕ) (n : Node) → ((ts : List Bound) → Tree nodes rest ts → Forks nodes n ts) → slice_cmp nat_cmp name n.name.now ≡ Greater → Leads nodes last rest name → Leads nodes last n.right name
leads_right nodes last rest name n o e h = record {
  leads = λ bs ch.
      let t = h.leads bs ch in
      let f = o t.0 t.1.0 in
      let P : List Bound → Type 0 = λ v. Rising v in
      let Q : List Bound → Type 0 = λ v. IsKnown v name in
      let p = part f.lefts (named n) f.rights (subst P f.is t.1.1.0) in
      let less = is_greater name n.name.now e in
      let R : (at : Span) → List Bound → Type 0 = λ at v. Found v name at in
      (f.rights, (f.right, (p.rights, ((λ at k. t.1.1.1.0 at (subst (R at) (sym f.is) (found_behind f.lefts (named n) f.rights name at p less k))), (λ k. known_behind f.lefts (named n) f.rights name p less (subst Q f.is (t.1.1.1.1 k)))))));
}

-- a name is put in front of those of a tree
chain_put : (old new : List Node) (before top : ℕ) (b : Bound) (bs us : List Bound) (ch : TreeOf old before bs) → Tree new top us → Rising us → Agree (b ∷ ch.sorted) us → TreeOf new top (b ∷ bs)
chain_put old new before top b bs us ch t r a = record {
  sorted = us;
  tree = t;
  rising = r;
  same = chained us (b ∷ ch.sorted) (b ∷ bs) (flip (b ∷ ch.sorted) us a) (agree_joined (b ∷ []) (b ∷ []) ch.sorted bs (itself (b ∷ [])) ch.same);
}

agree_past : (fs rs us : List Bound) (b : Bound) → (IsKnown fs b.name → ⊥) → Agree us (b ∷ rs) → Agree (b ∷ (fs ++ rs)) (fs ++ us)
agree_past fs rs us b k a =
    let P : List Bound → Type 0 = λ zs. Agree ((b ∷ fs) ++ rs) zs in
    let first : Agree ((b ∷ fs) ++ rs) (fs ++ (b ∷ rs)) = subst P (append_assoc fs (b ∷ []) rs) (agree_joined (b ∷ fs) (fs ++ b ∷ []) rs rs (agree_unknown fs b k) (itself rs)) in
    chained (b ∷ (fs ++ rs)) (fs ++ (b ∷ rs)) (fs ++ us) first (agree_joined fs fs (b ∷ rs) us (itself fs) (flip us (b ∷ rs) a))

pub put_leaf : (old new : List Node) (before top : ℕ) (n : Node) → n.left ≡ 0 → n.right ≡ 0 → ((ts : List Bound) → Tree old before ts → ts ≡ []) → ((ts : List Bound) → Forks old n ts → Tree new top ts)
    → (bs : List Bound) → TreeOf old before bs → TreeOf new top (named n ∷ bs)
put_leaf old new before top n p q e add bs ch =
    let P : ℕ → Type 0 = λ k. Tree old k [] in
    let Q : List Bound → Type 0 = λ ts. Agree (named n ∷ ts) (named n ∷ []) in
    let t = add (named n ∷ []) (record { lefts = []; rights = []; left = subst P (sym p) none; right = subst P (sym q) none; is = refl }) in
    chain_put old new before top (named n) bs (named n ∷ []) ch t ((λ m k. absurd (none_in m k)), tt) (subst Q (sym (e ch.sorted ch.tree)) (itself (named n ∷ [])))

same_tree : (nodes : List Node) (k : ℕ) (ts : List Bound) → Tree nodes k ts → Rising ts → TreeOf nodes k ts
same_tree nodes k ts t r = record { sorted = ts; tree = t; rising = r; same = itself ts }

pub put_left : (old mid new : List Node) (before k top : ℕ) (n : Node) (name : List ℕ) (at : Span) → Grown old mid → ((ts : List Bound) → Tree old before ts → Forks old n ts) → slice_cmp nat_cmp name n.name.now ≡ Less
    → ((cs : List Bound) → TreeOf old n.left cs → TreeOf mid k (record { name = name; at = at } ∷ cs)) → ((ts : List Bound) → Forks mid (record n { left = k }) ts → Tree new top ts)
    → (bs : List Bound) → TreeOf old before bs → TreeOf new top (record { name = name; at = at } ∷ bs)
put_left old mid new before k top n name at g o e put add bs ch =
    let b : Bound = record { name = name; at = at } in
    let f = o ch.sorted ch.tree in
    let P : List Bound → Type 0 = λ v. Rising v in
    let p = part f.lefts (named n) f.rights (subst P f.is ch.rising) in
    let r = put f.lefts (same_tree old n.left f.lefts f.left p.lefts) in
    let us : List Bound = r.sorted ++ named n ∷ f.rights in
    let Q : List Bound → Type 0 = λ v. Agree (b ∷ v) us in
    let in_order : Rising us = joins r.sorted (named n) f.rights (record {
      before = λ m h. elim (Contains-append_cases (name ∷ []) (names f.lefts) m (same_known r.sorted (b ∷ f.lefts) m r.same h)) [
        | inl i ↦ (let R : List ℕ → Type 0 = λ v. IsLess v n.name.now in subst R (only_one name m i) e)
        | inr i ↦ p.before m i
      ];
      behind = p.behind;
      lefts = r.rising;
      rights = p.rights;
    }) in
    let same : Agree us (b ∷ (f.lefts ++ named n ∷ f.rights)) = agree_joined r.sorted (b ∷ f.lefts) (named n ∷ f.rights) (named n ∷ f.rights) r.same (itself (named n ∷ f.rights)) in
    let t = add us (record { lefts = r.sorted; rights = f.rights; left = r.tree; right = tree_grown old mid g n.right f.rights f.right; is = refl }) in
    chain_put old new before top b bs us ch t in_order (subst Q (sym f.is) (flip us (b ∷ (f.lefts ++ named n ∷ f.rights)) same))

pub put_right : (old mid new : List Node) (before k top : ℕ) (n : Node) (name : List ℕ) (at : Span) → Grown old mid → ((ts : List Bound) → Tree old before ts → Forks old n ts) → slice_cmp nat_cmp name n.name.now ≡ Greater
    → ((cs : List Bound) → TreeOf old n.right cs → TreeOf mid k (record { name = name; at = at } ∷ cs)) → ((ts : List Bound) → Forks mid (record n { right = k }) ts → Tree new top ts)
    → (bs : List Bound) → TreeOf old before bs → TreeOf new top (record { name = name; at = at } ∷ bs)
put_right old mid new before k top n name at g o e put add bs ch =
    let b : Bound = record { name = name; at = at } in
    let f = o ch.sorted ch.tree in
    let P : List Bound → Type 0 = λ v. Rising v in
    let p = part f.lefts (named n) f.rights (subst P f.is ch.rising) in
    let less = is_greater name n.name.now e in
    let r = put f.rights (same_tree old n.right f.rights f.right p.rights) in
    let us : List Bound = f.lefts ++ named n ∷ r.sorted in
    let front : List Bound = f.lefts ++ named n ∷ [] in
    let Q : List Bound → Type 0 = λ v. Agree (b ∷ v) us in
    let R : List Bound → Type 0 = λ v. Agree (b ∷ (front ++ f.rights)) v in
    let in_order : Rising us = joins f.lefts (named n) r.sorted (record {
      before = p.before;
      behind = λ m h. elim (Contains-append_cases (name ∷ []) (names f.rights) m (same_known r.sorted (b ∷ f.rights) m r.same h)) [
        | inl i ↦ (let S : List ℕ → Type 0 = λ v. IsLess n.name.now v in subst S (only_one name m i) less)
        | inr i ↦ p.behind m i
      ];
      lefts = p.lefts;
      rights = r.rising;
    }) in
    let unknown : IsKnown front name → ⊥ = λ h. elim (known_joined f.lefts (named n ∷ []) name h) [
      | inl i ↦ unknown_before f.lefts (named n) f.rights name p less i
      | inr i ↦ not_same n.name.now name less (only_one n.name.now name i)
    ] in
    let same : Agree (b ∷ (front ++ f.rights)) us = subst R (append_assoc f.lefts (named n ∷ []) r.sorted) (agree_past front f.rights r.sorted b unknown r.same) in
    let t = add us (record { lefts = f.lefts; rights = r.sorted; left = tree_grown old mid g n.left f.lefts f.left; right = r.tree; is = refl }) in
    chain_put old new before top b bs us ch t in_order (subst Q (append_assoc f.lefts (named n ∷ []) f.rights ∙ sym f.is) same)

pub put_here : (old new : List Node) (before top : ℕ) (n m : Node) → m.left ≡ n.left → m.right ≡ n.right → ((ts : List Bound) → Tree old before ts → Forks old n ts) → slice_cmp nat_cmp m.name.now n.name.now ≡ Equal
    → ((ts : List Bound) → Forks old m ts → Tree new top ts)
    → (bs : List Bound) → TreeOf old before bs → TreeOf new top (named m ∷ bs)
put_here old new before top n m q w o e add bs ch =
    let b : Bound = named m in
    let f = o ch.sorted ch.tree in
    let P : List Bound → Type 0 = λ v. Rising v in
    let p = part f.lefts (named n) f.rights (subst P f.is ch.rising) in
    let s : m.name.now ≡ n.name.now = exact_bytes m.name.now n.name.now e in
    let us : List Bound = f.lefts ++ b ∷ f.rights in
    let Q : List Bound → Type 0 = λ v. Agree (b ∷ v) us in
    let L : ℕ → Type 0 = λ k. Tree old k f.lefts in
    let R : ℕ → Type 0 = λ k. Tree old k f.rights in
    let below : Below f.lefts m.name.now = (let S : List ℕ → Type 0 = λ v. Below f.lefts v in subst S (sym s) p.before) in
    let above : Above m.name.now f.rights = (let S : List ℕ → Type 0 = λ v. Above v f.rights in subst S (sym s) p.behind) in
    let in_order : Rising us = joins f.lefts b f.rights (record { before = below; behind = above; lefts = p.lefts; rights = p.rights }) in
    let shown : IsKnown (b ∷ []) n.name.now = (let S : List ℕ → Type 0 = λ v. IsKnown (b ∷ []) v in subst S s (Contains-head m.name.now [])) in
    let shadowed : Agree (b ∷ f.rights) (b ∷ (named n ∷ f.rights)) = agree_joined (b ∷ []) (b ∷ (named n ∷ [])) f.rights f.rights (agree_known (b ∷ []) (named n) shown) (itself f.rights) in
    let same : Agree (b ∷ (f.lefts ++ named n ∷ f.rights)) us = agree_past f.lefts (named n ∷ f.rights) (b ∷ f.rights) b (λ k. not_itself m.name.now (below m.name.now k)) shadowed in
    let t = add us (record { lefts = f.lefts; rights = f.rights; left = subst L (sym q) f.left; right = subst R (sym w) f.right; is = refl }) in
    chain_put old new before top b bs us ch t in_order (subst Q (sym f.is) same)
