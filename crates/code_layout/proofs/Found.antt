-- What the tables of a module and of a function find, one element put in front of the others.
use Rattle.std.proofs.Common.{◌≡◌, ℕ, ℤ, suc, pos, ◌+◌, ◌<◌, ◌≤◌, Bool, true, false, cond, List, [], ◌∷◌, length, get_or, drop, Option, Some, None, Decides, unwrap_or, refl, sym, ◌∙◌, ap, subst, arith}
use Rattle.std.specs.Prelude.{not, nat_eq, ◌&&◌, ◌||◌}
use Rattle.std.specs.List.{list_any}
use Rattle.std.specs.declared.cmp.Ordering.{Ordering}
use Rattle.std.specs.Ordering.{nat_cmp, int_cmp, int_eq, is_eq}
use Rattle.std.specs.Cmp.{IsTotalOrder, nat_cmp_total, int_cmp_total, Equal-is}
use Rattle.std.specs.Map.{lookup}
use Rattle.std.specs.BTreeMap as map
use Rattle.std.specs.BTreeMap.{BTreeMap, is_at}
use Rattle.std.specs.BTreeSet as set
use Rattle.std.specs.BTreeSet.{BTreeSet}
use Rattle.std.proofs.Math.Seq.{drop-cons}
use Rattle.std.proofs.lemmas.List.{drop_all}
use Rattle.std.proofs.lemmas.Cmp.{on_total, then_total, tied_itself}
use Rattle.std.proofs.lemmas.Map.Lookups.{CmpEqualImpliesEq, exact_pairs, exact_unsigned, exact_signed}
use Rattle.std.proofs.lemmas.Bool.{false≢true}
use Rattle.std.proofs.lemmas.Bool.Decides.{Decides-eqb, Decides-int_eq, same_from_decides}
use Rattle.erl_syntax.specs.Checking.{number_at}
use Rattle.erl_syntax.specs.declared.checking.VarUse.{VarUse}
use Rattle.erl_syntax.specs.declared.module.Function.{Function}
use Rattle.erl_syntax.specs.declared.module.Name.{Name}
use Rattle.term_value.specs.ReadTrees.{place_of}
use Rattle.code_layout.specs.Lookups.{pair_cmp, export_cmp, NumbersOf, PlacesOf, ExportsOf}

both : {P Q : Type 0} (b c : Bool) → Decides b P → Decides c Q → Decides (b && c) (P × Q)
both true true d e = (λ _. (d.0 refl, e.0 refl), λ _. refl)
both true false d e = (λ h. absurd (false≢true h), λ g. e.1 g.1)
both false c d e = (λ h. absurd (false≢true h), λ g. d.1 g.0)

is_it : {K : Type 0} (cmp : K → K → Ordering) → IsTotalOrder cmp → CmpEqualImpliesEq cmp → (k q : K) → Decides (is_at (cmp k) q) (k ≡ q)
is_it {K} cmp total exact k q = (λ h. exact k q ((Equal-is (cmp k q)).0 h), λ e. let P : K → Type 0 = λ v. is_at (cmp k) v ≡ true in subst P e (ap is_eq (tied_itself total k)))

pair_test : (k q : ℕ × ℕ) → Decides (nat_eq k.0 q.0 && nat_eq k.1 q.1) (k ≡ q)
pair_test k q =
    let d = both (nat_eq k.0 q.0) (nat_eq k.1 q.1) (Decides-eqb k.0 q.0) (Decides-eqb k.1 q.1) in
    (λ h. ap (λ n. (n, k.1)) (d.0 h).0 ∙ ap (λ n. (q.0, n)) (d.0 h).1, λ e. d.1 (ap (λ (v : ℕ × ℕ). v.0) e, ap (λ (v : ℕ × ℕ). v.1) e))

export_test : (k q : ℕ × ℤ) → Decides (nat_eq k.0 q.0 && int_eq k.1 q.1) (k ≡ q)
export_test k q =
    let d = both (nat_eq k.0 q.0) (int_eq k.1 q.1) (Decides-eqb k.0 q.0) (Decides-int_eq k.1 q.1) in
    (λ h. ap (λ n. (n, k.1)) (d.0 h).0 ∙ ap (λ z. (q.0, z)) (d.0 h).1, λ e. d.1 (ap (λ (v : ℕ × ℤ). v.0) e, ap (λ (v : ℕ × ℤ). v.1) e))

pairs_total : IsTotalOrder pair_cmp
pairs_total = then_total (on_total (λ (k : ℕ × ℕ). k.0) nat_cmp_total) (on_total (λ (k : ℕ × ℕ). k.1) nat_cmp_total)

exports_total : IsTotalOrder export_cmp
exports_total = then_total (on_total (λ (k : ℕ × ℤ). k.0) nat_cmp_total) (on_total (λ (k : ℕ × ℤ). k.1) int_cmp_total)

pair_at : (k q : ℕ × ℕ) → is_at (pair_cmp k) q ≡ (nat_eq k.0 q.0 && nat_eq k.1 q.1)
pair_at k q = same_from_decides (is_at (pair_cmp k) q) (nat_eq k.0 q.0 && nat_eq k.1 q.1) (is_it pair_cmp pairs_total (exact_pairs nat_cmp nat_cmp exact_unsigned exact_unsigned) k q) (pair_test k q)

export_at : (k q : ℕ × ℤ) → is_at (export_cmp k) q ≡ (nat_eq k.0 q.0 && int_eq k.1 q.1)
export_at k q = same_from_decides (is_at (export_cmp k) q) (nat_eq k.0 q.0 && int_eq k.1 q.1) (is_it export_cmp exports_total (exact_pairs nat_cmp int_cmp exact_unsigned exact_signed) k q) (export_test k q)

none_in : {K X : Type 0} (cmp : K → K → Ordering) (m : BTreeMap K X) (q : K) → m.entries ≡ [] → map.get cmp m q ≡ None
none_in cmp m q e = ap (lookup (is_at (cmp q))) e

-- the list from a place on is the element there and those behind it
cut : {X : Type 0} (i j : ℕ) (xs : List X) (x : X) → j ≡ i + 1 → i < length xs → x ≡ get_or xs i x → drop i xs ≡ x ∷ drop j xs
cut i j xs x e l g = drop-cons xs i x l ∙ ap (λ z. z ∷ drop (suc i) xs) (sym g) ∙ ap (λ n. x ∷ drop n xs) (let h : suc i ≡ j = omega (arith, e) in h)

-- ---- Numbers

pub numbers_none : (uses : List VarUse) (n : ℕ) (m : BTreeMap (ℕ × ℕ) ℕ) → length uses ≤ n → m.entries ≡ [] → NumbersOf (drop n uses) m
numbers_none uses n m l e q =
    let P : List VarUse → Type 0 = λ us. unwrap_or (map.get pair_cmp m q) 0 ≡ number_at us (record { line = q.0; column = q.1 }) in
    subst P (sym (drop_all n uses l)) (ap (λ o. unwrap_or o 0) (none_in pair_cmp m q e))

numbered : (b : Bool) (n : ℕ) (o : Option ℕ) → unwrap_or (cond b (Some n) o) 0 ≡ cond b n (unwrap_or o 0)
numbered true n o = refl
numbered false n o = refl

numbers_front : (u : VarUse) (uses : List VarUse) (old new : BTreeMap (ℕ × ℕ) ℕ) → ((q : ℕ × ℕ) → map.get pair_cmp new q ≡ cond (is_at (pair_cmp (u.at.line, u.at.column)) q) (Some u.number) (map.get pair_cmp old q)) → NumbersOf uses old → NumbersOf (u ∷ uses) new
numbers_front u uses old new h l q =
    let at : ℕ × ℕ = (u.at.line, u.at.column) in
    let b : Bool = is_at (pair_cmp at) q in
    ap (λ o. unwrap_or o 0) (h q) ∙ numbered b u.number (map.get pair_cmp old q) ∙ ap (cond b u.number) (l q) ∙ ap (λ c. cond c u.number (number_at uses (record { line = q.0; column = q.1 }))) (pair_at at q)

pub numbers_more : (uses : List VarUse) (i j : ℕ) (u : VarUse) (k : ℕ × ℕ) (n : ℕ) (old new : BTreeMap (ℕ × ℕ) ℕ) → j ≡ i + 1 → i < length uses → u ≡ get_or uses i u → k ≡ (u.at.line, u.at.column) → n ≡ u.number
    → ((q : ℕ × ℕ) → map.get pair_cmp new q ≡ cond (is_at (pair_cmp k) q) (Some n) (map.get pair_cmp old q)) → NumbersOf (drop j uses) old → NumbersOf (drop i uses) new
numbers_more uses i j u k n old new e l g same number h o =
    let P : List VarUse → Type 0 = λ us. NumbersOf us new in
    subst P (sym (cut i j uses u e l g)) (numbers_front u (drop j uses) old new (λ q. h q ∙ ap (λ v. cond (is_at (pair_cmp v) q) (Some n) (map.get pair_cmp old q)) same ∙ ap (λ v. cond (is_at (pair_cmp (u.at.line, u.at.column)) q) (Some v) (map.get pair_cmp old q)) number) o)

-- ---- Places

-- the places of the functions from a place on
abbrev pub PlacesFrom : List Function → ℕ → BTreeMap (ℕ × ℕ) ℕ → Type 0
PlacesFrom fs n m = (k : ℕ × ℕ) → unwrap_or (map.get pair_cmp m k) (length fs) ≡ n + place_of (drop n fs) k.0 k.1

pub places_none : (fs : List Function) (n : ℕ) (m : BTreeMap (ℕ × ℕ) ℕ) → n ≡ length fs → m.entries ≡ [] → PlacesFrom fs n m
places_none fs n m l e q =
    let P : List Function → Type 0 = λ gs. unwrap_or (map.get pair_cmp m q) (length fs) ≡ n + place_of gs q.0 q.1 in
    subst P (sym (drop_all n fs (omega (arith, l)))) (ap (λ o. unwrap_or o (length fs)) (none_in pair_cmp m q e) ∙ (let h : length fs ≡ n + 0 = omega (arith, l) in h))

placed : (b : Bool) (i j len rest : ℕ) (o : Option ℕ) → j ≡ i + 1 → unwrap_or o len ≡ j + rest → unwrap_or (cond b (Some i) o) len ≡ i + cond b 0 (1 + rest)
placed true i j len rest o e h = omega arith
placed false i j len rest o e h = omega (arith, e, h)

first_place : (b : Bool) (rest : ℕ) → cond b 0 (1 + rest) ≡ cond (not b) (1 + rest) 0
first_place true rest = refl
first_place false rest = refl

pub places_more : (fs : List Function) (i j : ℕ) (f : Function) (k : ℕ × ℕ) (n : ℕ) (old new : BTreeMap (ℕ × ℕ) ℕ) → j ≡ i + 1 → i < length fs → f ≡ get_or fs i f → k ≡ (f.name, f.arity) → n ≡ i
    → ((q : ℕ × ℕ) → map.get pair_cmp new q ≡ cond (is_at (pair_cmp k) q) (Some n) (map.get pair_cmp old q)) → PlacesFrom fs j old → PlacesFrom fs i new
places_more fs i j f k n old new e l g same number h o q =
    let b : Bool = is_at (pair_cmp (f.name, f.arity)) q in
    let rest : ℕ = place_of (drop j fs) q.0 q.1 in
    let is : map.get pair_cmp new q ≡ cond b (Some i) (map.get pair_cmp old q) = h q ∙ ap (λ v. cond (is_at (pair_cmp v) q) (Some n) (map.get pair_cmp old q)) same ∙ ap (λ v. cond b (Some v) (map.get pair_cmp old q)) number in
    ap (λ v. unwrap_or v (length fs)) is ∙ placed b i j (length fs) rest (map.get pair_cmp old q) e (o q) ∙ ap (λ c. i + cond c 0 (1 + rest)) (pair_at (f.name, f.arity) q)
    ∙ ap (λ m. i + m) (first_place (nat_eq f.name q.0 && nat_eq f.arity q.1) rest) ∙ ap (λ gs. i + place_of gs q.0 q.1) (sym (cut i j fs f e l g))

-- ---- Exports

pub exports_none : (es : List Name) (n : ℕ) (s : BTreeSet (ℕ × ℤ)) → length es ≤ n → s.keys ≡ [] → ExportsOf (drop n es) s
exports_none es n s l e q =
    let P : List Name → Type 0 = λ ns. set.contains export_cmp s q ≡ list_any (λ v. nat_eq v.name q.0 && int_eq v.arity q.1) ns in
    subst P (sym (drop_all n es l)) (ap (list_any (is_at (export_cmp q))) e)

exported : (b c : Bool) → cond b true c ≡ (b || c)
exported true c = refl
exported false c = refl

pub exports_more : (es : List Name) (i j : ℕ) (e : Name) (k : ℕ × ℤ) (old new : BTreeSet (ℕ × ℤ)) → j ≡ i + 1 → i < length es → e ≡ get_or es i e → k ≡ (e.name, e.arity)
    → ((q : ℕ × ℤ) → set.contains export_cmp new q ≡ cond (is_at (export_cmp k) q) true (set.contains export_cmp old q)) → ExportsOf (drop j es) old → ExportsOf (drop i es) new
exports_more es i j e k old new h l g same u o =
    let P : List Name → Type 0 = λ ns. ExportsOf ns new in
    subst P (sym (cut i j es e h l g)) (λ q.
    let at : ℕ × ℤ = (e.name, e.arity) in
    u q ∙ ap (λ v. cond (is_at (export_cmp v) q) true (set.contains export_cmp old q)) same ∙ exported (is_at (export_cmp at) q) (set.contains export_cmp old q) ∙ ap (λ c. c || set.contains export_cmp old q) (export_at at q) ∙ ap (λ c. (nat_eq e.name q.0 && int_eq e.arity q.1) || c) (o q))
