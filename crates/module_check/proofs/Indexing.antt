-- What an index says, one function or export after another, and what its look-ups answer.
use Rattle.std.proofs.Common.{◌≡◌, ℕ, zero, suc, pos, ◌+◌, ◌<◌, ◌≤◌, Bool, true, false, cond, not, nat_lt, List, [], ◌∷◌, ◌++◌, length, get_or, take, drop, Option, Some, None, refl, sym, ◌∙◌, ap, subst, ◌⊎◌, inl, inr, arith, MatchBool}
use Rattle.std.specs.List.{Contains}
use Rattle.std.specs.Option.{is_some}
use Rattle.std.specs.Ordering.{nat_cmp, int_cmp, is_eq}
use Rattle.std.specs.Cmp.{IsTotalOrder, nat_cmp_total, int_cmp_total, Equal-is}
use Rattle.std.specs.Map.{lookup}
use Rattle.std.specs.BTreeMap as map
use Rattle.std.specs.BTreeMap.{BTreeMap, is_at}
use Rattle.std.specs.BTreeSet as set
use Rattle.std.specs.BTreeSet.{BTreeSet}
use Rattle.std.proofs.lemmas.Cmp.{on_total, then_total, tied_itself}
use Rattle.std.proofs.lemmas.Map.Lookups.{CmpEqualImpliesEq, exact_pairs, exact_unsigned, exact_signed}
use Rattle.std.proofs.lemmas.Bool.Decides.{Decides-ltb, nat_tests}
use Rattle.std.proofs.lemmas.List.{take-append-le, take-append-drop, take_all, take_more, length-append}
use Rattle.std.proofs.lemmas.List.Elements.{Contains-append_left, Contains-push, Contains-push_cases}
use Rattle.erl_syntax.specs.Checking.{HasFunction, IsExported}
use Rattle.erl_syntax.specs.declared.module.Module.{Module}
use Rattle.erl_syntax.specs.declared.module.Name.{Name}
use Rattle.erl_syntax.specs.declared.module.Function.{Function}
use Rattle.erl_syntax.specs.declared.checking.CheckFault.{CheckFault}
use Rattle.module_check.specs.declared.index.Named.{Named}
use Rattle.module_check.specs.Order.{IsLeast, IsFirstOf, Some_of}
use Rattle.module_check.specs.Faults.{FirstClause, NamedFault, IsAmong, IsMissing}
use Rattle.module_check.specs.Index.{Key, key_cmp, Has, SomeHas, AgainFault, IsNamedIn, AreNamed, Lists, HasExport, SomeExport, ListsExports}
use Rattle.module_check.proofs.Firsts.{same_least, least_push}

-- keys that compare alike are one
exact_keys : CmpEqualImpliesEq key_cmp
exact_keys = exact_pairs nat_cmp int_cmp exact_unsigned exact_signed

keys_total : IsTotalOrder key_cmp
keys_total = then_total (on_total (λ (k : Key). k.0) nat_cmp_total) (on_total (λ (k : Key). k.1) int_cmp_total)

test : (r : Bool) → (r ≡ true) ⊎ (r ≡ false)
test true = inl refl
test false = inr refl

same_key : (k q : Key) → is_at (key_cmp k) q ≡ true → k ≡ q
same_key k q h = exact_keys k q ((Equal-is (key_cmp k q)).0 h)

-- a key isn't another
apart : (k q : Key) → is_at (key_cmp k) q ≡ false → k ≡ q → ⊥
apart k q f e =
    let P : Key → Type 0 = λ v. is_at (key_cmp k) v ≡ false in
    let on : is_at (key_cmp k) k ≡ true = ap is_eq (tied_itself keys_total k) in
    let no : true ≡ false = sym on ∙ subst P (sym e) f in cc

both_same : (k q : Key) → k.0 ≡ q.0 → k.1 ≡ q.1 → k ≡ q
both_same k q e h = ap (λ n. (n, k.1)) e ∙ ap (λ z. (q.0, z)) h

same_arity : {a b : ℕ} → pos a ≡ pos b → a ≡ b
same_arity e = cc

-- the first elements of a list
taken : {X : Type 0} (n : ℕ) (xs : List X) (x : X) → Contains (take n xs) x → Contains xs x
taken {X} n xs x h = let P : List X → Type 0 = λ zs. Contains zs x in subst P (take-append-drop n xs) (Contains-append_left (take n xs) (drop n xs) x h)

twice : {X : Type 0} (i j : ℕ) (xs : List X) → i ≤ j → take i xs ≡ take i (take j xs)
twice zero j xs l = refl
twice (suc i) zero xs l = absurd (omega (arith, l))
twice (suc i) (suc j) [] l = refl
twice (suc i) (suc j) (x ∷ xs) l = ap (λ zs. x ∷ zs) (twice i j xs (omega (arith, l)))

taken_more : {X : Type 0} (i j : ℕ) (xs : List X) (x : X) → i ≤ j → Contains (take i xs) x → Contains (take j xs) x
taken_more {X} i j xs x l h = let P : List X → Type 0 = λ zs. Contains zs x in taken i (take j xs) x (subst P (twice i j xs l) h)

alone : (a : Option CheckFault) → IsFirstOf a None a
alone None = refl
alone (Some x) = refl

-- one more function
module _ (before : List Function) (f : Function) (k : Key) where
  long : length (before ++ f ∷ []) ≡ length before + 1
  long = length-append before (f ∷ [])

  within : (n : ℕ) → n ≤ length before → take n (before ++ f ∷ []) ≡ take n before
  within n l = take-append-le n before (f ∷ []) l

  not_new : (n : ℕ) → n ≤ length before → (SomeHas (take n before) k → ⊥) → SomeHas (take n (before ++ f ∷ [])) k → ⊥
  not_new n l h s = let P : List Function → Type 0 = λ zs. SomeHas zs k in h (subst P (within n l) s)

  -- of another name
  pub named_apart : (n : Option Named) → (Has k f → ⊥) → AreNamed before k n → AreNamed (before ++ f ∷ []) k n
  named_apart None other h = λ s. elim (Contains-push_cases before f s.0 s.1.0) [
    | inl c ↦ h (s.0, (c, s.1.1))
    | inr e ↦ other (let P : Function → Type 0 = λ g. Has k g in subst P (sym e) s.1.1)
  ]
  named_apart (Some n) other h =
      let P : List Function → Type 0 = λ zs. SomeHas zs k in
      record {
        inside = omega (arith, h.inside, long);
        stands = subst P (sym (within (n.first + 1) (omega (arith, h.inside)))) h.stands;
        first = not_new n.first (omega (arith, h.inside)) h.first;
        again = least_push (AgainFault k) before f n.again None n.again h.again (λ at why g. other g.0) (alone n.again);
      }

  its_fault : (r : Option CheckFault) → Has k f → IsLeast (FirstClause f.clauses) r → IsLeast (AgainFault k f) r
  its_fault r has h = same_least (FirstClause f.clauses) (AgainFault k f) r (λ at why g. (has, g)) (λ at why g. g.1) h

  -- the first of its name
  pub named_first : (place : ℕ) (again : Option CheckFault) → length before ≡ place → Has k f → (SomeHas before k → ⊥) → IsLeast (FirstClause f.clauses) again → IsNamedIn (before ++ f ∷ []) k (record { first = place; again = again })
  named_first place again e has none h =
      let P : List Function → Type 0 = λ zs. SomeHas zs k in
      let Q : List Function → Type 0 = λ zs. SomeHas zs k → ⊥ in
      record {
        inside = omega (arith, e, long);
        stands = subst P (sym (take_all (place + 1) (before ++ f ∷ []) (omega (arith, e, long)))) (f, (Contains-push before f, has));
        first = not_new place (omega (arith, e)) (subst Q (sym (take_all place before (omega (arith, e)))) none);
        again = least_push (AgainFault k) before f None again again (λ at why g. none (g.0, (g.1.0, g.1.1.0))) (its_fault again has h) refl;
      }

  -- not the first of its name
  pub named_again : (n : Named) (again both : Option CheckFault) → Has k f → IsNamedIn before k n → IsLeast (FirstClause f.clauses) again → IsFirstOf n.again again both → IsNamedIn (before ++ f ∷ []) k (record { first = n.first; again = both })
  named_again n again both has h p q =
      let P : List Function → Type 0 = λ zs. SomeHas zs k in
      record {
        inside = omega (arith, h.inside, long);
        stands = subst P (sym (within (n.first + 1) (omega (arith, h.inside)))) h.stands;
        first = not_new n.first (omega (arith, h.inside)) h.first;
        again = least_push (AgainFault k) before f n.again again both h.again (its_fault again has p) q;
      }

pub has_key : (f : Function) (k : Key) → k ≡ (f.name, pos f.arity) → Has k f
has_key f k e = (sym (ap (λ (v : Key). v.0) e), sym (ap (λ (v : Key). v.1) e))

pub lists_more : (before : List Function) (f : Function) (k : Key) (old new : BTreeMap Key Named) (n : Named) → Has k f → ((q : Key) → map.get key_cmp new q ≡ cond (is_at (key_cmp k) q) (Some n) (map.get key_cmp old q))
    → IsNamedIn (before ++ f ∷ []) k n → Lists before old → Lists (before ++ f ∷ []) new
lists_more before f k old new n has u h l q =
    let P : Option Named → Type 0 = λ o. AreNamed (before ++ f ∷ []) q o in
    let step : Bool → Option Named = λ b. cond b (Some n) (map.get key_cmp old q) in
    elim (test (is_at (key_cmp k) q)) [
      | inl t ↦ subst P (sym (u q ∙ ap step t)) (let Q : Key → Type 0 = λ v. IsNamedIn (before ++ f ∷ []) v n in subst Q (same_key k q t) h)
      | inr t ↦ subst P (sym (u q ∙ ap step t)) (named_apart before f q (map.get key_cmp old q) (λ g. apart k q t (both_same k q (sym has.0 ∙ g.0) (sym has.1 ∙ g.1))) (l q))
    ]

none_in : {X : Type 0} {x : X} → Contains [] x → ⊥
none_in h = absurd (omega (arith, h.1))

pub lists_none : (m : BTreeMap Key Named) → m.entries ≡ [] → Lists [] m
lists_none m e q = let P : Option Named → Type 0 = AreNamed [] q in subst P (sym (ap (lookup (is_at (key_cmp q))) e)) (λ s. none_in s.1.0)

-- one more export
export_apart : (es : List Name) (e : Name) (k : Key) (r : Bool) → (HasExport k e → ⊥) → MatchBool r (SomeExport es k) (SomeExport es k → ⊥) → MatchBool r (SomeExport (es ++ e ∷ []) k) (SomeExport (es ++ e ∷ []) k → ⊥)
export_apart es e k true other h = (h.0, (Contains-append_left es (e ∷ []) h.0 h.1.0, h.1.1))
export_apart es e k false other h = λ s. elim (Contains-push_cases es e s.0 s.1.0) [
  | inl c ↦ h (s.0, (c, s.1.1))
  | inr d ↦ other (let P : Name → Type 0 = λ g. HasExport k g in subst P (sym d) s.1.1)
]

pub has_export : (e : Name) (k : Key) → k ≡ (e.name, e.arity) → HasExport k e
has_export e k h = (sym (ap (λ (v : Key). v.0) h), sym (ap (λ (v : Key). v.1) h))

exports_push : (es : List Name) (e : Name) (k : Key) (old new : BTreeSet Key) → HasExport k e → ((q : Key) → set.contains key_cmp new q ≡ cond (is_at (key_cmp k) q) true (set.contains key_cmp old q)) → ListsExports es old → ListsExports (es ++ e ∷ []) new
exports_push es e k old new has u l q =
    let P : Bool → Type 0 = λ b. MatchBool b (SomeExport (es ++ e ∷ []) q) (SomeExport (es ++ e ∷ []) q → ⊥) in
    let step : Bool → Bool = λ b. cond b true (set.contains key_cmp old q) in
    elim (test (is_at (key_cmp k) q)) [
      | inl t ↦ subst P (sym (u q ∙ ap step t)) (e, (Contains-push es e, (let Q : Key → Type 0 = λ v. HasExport v e in subst Q (same_key k q t) has)))
      | inr t ↦ subst P (sym (u q ∙ ap step t)) (export_apart es e q (set.contains key_cmp old q) (λ g. apart k q t (both_same k q (sym has.0 ∙ g.0) (sym has.1 ∙ g.1))) (l q))
    ]

pub exports_more : (es : List Name) (i : ℕ) (e : Name) (k : Key) (old new : BTreeSet Key) → i < length es → e ≡ get_or es i e → HasExport k e → ((q : Key) → set.contains key_cmp new q ≡ cond (is_at (key_cmp k) q) true (set.contains key_cmp old q)) → ListsExports (take i es) old → ListsExports (take (i + 1) es) new
exports_more es i e k old new l g has u h =
    let cut : take (i + 1) es ≡ take i es ++ e ∷ [] = take_more es i e l ∙ ap (λ y. take i es ++ y ∷ []) (sym g) in
    let P : List Name → Type 0 = λ zs. ListsExports zs new in
    subst P (sym cut) (exports_push (take i es) e k old new has u h)

pub exports_all : (es : List Name) (i : ℕ) (s : BTreeSet Key) → length es ≤ i → ListsExports (take i es) s → ListsExports es s
exports_all es i s l h = let P : List Name → Type 0 = λ zs. ListsExports zs s in subst P (take_all i es l) h

-- what the look-ups answer
module _ (m : Module) (name arity : ℕ) where
  pub has_by : (n : Option Named) → AreNamed m.functions (name, pos arity) n → MatchBool (is_some n) (HasFunction m name arity) (HasFunction m name arity → ⊥)
  has_by None h = λ g. h (g.function, (g.among, (g.named, ap pos g.takes)))
  has_by (Some n) h = let s = h.stands in record { function = s.0; among = taken (n.first + 1) m.functions s.0 s.1.0; named = s.1.1.0; takes = same_arity s.1.1.1 }

  by_export : (r : Bool) → MatchBool r (SomeExport m.exports (name, pos arity)) (SomeExport m.exports (name, pos arity) → ⊥) → MatchBool r (IsExported m name arity) (IsExported m name arity → ⊥)
  by_export true h = record { export = h.0; among = h.1.0; named = h.1.1.0; takes = h.1.1.1 }
  by_export false h = λ g. h (g.export, (g.among, (g.named, g.takes)))

  pub exported_by : (own : Module) (k : Key) (s : BTreeSet Key) (r : Bool) → own ≡ m → k ≡ (name, pos arity) → r ≡ set.contains key_cmp s k → ListsExports own.exports s → MatchBool r (IsExported m name arity) (IsExported m name arity → ⊥)
  exported_by own k s r same e h l =
      let P : Bool → Type 0 = λ b. MatchBool b (IsExported m name arity) (IsExported m name arity → ⊥) in
      let Q : List Name → Type 0 = λ es. ListsExports es s in
      let R : Key → Type 0 = λ v. MatchBool (set.contains key_cmp s v) (SomeExport m.exports v) (SomeExport m.exports v → ⊥) in
      subst P (sym (h ∙ ap (set.contains key_cmp s) e)) (by_export (set.contains key_cmp s (name, pos arity)) (subst R e (subst Q (ap (λ v. v.exports) same) l k)))

  pub before_by : (place : ℕ) (n : Named) → IsNamedIn m.functions (name, pos arity) n → MatchBool (nat_lt n.first place) (IsAmong (take place m.functions) name arity) (IsAmong (take place m.functions) name arity → ⊥)
  before_by place n h = elim (test (nat_lt n.first place)) [
    | inl t ↦ let P : Bool → Type 0 = λ b. MatchBool b (IsAmong (take place m.functions) name arity) (IsAmong (take place m.functions) name arity → ⊥) in
        let s = h.stands in
        subst P (sym t) (s.0, (taken_more (n.first + 1) place m.functions s.0 (omega (arith, (Decides-ltb n.first place).0 t)) s.1.0, (s.1.1.0, same_arity s.1.1.1)))
    | inr t ↦ let P : Bool → Type 0 = λ b. MatchBool b (IsAmong (take place m.functions) name arity) (IsAmong (take place m.functions) name arity → ⊥) in
        let l : place ≤ n.first = grind (arith, nat_tests, t) in
        subst P (sym t) (λ s. h.first (s.0, (taken_more place n.first m.functions s.0 l s.1.0, (s.1.1.0, ap pos s.1.1.1))))
  ]

  pub faults_by : (n : Named) → IsNamedIn m.functions (name, pos arity) n → IsLeast (Some_of (NamedFault name arity) m.functions) n.again
  faults_by n h = same_least (Some_of (AgainFault (name, pos arity)) m.functions) (Some_of (NamedFault name arity) m.functions) n.again
      (λ at why g. (g.0, (g.1.0, ((g.1.1.0.0, same_arity g.1.1.0.1), g.1.1.1))))
      (λ at why g. (g.0, (g.1.0, ((g.1.1.0.0, ap pos g.1.1.0.1), g.1.1.1))))
      h.again

pub missing_by : (m : Module) (e : Name) (n : Option Named) (r : Bool) → is_some n ≡ not r → AreNamed m.functions (e.name, e.arity) n → MatchBool r (IsMissing m e) (IsMissing m e → ⊥)
missing_by m e None true q h = λ arity a g. h (g.function, (g.among, (g.named, ap pos g.takes ∙ sym a)))
missing_by m e None false q h = cc
missing_by m e (Some n) true q h = cc
missing_by m e (Some n) false q h = λ g. (let s = h.stands in g s.0.arity (sym s.1.1.1) (record { function = s.0; among = taken (n.first + 1) m.functions s.0 s.1.0; named = s.1.1.0; takes = refl }))
