-- The order of values is total.
use Rattle.std.proofs.Common.{◌≡◌, ℕ, ◌<◌, ℤ, Bool, true, false, List, [], ◌∷◌, refl, ap, sym, ◌∙◌, subst}
use Rattle.std.specs.Ordering.{nat_cmp, int_cmp, bool_cmp, ordering_then, ordering_reverse}
use Rattle.std.specs.Cmp.{IsTotalOrder, bool_cmp_total}
use Rattle.std.specs.Cmp.Lexicographic.{slice_cmp}
use Rattle.std.specs.declared.cmp.Ordering.{Ordering}
use Rattle.std.specs.declared.cmp.Ordering.TheVariants.{Less, Equal, Greater}
use Rattle.std.proofs.lemmas.Cmp.{nat_cmp_total, int_cmp_total, nat_list_cmp_total, lists_total, alike_right, ranked as number_ranked, int_ranked}
use Rattle.term_value.specs.Value.{Value, VInt, VAtom, VPid, VTuple, VList, VBits, Values, none, more, count}
use Rattle.term_value.specs.Order.{rank, order, orders}
use Rattle.term_laws.specs.Laws.{AtomsBelow, AllAtomsBelow, EqualIsSame}

-- ---- Three comparisons of three things

-- the third follows from the first two
abbrev Follows : Ordering → Ordering → Ordering → Type 0
Follows Less Less c = c ≡ Less
Follows Less Equal c = c ≡ Less
Follows Less Greater c = Unit {0}
Follows Equal b c = c ≡ b
Follows Greater Less c = Unit {0}
Follows Greater Equal c = c ≡ Greater
Follows Greater Greater c = c ≡ Greater

less_any : (b c : Ordering) → c ≡ Less → Follows Less b c
less_any Less c e = e
less_any Equal c e = e
less_any Greater c e = tt

any_less : (a c : Ordering) → c ≡ Less → Follows a Less c
any_less Less c e = e
any_less Equal c e = e
any_less Greater c e = tt

greater_any : (b c : Ordering) → c ≡ Greater → Follows Greater b c
greater_any Less c e = tt
greater_any Equal c e = e
greater_any Greater c e = e

any_greater : (a c : Ordering) → c ≡ Greater → Follows a Greater c
any_greater Less c e = tt
any_greater Equal c e = e
any_greater Greater c e = e

-- one comparison and then another, which counts where both first ones are equal
then_follows : (a b c a' b' c' : Ordering) → Follows a b c → (a ≡ Equal → b ≡ Equal → Follows a' b' c') → Follows (ordering_then a a') (ordering_then b b') (ordering_then c c')
then_follows Less Less c a' b' c' f g = ap (λ o. ordering_then o c') f
then_follows Less Equal c a' b' c' f g = less_any b' (ordering_then c c') (ap (λ o. ordering_then o c') f)
then_follows Less Greater c a' b' c' f g = tt
then_follows Equal Less c a' b' c' f g = any_less a' (ordering_then c c') (ap (λ o. ordering_then o c') f)
then_follows Equal Equal c a' b' c' f g = subst (λ o. Follows a' b' (ordering_then o c')) (sym f) (g refl refl)
then_follows Equal Greater c a' b' c' f g = any_greater a' (ordering_then c c') (ap (λ o. ordering_then o c') f)
then_follows Greater Less c a' b' c' f g = tt
then_follows Greater Equal c a' b' c' f g = greater_any b' (ordering_then c c') (ap (λ o. ordering_then o c') f)
then_follows Greater Greater c a' b' c' f g = ap (λ o. ordering_then o c') f

then_flips : (a a' b b' : Ordering) → a ≡ ordering_reverse a' → b ≡ ordering_reverse b' → ordering_then a b ≡ ordering_reverse (ordering_then a' b')
then_flips a Less b b' e f = ap (λ o. ordering_then o b) e
then_flips a Equal b b' e f = ap (λ o. ordering_then o b) e ∙ f
then_flips a Greater b b' e f = ap (λ o. ordering_then o b) e

-- ---- Total orders

turned_greater : (o : Ordering) → ordering_reverse o ≡ Greater → o ≡ Less
turned_greater Less e = refl
turned_greater Equal e = cc e
turned_greater Greater e = cc e

module _ {K : Type 0} {R : K → K → Ordering} (o : IsTotalOrder R) where
  by_cases : (x y z : K) (a b c : Ordering) → R x y ≡ a → R y z ≡ b → R x z ≡ c → Follows a b c
  by_cases x y z Less Less c p q r = sym r ∙ o.trans x y z p q
  by_cases x y z Less Equal c p q r = sym r ∙ sym (alike_right o y z x q) ∙ p
  by_cases x y z Less Greater c p q r = tt
  by_cases x y z Equal b c p q r = sym r ∙ o.congr x y z p ∙ q
  by_cases x y z Greater Less c p q r = tt
  by_cases x y z Greater Equal c p q r = sym r ∙ sym (alike_right o y z x q) ∙ p
  by_cases x y z Greater Greater c p q r =
      let s = turned_greater (R y x) (sym (o.antisymm x y) ∙ p) in
      let t = turned_greater (R z y) (sym (o.antisymm y z) ∙ q) in
      sym r ∙ o.antisymm x z ∙ ap ordering_reverse (o.trans z y x t s)

  total_follows : (x y z : K) → Follows (R x y) (R y z) (R x z)
  total_follows x y z = by_cases x y z (R x y) (R y z) (R x z) refl refl refl

-- ---- Values

module _ (names : ℕ → List ℕ) where
  -- the order of two values of one kind
  abbrev inner : Value → Value → Ordering
  inner (VInt m) (VInt n) = int_cmp m n
  inner (VAtom a) (VAtom b) = slice_cmp nat_cmp (names a) (names b)
  inner (VPid p) (VPid q) = nat_cmp p q
  inner (VTuple vs) (VTuple ws) = ordering_then (nat_cmp (count vs) (count ws)) (orders names vs ws)
  inner (VList vs) (VList ws) = orders names vs ws
  inner (VBits bs) (VBits cs) = slice_cmp bool_cmp bs cs
  inner v w = Equal

  split : (v w : Value) → order names v w ≡ ordering_then (nat_cmp (rank v) (rank w)) (inner v w)
  split (VInt m) (VInt n) = refl
  split (VAtom a) (VAtom b) = refl
  split (VPid p) (VPid q) = refl
  split (VTuple vs) (VTuple ws) = refl
  split (VList vs) (VList ws) = refl
  split (VBits bs) (VBits cs) = refl
  split v w = refl

  int_follows : (l m : ℤ) (x : Value) → nat_cmp 0 (rank x) ≡ Equal → Follows (int_cmp l m) (inner (VInt m) x) (inner (VInt l) x)
  int_follows l m (VInt n) q = total_follows int_cmp_total l m n
  int_follows l m x q = cc q

  atom_follows : (a b : ℕ) (x : Value) → nat_cmp 1 (rank x) ≡ Equal → Follows (slice_cmp nat_cmp (names a) (names b)) (inner (VAtom b) x) (inner (VAtom a) x)
  atom_follows a b (VAtom c) q = total_follows nat_list_cmp_total (names a) (names b) (names c)
  atom_follows a b x q = cc q

  pid_follows : (a b : ℕ) (x : Value) → nat_cmp 2 (rank x) ≡ Equal → Follows (nat_cmp a b) (inner (VPid b) x) (inner (VPid a) x)
  pid_follows a b (VPid c) q = total_follows nat_cmp_total a b c
  pid_follows a b x q = cc q

  tuple_follows : (vs ws : Values) → ((xs : Values) → Follows (orders names vs ws) (orders names ws xs) (orders names vs xs)) → (x : Value) → nat_cmp 3 (rank x) ≡ Equal
      → Follows (inner (VTuple vs) (VTuple ws)) (inner (VTuple ws) x) (inner (VTuple vs) x)
  tuple_follows vs ws f (VTuple xs) q =
      then_follows (nat_cmp (count vs) (count ws)) (nat_cmp (count ws) (count xs)) (nat_cmp (count vs) (count xs)) (orders names vs ws) (orders names ws xs) (orders names vs xs)
      (total_follows nat_cmp_total (count vs) (count ws) (count xs)) (λ _ _. f xs)
  tuple_follows vs ws f x q = cc q

  list_follows : (vs ws : Values) → ((xs : Values) → Follows (orders names vs ws) (orders names ws xs) (orders names vs xs)) → (x : Value) → nat_cmp 4 (rank x) ≡ Equal
      → Follows (inner (VList vs) (VList ws)) (inner (VList ws) x) (inner (VList vs) x)
  list_follows vs ws f (VList xs) q = f xs
  list_follows vs ws f x q = cc q

  bits_follow : (bs cs : List Bool) (x : Value) → nat_cmp 5 (rank x) ≡ Equal → Follows (slice_cmp bool_cmp bs cs) (inner (VBits cs) x) (inner (VBits bs) x)
  bits_follow bs cs (VBits ds) q = total_follows (lists_total bool_cmp_total) bs cs ds
  bits_follow bs cs x q = cc q

  -- by the ranks, and then as within a kind
  ranked : (v w x : Value) → (nat_cmp (rank v) (rank w) ≡ Equal → nat_cmp (rank w) (rank x) ≡ Equal → Follows (inner v w) (inner w x) (inner v x))
      → Follows (order names v w) (order names w x) (order names v x)
  ranked v w x f =
      let g = then_follows (nat_cmp (rank v) (rank w)) (nat_cmp (rank w) (rank x)) (nat_cmp (rank v) (rank x)) (inner v w) (inner w x) (inner v x) (total_follows nat_cmp_total (rank v) (rank w) (rank x)) f in
      let h = subst (λ a. Follows a (ordering_then (nat_cmp (rank w) (rank x)) (inner w x)) (ordering_then (nat_cmp (rank v) (rank x)) (inner v x))) (sym (split v w)) g in
      let i = subst (λ b. Follows (order names v w) b (ordering_then (nat_cmp (rank v) (rank x)) (inner v x))) (sym (split w x)) h in
      subst (λ c. Follows (order names v w) (order names w x) c) (sym (split v x)) i

  mutual
    inner_follows : (v w x : Value) → nat_cmp (rank v) (rank w) ≡ Equal → nat_cmp (rank w) (rank x) ≡ Equal → Follows (inner v w) (inner w x) (inner v x)
    inner_follows (VInt l) (VInt m) x p q = int_follows l m x q
    inner_follows (VAtom a) (VAtom b) x p q = atom_follows a b x q
    inner_follows (VPid a) (VPid b) x p q = pid_follows a b x q
    inner_follows (VTuple vs) (VTuple ws) x p q = tuple_follows vs ws (λ xs. orders_follow vs ws xs) x q
    inner_follows (VList vs) (VList ws) x p q = list_follows vs ws (λ xs. orders_follow vs ws xs) x q
    inner_follows (VBits bs) (VBits cs) x p q = bits_follow bs cs x q
    inner_follows v w x p q = cc p

    orders_follow : (vs ws xs : Values) → Follows (orders names vs ws) (orders names ws xs) (orders names vs xs)
    orders_follow none none xs = refl
    orders_follow none (more w ws) none = tt
    orders_follow none (more w ws) (more x xs) = less_any (orders names (more w ws) (more x xs)) Less refl
    orders_follow (more v vs) none none = refl
    orders_follow (more v vs) none (more x xs) = tt
    orders_follow (more v vs) (more w ws) none = any_greater (orders names (more v vs) (more w ws)) Greater refl
    orders_follow (more v vs) (more w ws) (more x xs) =
        then_follows (order names v w) (order names w x) (order names v x) (orders names vs ws) (orders names ws xs) (orders names vs xs) (ranked v w x (inner_follows v w x)) (λ _ _. orders_follow vs ws xs)

  order_follows : (v w x : Value) → Follows (order names v w) (order names w x) (order names v x)
  order_follows v w x = ranked v w x (inner_follows v w x)

  mutual
    flips : (v w : Value) → order names v w ≡ ordering_reverse (order names w v)
    flips (VInt m) (VInt n) = int_cmp_total.antisymm m n
    flips (VAtom a) (VAtom b) = nat_list_cmp_total.antisymm (names a) (names b)
    flips (VPid p) (VPid q) = nat_cmp_total.antisymm p q
    flips (VTuple vs) (VTuple ws) = then_flips (nat_cmp (count vs) (count ws)) (nat_cmp (count ws) (count vs)) (orders names vs ws) (orders names ws vs) (nat_cmp_total.antisymm (count vs) (count ws)) (all_flip vs ws)
    flips (VList vs) (VList ws) = all_flip vs ws
    flips (VBits bs) (VBits cs) = (lists_total bool_cmp_total).antisymm bs cs
    flips v w = refl

    all_flip : (vs ws : Values) → orders names vs ws ≡ ordering_reverse (orders names ws vs)
    all_flip none none = refl
    all_flip none (more w ws) = refl
    all_flip (more v vs) none = refl
    all_flip (more v vs) (more w ws) = then_flips (order names v w) (order names w v) (orders names vs ws) (orders names ws vs) (flips v w) (all_flip vs ws)

  pub order_total : IsTotalOrder (order names)
  order_total = record {
    antisymm = flips;
    trans = λ v w x p q. subst (λ b. Follows Less b (order names v x)) q (subst (λ a. Follows a (order names w x) (order names v x)) p (order_follows v w x));
    congr = λ v w x p. subst (λ a. Follows a (order names w x) (order names v x)) p (order_follows v w x);
  }

-- ---- What is equal is the same

both_equal : (a b : Ordering) → ordering_then a b ≡ Equal → (a ≡ Equal) × (b ≡ Equal)
both_equal Less b e = cc e
both_equal Equal b e = (refl, e)
both_equal Greater b e = cc e

same_list : {X : Type 0} (R : X → X → Ordering) → ((x y : X) → R x y ≡ Equal → x ≡ y) → (xs ys : List X) → slice_cmp R xs ys ≡ Equal → xs ≡ ys
same_list R f [] [] e = refl
same_list R f [] (y ∷ ys) e = cc e
same_list R f (x ∷ xs) [] e = cc e
same_list R f (x ∷ xs) (y ∷ ys) e =
    let both = both_equal (R x y) (slice_cmp R xs ys) e in
    ap (λ z. z ∷ xs) (f x y both.0) ∙ ap (λ l. y ∷ l) (same_list R f xs ys both.1)

same_number : (m n : ℕ) → nat_cmp m n ≡ Equal → m ≡ n
same_number m n e = number_ranked m n Equal (sym e)

same_integer : (m n : ℤ) → int_cmp m n ≡ Equal → m ≡ n
same_integer m n e = int_ranked m n Equal (sym e)

same_bit : (b c : Bool) → bool_cmp b c ≡ Equal → b ≡ c
same_bit false false e = refl
same_bit false true e = cc e
same_bit true false e = cc e
same_bit true true e = refl

module _ (names : ℕ → List ℕ) (size : ℕ) (one : (a b : ℕ) → a < size → b < size → names a ≡ names b → a ≡ b) where
  mutual
    same_value : (v w : Value) → AtomsBelow size v → AtomsBelow size w → order names v w ≡ Equal → v ≡ w
    same_value (VInt m) (VInt n) h k e = ap VInt (same_integer m n e)
    same_value (VAtom a) (VAtom b) h k e = ap VAtom (one a b h k (same_list nat_cmp same_number (names a) (names b) e))
    same_value (VPid p) (VPid q) h k e = ap VPid (same_number p q e)
    same_value (VTuple vs) (VTuple ws) h k e = ap VTuple (same_values vs ws h k (both_equal (nat_cmp (count vs) (count ws)) (orders names vs ws) e).1)
    same_value (VList vs) (VList ws) h k e = ap VList (same_values vs ws h k e)
    same_value (VBits bs) (VBits cs) h k e = ap VBits (same_list bool_cmp same_bit bs cs e)
    same_value v w h k e = cc e

    same_values : (vs ws : Values) → AllAtomsBelow size vs → AllAtomsBelow size ws → orders names vs ws ≡ Equal → vs ≡ ws
    same_values none none h k e = refl
    same_values none (more w ws) h k e = cc e
    same_values (more v vs) none h k e = cc e
    same_values (more v vs) (more w ws) h k e =
        let both = both_equal (order names v w) (orders names vs ws) e in
        ap (λ u. more u vs) (same_value v w h.0 k.0 both.0) ∙ ap (more w) (same_values vs ws h.1 k.1 both.1)

pub equal_is_same : EqualIsSame
equal_is_same names size one v w h k e = same_value names size one v w h k e
