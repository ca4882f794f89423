-- Trees of names that share what they have in common.
use Rattle.std.proofs.Common.{◌≡◌, ℕ, suc, ◌+◌, ◌<◌, ◌≤◌, List, [], ◌∷◌, ◌++◌, length, get_or, refl, sym, ◌∙◌, ap, subst, arith, min}
use Rattle.std.proofs.lemmas.List.{append_assoc, length-append, get_or_append_left, get_or_at, get_or_default}
use Rattle.erl_syntax.specs.Bindings.{Bound}
use Rattle.module_check.specs.declared.trees.Node.{Node}
use Rattle.module_check.specs.Nodes.{Tree, none, some, Forks, Grown, named}

-- nodes that are added change no tree
pub tree_grown : (old new : List Node) → Grown old new → (k : ℕ) (ts : List Bound) → Tree old k ts → Tree new k ts
tree_grown old new g _ _ none = none
tree_grown old new g _ _ (some k n ls rs l e a b x y) =
    some k n ls rs
    (let P : List Node → Type 0 = λ zs. k < length zs in subst P (sym g.is) (simp length-append (omega arith)))
    (ap (λ zs. get_or zs k n) g.is ∙ get_or_append_left old g.more n k l ∙ e)
    a b (tree_grown old new g n.left ls x) (tree_grown old new g n.right rs y)

pub within : (nodes : List Node) (k : ℕ) (ts : List Bound) → Tree nodes k ts → k ≤ length nodes
within nodes _ _ none = omega arith
within nodes _ _ (some k n ls rs l e a b x y) = omega (arith, l)

same_bound : (b c : Bound) → b.name ≡ c.name → b.at ≡ c.at → b ≡ c
same_bound b c p q = λ i. record { name = p i; at = q i }

-- the tree at no node
pub empty : (nodes : List Node) (root : ℕ) (ts : List Bound) → root ≡ 0 → Tree nodes root ts → ts ≡ []
empty nodes _ _ e none = refl
empty nodes _ _ e (some k n ls rs l g a b x y) = absurd (omega (arith, e))

-- the node of a tree
pub opened : (nodes : List Node) (root place : ℕ) (ts : List Bound) (n m : Node) → root ≡ suc place → n ≡ get_or nodes place n
    → m.name.now ≡ n.name.now → m.at ≡ n.at → m.left ≡ min n.left place → m.right ≡ min n.right place → Tree nodes root ts → Forks nodes m ts
opened nodes _ place _ n m e q u v w z none = absurd (omega (arith, e))
opened nodes _ place _ n m e q u v w z (some k o ls rs l g a b x y) =
    let j : k ≡ place = omega arith in
    let s : o ≡ n = sym g ∙ ap (λ i. get_or nodes i o) j ∙ get_or_default nodes place o n (omega arith) ∙ sym q in
    let lefts : o.left ≡ n.left = ap (λ (t : Node). t.left) s in
    let rights : o.right ≡ n.right = ap (λ (t : Node). t.right) s in
    let P : ℕ → Type 0 = λ i. Tree nodes i ls in
    let Q : ℕ → Type 0 = λ i. Tree nodes i rs in
    let to_left : o.left ≡ m.left = omega arith in
    let to_right : o.right ≡ m.right = omega arith in
    let own : named o ≡ named m = same_bound (named o) (named m) (ap (λ (t : Node). t.name.now) s ∙ sym u) (ap (λ (t : Node). t.at) s ∙ sym v) in
    record { lefts = ls; rights = rs; left = subst P to_left x; right = subst Q to_right y; is = ap (λ t. ls ++ t ∷ rs) own }

pub added : (old new : List Node) (root : ℕ) (n : Node) (ts : List Bound) → new ≡ old ++ n ∷ [] → root ≡ length new → Forks old n ts → Tree new root ts
added old new root n ts e l f =
    let size : length new ≡ length old + 1 = (let P : List Node → Type 0 = λ zs. length zs ≡ length old + 1 in subst P (sym e) (simp length-append (omega arith))) in
    let g : Grown old new = record { more = n ∷ []; is = e } in
    let at_left = within old n.left f.lefts f.left in
    let at_right = within old n.right f.rights f.right in
    let P : List Bound → Type 0 = λ us. Tree new root us in
    let Q : ℕ → Type 0 = λ k. Tree new k (f.lefts ++ named n ∷ f.rights) in
    let which : suc (length old) ≡ root = omega arith in
    subst P (sym f.is) (subst Q which
    (some (length old) n f.lefts f.rights (omega arith) (ap (λ zs. get_or zs (length old) n) e ∙ get_or_at old n [] n (length old) refl)
    (omega arith) (omega arith) (tree_grown old new g n.left f.lefts f.left) (tree_grown old new g n.right f.rights f.right)))

pub forks_grown : (old new : List Node) → Grown old new → (n : Node) (ts : List Bound) → Forks old n ts → Forks new n ts
forks_grown old new g n ts f = record { lefts = f.lefts; rights = f.rights; left = tree_grown old new g n.left f.lefts f.left; right = tree_grown old new g n.right f.rights f.right; is = f.is }

-- a node is turned: the one before it comes above it
pub skewed : (old new : List Node) → Grown old new → (n m : Node) (k : ℕ) (ts : List Bound)
    → ((us : List Bound) → Tree old n.left us → Forks old m us)
    → ((us : List Bound) → Forks old (record n { left = m.right }) us → Tree new k us)
    → Forks old n ts → Forks new (record m { right = k }) ts
skewed old new g n m k ts open_left lower f =
    let h = open_left f.lefts f.left in
    let us : List Bound = h.rights ++ named n ∷ f.rights in
    record {
      lefts = h.lefts;
      rights = us;
      left = tree_grown old new g m.left h.lefts h.left;
      right = lower us (record { lefts = h.rights; rights = f.rights; left = h.right; right = f.right; is = refl });
      is = f.is ∙ ap (λ zs. zs ++ named n ∷ f.rights) h.is ∙ append_assoc h.lefts (named m ∷ h.rights) (named n ∷ f.rights);
    }

-- the one behind it comes above it
pub parted : (old new : List Node) → Grown old new → (n m : Node) (k level : ℕ) (ts : List Bound)
    → ((us : List Bound) → Tree old n.right us → Forks old m us)
    → ((us : List Bound) → Forks old (record n { right = m.left }) us → Tree new k us)
    → Forks old n ts → Forks new (record m { left = k; level = level }) ts
parted old new g n m k level ts open_right lower f =
    let h = open_right f.rights f.right in
    let us : List Bound = f.lefts ++ named n ∷ h.lefts in
    record {
      lefts = us;
      rights = h.rights;
      left = lower us (record { lefts = f.lefts; rights = h.lefts; left = f.left; right = h.left; is = refl });
      right = tree_grown old new g m.right h.rights h.right;
      is = f.is ∙ ap (λ zs. f.lefts ++ named n ∷ zs) h.is ∙ sym (append_assoc f.lefts (named n ∷ h.lefts) (named m ∷ h.rights));
    }
