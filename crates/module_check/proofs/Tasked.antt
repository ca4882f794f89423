-- Tasks that stand for spots.
use Rattle.std.proofs.Common.{◌≡◌, ℕ, suc, zero, ◌+◌, ◌<◌, ◌≤◌, true, false, List, [], ◌∷◌, ◌++◌, length, map, reverse, refl, sym, ◌∙◌, ap, subst, arith}
use Rattle.std.proofs.lemmas.List.{append-nil, append_assoc, reverse-append, map-append}
use Rattle.erl_syntax.specs.Bindings.{Bound, targets, targets_of}
use Rattle.erl_syntax.specs.Scopes.{Scope, Part, AnExpr, APattern, ABody, ASegment, with_known, behind, in_guard, to_match, past_patterns, past_items}
use Rattle.erl_syntax.specs.declared.expr.Expr.{Expr}
use Rattle.erl_syntax.specs.declared.pattern.Pattern.{Pattern}
use Rattle.erl_syntax.specs.declared.clause.Item.{Item}
use Rattle.erl_syntax.specs.declared.typing.SideUse.TheVariants as side
use Rattle.module_check.specs.Spots.{Spot, each, size_scope, inside}
use Rattle.std.proofs.Common.{get_or, take, drop, min}
use Rattle.std.proofs.lemmas.List.{take_more, take_all, drop_more, take-append-le, take-append-drop, length-append, length-take}
use Rattle.std.proofs.lemmas.Grind.{flat_map-append}
use Rattle.erl_syntax.specs.Scopes.{Danger}
use Rattle.erl_syntax.specs.Bindings.{vars_of}
use Rattle.module_check.specs.declared.trees.Node.{Node}
use Rattle.module_check.specs.declared.tasks.Facts.{Facts}
use Rattle.module_check.specs.declared.tasks.Task.{Task}
use Rattle.module_check.specs.declared.tasks.Walk.{Walk}
use Rattle.module_check.specs.Nodes.{Sees, SeesUnsafe, Grown}
use Rattle.module_check.specs.Tasks.{Means, SeesSizes, Fits, Look, Covers, no_spots, as_whole, by_itself, Marked, AllFit, Adds, AddsAlone}
use Rattle.module_check.proofs.Chained.{grown_same, grown_twice, sees_grown, unsafe_grown}

drop_all : {X : Type 0} (xs : List X) (i : ℕ) → length xs ≤ i → drop i xs ≡ []
drop_all [] zero l = refl
drop_all [] (suc i) l = refl
drop_all (y ∷ ys) zero l = absurd (omega (arith, l))
drop_all (y ∷ ys) (suc i) l = drop_all ys i (omega (arith, l))

pub means_grown : (old new : List Node) (t : Facts) (s : Scope) → Grown old new → Means old t s → Means new t s
means_grown old new t s g h = record { known = sees_grown old new g t.known s.known h.known; dangers = unsafe_grown old new g t.dangers s.dangers h.dangers; guarded = h.guarded }

sizes_grown : (old new : List Node) (k : ℕ) (s : Scope) (y : Part) → Grown old new → SeesSizes old k s y → SeesSizes new k s y
sizes_grown old new k s (AnExpr e) g h = tt
sizes_grown old new k s (APattern pt) g h = sees_grown old new g k s.outer h
sizes_grown old new k s (ABody is) g h = tt
sizes_grown old new k s (ASegment side.Build last sg) g h = tt
sizes_grown old new k s (ASegment side.Match last sg) g h = sees_grown old new g k (size_scope s).known h
sizes_grown old new k s (ASegment side.Generator last sg) g h = sees_grown old new g k (size_scope s).known h

pub fits_grown : (old new : List Node) (t : Task) (d : Spot) → Grown old new → Fits old t d → Fits new t d
fits_grown old new t d g h = record { part = h.part; means = means_grown old new t.facts d.scope g h.means; sizes = sizes_grown old new t.facts.sizes d.scope d.part g h.sizes }

take_grown : (old new : List Node) → Grown old new → (m : ℕ) → m ≤ length old → take m old ≡ take m new
take_grown old new g m l = sym (take-append-le m old g.more l) ∙ ap (λ zs. take m zs) (sym g.is)

length_grown : (old new : List Node) → Grown old new → length old ≤ length new
length_grown old new g = let P : List Node → Type 0 = λ zs. length old ≤ length zs in subst P (sym g.is) (simp length-append (omega arith))

pub front_grown : (nodes : List Node) (m : ℕ) → Grown (take m nodes) nodes
front_grown nodes m = record { more = drop m nodes; is = sym (take-append-drop m nodes) }

marked_grown : (old new : List Node) (least : ℕ) (t : Task) (l : Look) → Grown old new → Marked old least t l → Marked new least t l
marked_grown old new least t l g h =
    let P : List Node → Type 0 = λ zs. Fits zs t l.spot in
    let size = length_grown old new g in
    let low = h.within in
    record { rises = h.rises; within = omega (arith, size, low); fits = subst P (take_grown old new g t.mark h.within) h.fits; whole = h.whole }

all_least : (nodes : List Node) (least from : ℕ) (ts : List Task) (ls : List Look) → least ≤ from → AllFit nodes from ts ls → AllFit nodes least ts ls
all_least nodes least from [] [] l h = tt
all_least nodes least from [] (d ∷ ds) l h = h
all_least nodes least from (t ∷ ts) [] l h = h
all_least nodes least from (t ∷ ts) (d ∷ ds) l h = (let low = h.0.rises in (record { rises = omega (arith, low, l); within = h.0.within; fits = h.0.fits; whole = h.0.whole }, h.1))

pub all_from_none : (nodes : List Node) (from : ℕ) (ts : List Task) (ls : List Look) → AllFit nodes from ts ls → AllFit nodes 0 ts ls
all_from_none nodes from ts ls h = all_least nodes 0 from ts ls (omega arith) h

-- tasks behind those that stood there before
pub all_joined : (old new : List Node) (least : ℕ) (ts us : List Task) (ds es : List Look) → Grown old new → least ≤ length old → AllFit old least ts ds → AllFit new (length old) us es → AllFit new least (ts ++ us) (ds ++ es)
all_joined old new least [] us [] es g l h k = all_least new least (length old) us es l k
all_joined old new least [] us (d ∷ ds) es g l h k = absurd h
all_joined old new least (t ∷ ts) us [] es g l h k = absurd h
all_joined old new least (t ∷ ts) us (d ∷ ds) es g l h k = (marked_grown old new least t d g h.0, all_joined old new t.mark ts us ds es g h.0.within h.1 k)

marked_cut : (nodes : List Node) (m least : ℕ) (t : Task) (d : Look) → t.mark ≤ m → Marked nodes least t d → Marked (take m nodes) least t d
marked_cut nodes m least t d l h =
    let low = h.within in
    let size : length (take m nodes) ≡ min m (length nodes) = length-take m nodes in
    let held : t.mark ≤ length (take m nodes) = omega (arith, l, low, size) in
    let P : List Node → Type 0 = λ zs. Fits zs t d.spot in
    record { rises = h.rises; within = held; fits = subst P (sym (take_grown (take m nodes) nodes (front_grown nodes m) t.mark held)) h.fits; whole = h.whole }

-- no task needs the nodes above the mark of the last
pub all_cut : (nodes : List Node) (least : ℕ) (ts : List Task) (task : Task) (ds : List Look) → AllFit nodes least (ts ++ task ∷ []) ds → AllFit (take task.mark nodes) least (ts ++ task ∷ []) ds × (least ≤ task.mark)
all_cut nodes least [] task [] h = absurd h
all_cut nodes least [] task (d ∷ []) h = ((marked_cut nodes task.mark least task d (omega arith) h.0, tt), h.0.rises)
all_cut nodes least [] task (d ∷ e ∷ ds) h = absurd h.1
all_cut nodes least (t ∷ ts) task [] h = absurd h
all_cut nodes least (t ∷ ts) task (d ∷ ds) h =
    let r = all_cut nodes t.mark ts task ds h.1 in
    let low = h.0.rises in
    let high = r.1 in
    ((marked_cut nodes task.mark least t d r.1 h.0, r.0), omega (arith, low, high))

covers_joined : (ds es : List Spot) (ls ms : List Look) → Covers ds ls → Covers es ms → Covers (ds ++ es) (ls ++ ms)
covers_joined _ es _ ms no_spots k = k
covers_joined _ es _ ms (as_whole d ds ls h) k = as_whole d (ds ++ es) (ls ++ ms) (covers_joined ds es ls ms h k)
covers_joined _ es _ ms (by_itself d ds within ls i h) k =
    let P : List Look → Type 0 = λ zs. Covers (d ∷ (ds ++ es)) (record { spot = d; whole = false } ∷ zs) in
    subst P (sym (append_assoc within ls ms)) (by_itself d (ds ++ es) within (ls ++ ms) i (covers_joined ds es ls ms h k))

pub adds_none : (w : Walk) → Adds w w []
adds_none w = record { grown = grown_same w.nodes.items; added = []; looks = []; is = sym (append-nil w.tasks.items); fit = tt; covers = no_spots }

pub adds_twice : (w v u : Walk) (ds es : List Spot) → Adds w v ds → Adds v u es → Adds w u (ds ++ es)
adds_twice w v u ds es a b = record {
  grown = grown_twice w.nodes.items v.nodes.items u.nodes.items a.grown b.grown;
  added = a.added ++ b.added;
  looks = a.looks ++ b.looks;
  is = b.is ∙ ap (λ zs. zs ++ b.added) a.is ∙ append_assoc w.tasks.items a.added b.added;
  fit = all_joined v.nodes.items u.nodes.items (length w.nodes.items) a.added b.added a.looks b.looks b.grown (length_grown w.nodes.items v.nodes.items a.grown) a.fit b.fit;
  covers = covers_joined ds es a.looks b.looks a.covers b.covers;
}

pub adds_then : (w v u : Walk) (ds : List Spot) → Adds w v ds → Adds v u [] → Adds w u ds
adds_then w v u ds a b = let P : List Spot → Type 0 = λ zs. Adds w u zs in subst P (append-nil ds) (adds_twice w v u ds [] a b)

pub adds_same : (w v : Walk) (ds es : List Spot) → ds ≡ es → Adds w v ds → Adds w v es
adds_same w v ds es e h = let P : List Spot → Type 0 = λ zs. Adds w v zs in subst P e h

one_fits : (w v : Walk) (t : Task) (l : Look) → t.mark ≡ length w.nodes.items → v.nodes.items ≡ w.nodes.items → Fits w.nodes.items t l.spot → t.whole ≡ l.whole → AllFit v.nodes.items (length w.nodes.items) (t ∷ []) (l ∷ [])
one_fits w v t l m e f h =
    let P : List Node → Type 0 = λ zs. Fits zs t l.spot in
    let size = ap length e in
    let all : take t.mark v.nodes.items ≡ w.nodes.items = ap (λ zs. take t.mark zs) e ∙ take_all t.mark w.nodes.items (omega (arith, m)) in
    (record { rises = omega (arith, m); within = omega (arith, m, size); fits = subst P (sym all) f; whole = h }, tt)

no_nodes : (w v : Walk) → v.nodes.items ≡ w.nodes.items → Grown w.nodes.items v.nodes.items
no_nodes w v e = record { more = []; is = e ∙ sym (append-nil w.nodes.items) }

pub adds_one : (w v : Walk) (t : Task) (d : Spot) → t.mark ≡ length w.nodes.items → v.nodes.items ≡ w.nodes.items → v.tasks.items ≡ w.tasks.items ++ t ∷ [] → t.whole ≡ true → Fits w.nodes.items t d → Adds w v (d ∷ [])
adds_one w v t d m e h z f = record { grown = no_nodes w v e; added = t ∷ []; looks = record { spot = d; whole = true } ∷ []; is = h; fit = one_fits w v t (record { spot = d; whole = true }) m e f z; covers = as_whole d [] [] no_spots }

pub adds_alone : (w v : Walk) (t : Task) (d : Spot) → t.mark ≡ length w.nodes.items → v.nodes.items ≡ w.nodes.items → v.tasks.items ≡ w.tasks.items ++ t ∷ [] → t.whole ≡ false → Fits w.nodes.items t d → AddsAlone w v d
adds_alone w v t d m e h z f = record { grown = no_nodes w v e; task = t; is = h; fit = one_fits w v t (record { spot = d; whole = false }) m e f z }

-- a spot by itself, and then what stands inside it
pub adds_inside : (w v u : Walk) (d : Spot) → AddsAlone w v d → Adds v u (inside d.scope d.part) → Adds w u (d ∷ [])
adds_inside w v u d a b =
    let one : Look = record { spot = d; whole = false } in
    let P : List Look → Type 0 = λ zs. Covers (d ∷ []) (one ∷ zs) in
    record {
      grown = grown_twice w.nodes.items v.nodes.items u.nodes.items a.grown b.grown;
      added = a.task ∷ b.added;
      looks = one ∷ b.looks;
      is = b.is ∙ ap (λ zs. zs ++ b.added) a.is ∙ append_assoc w.tasks.items (a.task ∷ []) b.added;
      fit = all_joined v.nodes.items u.nodes.items (length w.nodes.items) (a.task ∷ []) b.added (one ∷ []) b.looks b.grown (length_grown w.nodes.items v.nodes.items a.grown) a.fit b.fit;
      covers = subst P (append-nil b.looks) (by_itself d [] b.looks [] b.covers no_spots);
    }

-- only nodes are added
pub adds_nodes : (w v : Walk) → Grown w.nodes.items v.nodes.items → v.tasks.items ≡ w.tasks.items → Adds w v []
adds_nodes w v g e = record { grown = g; added = []; looks = []; is = e ∙ sym (append-nil w.tasks.items); fit = tt; covers = no_spots }

-- a loop over a list that adds what each element adds
pub record Far {X : Type 0} (w v : Walk) (At : List X → X → List X → List Spot) (front passed left all : List X) : Type 0 where
  pub done : List Spot
  pub adds : Adds w v done
  pub is : done ++ each At (front ++ passed) left ≡ each At front all

module _ {X : Type 0} (At : List X → X → List X → List Spot) (front all : List X) where
  pub far_start : (w : Walk) → Far w w At front [] all all
  far_start w = record { done = []; adds = adds_none w; is = ap (λ zs. each At zs all) (append-nil front) }

  pub far_step : (w v u : Walk) (passed : List X) (one : X) (left : List X) → Far w v At front passed (one ∷ left) all → Adds v u (At (front ++ passed) one left) → Far w u At front (passed ++ one ∷ []) left all
  far_step w v u passed one left f a = record {
    done = f.done ++ At (front ++ passed) one left;
    adds = adds_twice w v u f.done (At (front ++ passed) one left) f.adds a;
    is = append_assoc f.done (At (front ++ passed) one left) (each At (front ++ (passed ++ one ∷ [])) left)
        ∙ ap (λ zs. f.done ++ (At (front ++ passed) one left ++ each At zs left)) (sym (append_assoc front passed (one ∷ [])))
        ∙ f.is;
  }

  pub far_on : (w v u : Walk) (i : ℕ) (one : X) → i < length all → one ≡ get_or all i one → Far w v At front (take i all) (drop i all) all → Adds v u (At (front ++ take i all) one (drop (i + 1) all)) → Far w u At front (take (i + 1) all) (drop (i + 1) all) all
  far_on w v u i one l e f a =
      let P : List X → Type 0 = λ zs. Far w v At front (take i all) zs all in
      let Q : List X → Type 0 = λ zs. Far w u At front zs (drop (i + 1) all) all in
      subst Q (ap (λ z. take i all ++ z ∷ []) e ∙ sym (take_more all i one l))
      (far_step w v u (take i all) one (drop (i + 1) all) (subst P (drop_more all i one l ∙ ap (λ z. z ∷ drop (i + 1) all) (sym e)) f) a)

  pub far_finish : (w v : Walk) (passed : List X) → Far w v At front passed [] all → Adds w v (each At front all)
  far_finish w v passed f = adds_same w v f.done (each At front all) (sym (append-nil f.done) ∙ f.is) f.adds

  pub far_end : (w v : Walk) (i : ℕ) → length all ≤ i → Far w v At front (take i all) (drop i all) all → Adds w v (each At front all)
  far_end w v i l f =
      let P : List X → Type 0 = λ zs. Far w v At front (take i all) zs all in
      far_finish w v (take i all) (subst P (drop_all all i l) f)

pub passed_more : {X : Type 0} (front all : List X) (i : ℕ) (one : X) → i < length all → one ≡ get_or all i one → (front ++ take i all) ++ one ∷ [] ≡ front ++ take (i + 1) all
passed_more front all i one l e = append_assoc front (take i all) (one ∷ []) ∙ ap (λ zs. front ++ zs) (ap (λ z. take i all ++ z ∷ []) e ∙ sym (take_more all i one l))

pub passed_all : {X : Type 0} (front all : List X) (i : ℕ) → length all ≤ i → front ++ take i all ≡ front ++ all
passed_all front all i l = ap (λ zs. front ++ zs) (take_all i all l)

-- scopes, one step further
pub behind_more : (s : Scope) (front : List Expr) (e : Expr) → behind (e ∷ []) (behind front s) ≡ behind (front ++ e ∷ []) s
behind_more s front e =
    let D : Expr → Danger = λ y. record { left_unsafe = (vars_of y).left_unsafe; known = s.known } in
    let F : List Danger → Scope = λ ds. record { known = s.known; outer = s.outer; left = s.left; dangers = ds; guarded = s.guarded } in
    ap F (append_assoc s.dangers (map D front) (D e ∷ []) ∙ ap (λ zs. s.dangers ++ zs) (sym (map-append D front (e ∷ []))))

pub known_more : (s : Scope) (bs cs : List Bound) → with_known cs (with_known bs s) ≡ with_known (bs ++ cs) s
known_more s bs cs =
    let F : List Bound → Scope = λ ks. record { known = ks; outer = s.outer; left = s.left; dangers = s.dangers; guarded = s.guarded } in
    ap F (append_assoc s.known bs cs)

pub with_none : (s : Scope) → with_known [] s ≡ s
with_none s =
    let F : List Bound → Scope = λ ks. record { known = ks; outer = s.outer; left = s.left; dangers = s.dangers; guarded = s.guarded } in
    ap F (append-nil s.known)

pub targets_more : (front : List Pattern) (pt : Pattern) → targets_of front ++ targets pt ≡ targets_of (front ++ pt ∷ [])
targets_more front pt = ap (λ zs. targets_of front ++ zs) (sym (append-nil (targets pt))) ∙ sym (flat_map-append targets front (pt ∷ []))

pub past_more : (s : Scope) (front : List Pattern) (pt : Pattern) → with_known (targets pt) (past_patterns front s) ≡ past_patterns (front ++ pt ∷ []) s
past_more s front pt = known_more s (targets_of front) (targets pt) ∙ ap (λ zs. with_known zs s) (targets_more front pt)

pub items_more : (front : List Item) (i : Item) (s : Scope) → past_items (i ∷ []) (past_items front s) ≡ past_items (front ++ i ∷ []) s
items_more [] i s = refl
items_more (j ∷ front) i s = items_more front i (past_items (j ∷ []) s)

pub means_same : (nodes : List Node) (t : Facts) (s u : Scope) → s ≡ u → Means nodes t s → Means nodes t u
means_same nodes t s u e h = let P : Scope → Type 0 = λ z. Means nodes t z in subst P e h

-- the facts of some scopes
pub means_behind : (nodes more : List Node) (t : Facts) (k : ℕ) (ns : List (List ℕ)) (e : Expr) → ns ≡ (vars_of e).left_unsafe → Grown nodes more
    → ((ds : List Danger) (bs : List Bound) → SeesUnsafe nodes t.dangers ds → Sees nodes t.known bs → SeesUnsafe more k (ds ++ record { left_unsafe = ns; known = bs } ∷ []))
    → (s : Scope) → Means nodes t s → Means more (record t { dangers = k }) (behind (e ∷ []) s)
means_behind nodes more t k ns e i g put s h =
    let P : List (List ℕ) → Type 0 = λ zs. SeesUnsafe more k (s.dangers ++ record { left_unsafe = zs; known = s.known } ∷ []) in
    record { known = sees_grown nodes more g t.known s.known h.known; dangers = subst P i (put s.dangers s.known h.dangers h.known); guarded = h.guarded }

pub means_known : (nodes more : List Node) (t : Facts) (k : ℕ) (bs cs : List Bound) → bs ≡ cs → Grown nodes more → ((ks : List Bound) → Sees nodes t.known ks → Sees more k (ks ++ bs)) → (s : Scope) → Means nodes t s → Means more (record t { known = k }) (with_known cs s)
means_known nodes more t k bs cs e g put s h =
    let P : List Bound → Type 0 = λ zs. Sees more k (s.known ++ zs) in
    record { known = subst P e (put s.known h.known); dangers = unsafe_grown nodes more g t.dangers s.dangers h.dangers; guarded = h.guarded }

pub means_guard : (nodes : List Node) (t : Facts) (s : Scope) → Means nodes t s → Means nodes (record t { guarded = true }) (in_guard s)
means_guard nodes t s h = record { known = h.known; dangers = h.dangers; guarded = refl }

pub means_match : (nodes : List Node) (t : Facts) (s : Scope) → Means nodes t s → Means nodes (record t { sizes = t.known }) (to_match s)
means_match nodes t s h = record { known = h.known; dangers = h.dangers; guarded = h.guarded }

pub unmatched : (nodes : List Node) (t : Facts) (s : Scope) (bs : List Bound) → Means nodes t (with_known bs (to_match s)) → Means nodes t (with_known bs s)
unmatched nodes t s bs h = record { known = h.known; dangers = h.dangers; guarded = h.guarded }

pub rev_left : {X : Type 0} (xs : List X) (i j : ℕ) (one : X) → j ≡ i + 1 → i < length xs → one ≡ get_or xs i one → reverse (take j xs) ≡ one ∷ reverse (take i xs)
rev_left xs i j one k l e = ap (λ n. reverse (take n xs)) k ∙ ap reverse (take_more xs i one l ∙ ap (λ z. take i xs ++ z ∷ []) (sym e)) ∙ reverse-append (take i xs) (one ∷ [])

pub rev_passed : {X : Type 0} (xs : List X) (i j : ℕ) (one : X) → j ≡ i + 1 → i < length xs → one ≡ get_or xs i one → reverse (drop i xs) ≡ reverse (drop j xs) ++ one ∷ []
rev_passed xs i j one k l e = ap reverse (drop_more xs i one l ∙ ap (λ z. z ∷ drop (i + 1) xs) (sym e)) ∙ reverse-append (one ∷ []) (drop (i + 1) xs) ∙ ap (λ n. reverse (drop n xs) ++ one ∷ []) (sym k)

module _ {X : Type 0} (At : List X → X → List X → List Spot) (xs : List X) where
  pub back_start : (w : Walk) (j : ℕ) → j ≡ length xs → Far w w At [] (reverse (drop j xs)) (reverse (take j xs)) (reverse xs)
  back_start w j e =
      let P : List X → Type 0 = λ zs. Far w w At [] (reverse zs) (reverse (take j xs)) (reverse xs) in
      let Q : List X → Type 0 = λ zs. Far w w At [] [] (reverse zs) (reverse xs) in
      subst P (sym (drop_all xs j (omega arith))) (subst Q (sym (take_all j xs (omega arith))) (far_start At [] (reverse xs) w))

  pub back_on : (w v u : Walk) (i j : ℕ) (one : X) → j ≡ i + 1 → i < length xs → one ≡ get_or xs i one → Far w v At [] (reverse (drop j xs)) (reverse (take j xs)) (reverse xs) → Adds v u (At (reverse (drop j xs)) one (reverse (take i xs))) → Far w u At [] (reverse (drop i xs)) (reverse (take i xs)) (reverse xs)
  back_on w v u i j one k l e f a =
      let P : List X → Type 0 = λ zs. Far w v At [] (reverse (drop j xs)) zs (reverse xs) in
      let Q : List X → Type 0 = λ zs. Far w u At [] zs (reverse (take i xs)) (reverse xs) in
      subst Q (sym (rev_passed xs i j one k l e)) (far_step At [] (reverse xs) w v u (reverse (drop j xs)) one (reverse (take i xs)) (subst P (rev_left xs i j one k l e) f) a)

  pub back_end : (w v : Walk) (j : ℕ) → j ≡ 0 → Far w v At [] (reverse (drop j xs)) (reverse (take j xs)) (reverse xs) → Adds w v (each At [] (reverse xs))
  back_end w v j e f =
      let P : ℕ → Type 0 = λ n. Far w v At [] (reverse (drop n xs)) (reverse (take n xs)) (reverse xs) in
      far_finish At [] (reverse xs) w v (reverse xs) (subst P e f)

pub back_targets : (ps : List Pattern) (i j : ℕ) (pt : Pattern) (s : Scope) → j ≡ i + 1 → i < length ps → pt ≡ get_or ps i pt → with_known (targets pt) (with_known (targets_of (reverse (drop j ps))) s) ≡ with_known (targets_of (reverse (drop i ps))) s
back_targets ps i j pt s k l e = past_more s (reverse (drop j ps)) pt ∙ ap (λ zs. with_known (targets_of zs) s) (sym (rev_passed ps i j pt k l e))

pub means_item : (nodes : List Node) (known rest : Facts) (s : Scope) (i : Item) → Means nodes known (with_known (targets_of (reverse i.patterns)) s) → Means nodes rest (behind (i.value ∷ []) s) → Means nodes (record rest { known = known.known }) (past_items (i ∷ []) s)
means_item nodes known rest s i h k = record { known = h.known; dangers = k.dangers; guarded = k.guarded }

pub sees_at : (nodes : List Node) (j k : ℕ) (bs : List Bound) → j ≡ k → Sees nodes k bs → Sees nodes j bs
sees_at nodes j k bs e h = let P : ℕ → Type 0 = λ n. Sees nodes n bs in subst P (sym e) h

pub means_front : {X : Type 0} (nodes : List Node) (t : Facts) (F : List X → Scope) (xs ys : List X) → xs ≡ ys → Means nodes t (F xs) → Means nodes t (F ys)
means_front {X} nodes t F xs ys e h = let P : List X → Type 0 = λ zs. Means nodes t (F zs) in subst P e h

pub back_none : (nodes : List Node) (t : Facts) (ps : List Pattern) (j : ℕ) (s : Scope) → j ≡ length ps → Means nodes t s → Means nodes t (with_known (targets_of (reverse (drop j ps))) s)
back_none nodes t ps j s e h =
    let P : List Pattern → Type 0 = λ zs. Means nodes t (with_known (targets_of (reverse zs)) s) in
    subst P (sym (drop_all ps j (omega arith))) (means_same nodes t s (with_known [] s) (sym (with_none s)) h)

pub back_done : (nodes : List Node) (t : Facts) (ps : List Pattern) (j : ℕ) (s : Scope) → j ≡ 0 → Means nodes t (with_known (targets_of (reverse (drop j ps))) s) → Means nodes t (with_known (targets_of (reverse ps)) s)
back_done nodes t ps j s e h = let P : ℕ → Type 0 = λ n. Means nodes t (with_known (targets_of (reverse (drop n ps))) s) in subst P e h
