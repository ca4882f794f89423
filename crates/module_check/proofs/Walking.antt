-- Looking at all that stands in a function.
use Rattle.std.proofs.Common.{◌≡◌, ℕ, ◌<◌, Bool, true, false, List, [], ◌∷◌, ◌++◌, length, get_or, take, arith, Option, Some, None, refl, sym, ◌∙◌, ap, subst, ◌⊎◌, inl, inr}
use Rattle.std.specs.List.{Contains}
use Rattle.std.proofs.lemmas.List.{get_or_default}
use Rattle.std.proofs.lemmas.List.Elements.{Contains-append_left, Contains-append_right, Contains-append_cases, Contains-push}
use Rattle.erl_syntax.specs.declared.span.Span.{Span}
use Rattle.erl_syntax.specs.declared.module.Module.{Module}
use Rattle.erl_syntax.specs.declared.module.Function.{Function}
use Rattle.erl_syntax.specs.declared.checking.CheckCause.{CheckCause}
use Rattle.erl_syntax.specs.declared.checking.CheckFault.{CheckFault}
use Rattle.module_check.specs.declared.trees.Node.{Node}
use Rattle.module_check.specs.declared.tasks.Task.{Task}
use Rattle.module_check.specs.declared.tasks.Walk.{Walk}
use Rattle.module_check.specs.Order.{NotAfter, IsFirstOf, IsLeast, Either}
use Rattle.module_check.specs.Spots.{Spot, inside, clauses_in, Under, here, deeper, IsUnder}
use Rattle.module_check.specs.Tasks.{Fits, Look, left_in, Covers, no_spots, as_whole, by_itself, AllFit, Adds}
use Rattle.module_check.specs.Faults.{Own, InnerFault, ClausesFault, FunctionFault}
use Rattle.module_check.proofs.Firsts.{in_turn, same_least, least_of_both}
use Rattle.module_check.proofs.Spots.{Contains-head, Contains-tail, none_in, only_one}
use Rattle.module_check.proofs.Complete.{one_more}
use Rattle.module_check.proofs.Tasked.{all_joined, all_from_none, all_cut, fits_grown, front_grown}

-- what a look looks at
abbrev pub LooksAt : Bool → Spot → Spot → Type 0
LooksAt true e d = Under e d
LooksAt false e d = e ≡ d

pub record Left (looks : List Look) (d : Spot) : Type 0 where
  pub look : Look
  pub among : Contains looks look
  pub looks_at : LooksAt look.whole look.spot d

left_more : (ls ms : List Look) (d : Spot) → ((l : Look) → Contains ls l → Contains ms l) → Left ls d → Left ms d
left_more ls ms d h k = record { look = k.look; among = h k.look k.among; looks_at = k.looks_at }

-- what stands at the spots or inside them is looked at
pub covered : (ds : List Spot) (ls : List Look) (r d : Spot) → Covers ds ls → Contains ds r → Under r d → Left ls d
covered _ _ r d no_spots h u = absurd (none_in r h)
covered _ _ r d (as_whole e ds ls c) h u = elim (Contains-append_cases (e ∷ []) ds r h) [
  | inl k ↦ (let P : Spot → Type 0 = λ z. Under z d in record { look = record { spot = e; whole = true }; among = Contains-head _ ls; looks_at = subst P (sym (only_one e r k)) u })
  | inr k ↦ left_more ls _ d (λ l i. Contains-tail _ ls l i) (covered ds ls r d c k u)
]
covered _ _ r d (by_itself e ds within ls i c) h u = elim (Contains-append_cases (e ∷ []) ds r h) [
  | inl k ↦ by_under e within ls d (λ b j v. covered (inside e.scope e.part) within b d i j v) (let P : Spot → Type 0 = λ z. Under z d in subst P (sym (only_one e r k)) u)
  | inr k ↦ left_more ls _ d (λ l j. Contains-tail _ (within ++ ls) l (Contains-append_right within ls l j)) (covered ds ls r d c k u)
]
  where
    by_under : (e : Spot) (within ls : List Look) (d : Spot) → ((b : Spot) → Contains (inside e.scope e.part) b → Under b d → Left within d) → Under e d → Left (record { spot = e; whole = false } ∷ (within ++ ls)) d
    by_under e within ls d rest (here _ _ q) = record { look = record { spot = e; whole = false }; among = Contains-head _ (within ++ ls); looks_at = q }
    by_under e within ls d rest (deeper _ b _ j v) = left_more within _ d (λ l k. Contains-tail _ (within ++ ls) l (Contains-append_left within ls l k)) (rest b j v)

further : (f : Function) (r d : Spot) → IsUnder f r → Under r d → IsUnder f d
further f r d h (here _ _ e) = subst (IsUnder f) e h
further f r d h (deeper _ b _ i u) = further f b d (one_more f r b h i) u

-- and nothing else
pub looks_stand : (f : Function) (ds : List Spot) (ls : List Look) (l : Look) → Covers ds ls → ((r : Spot) → Contains ds r → IsUnder f r) → Contains ls l → IsUnder f l.spot
looks_stand f _ _ l no_spots st h = absurd (none_in l h)
looks_stand f _ _ l (as_whole e ds ls c) st h = elim (Contains-append_cases (record { spot = e; whole = true } ∷ []) ls l h) [
  | inl k ↦ (let P : Look → Type 0 = λ z. IsUnder f z.spot in subst P (only_one _ l k) (st e (Contains-head e ds)))
  | inr k ↦ looks_stand f ds ls l c (λ r i. st r (Contains-tail e ds r i)) k
]
looks_stand f _ _ l (by_itself e ds within ls i c) st h = elim (Contains-append_cases (record { spot = e; whole = false } ∷ []) (within ++ ls) l h) [
  | inl k ↦ (let P : Look → Type 0 = λ z. IsUnder f z.spot in subst P (only_one _ l k) (st e (Contains-head e ds)))
  | inr k ↦ elim (Contains-append_cases within ls l k) [
    | inl j ↦ looks_stand f (inside e.scope e.part) within l i (λ r z. one_more f e r (st e (Contains-head e ds)) z) j
    | inr j ↦ looks_stand f ds ls l c (λ r z. st r (Contains-tail e ds r z)) j
  ]
]

-- what is left to look at in a function where the others are done
pub record Walked (f : Function) (Done : Spot → Type 0) (nodes : List Node) (tasks : List Task) : Type 0 where
  pub looks : List Look
  pub fit : AllFit nodes 0 tasks looks
  pub stand : (l : Look) → Contains looks l → IsUnder f l.spot
  pub covers : (d : Spot) → IsUnder f d → Done d ⊎ Left looks d

-- the last of the tasks
pub record Last (nodes : List Node) (least : ℕ) (tasks : List Task) (task : Task) (looks : List Look) : Type 0 where
  pub before : List Look
  pub one : Look
  pub is : looks ≡ before ++ one ∷ []
  pub fit : AllFit nodes least tasks before
  pub fits : Fits nodes task one.spot
  pub whole : task.whole ≡ one.whole

pub last_of : (nodes : List Node) (least : ℕ) (tasks : List Task) (task : Task) (looks : List Look) → AllFit nodes least (tasks ++ task ∷ []) looks → Last nodes least tasks task looks
last_of nodes least [] task [] h = absurd h
last_of nodes least [] task (l ∷ []) h = record { before = []; one = l; is = refl; fit = tt; fits = fits_grown (take task.mark nodes) nodes task l.spot (front_grown nodes task.mark) h.0.fits; whole = h.0.whole }
last_of nodes least [] task (d ∷ e ∷ ds) h = absurd h.1
last_of nodes least (t ∷ ts) task [] h = absurd h
last_of nodes least (t ∷ ts) task (d ∷ ds) h =
    let r = last_of nodes t.mark ts task ds h.1 in
    record { before = d ∷ r.before; one = r.one; is = ap (λ zs. d ∷ zs) r.is; fit = (h.0, r.fit); fits = r.fits; whole = r.whole }

module _ (f : Function) (Done : Spot → Type 0) where
  -- the nodes above the mark of the last task are let go
  pub walked_cut : (nodes cut : List Node) (tasks rest : List Task) (task : Task) → tasks ≡ rest ++ task ∷ [] → cut ≡ take task.mark nodes → Walked f Done nodes tasks → Walked f Done cut tasks
  walked_cut nodes cut tasks rest task e is l =
      let P : List Task → Type 0 = λ zs. AllFit nodes 0 zs l.looks in
      let Q : List Task → Type 0 = λ zs. AllFit cut 0 zs l.looks in
      let R : List Node → Type 0 = λ ns. AllFit ns 0 (rest ++ task ∷ []) l.looks in
      record { looks = l.looks; fit = subst Q (sym e) (subst R (sym is) (all_cut nodes 0 rest task l.looks (subst P e l.fit)).0); stand = l.stand; covers = l.covers }

  pub walked_start : (w v : Walk) → w.tasks.items ≡ [] → Adds w v (clauses_in f) → Walked f Done v.nodes.items v.tasks.items
  walked_start w v e a =
      let P : List Task → Type 0 = λ zs. AllFit v.nodes.items 0 zs a.looks in
      record {
        looks = a.looks;
        fit = subst P (sym (a.is ∙ ap (λ zs. zs ++ a.added) e)) (all_from_none v.nodes.items (length w.nodes.items) a.added a.looks a.fit);
        stand = λ l h. looks_stand f (clauses_in f) a.looks l a.covers (λ d k. record { root = d; among = k; under = here d d refl }) h;
        covers = λ d h. inr (covered (clauses_in f) a.looks h.root d a.covers h.among h.under);
      }

  none_fit : (nodes : List Node) (looks : List Look) → AllFit nodes 0 [] looks → looks ≡ []
  none_fit nodes [] h = refl
  none_fit nodes (d ∷ ds) h = absurd h

  pub walked_all : (nodes : List Node) (tasks : List Task) → tasks ≡ [] → Walked f Done nodes tasks → (d : Spot) → IsUnder f d → Done d
  walked_all nodes tasks e l d h =
      let P : List Task → Type 0 = λ zs. AllFit nodes 0 zs l.looks in
      let none = none_fit nodes l.looks (subst P e l.fit) in
      elim (l.covers d h) [
        | inl z ↦ z
        | inr z ↦ absurd (let S : List Look → Type 0 = λ zs. Contains zs z.look in none_in z.look (subst S none z.among))
      ]

-- the spot of the last task, and the same walk where that spot is done too
pub record Stepped (f : Function) (task : Task) (Done : Spot → Type 0) (old new : List Node) (tasks : List Task) : Type 1 where
  pub spot : Spot
  pub fits : Fits old task spot
  pub stood : IsUnder f spot
  pub walked : (Then : Spot → Type 0) → ((d : Spot) → Done d → Then d) → Then spot → Walked f Then new tasks

pub stepped : (f : Function) (Done : Spot → Type 0) (w v : Walk) (old rest : List Task) (task : Task) → old ≡ rest ++ task ∷ [] → w.tasks.items ≡ rest
    → ((d : Spot) → Fits w.nodes.items task d → Adds w v (left_in task.whole d)) → Walked f Done w.nodes.items old → Stepped f task Done w.nodes.items v.nodes.items v.tasks.items
stepped f Done w v old rest task e g adds l =
    let P : List Task → Type 0 = λ zs. AllFit w.nodes.items 0 zs l.looks in
    let p = last_of w.nodes.items 0 rest task l.looks (subst P e l.fit) in
    let d0 = p.one.spot in
    let a = adds d0 p.fits in
    let Q : List Look → Type 0 = λ zs. Contains zs p.one in
    let stood : IsUnder f d0 = l.stand p.one (subst Q (sym p.is) (Contains-push p.before p.one)) in
    let R : List Task → Type 0 = λ zs. AllFit v.nodes.items 0 zs (p.before ++ a.looks) in
    record {
      spot = d0;
      fits = p.fits;
      stood = stood;
      walked = λ Then on this. record {
        looks = p.before ++ a.looks;
        fit = subst R (sym (a.is ∙ ap (λ zs. zs ++ a.added) g)) (all_joined w.nodes.items v.nodes.items 0 rest a.added p.before a.looks a.grown (omega arith) p.fit a.fit);
        stand = λ k h. elim (Contains-append_cases p.before a.looks k h) [
          | inl i ↦ l.stand k (let S : List Look → Type 0 = λ zs. Contains zs k in subst S (sym p.is) (Contains-append_left p.before (p.one ∷ []) k i))
          | inr i ↦ looks_stand f (left_in task.whole d0) a.looks k a.covers (roots task.whole d0 stood) i
        ];
        covers = λ d h. elim (l.covers d h) [
          | inl k ↦ inl (on d k)
          | inr k ↦ elim (Contains-append_cases p.before (p.one ∷ []) k.look (let S : List Look → Type 0 = λ zs. Contains zs k.look in subst S p.is k.among)) [
            | inl i ↦ inr (record { look = k.look; among = Contains-append_left p.before a.looks k.look i; looks_at = k.looks_at })
            | inr i ↦ (let T : Look → Type 0 = λ z. LooksAt z.whole z.spot d in
                let U : Bool → Type 0 = λ z. LooksAt z d0 d in
                at_last Then task.whole d0 p.before a.looks d a.covers this (subst U (sym p.whole) (subst T (sym (only_one p.one k.look i)) k.looks_at)))
          ]
        ];
      };
    }
  where
    roots : (b : Bool) (d0 : Spot) → IsUnder f d0 → (r : Spot) → Contains (left_in b d0) r → IsUnder f r
    roots true d0 h r i = one_more f d0 r h i
    roots false d0 h r i = absurd (none_in r i)

    at_last : (Then : Spot → Type 0) (b : Bool) (d0 : Spot) (before looks : List Look) (d : Spot) → Covers (left_in b d0) looks → Then d0 → LooksAt b d0 d → Then d ⊎ Left (before ++ looks) d
    at_last Then false d0 before looks d c this e = inl (subst Then e this)
    at_last Then true d0 before looks d c this (here _ _ e) = inl (subst Then e this)
    at_last Then true d0 before looks d c this (deeper _ b _ i u) = inr (left_more looks (before ++ looks) d (λ l k. Contains-append_right before looks l k) (covered (inside d0.scope d0.part) looks b d c i u))

-- no fault is told before the best one
abbrev pub Covered : Option CheckFault → Span → CheckCause → Type 0
Covered None at why = ⊥
Covered (Some a) at why = NotAfter a.span a.why at why

abbrev pub Holds : (Span → CheckCause → Type 0) → Option CheckFault → Type 0
Holds P None = Unit {0}
Holds P (Some a) = P a.span a.why

-- the faults of the spot by itself are told
abbrev pub Told : Module → Option CheckFault → Spot → Type 0
Told m best d = (at : Span) (why : CheckCause) → Own m d.scope d.part at why → Covered best at why

-- what is looked at, and what is left
pub record Looked (m : Module) (f : Function) (nodes : List Node) (tasks : List Task) (best : Option CheckFault) : Type 0 where
  pub told : Holds (InnerFault m f) best
  pub walked : Walked f (Told m best) nodes tasks

pub looked_cut : (m : Module) (f : Function) (nodes cut : List Node) (tasks rest : List Task) (task : Task) (best : Option CheckFault) → tasks ≡ rest ++ task ∷ [] → cut ≡ take task.mark nodes → Looked m f nodes tasks best → Looked m f cut tasks best
looked_cut m f nodes cut tasks rest task best e is l = record { told = l.told; walked = walked_cut f (Told m best) nodes cut tasks rest task e is l.walked }

pub start : (m : Module) (f : Function) (w v : Walk) → w.tasks.items ≡ [] → Adds w v (clauses_in f) → Looked m f v.nodes.items v.tasks.items None
start m f w v e a = record { told = tt; walked = walked_start f (Told m None) w v e a }

covers_on : (a b r : Option CheckFault) (at : Span) (why : CheckCause) → IsFirstOf a b r → Covered a at why → Covered r at why
covers_on None b r at why e h = absurd h
covers_on (Some x) None r at why e h = let P : Option CheckFault → Type 0 = λ v. Covered v at why in subst P (sym e) h
covers_on (Some x) (Some y) r at why (inl e) h = let P : Option CheckFault → Type 0 = λ v. Covered v at why in subst P (sym e.0) h
covers_on (Some x) (Some y) r at why (inr e) h = let P : Option CheckFault → Type 0 = λ v. Covered v at why in subst P (sym e.0) (in_turn y.span y.why x.span x.why at why e.1 h)

covers_new : (a b r : Option CheckFault) (at : Span) (why : CheckCause) → IsFirstOf a b r → Covered b at why → Covered r at why
covers_new None b r at why e h = let P : Option CheckFault → Type 0 = λ v. Covered v at why in subst P (sym e) h
covers_new (Some x) None r at why e h = absurd h
covers_new (Some x) (Some y) r at why (inl e) h = let P : Option CheckFault → Type 0 = λ v. Covered v at why in subst P (sym e.0) (in_turn x.span x.why y.span y.why at why e.1 h)
covers_new (Some x) (Some y) r at why (inr e) h = let P : Option CheckFault → Type 0 = λ v. Covered v at why in subst P (sym e.0) h

least_covers : (P : Span → CheckCause → Type 0) (r : Option CheckFault) (at : Span) (why : CheckCause) → IsLeast P r → P at why → Covered r at why
least_covers P None at why h k = h at why k
least_covers P (Some a) at why h k = h.1 at why k

holds_on : (P : Span → CheckCause → Type 0) (a b r : Option CheckFault) → IsFirstOf a b r → Holds P a → Holds P b → Holds P r
holds_on P None b r e h k = subst (Holds P) (sym e) k
holds_on P (Some x) None r e h k = subst (Holds P) (sym e) h
holds_on P (Some x) (Some y) r (inl e) h k = subst (Holds P) (sym e.0) h
holds_on P (Some x) (Some y) r (inr e) h k = subst (Holds P) (sym e.0) k

least_holds : (P Q : Span → CheckCause → Type 0) (r : Option CheckFault) → ((at : Span) (why : CheckCause) → P at why → Q at why) → IsLeast P r → Holds Q r
least_holds P Q None t h = tt
least_holds P Q (Some a) t h = t a.span a.why h.0

pub step : (m : Module) (f : Function) (w v : Walk) (old rest : List Task) (task : Task) (best own new : Option CheckFault) → old ≡ rest ++ task ∷ [] → w.tasks.items ≡ rest
    → ((d : Spot) → Fits w.nodes.items task d → IsLeast (Own m d.scope d.part) own) → IsFirstOf best own new → ((d : Spot) → Fits w.nodes.items task d → Adds w v (left_in task.whole d))
    → Looked m f w.nodes.items old best → Looked m f v.nodes.items v.tasks.items new
step m f w v old rest task best own new e g o first adds l =
    let p = stepped f (Told m best) w v old rest task e g adds l.walked in
    let d0 = p.spot in
    let least = o d0 p.fits in
    record {
      told = holds_on (InnerFault m f) best own new first l.told (least_holds (Own m d0.scope d0.part) (InnerFault m f) own (λ at why k. (d0, (p.stood, k))) least);
      walked = p.walked (Told m new) (λ d h at why z. covers_on best own new at why first (h at why z)) (λ at why z. covers_new best own new at why first (least_covers (Own m d0.scope d0.part) own at why least z));
    }

pub finish : (m : Module) (f : Function) (nodes : List Node) (tasks : List Task) (best : Option CheckFault) → tasks ≡ [] → Looked m f nodes tasks best → IsLeast (InnerFault m f) best
finish m f nodes tasks best e l = ended best l.told (λ at why k. walked_all f (Told m best) nodes tasks e l.walked k.0 k.1.0 at why k.1.1)
  where
    ended : (r : Option CheckFault) → Holds (InnerFault m f) r → ((at : Span) (why : CheckCause) → InnerFault m f at why → Covered r at why) → IsLeast (InnerFault m f) r
    ended None h k = k
    ended (Some a) h k = (h, k)

pub function_least : (m : Module) (k : ℕ) (f : Function) (before : List Function) (a b r : Option CheckFault) → k < length m.functions → f ≡ get_or m.functions k f → before ≡ take k m.functions
    → IsLeast (ClausesFault before f f.clauses) a → IsLeast (InnerFault m f) b → IsFirstOf a b r → IsLeast (FunctionFault m k) r
function_least m k f before a b r l e g p q h =
    let P : List Function → Type 0 = λ zs. IsLeast (ClausesFault zs f f.clauses) a in
    let One = Either (ClausesFault (take k m.functions) f f.clauses) (InnerFault m f) in
    same_least One (FunctionFault m k) r
    (λ at why z. (f, ((l, e), z)))
    (λ at why z. (let s : z.0 ≡ f = z.1.0.1 ∙ get_or_default m.functions k z.0 f l ∙ sym e in
    let Q : Function → Type 0 = λ v. Either (ClausesFault (take k m.functions) v v.clauses) (InnerFault m v) at why in subst Q s z.1.1))
    (least_of_both (ClausesFault (take k m.functions) f f.clauses) (InnerFault m f) a b r (subst P g p) q h)
