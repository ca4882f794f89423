-- A local state contracts to one that asks, and a contraction without cost makes its expression smaller.
use Rattle.std.proofs.Common.{◌≡◌, ◌⊎◌, inl, inr, ℕ, zero, suc, ◌+◌, Bool, true, false, ◌<◌, ◌≤◌, List, [], ◌∷◌, refl, ap, sym, ◌∙◌, subst, Some, None, arith}
use Rattle.std.specs.Prelude.{nat_lt}
use Rattle.term_value.specs.Value.{Value, more, none}
use Rattle.term_value.specs.Result.{Stop, Raise, Limit}
use Rattle.term_value.specs.Tree.{Tree, Clauses, Module}
use Rattle.term_value.specs.Match.{Picked, Body, NoClause, PickLimit, picked}
use Rattle.term_value.specs.Step.{World, setting, Step, Ready, Goes, Falls, Asks, Looks, step}
use Rattle.term_value.specs.Local.{Local, Course, At, Fell, world, Seen, Takes, NoMessage, SeenLimit, kept_before, takes, looked, charged, Next, On, Asking, ForMore, Done, Raised, is_normal, raised_where, ended, if_left, of_seen, of_step, of_course, next_of, NextAsk, Wants, WantsMore, EndsDone, EndsRaised, Unfinished, asked, Contracts, stands, contracts, LeadsTo}
use Rattle.term_value.specs.AskOf.{size_of, size_of_clauses, size_of_course, on_if, onward, walk, outcome_in, ask_of}
use Rattle.term_laws.specs.Laws.{EachAsks, FreeShrinks}
use Rattle.term_laws.proofs.Paid.{free_left}
use Rattle.term_laws.proofs.Smaller.{AtMost, picked_small}
use Rattle.term_laws.proofs.Shrinks.{Shrinks, step_shrinks}

-- it has fewer reductions left, or as many and a smaller expression
abbrev pub Advances : ℕ → ℕ → Next → Type 0
Advances left size (On cost made k) = (k.left < left) ⊎ ((k.left ≡ left) × (size_of_course k.course < size))
Advances left size (Asking ask next) = Unit {0}
Advances left size (ForMore k) = Unit {0}
Advances left size Done = Unit {0}
Advances left size (Raised reason) = Unit {0}

-- a body that a seen message takes is one of the clauses'
abbrev pub SeenAtMost : ℕ → Seen → Type 0
SeenAtMost n (Takes body others) = size_of body ≤ n
SeenAtMost n NoMessage = Unit {0}
SeenAtMost n SeenLimit = Unit {0}

kept_small : (n : ℕ) (v : Value) (later : Seen) → SeenAtMost n later → SeenAtMost n (kept_before v later)
kept_small n v (Takes body others) h = h
kept_small n v NoMessage h = tt
kept_small n v SeenLimit h = tt

takes_small : (n : ℕ) (p : Picked) (v : Value) (vs : List Value) (later : Seen) → AtMost n p → SeenAtMost n later → SeenAtMost n (takes p v vs later)
takes_small n (Body t) v vs later h g = h
takes_small n NoClause v vs later h g = kept_small n v later g
takes_small n PickLimit v vs later h g = tt

looked_small : (w : World) (cs : Clauses) (vs : List Value) → SeenAtMost (size_of_clauses cs) (looked w cs vs)
looked_small w cs [] = tt
looked_small w cs (v ∷ vs) = takes_small (size_of_clauses cs) (picked (setting w) cs (more v none)) v vs (looked w cs vs) (picked_small (setting w) cs (more v none)) (looked_small w cs vs)

left_advances : (n size : ℕ) (l : Local) (next : Next) → l.left ≡ n → 0 < size → Advances l.left size next → Advances l.left size (if_left n l next)
left_advances zero size l next e h g = inr (refl, h)
left_advances (suc n) size l next e h g = g

seen_advances : (n size : ℕ) (l : Local) (next : Tree → Tree) (s : Seen) → 0 < size → ((t : Tree) → size_of t ≤ n → suc (size_of (next t)) < size) → SeenAtMost n s → Advances l.left size (of_seen l next s)
seen_advances n size l next (Takes body others) h g le = inr (refl, g body le)
seen_advances n size l next NoMessage h g le = left_advances l.left size l _ refl h tt
seen_advances n size l next SeenLimit h g le = inr (refl, h)

-- a contraction that costs nothing, and one that costs something
free_advances : (b : Bool) (made size : ℕ) (l : Local) (course : Course) → 0 < size → size_of_course course < size → Advances l.left size (charged b l 0 made course)
free_advances true made size l course h g = inr (refl, h)
free_advances false made size l course h g = inr (omega arith, g)

paid_advances : (b : Bool) (cost made size : ℕ) (l : Local) (course : Course) → 0 < size → nat_lt l.left (suc cost) ≡ b → Advances l.left size (charged b l (suc cost) made course)
paid_advances true cost made size l course h e = inr (refl, h)
paid_advances false cost made size l course h e = inl (grind (arith, e))

step_advances : (code : Module) (l : Local) (n : ℕ) (r : Step Value Tree) → Shrinks size_of n r → Advances l.left (suc n) (of_step code l r)
step_advances code l n (Ready v) h = tt
step_advances code l n (Goes zero made t) h = free_advances (nat_lt l.left 0) made (suc n) l (At t) (omega arith) (omega (arith, h))
step_advances code l n (Goes (suc cost) made t) h = paid_advances (nat_lt l.left (suc cost)) cost made (suc n) l (At t) (omega arith) refl
step_advances code l n (Falls zero stop) h = free_advances (nat_lt l.left 0) 0 (suc n) l (Fell stop) (omega arith) (omega arith)
step_advances code l n (Falls (suc cost) stop) h = paid_advances (nat_lt l.left (suc cost)) cost 0 (suc n) l (Fell stop) (omega arith) refl
step_advances code l n (Asks ask next) h = left_advances l.left (suc n) l _ refl (omega arith) tt
step_advances code l n (Looks cs next) h = seen_advances (size_of_clauses cs) (suc n) l next (looked (world code l) cs l.seen) (omega arith) (λ t le. omega (arith, h t le)) (looked_small (world code l) cs l.seen)

raised_advances : (b : Bool) (left size : ℕ) (reason : Value) → Advances left size (raised_where b reason)
raised_advances true left size reason = tt
raised_advances false left size reason = tt

ended_advances : (left size : ℕ) (stop : Stop) → Advances left size (ended stop)
ended_advances left size Limit = tt
ended_advances left size (Raise reason) = raised_advances (is_normal reason) left size reason

course_advances : (code : Module) (l : Local) (c : Course) → Advances l.left (size_of_course c) (of_course code l c)
course_advances code l (At t) = step_advances code l (size_of t) (step (world code l) t) (step_shrinks (world code l) t)
course_advances code l (Fell stop) = ended_advances l.left 0 stop

pub free_shrinks : FreeShrinks
free_shrinks code l k made goes = elim (subst (Advances l.left (size_of_course l.course)) goes (course_advances code l l.course)) [ inl lt ↦ absurd (omega (arith, lt, free_left code l k made goes)) | inr s ↦ s.1 ]

-- ---- To an ask

abbrev Comes : Module → Local → NextAsk → Type 0
Comes code l ask = (cost : ℕ) × (made : ℕ) × LeadsTo code l cost made ask

-- a state that asks is there
asks_here : (code : Module) (l : Local) (next : Next) (ask : NextAsk) → next_of code l ≡ next → asked next ≡ Some ask → Comes code l ask
asks_here code l next ask is asks = (0, 0, record { state = l; path = stands l; asks = ap asked is ∙ asks })

-- a state that contracts to another comes to what that comes to
comes_on : (code : Module) (l k : Local) (cost made : ℕ) (ask : NextAsk) → next_of code l ≡ On cost made k → Comes code k ask → Comes code l ask
comes_on code l k cost made ask goes (costs, mades, leads) =
    (cost + costs, made + mades, record { state = leads.state; path = contracts l k leads.state cost made costs mades goes leads.path; asks = leads.asks })

-- the state that goes on comes to an ask where those with fewer reductions and those with a smaller expression do
on_comes : (code : Module) (b : Bool) (same less : Local → NextAsk) (k : Local) → (b ≡ true → Comes code k (less k)) → (b ≡ false → Comes code k (same k)) → Comes code k (on_if b same less k)
on_comes code true same less k h g = h refl
on_comes code false same less k h g = g refl

onward_comes : (code : Module) (same less : Local → NextAsk) (l : Local) (size : ℕ) (next : Next) → next_of code l ≡ next → Advances l.left size next
    → ((k : Local) → k.left < l.left → Comes code k (less k)) → ((k : Local) → k.left ≡ l.left → size_of_course k.course < size → Comes code k (same k)) → Comes code l (onward same less l.left next)
onward_comes code same less l size (On cost made k) goes a h g = comes_on code l k cost made _ goes (on_comes code (nat_lt k.left l.left) same less k
    (λ e. h k (grind (arith, e)))
    (λ e. elim a [ inl lt ↦ absurd (grind (arith, e, lt)) | inr s ↦ g k s.0 s.1 ]))
onward_comes code same less l size (Asking ask next) goes a h g = asks_here code l (Asking ask next) (Wants ask next) goes refl
onward_comes code same less l size (ForMore k) goes a h g = asks_here code l (ForMore k) (WantsMore k) goes refl
onward_comes code same less l size Done goes a h g = asks_here code l Done EndsDone goes refl
onward_comes code same less l size (Raised reason) goes a h g = asks_here code l (Raised reason) (EndsRaised reason) goes refl

walk_comes : (code : Module) (less : Local → NextAsk) (left n : ℕ) → ((k : Local) → k.left < left → Comes code k (less k))
    → (l : Local) → l.left ≡ left → size_of_course l.course ≤ n → Comes code l (walk code less n l)
walk_comes code less left zero h l e le = onward_comes code (λ k. Unfinished) less l (size_of_course l.course) (next_of code l) refl (course_advances code l l.course)
    (λ k lt. h k (omega (arith, lt, e))) (λ k same lt. absurd (omega (arith, le, lt)))
walk_comes code less left (suc n) h l e le = onward_comes code (walk code less n) less l (size_of_course l.course) (next_of code l) refl (course_advances code l l.course)
    (λ k lt. h k (omega (arith, lt, e))) (λ k same lt. walk_comes code less left n h k (omega (arith, same, e)) (omega (arith, le, lt)))

in_comes : (code : Module) (n : ℕ) (l : Local) → l.left ≤ n → Comes code l (outcome_in code n l)
in_comes code zero l le = walk_comes code (λ k. Unfinished) l.left (size_of_course l.course) (λ k lt. absurd (omega (arith, le, lt))) l refl (omega arith)
in_comes code (suc n) l le = walk_comes code (outcome_in code n) l.left (size_of_course l.course) (λ k lt. in_comes code n k (omega (arith, le, lt))) l refl (omega arith)

-- ---- No other ask, and at no other cost

pub same_some : (o p : NextAsk) → Some o ≡ Some p → o ≡ p
same_some o p e = cc e

pub none_some : (o : NextAsk) → None ≡ Some o → ⊥
none_some o e = cc e

abbrev Same : ℕ → ℕ → NextAsk → ℕ → ℕ → NextAsk → Type 0
Same cost made o costs mades p = (cost ≡ costs) × (made ≡ mades) × (o ≡ p)

stands_asks : (code : Module) (l j : Local) (costs mades : ℕ) (o p : NextAsk) → Contracts code l costs mades j → asked (next_of code l) ≡ Some o → asked (next_of code j) ≡ Some p → Same 0 0 o costs mades p
stands_asks code _ _ _ _ o p (stands l) e f = (refl, refl, same_some o p (sym e ∙ f))
stands_asks code _ _ _ _ o p (contracts l mid k cost made costs mades goes path) e f = absurd (none_some o (sym (ap asked goes) ∙ e))

same_next : (cost made costs mades : ℕ) (k j : Local) → On cost made k ≡ On costs mades j → (cost ≡ costs) × (made ≡ mades) × (k ≡ j)
same_next cost made costs mades k j e = (cc e, cc e, cc e)

goes_asks : (code : Module) (l mid j : Local) (cost made costs mades others bits : ℕ) (o p : NextAsk) → Contracts code l others bits j → next_of code l ≡ On cost made mid
    → ((c m : ℕ) → Contracts code mid c m j → Same costs mades o c m p) → asked (next_of code j) ≡ Some p → Same (cost + costs) (made + mades) o others bits p
goes_asks code _ mid _ cost made costs mades _ _ o p (stands l) goes later f = absurd (none_some p (sym (ap asked goes) ∙ f))
goes_asks code _ mid _ cost made costs mades _ _ o p (contracts l other j c m cs ms also path) goes later f =
    let same = same_next cost made c m mid other (sym goes ∙ also) in
    let rest = later cs ms (subst (λ i. Contracts code i cs ms j) (sym same.2) path) in
    (omega (arith, same.0, rest.0), omega (arith, same.1, rest.1), rest.2)

one_asks : (code : Module) (l k j : Local) (cost made costs mades : ℕ) (o p : NextAsk) → Contracts code l cost made k → asked (next_of code k) ≡ Some o
    → Contracts code l costs mades j → asked (next_of code j) ≡ Some p → Same cost made o costs mades p
one_asks code _ _ j _ _ costs mades o p (stands l) e other f = stands_asks code l j costs mades o p other e f
one_asks code _ _ j _ _ others bits o p (contracts l mid k cost made costs mades goes path) e other f =
    goes_asks code l mid j cost made costs mades others bits o p other goes (λ c m later. one_asks code mid k j costs mades c m o p path e later f) f

pub each_asks : EachAsks
each_asks code l =
    let comes = in_comes code l.left l (omega arith) in
    let leads = comes.2 in
    (comes.0, comes.1, leads, λ costs mades ask other. one_asks code l other.state leads.state costs mades comes.0 comes.1 ask (ask_of code l) other.path other.asks leads.path leads.asks)

-- what a state asks for that a run reaches is the one ask of the state before
pub ask_reached : (code : Module) (l k : Local) (cost made : ℕ) (ask : NextAsk) → Contracts code l cost made k → asked (next_of code k) ≡ Some ask → ask ≡ ask_of code l
ask_reached code l k cost made ask c e = ((each_asks code l).3 cost made ask (record { state = k; path = c; asks = e })).2
