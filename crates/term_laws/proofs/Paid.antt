-- What a contraction costs is no longer left, and an ask costs one reduction.
use Rattle.std.proofs.Common.{◌≡◌, ℕ, zero, suc, ◌+◌, ◌-◌, ◌<◌, Bool, true, false, refl, sym, subst, arith}
use Rattle.std.specs.Prelude.{nat_lt}
use Rattle.std.proofs.lemmas.Bool.Decides.{nat_tests}
use Rattle.term_value.specs.Value.{Value}
use Rattle.term_value.specs.Result.{Stop, Raise, Limit}
use Rattle.term_value.specs.Tree.{Tree, Module}
use Rattle.term_value.specs.Step.{Step, Ready, Goes, Falls, Asks, Looks, step}
use Rattle.term_value.specs.Local.{Course, At, Fell, Local, world, Seen, Takes, NoMessage, SeenLimit, looked, charged, Next, On, Asking, ForMore, Done, Raised, is_normal, raised_where, ended, if_left, of_seen, of_step, of_course, next_of, Contracts, stands, contracts}
use Rattle.term_laws.specs.Laws.{CostIsPaid}

abbrev pub NextPays : ℕ → Next → Type 0
NextPays left (On cost made l) = l.left + cost ≡ left
NextPays left (Asking ask next) = (v : Value) → (next v).left + 1 ≡ left
NextPays left (ForMore l) = l.left + 1 ≡ left
NextPays left Done = Unit {0}
NextPays left (Raised reason) = Unit {0}

raised_pays : (b : Bool) (reason : Value) (left : ℕ) → NextPays left (raised_where b reason)
raised_pays true reason left = tt
raised_pays false reason left = tt

ended_pays : (stop : Stop) (left : ℕ) → NextPays left (ended stop)
ended_pays Limit left = tt
ended_pays (Raise reason) left = raised_pays (is_normal reason) reason left

charged_pays : (b : Bool) (l : Local) (cost made : ℕ) (course : Course) → nat_lt l.left cost ≡ b → NextPays l.left (charged b l cost made course)
charged_pays true l cost made course e = omega arith
charged_pays false l cost made course e = grind (arith, nat_tests, e)

if_left_pays : (n : ℕ) (l : Local) (next : Next) → (0 < n → NextPays l.left next) → NextPays l.left (if_left n l next)
if_left_pays zero l next f = omega arith
if_left_pays (suc n) l next f = f (omega arith)

seen_pays : (l : Local) (next : Tree → Tree) (seen : Seen) → NextPays l.left (of_seen l next seen)
seen_pays l next (Takes body others) = omega arith
seen_pays l next NoMessage = if_left_pays l.left l (ForMore (record l { left = l.left - 1 })) (λ h. omega (arith, h))
seen_pays l next SeenLimit = omega arith

step_pays : (code : Module) (l : Local) (s : Step Value Tree) → NextPays l.left (of_step code l s)
step_pays code l (Ready v) = tt
step_pays code l (Goes cost made t) = charged_pays (nat_lt l.left cost) l cost made (At t) refl
step_pays code l (Falls cost stop) = charged_pays (nat_lt l.left cost) l cost 0 (Fell stop) refl
step_pays code l (Asks ask next) = if_left_pays l.left l (Asking ask (λ answer. record l { course = At (next answer); left = l.left - 1 })) (λ h v. omega (arith, h))
step_pays code l (Looks cs next) = seen_pays l next (looked (world code l) cs l.seen)

pub course_pays : (code : Module) (l : Local) (course : Course) → NextPays l.left (of_course code l course)
course_pays code l (At t) = step_pays code l (step (world code l) t)
course_pays code l (Fell stop) = ended_pays stop l.left

goes_pays : (code : Module) (l k : Local) (cost made : ℕ) → next_of code l ≡ On cost made k → k.left + cost ≡ l.left
goes_pays code l k cost made goes = subst (NextPays l.left) goes (course_pays code l l.course)

-- a contraction without cost leaves the reductions as they are
pub free_left : (code : Module) (l k : Local) (made : ℕ) → next_of code l ≡ On 0 made k → k.left ≡ l.left
free_left code l k made goes = omega (arith, goes_pays code l k 0 made goes)

pub cost_is_paid : CostIsPaid
cost_is_paid code _ _ _ _ (stands l) = omega arith
cost_is_paid code _ _ _ _ (contracts l mid k cost made costs mades goes path) = omega (arith, goes_pays code l mid cost made goes, cost_is_paid code mid k costs mades path)
