-- A run of contractions of the open part is one of the whole expression.
use Rattle.std.proofs.Common.{◌≡◌, ℕ, zero, suc, Bool, true, false, List, Some, refl, ap, ◌∙◌, ◌-◌}
use Rattle.std.specs.Prelude.{nat_lt}
use Rattle.term_value.specs.Value.{Value}
use Rattle.term_value.specs.Result.{Stop, Limit, Raise}
use Rattle.term_value.specs.Tree.{Tree, Val, Module}
use Rattle.term_value.specs.Step.{Step, Ready, Goes, Falls, Asks, Looks, lift, step}
use Rattle.term_value.specs.Local.{Local, Course, At, Fell, Next, On, Asking, ForMore, world, Seen, Takes, NoMessage, SeenLimit, looked, charged, is_normal, raised_where, ended, if_left, of_seen, of_step, of_course, next_of, Contracts, stands, contracts, NextAsk, asked}
use Rattle.term_layers.specs.Layers.{Layer, plug, plug_course, within_layers, next_within, IsOpen, IsOpenCourse}
use Rattle.term_layers.proofs.Under.{under}

module _ (layers : List Layer) where
  charged_within : (b : Bool) (l : Local) (cost made : ℕ) (course : Course) → charged b (within_layers layers l) cost made (plug_course layers course) ≡ next_within layers (charged b l cost made course)
  charged_within true l cost made course = refl
  charged_within false l cost made course = refl

  left_within : (left : ℕ) (l : Local) (next : Next) → if_left left (within_layers layers l) (next_within layers next) ≡ next_within layers (if_left left l next)
  left_within zero l next = refl
  left_within (suc left) l next = refl

  seen_within : (l : Local) (next : Tree → Tree) (seen : Seen) → of_seen (within_layers layers l) (λ t. plug layers (next t)) seen ≡ next_within layers (of_seen l next seen)
  seen_within l next (Takes body others) = refl
  seen_within l next NoMessage = left_within l.left l (ForMore (record l { left = l.left - 1 }))
  seen_within l next SeenLimit = refl

  ended_within : (stop : Stop) → ended stop ≡ next_within layers (ended stop)
  ended_within Limit = refl
  ended_within (Raise reason) = cases (is_normal reason)
    where
      cases : (b : Bool) → raised_where b reason ≡ next_within layers (raised_where b reason)
      cases true = refl
      cases false = refl

  module _ (code : Module) where
    step_within : (l : Local) (ready : Value → Step Value Tree) (s : Step Value Tree) → IsOpen s → of_step code (within_layers layers l) (lift ready (plug layers) s) ≡ next_within layers (of_step code l s)
    step_within l ready (Ready v) o = absurd o
    step_within l ready (Goes cost made t) o = charged_within (nat_lt l.left cost) l cost made (At t)
    step_within l ready (Falls cost stop) o = charged_within (nat_lt l.left cost) l cost 0 (Fell stop)
    step_within l ready (Asks ask next) o = left_within l.left l (Asking ask (λ answer. record l { course = At (next answer); left = l.left - 1 }))
    step_within l ready (Looks cs next) o = seen_within l next (looked (world code l) cs l.seen)

    course_within : (l : Local) (course : Course) → IsOpenCourse (world code l) course → of_course code (within_layers layers l) (plug_course layers course) ≡ next_within layers (of_course code l course)
    course_within l (At t) o =
        ap (of_step code (within_layers layers l)) (under (world code l) layers t)
        ∙ step_within l (λ v. step (world code l) (plug layers (Val v))) (step (world code l) t) o
    course_within l (Fell stop) o = ended_within stop

    -- where the open part has no value yet, what is next in it is next in the whole
    pub next_under : (l : Local) → IsOpenCourse (world code l) l.course → next_of code (within_layers layers l) ≡ next_within layers (next_of code l)
    next_under l o = course_within l l.course o

    no_value : (l k : Local) (cost made : ℕ) (s : Step Value Tree) → of_step code l s ≡ On cost made k → IsOpen s
    no_value l k cost made (Ready v) e = absurd (cc e)
    no_value l k cost made (Goes _ _ t) e = tt
    no_value l k cost made (Falls _ stop) e = tt
    no_value l k cost made (Asks ask next) e = tt
    no_value l k cost made (Looks cs next) e = tt

    contracts_open : (l k : Local) (cost made : ℕ) (course : Course) → of_course code l course ≡ On cost made k → IsOpenCourse (world code l) course
    contracts_open l k cost made (At t) e = no_value l k cost made (step (world code l) t) e
    contracts_open l k cost made (Fell stop) e = tt

    pub runs_under : (l k : Local) (cost made : ℕ) → Contracts code l cost made k → Contracts code (within_layers layers l) cost made (within_layers layers k)
    runs_under _ _ _ _ (stands l) = stands (within_layers layers l)
    runs_under _ _ _ _ (contracts l mid k cost made costs mades e c) =
        contracts (within_layers layers l) (within_layers layers mid) (within_layers layers k) cost made costs mades
        (next_under l (contracts_open l mid cost made l.course e) ∙ ap (next_within layers) e) (runs_under mid k costs mades c)
