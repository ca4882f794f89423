-- A move of the open part is no contraction of the whole, or one.
use Rattle.std.proofs.Common.{◌≡◌, ℕ, ◌-◌, Bool, true, false, List, [], ◌∷◌, refl, ap, sym, subst, map, ◌+◌}
use Rattle.std.specs.Prelude.{nat_lt}
use Rattle.term_value.specs.Tree.{Tree, Val, Module}
use Rattle.term_value.specs.Value.{Value}
use Rattle.term_value.specs.Step.{World, Step, setting, lift, step}
use Rattle.term_value.specs.Local as l
use Rattle.term_layers.specs.Layers.{Layer, wrap, plug}
use Rattle.term_layers.proofs.Turns.{step_under}
use Rattle.code_tree.specs.PlainTerms.{value}
use Rattle.process_acts.specs.Acts.{Runs}
use Rattle.process_acts.proofs.Paths.{none}
use Rattle.plain_moves.specs.Moving.{IsMove}
use Rattle.plain_moves.specs.Reading.{layer, part_tree, open_tree, stop_of}
use Rattle.plain_moves.specs.declared.focus.Focus.{Focus}
use Rattle.plain_moves.specs.declared.focus.Focus.TheVariants as f
use Rattle.plain_moves.specs.declared.focus.Open.{Open}
use Rattle.plain_moves.specs.declared.frame.Frame.{Frame}
use Rattle.plain_moves.specs.declared.moves.Move.{Move}
use Rattle.plain_moves.specs.declared.moves.Move.TheVariants as m
use Rattle.plain_process.specs.declared.standing.Course.{Course}
use Rattle.plain_process.specs.declared.standing.Course.TheVariants.{At, Fell}
use Rattle.plain_process.specs.declared.standing.Standing.{Standing}
use Rattle.plain_process.specs.declared.standing.Round.{Round}
use Rattle.plain_process.specs.declared.stage.Stage.TheVariants.{On}
use Rattle.plain_process.specs.Standing.{course_in, local_in}
use Rattle.plain_process.specs.Going.{opens, falls, spent_where, spent, settled, Leads, IsStage}

-- a contraction is a run
pub once : (code : Module) (old new : l.Local) (cost made : ℕ) → l.next_of code old ≡ l.On cost made new → Runs code old new
once code old new cost made e = record { cost = cost + 0; made = made + 0; path = l.contracts old new new cost made 0 0 e (l.stands new) }

module _ (w : World) (round : Round) where
  abbrev pub layers : List Layer
  layers = map (layer (setting w)) round.frames

  -- the local state with this course
  abbrev pub local_with : l.Course → l.Local
  local_with course = record { pid = w.pid; course = course; seen = map value round.seen; left = round.left }

  -- the local state with this expression open
  abbrev pub local_at : Tree → l.Local
  local_at t = local_with (l.At (plug layers t))

  -- what is next in the open part is next
  pub next_at : (t : Tree) (s : Step Value Tree) → step w t ≡ s → l.next_of w.code (local_at t) ≡ l.of_step w.code (local_at t) (lift (λ v. step w (plug layers (Val v))) (plug layers) s)
  next_at t s e = ap (l.of_step w.code (local_at t)) (step_under w layers t s e)

  charged_leads : (old : l.Course) (course : Course) (b : Bool) (cost made : ℕ) → l.next_of w.code (local_with old) ≡ l.charged b (local_with old) cost made (course_in (setting w) course)
      → Runs w.code (local_with old) (local_in w (spent_where b cost (record { course = course; seen = round.seen; left = round.left })))
  charged_leads old course true cost made e = once w.code (local_with old) (local_in w (spent_where true cost (record { course = course; seen = round.seen; left = round.left }))) 0 0 e
  charged_leads old course false cost made e = once w.code (local_with old) (local_in w (spent_where false cost (record { course = course; seen = round.seen; left = round.left }))) cost made e

  same_leads : (t u : Tree) (standing : Standing) → t ≡ u → local_in w standing ≡ local_at u → Runs w.code (local_at t) (local_in w standing)
  same_leads t u standing e h =
      let P : Tree → Type 0 = λ x. Runs w.code (local_at x) (local_in w standing) in
      let Q : l.Local → Type 0 = λ k. Runs w.code (local_at u) k in
      subst P (sym e) (subst Q (sym h) (none w.code (local_at u)))

  pub settles : (t : Tree) (made : Move) → IsMove w t made → Runs w.code (local_at t) (local_in w (settled made round))
  settles t (m.Enters frame part) e = same_leads t (wrap (layer (setting w) frame) (part_tree (setting w) part)) (settled (m.Enters frame part) round) e refl
  settles t (m.Becomes focus) e = same_leads t (open_tree (setting w) focus) (settled (m.Becomes focus) round) e refl
  settles t (m.Goes cost focus) e = charged_leads (l.At (plug layers t)) (At focus round.frames) (nat_lt round.left cost) cost e.0 (next_at t _ e.1)
  settles t (m.Falls cost stop) e = charged_leads (l.At (plug layers t)) (Fell stop) (nat_lt round.left cost) cost 0 (next_at t _ e)

-- where an open part moves, the process goes on
pub goes_on : (w : World) (round : Round) (part : Open) (made : Move) (standing : Standing) → IsMove w (part_tree (setting w) part) made → standing ≡ settled made round → Leads w (opens (f.Goes part) round) standing
goes_on w round part made standing move e =
    let P : Standing → Type 0 = λ s. Leads w (opens (f.Goes part) round) s in
    subst P (sym e) (settles w round (part_tree (setting w) part) made move)

-- where a frame moves with a value, the process goes on
pub hands_on : (w : World) (round : Round) (frames : List Frame) (frame : Frame) (made : Move) (standing : Standing) (focus : Focus)
    → round.frames ≡ frame ∷ frames → IsMove w (wrap (layer (setting w) frame) (open_tree (setting w) focus)) made → standing ≡ settled made (record round { frames = frames }) → Leads w (opens focus round) standing
hands_on w round frames frame made standing focus top move e =
    let P : Standing → Type 0 = λ s. Leads w (opens focus round) s in
    let Q : List Frame → Type 0 = λ fs. Leads w (opens focus (record round { frames = fs })) (settled made (record round { frames = frames })) in
    subst P (sym e) (subst Q (sym top) (settles w (record round { frames = frames }) (wrap (layer (setting w) frame) (open_tree (setting w) focus)) made move))
