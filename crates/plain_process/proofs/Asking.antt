-- What a process asks for at a visible act, and at its end.
use Rattle.std.proofs.Common.{◌≡◌, ℕ, zero, suc, ◌-◌, Bool, true, false, List, [], ◌∷◌, refl, ap, sym, subst, ◌∙◌, ◌<◌, arith}
use Rattle.term_value.specs.Value.{Value, VAtom}
use Rattle.term_value.specs.Seen.{Seen, SAtom, STuple, then, end, meanings}
use Rattle.term_value.specs.Tree.{Tree, Val, Module}
use Rattle.term_value.specs.Step as t
use Rattle.term_value.specs.Local as l
use Rattle.term_layers.specs.Layers.{plug}
use Rattle.bit_store.specs.Stores.{itself}
use Rattle.code_tree.specs.PlainTerms.{value}
use Rattle.process_acts.specs.Acts.{Runs, AsksFor, IsAsking}
use Rattle.process_acts.proofs.Paths.{none}
use Rattle.process_acts.specs.declared.asking.Asking.{Asking}
use Rattle.process_acts.specs.declared.asking.Asking.TheVariants as a
use Rattle.plain_moves.specs.Reading.{visible_tree, stop_of}
use Rattle.plain_moves.specs.declared.focus.Focus.{Focus}
use Rattle.plain_moves.specs.declared.focus.Focus.TheVariants as f
use Rattle.plain_moves.specs.declared.focus.Stop.{Stop}
use Rattle.plain_moves.specs.declared.focus.Stop.TheVariants as s
use Rattle.plain_moves.specs.declared.focus.Visible.{Visible}
use Rattle.plain_moves.specs.declared.focus.Visible.TheVariants as v
use Rattle.plain_moves.specs.declared.frame.Frame.{Frame}
use Rattle.plain_process.specs.declared.standing.Course.{Course}
use Rattle.plain_process.specs.declared.standing.Course.TheVariants.{At, Fell}
use Rattle.plain_process.specs.declared.standing.Standing.{Standing}
use Rattle.plain_process.specs.declared.standing.Round.{Round}
use Rattle.plain_process.specs.declared.stage.Stage.TheVariants.{Asks}
use Rattle.plain_process.specs.Standing.{local_in}
use Rattle.plain_process.specs.Going.{opens, falls, asking_of, ending_where, ending_of, Leads, AsksAt, IsStage}
use Rattle.plain_process.proofs.Moving.{once, layers, local_at, next_at}

-- what a visible act asks for
abbrev pub ask_for : Visible → t.Ask
ask_for (v.Send to p) = t.SendTo to (value p)
ask_for (v.Show p) = t.Show (value p)
ask_for (v.Start m n args) = t.Start m n (meanings itself args)

pub visible_step : (w : t.World) (a : Visible) → t.step w (visible_tree a) ≡ t.Asks (ask_for a) (λ v. Val v)
visible_step w (v.Send to p) = refl
visible_step w (v.Show p) = refl
visible_step w (v.Start m n args) = refl

module _ (w : t.World) (round : Round) where
  -- the state with an answer
  abbrev pub with_answer : Visible → Value → l.Local
  with_answer a answer = record (local_at w round (visible_tree a)) { course = l.At (plug (layers w round) (Val answer)); left = round.left - 1 }

  pub visible_next : (a : Visible) → l.next_of w.code (local_at w round (visible_tree a)) ≡ l.if_left round.left (local_at w round (visible_tree a)) (l.Asking (ask_for a) (with_answer a))
  visible_next a = next_at w round (visible_tree a) _ (visible_step w a)

  -- the open part, as it is read
  pub visible_at : (a : Visible) → l.next_of w.code (local_in w (opens (f.Asks a) round)) ≡ l.if_left round.left (local_at w round (visible_tree a)) (l.Asking (ask_for a) (with_answer a))
  visible_at (v.Send to p) = visible_next (v.Send to p)
  visible_at (v.Show p) = visible_next (v.Show p)
  visible_at (v.Start m n args) = visible_next (v.Start m n args)

  pub left_leads : (old : l.Local) (next : l.Next) → l.next_of w.code old ≡ l.if_left round.left old next → round.left ≡ 0 → Runs w.code old (record old { course = l.Fell (stop_of (s.Atom 10)) })
  left_leads old next e h = once w.code old (record old { course = l.Fell (stop_of (s.Atom 10)) }) 0 0 (e ∙ ap (λ n. l.if_left n old next) h)

  pub left_next : (old : l.Local) (next : l.Next) → l.next_of w.code old ≡ l.if_left round.left old next → 0 < round.left → l.next_of w.code old ≡ next
  left_next old next e h = e ∙ cases round.left h
    where
      cases : (n : ℕ) → 0 < n → l.if_left n old next ≡ next
      cases zero h = absurd (omega arith)
      cases (suc n) h = refl

  -- without a reduction left the process ends
  pub visible_falls : (a : Visible) → round.left ≡ 0 → Leads w (opens (f.Asks a) round) (falls (s.Atom 10) round)
  visible_falls (v.Send to p) h = left_leads _ _ (visible_next (v.Send to p)) h
  visible_falls (v.Show p) h = left_leads _ _ (visible_next (v.Show p)) h
  visible_falls (v.Start m n args) h = left_leads _ _ (visible_next (v.Start m n args)) h

  -- else it asks
  pub visible_asks : (a : Visible) → 0 < round.left → AsksAt w (opens (f.Asks a) round) (asking_of a)
  visible_asks (v.Send to p) h = (tt, record { next = with_answer (v.Send to p); asks = left_next _ _ (visible_next (v.Send to p)) h })
  visible_asks (v.Show p) h = (tt, record { next = with_answer (v.Show p); asks = left_next _ _ (visible_next (v.Show p)) h })
  visible_asks (v.Start m n args) h = (tt, record { arguments = meanings itself args; are = refl; asks = record { next = with_answer (v.Start m n args); asks = left_next _ _ (visible_next (v.Start m n args)) h } })

-- a value without frames is the process's end
pub value_ends : (w : t.World) (round : Round) (p : Seen (List Bool)) → round.frames ≡ [] → AsksAt w (opens (f.Value p) round) a.Done
value_ends w round p e =
    let P : List Frame → Type 0 = λ fs. AsksAt w (opens (f.Value p) (record round { frames = fs })) a.Done in
    subst P (sym e) (tt, refl)

ending_asks : (code : Module) (old : l.Local) (b : Bool) (reason : Seen (List Bool)) → l.next_of code old ≡ l.raised_where b (value reason) → IsAsking code old (ending_where b reason)
ending_asks code old true reason e = e
ending_asks code old false reason e = e

-- a process that fell ends
pub fallen_asks : (w : t.World) (standing : Standing) (stop : Stop) → standing.course ≡ Fell stop → AsksAt w standing (ending_of stop)
fallen_asks w standing stop e =
    let P : Course → Type 0 = λ course. AsksAt w (record standing { course = course }) (ending_of stop) in
    subst P (sym e) (tt, cases stop)
  where
    cases : (stop : Stop) → IsAsking w.code (local_in w (record standing { course = Fell stop })) (ending_of stop)
    cases (s.Atom atom) = ending_asks w.code (local_in w (record standing { course = Fell (s.Atom atom) })) (l.is_normal (VAtom atom)) (SAtom atom) refl
    cases (s.Of atom p) = ending_asks w.code (local_in w (record standing { course = Fell (s.Of atom p) })) false (STuple (then (SAtom atom) (then p end))) refl
    cases (s.Other p) = ending_asks w.code (local_in w (record standing { course = Fell (s.Other p) })) (l.is_normal (value p)) p refl
    cases s.Limit = refl

-- what a visible act without a reduction left comes to
pub visible_on : (w : t.World) (round : Round) (a : Visible) (new : Standing) → round.left ≡ 0 → new ≡ falls (s.Atom 10) round → Leads w (opens (f.Asks a) round) new
visible_on w round a new none e = subst (λ (x : Standing). Leads w (opens (f.Asks a) round) x) (sym e) (visible_falls w round a none)

pub visible_stage : (w : t.World) (round : Round) (a : Visible) (new : Standing) (asking : Asking) → new ≡ opens (f.Asks a) round → asking ≡ asking_of a → 0 < round.left → IsStage w (opens (f.Asks a) round) (Asks new asking)
visible_stage w round a new asking e h some =
    let P : Standing → Type 0 = λ x. IsStage w (opens (f.Asks a) round) (Asks x asking) in
    let Q : Asking → Type 0 = λ x. IsStage w (opens (f.Asks a) round) (Asks (opens (f.Asks a) round) x) in
    subst P (sym e) (subst Q (sym h) (none w.code (local_in w (opens (f.Asks a) round)), visible_asks w round a some))

pub value_stage : (w : t.World) (round : Round) (frames : List Frame) (p : Seen (List Bool)) (new : Standing) → round.frames ≡ [] → frames ≡ [] → new ≡ opens (f.Value p) (record round { frames = frames })
    → IsStage w (opens (f.Value p) round) (Asks new a.Done)
value_stage w round frames p new e h k =
    let P : Standing → Type 0 = λ x. IsStage w (opens (f.Value p) round) (Asks x a.Done) in
    let Q : List Frame → Type 0 = λ fs. IsStage w (opens (f.Value p) round) (Asks (opens (f.Value p) (record round { frames = fs })) a.Done) in
    subst P (sym k) (subst Q (e ∙ sym h) (none w.code (local_in w (opens (f.Value p) round)), value_ends w round p e))

pub end_stage : (w : t.World) (standing : Standing) (stop : Stop) (asking : Asking) → standing.course ≡ Fell stop → asking ≡ ending_of stop → IsStage w standing (Asks standing asking)
end_stage w standing stop asking e h =
    subst (λ (x : Asking). IsStage w standing (Asks standing x)) (sym h) (none w.code (local_in w standing), fallen_asks w standing stop e)
