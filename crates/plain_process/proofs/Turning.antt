-- How a turn ends, and how a process that took its standing out and put another in goes on.
use Rattle.std.proofs.Common.{◌≡◌, ℕ, ◌+◌, ◌≤◌, Bool, List, refl, ap, sym, subst, ◌∙◌, map}
use Rattle.term_value.specs.Seen.{Seen}
use Rattle.term_value.specs.Step.{World}
use Rattle.code_tree.specs.PlainTerms.{value}
use Rattle.process_acts.specs.Acts.{Runs, IsTurn, Answered, Saw, Filled}
use Rattle.process_acts.proofs.Paths.{runs_joined}
use Rattle.process_acts.specs.declared.asking.Asking.{Asking}
use Rattle.process_acts.specs.declared.asking.Turn.{Turn}
use Rattle.process_acts.specs.declared.asking.Turn.TheVariants as t
use Rattle.plain_process.specs.declared.standing.Standing.{Standing}
use Rattle.plain_process.specs.declared.stage.Stage.{Stage}
use Rattle.plain_process.specs.declared.stage.Stage.TheVariants.{On, Asks}
use Rattle.plain_process.specs.declared.running.Reached.{Reached}
use Rattle.plain_process.specs.Standing.{local_in, Rests}
use Rattle.plain_process.specs.Going.{Leads, AsksAt, IsStage, EndsTurn, IsReached, answered, saw, filled}
use Rattle.plain_process.proofs.Replies.{answers, sees, fills}

pub turn_is : (w : World) (left most : ℕ) (standing : Standing) (turn : Turn) → EndsTurn w left most standing turn → IsTurn w.code (local_in w standing) (Rests standing.course) turn
turn_is w left most standing t.Yields h = tt
turn_is w left most standing (t.Asks asking) h = h

pub turn_yields : (w : World) (left most : ℕ) (standing : Standing) (turn : Turn) → EndsTurn w left most standing turn → turn ≡ t.Yields → standing.left + most ≤ left
turn_yields w left most standing t.Yields h e = h
turn_yields w left most standing (t.Asks asking) h e = absurd (cc)

-- a turn from the standing that was taken out
pub reached_from : (w : World) (most : ℕ) (old taken : Standing) (reached : Reached) → taken ≡ old → IsReached w most taken reached → IsReached w most old reached
reached_from w most old taken reached e h = subst (λ (s : Standing). IsReached w most s reached) e h

pub answers_by : (w : World) (old taken new : Standing) (answer : Seen (List Bool)) → taken ≡ old → new ≡ answered answer taken → Rests old.course → Answered w.code (local_in w old) (value answer) (local_in w new)
answers_by w old taken new answer e h r =
    subst (λ (s : Standing). Answered w.code (local_in w old) (value answer) (local_in w s)) (sym (h ∙ ap (answered answer) e)) (answers w old answer r)

pub sees_by : (w : World) (old taken new : Standing) (messages : List (Seen (List Bool))) → taken ≡ old → new ≡ saw messages taken → Rests old.course → Saw w.code (local_in w old) (map value messages) (local_in w new)
sees_by w old taken new messages e h r =
    subst (λ (s : Standing). Saw w.code (local_in w old) (map value messages) (local_in w s)) (sym (h ∙ ap (saw messages) e)) (sees w old messages r)

pub fills_by : (w : World) (old taken new : Standing) → taken ≡ old → new ≡ filled taken → Rests old.course → Filled w.code (local_in w old) (local_in w new)
fills_by w old taken new e h r =
    subst (λ (s : Standing). Filled w.code (local_in w old) (local_in w s)) (sym (h ∙ ap filled e)) (fills w old r)

-- a stage behind a run
pub leads_on : (w : World) (start standing new : Standing) → Leads w start standing → Leads w standing new → Leads w start new
leads_on w start standing new a b = runs_joined w.code (local_in w start) (local_in w standing) (local_in w new) a b

pub stage_on : (w : World) (start standing new : Standing) (stage : Stage) → stage ≡ On new → Leads w start standing → IsStage w standing stage → Leads w start new
stage_on w start standing new stage e a h = leads_on w start standing new a (subst (λ (s : Stage). IsStage w standing s) e h)

pub stage_asks : (w : World) (most : ℕ) (start standing new : Standing) (asking : Asking) (stage : Stage) → stage ≡ Asks new asking → Leads w start standing → IsStage w standing stage
    → IsReached w most start (record { standing = new; turn = t.Asks asking })
stage_asks w most start standing new asking stage e a h =
    let due : Leads w standing new × AsksAt w new asking = subst (λ (s : Stage). IsStage w standing s) e h in
    (leads_on w start standing new a due.0, due.1)

-- a run that comes to an ask
pub reached_asks : (w : World) (most : ℕ) (start standing new : Standing) (asking : Asking) (stage : Stage) (reached : Reached) → reached ≡ record { standing = new; turn = t.Asks asking } → stage ≡ Asks new asking
    → Leads w start standing → IsStage w standing stage → IsReached w most start reached
reached_asks w most start standing new asking stage reached r e a h = subst (λ (x : Reached). IsReached w most start x) (sym r) (stage_asks w most start standing new asking stage e a h)

-- a run that yields
pub reached_yields : (w : World) (most first : ℕ) (start standing new : Standing) (stage : Stage) (reached : Reached) → reached ≡ record { standing = new; turn = t.Yields } → stage ≡ On new → first ≡ start.left → new.left + most ≤ first
    → Leads w start standing → IsStage w standing stage → IsReached w most start reached
reached_yields w most first start standing new stage reached r e f u a h =
    subst (λ (x : Reached). IsReached w most start x) (sym r) (stage_on w start standing new stage e a h, subst (λ n. new.left + most ≤ n) f u)
