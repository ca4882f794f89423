-- What a process comes to by its moves and by the answers to its asks (this project's own).
use Rattle.std.specs.Prelude.{◌≡◌, ℕ, ◌+◌, ◌-◌, ◌≤◌, ◌++◌, Bool, true, false, List, [], ◌∷◌, nat_lt}
use Rattle.erl_syntax.specs.Atoms.{a_normal, a_reductions, a_system_limit}
use Rattle.term_value.specs.Seen.{Seen, SAtom, STuple, SList, then, end}
use Rattle.term_value.specs.Step.{World}
use Rattle.term_value.specs.Local.{is_normal}
use Rattle.code_tree.specs.PlainTerms.{value}
use Rattle.process_acts.specs.Acts.{Runs, IsAsking}
use Rattle.process_acts.specs.declared.asking.Asking.{Asking}
use Rattle.process_acts.specs.declared.asking.Asking.TheVariants as a
use Rattle.process_acts.specs.declared.asking.Turn.{Turn}
use Rattle.process_acts.specs.declared.asking.Turn.TheVariants as t
use Rattle.plain_moves.specs.declared.focus.Focus.{Focus}
use Rattle.plain_moves.specs.declared.focus.Focus.TheVariants as f
use Rattle.plain_moves.specs.declared.focus.Stop.{Stop}
use Rattle.plain_moves.specs.declared.focus.Stop.TheVariants as s
use Rattle.plain_moves.specs.declared.focus.Visible.{Visible}
use Rattle.plain_moves.specs.declared.focus.Visible.TheVariants as v
use Rattle.plain_moves.specs.declared.moves.Move.{Move}
use Rattle.plain_moves.specs.declared.moves.Move.TheVariants as m
use Rattle.plain_process.specs.declared.standing.Course.{Course}
use Rattle.plain_process.specs.declared.standing.Course.TheVariants.{At, Fell}
use Rattle.plain_process.specs.declared.standing.Standing.{Standing}
use Rattle.plain_process.specs.declared.standing.Round.{Round}
use Rattle.plain_process.specs.declared.stage.Stage.{Stage}
use Rattle.plain_process.specs.declared.stage.Stage.TheVariants.{On, Asks}
use Rattle.plain_process.specs.declared.running.Reached.{Reached}
use Rattle.plain_process.specs.Standing.{local_in, Rests}

-- this is open in what stands round it
abbrev pub opens : Focus → Round → Standing
opens focus round = record { course = At focus round.frames; seen = round.seen; left = round.left }

-- it fell
abbrev pub falls : Stop → Round → Standing
falls stop round = record { course = Fell stop; seen = round.seen; left = round.left }

-- a course at so many reductions, or the process ended where fewer are left
abbrev pub spent_where : Bool → ℕ → Standing → Standing
spent_where true cost standing = record standing { course = Fell (s.Atom a_reductions) }
spent_where false cost standing = record standing { left = standing.left - cost }

abbrev pub spent : ℕ → Standing → Standing
spent cost standing = spent_where (nat_lt standing.left cost) cost standing

abbrev pub settled : Move → Round → Standing
settled (m.Enters frame part) round = record { course = At (f.Goes part) (frame ∷ round.frames); seen = round.seen; left = round.left }
settled (m.Becomes focus) round = opens focus round
settled (m.Goes cost focus) round = spent cost (opens focus round)
settled (m.Falls cost stop) round = spent cost (falls stop round)

-- what an act that is visible asks for
abbrev pub asking_of : Visible → Asking
asking_of (v.Send to p) = a.Send to p
asking_of (v.Show p) = a.Show p
asking_of (v.Start m n args) = a.Start m n (SList args)

abbrev pub ending_where : Bool → Seen (List Bool) → Asking
ending_where true reason = a.Done
ending_where false reason = a.Raised reason

-- `normal` as a reason is a normal end
abbrev pub ending_for : Seen (List Bool) → Asking
ending_for reason = ending_where (is_normal (value reason)) reason

-- what a process that fell asks for
abbrev pub ending_of : Stop → Asking
ending_of (s.Atom atom) = ending_for (SAtom atom)
ending_of (s.Of atom p) = ending_for (STuple (then (SAtom atom) (then p end)))
ending_of (s.Other p) = ending_for p
ending_of s.Limit = a.Raised (SAtom a_system_limit)

-- contractions lead from a standing to another
abbrev pub Leads : World → Standing → Standing → Type 0
Leads w old new = Runs w.code (local_in w old) (local_in w new)

-- it rests at this ask
abbrev pub AsksAt : World → Standing → Asking → Type 0
AsksAt w standing asking = Rests standing.course × IsAsking w.code (local_in w standing) asking

-- contractions lead on, to an ask where there is one
abbrev pub IsStage : World → Standing → Stage → Type 0
IsStage w old (On new) = Leads w old new
IsStage w old (Asks new asking) = Leads w old new × AsksAt w new asking

-- how a turn ends: where it yields, so many reductions were used
abbrev pub EndsTurn : World → ℕ → ℕ → Standing → Turn → Type 0
EndsTurn w left most standing t.Yields = standing.left + most ≤ left
EndsTurn w left most standing (t.Asks asking) = AsksAt w standing asking

abbrev pub IsReached : World → ℕ → Standing → Reached → Type 0
IsReached w most old reached = Leads w old reached.standing × EndsTurn w old.left most reached.standing reached.turn

-- one reduction less, and an answer where the ask stood
abbrev pub answered_course : Seen (List Bool) → Course → Course
answered_course answer (At focus frames) = At (f.Value answer) frames
answered_course answer (Fell stop) = Fell stop

abbrev pub answered : Seen (List Bool) → Standing → Standing
answered answer standing = record { course = answered_course answer standing.course; seen = standing.seen; left = standing.left - 1 }

-- one reduction less, and these messages behind those that were seen
abbrev pub saw : List (Seen (List Bool)) → Standing → Standing
saw messages standing = record { course = standing.course; seen = standing.seen ++ messages; left = standing.left - 1 }

-- one reduction less, and a limit where the ask stood
abbrev pub filled : Standing → Standing
filled standing = record { course = Fell s.Limit; seen = standing.seen; left = standing.left - 1 }
