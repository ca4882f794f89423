-- What a receive does, by what it finds among the messages that were seen.
use Rattle.std.proofs.Common.{◌≡◌, ℕ, zero, suc, ◌-◌, ◌<◌, List, Bool, refl, ap, sym, subst, ◌∙◌, map, arith, Bor}
use Rattle.std.specs.Prelude.{remove}
use Rattle.term_value.specs.Seen.{Seen}
use Rattle.term_value.specs.Tree.{Tree, Clauses, Receive}
use Rattle.term_value.specs.PutIn.{put_in, in_clauses}
use Rattle.term_value.specs.Step as t
use Rattle.term_value.specs.Local as l
use Rattle.term_layers.specs.Layers.{plug}
use Rattle.code_tree.specs.PlainTerms.{value}
use Rattle.code_tree.specs.Reading.{clauses_of, body_of}
use Rattle.code_tree.specs.declared.clause.Clause.{Clause}
use Rattle.code_tree.specs.declared.clause.Line.{Line}
use Rattle.code_match.specs.Binds.{bounds}
use Rattle.process_acts.specs.Acts.{AwaitsMessages}
use Rattle.process_acts.specs.declared.asking.Asking.TheVariants as a
use Rattle.plain_moves.specs.Reading.{open_tree}
use Rattle.plain_moves.specs.declared.focus.Focus.TheVariants as f
use Rattle.plain_moves.specs.declared.focus.Open.TheVariants as o
use Rattle.plain_moves.specs.declared.focus.Stop.TheVariants as s
use Rattle.plain_process.specs.declared.standing.Standing.{Standing}
use Rattle.plain_process.specs.declared.standing.Round.{Round}
use Rattle.plain_process.specs.Standing.{local_in}
use Rattle.plain_process.specs.Going.{opens, falls, Leads, AsksAt, IsStage}
use Rattle.plain_process.specs.Looking.{found_in}
use Rattle.plain_process.specs.declared.looking.Found.{Found}
use Rattle.plain_process.specs.declared.looking.Found.TheVariants as what
use Rattle.plain_process.specs.declared.stage.Stage.TheVariants.{Asks}
use Rattle.process_acts.proofs.Paths.{none}
use Rattle.plain_process.proofs.Moving.{once, layers, local_at, next_at}
use Rattle.plain_process.proofs.Asking.{left_leads, left_next}

module _ (w : t.World) (round : Round) (ks : Bor (List Clause)) (b : List (ℕ × Seen (List Bool))) where
  abbrev pub clauses : Clauses
  clauses = in_clauses (bounds b) (clauses_of ks.now)

  abbrev pub found : l.Seen
  found = l.looked w clauses (map value round.seen)

  pub receive_next : (due : l.Seen) → due ≡ found → l.next_of w.code (local_at w round (Receive clauses)) ≡ l.of_seen (local_at w round (Receive clauses)) (λ t. plug (layers w round) t) due
  receive_next due e = next_at w round (Receive clauses) (t.Looks clauses (λ t. t)) refl ∙ ap (l.of_seen (local_at w round (Receive clauses)) (λ t. plug (layers w round) t)) (sym e)

  -- the message is removed, and the clause's body opens
  pub take_leads : (index : ℕ) (bs : List (ℕ × Seen (List Bool))) (lines : Bor (List Line)) → l.Takes (put_in (bounds bs) (body_of lines.now)) (map value (remove round.seen index)) ≡ found
      → Leads w (opens (f.Receives ks b) round) (opens (f.Goes (o.Body lines bs)) (record round { seen = remove round.seen index }))
  take_leads index bs lines e = once w.code (local_at w round (Receive clauses)) (local_in w (opens (f.Goes (o.Body lines bs)) (record round { seen = remove round.seen index }))) 0 0 (receive_next _ e)

  -- a bound was passed
  pub limit_leads : l.SeenLimit ≡ found → Leads w (opens (f.Receives ks b) round) (falls s.Limit round)
  limit_leads e = once w.code (local_at w round (Receive clauses)) (local_in w (falls s.Limit round)) 0 0 (receive_next _ e)

  -- without a reduction left the process ends
  pub wait_leads : l.NoMessage ≡ found → round.left ≡ 0 → Leads w (opens (f.Receives ks b) round) (falls (s.Atom 10) round)
  wait_leads e h = left_leads w round (local_at w round (Receive clauses)) _ (receive_next _ e) h

  -- else it asks for more messages
  pub wait_asks : l.NoMessage ≡ found → 0 < round.left → AsksAt w (opens (f.Receives ks b) round) a.More
  wait_asks e h = (tt, record { state = record (local_at w round (Receive clauses)) { left = round.left - 1 }; asks = left_next w round (local_at w round (Receive clauses)) _ (receive_next _ e) h })

  pub take_on : (sought : Found) (index : ℕ) (bs : List (ℕ × Seen (List Bool))) (lines : Bor (List Line)) (new : Standing) → found_in round.seen sought ≡ found → sought ≡ what.Takes index bs lines
      → new ≡ opens (f.Goes (o.Body lines bs)) (record round { seen = remove round.seen index }) → Leads w (opens (f.Receives ks b) round) new
  take_on sought index bs lines new e k n =
      subst (λ (x : Standing). Leads w (opens (f.Receives ks b) round) x) (sym n) (take_leads index bs lines (sym (ap (found_in round.seen) k) ∙ e))

  pub limit_on : (sought : Found) (new : Standing) → found_in round.seen sought ≡ found → sought ≡ what.Limit → new ≡ falls s.Limit round → Leads w (opens (f.Receives ks b) round) new
  limit_on sought new e k n = subst (λ (x : Standing). Leads w (opens (f.Receives ks b) round) x) (sym n) (limit_leads (sym (ap (found_in round.seen) k) ∙ e))

  pub nothing_found : (sought : Found) → found_in round.seen sought ≡ found → sought ≡ what.NoMessage → l.NoMessage ≡ found
  nothing_found sought e k = sym (ap (found_in round.seen) k) ∙ e

  pub wait_on : (new : Standing) → l.NoMessage ≡ found → round.left ≡ 0 → new ≡ falls (s.Atom 10) round → Leads w (opens (f.Receives ks b) round) new
  wait_on new e z n = subst (λ (x : Standing). Leads w (opens (f.Receives ks b) round) x) (sym n) (wait_leads e z)

  pub wait_stage : (new : Standing) → l.NoMessage ≡ found → 0 < round.left → new ≡ opens (f.Receives ks b) round → IsStage w (opens (f.Receives ks b) round) (Asks new a.More)
  wait_stage new e some n =
      subst (λ (x : Standing). IsStage w (opens (f.Receives ks b) round) (Asks x a.More)) (sym n) (none w.code (local_in w (opens (f.Receives ks b) round)), wait_asks e some)
