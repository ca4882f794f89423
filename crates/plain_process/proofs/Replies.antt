-- A process that rests goes on with the answer to its ask as the definitions do.
use Rattle.std.proofs.Common.{◌≡◌, ℕ, zero, suc, ◌-◌, ◌++◌, Bool, true, false, List, [], ◌∷◌, refl, ap, sym, ◌∙◌, map}
use Rattle.erl_syntax.specs.Atoms.{a_undef}
use Rattle.term_value.specs.Value.{Value, VAtom}
use Rattle.term_value.specs.Seen.{Seen, SAtom}
use Rattle.term_value.specs.Result.{Stop, Raise, Limit}
use Rattle.term_value.specs.Tree.{Tree, Val, Clauses, Receive}
use Rattle.term_value.specs.PutIn.{in_clauses}
use Rattle.term_value.specs.Step as t
use Rattle.term_value.specs.Local as l
use Rattle.term_layers.specs.Layers.{plug}
use Rattle.code_tree.specs.PlainTerms.{value}
use Rattle.code_tree.specs.Reading.{clauses_of}
use Rattle.code_match.specs.Binds.{bounds}
use Rattle.process_acts.specs.Acts.{Answered, Saw, Filled}
use Rattle.plain_moves.specs.Reading.{stop_of, visible_tree}
use Rattle.plain_moves.specs.declared.focus.Focus.TheVariants as f
use Rattle.plain_process.specs.declared.standing.Course.{Course}
use Rattle.plain_process.specs.declared.standing.Course.TheVariants.{At, Fell}
use Rattle.plain_process.specs.declared.standing.Standing.{Standing}
use Rattle.plain_process.specs.declared.standing.Round.{Round}
use Rattle.plain_process.specs.Standing.{local_in, Rests}
use Rattle.plain_process.specs.Going.{answered, saw, filled}
use Rattle.plain_process.proofs.Moving.{layers, local_at}
use Rattle.plain_process.proofs.Asking.{ask_for, with_answer, visible_at}
use Rattle.plain_process.proofs.Receives.{clauses, found, receive_next}

-- what is next where no reduction is left is no ask
left_asks : (left : ℕ) (old : l.Local) (due : l.Next) (ask : t.Ask) (next : Value → l.Local) → l.if_left left old due ≡ l.Asking ask next → due ≡ l.Asking ask next
left_asks zero old due ask next e = absurd (cc)
left_asks (suc left) old due ask next e = e

left_more : (left : ℕ) (old : l.Local) (due : l.Next) (state : l.Local) → l.if_left left old due ≡ l.ForMore state → due ≡ l.ForMore state
left_more zero old due state e = absurd (cc)
left_more (suc left) old due state e = e

-- the end of a process is no ask
ended_asks : (stop : Stop) (ask : t.Ask) (next : Value → l.Local) → l.ended stop ≡ l.Asking ask next → ⊥
ended_asks Limit ask next e = cc
ended_asks (Raise reason) ask next e = cases (l.is_normal reason) e
  where
    cases : (b : Bool) → l.raised_where b reason ≡ l.Asking ask next → ⊥
    cases true e = cc
    cases false e = cc

ended_more : (stop : Stop) (state : l.Local) → l.ended stop ≡ l.ForMore state → ⊥
ended_more Limit state e = cc
ended_more (Raise reason) state e = cases (l.is_normal reason) e
  where
    cases : (b : Bool) → l.raised_where b reason ≡ l.ForMore state → ⊥
    cases true e = cc
    cases false e = cc

-- what a receive comes to is no ask that is answered
seen_asks : (old : l.Local) (next : Tree → Tree) (seen : l.Seen) (ask : t.Ask) (after : Value → l.Local) → l.of_seen old next seen ≡ l.Asking ask after → ⊥
seen_asks old next (l.Takes body others) ask after e = cc
seen_asks old next l.NoMessage ask after e = let more : l.ForMore (record old { left = old.left - 1 }) ≡ l.Asking ask after = left_asks old.left old _ ask after e in cc
seen_asks old next l.SeenLimit ask after e = cc

seen_more : (old : l.Local) (next : Tree → Tree) (seen : l.Seen) (state : l.Local) → l.of_seen old next seen ≡ l.ForMore state → record old { left = old.left - 1 } ≡ state
seen_more old next (l.Takes body others) state e = absurd (cc)
seen_more old next l.NoMessage state e = let more : l.ForMore (record old { left = old.left - 1 }) ≡ l.ForMore state = left_more old.left old _ state e in cc
seen_more old next l.SeenLimit state e = absurd (cc)

-- what follows an ask, and that a process with an answer is it
module _ (w : t.World) (seen : List (Seen (List Bool))) (left : ℕ) where
  abbrev standing_at : Course → Standing
  standing_at course = record { course = course; seen = seen; left = left }

  -- a visible act is the ask
  asked_is : (course : Course) (ask : t.Ask) (next : Value → l.Local) → Rests course → l.next_of w.code (local_in w (standing_at course)) ≡ l.Asking ask next
      → (answer : Seen (List Bool)) → local_in w (answered answer (standing_at course)) ≡ next (value answer)
  asked_is (At (f.Goes part) frames) ask next r e answer = absurd r
  asked_is (At (f.Value p) []) ask next r e answer = absurd (cc)
  asked_is (At (f.Value p) (frame ∷ frames)) ask next r e answer = absurd r
  asked_is (At (f.Asks a) frames) ask next r e answer =
      let round : Round = record { frames = frames; seen = seen; left = left } in
      let due : l.Asking (ask_for a) (with_answer w round a) ≡ l.Asking ask next = left_asks left _ _ ask next (sym (visible_at w round a) ∙ e) in
      let same : with_answer w round a ≡ next = cc in
      ap (λ (g : Value → l.Local). g (value answer)) same
  asked_is (At (f.Receives ks b) frames) ask next r e answer =
      let round : Round = record { frames = frames; seen = seen; left = left } in
      absurd (seen_asks (local_at w round (Receive (clauses w round ks b))) (λ t. plug (layers w round) t) (found w round ks b) ask next (sym (receive_next w round ks b (found w round ks b) refl) ∙ e))
  asked_is (Fell stop) ask next r e answer = absurd (ended_asks (stop_of stop) ask next e)

  messages_are : (course : Course) (state : l.Local) → Rests course → l.next_of w.code (local_in w (standing_at course)) ≡ l.ForMore state → record (local_in w (standing_at course)) { left = left - 1 } ≡ state
  messages_are (At (f.Goes part) frames) state r e = absurd r
  messages_are (At (f.Value p) []) state r e = absurd (cc)
  messages_are (At (f.Value p) (frame ∷ frames)) state r e = absurd r
  messages_are (At (f.Asks a) frames) state r e =
      let round : Round = record { frames = frames; seen = seen; left = left } in
      let due : l.Asking (ask_for a) (with_answer w round a) ≡ l.ForMore state = left_more left _ _ state (sym (visible_at w round a) ∙ e) in
      absurd (cc)
  messages_are (At (f.Receives ks b) frames) state r e =
      let round : Round = record { frames = frames; seen = seen; left = left } in
      seen_more (local_at w round (Receive (clauses w round ks b))) (λ t. plug (layers w round) t) (found w round ks b) state (sym (receive_next w round ks b (found w round ks b) refl) ∙ e)
  messages_are (Fell stop) state r e = absurd (ended_more (stop_of stop) state e)

pub answers : (w : t.World) (standing : Standing) (answer : Seen (List Bool)) → Rests standing.course → Answered w.code (local_in w standing) (value answer) (local_in w (answered answer standing))
answers w standing answer r = λ ask next e. asked_is w standing.seen standing.left standing.course ask next r e answer

-- at a limit in place of an answer
pub fills : (w : t.World) (standing : Standing) → Rests standing.course → Filled w.code (local_in w standing) (local_in w (filled standing))
fills w standing r = λ ask next e. ap (λ (k : l.Local). record k { course = l.Fell Limit }) (asked_is w standing.seen standing.left standing.course ask next r e (SAtom a_undef))

map-append : (xs ys : List (Seen (List Bool))) → map value (xs ++ ys) ≡ map value xs ++ map value ys
map-append [] ys = refl
map-append (x ∷ xs) ys = ap (λ vs. value x ∷ vs) (map-append xs ys)

pub sees : (w : t.World) (standing : Standing) (messages : List (Seen (List Bool))) → Rests standing.course → Saw w.code (local_in w standing) (map value messages) (local_in w (saw messages standing))
sees w standing messages r = λ state e.
    ap (λ vs. record (local_in w standing) { seen = vs; left = standing.left - 1 }) (map-append standing.seen messages)
    ∙ ap (λ (k : l.Local). record k { seen = k.seen ++ map value messages }) (messages_are w standing.seen standing.left standing.course state r e)
