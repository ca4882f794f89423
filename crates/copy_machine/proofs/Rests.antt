-- What comes of a process that is stopped, and which process is at rest.
use Rattle.std.proofs.Common.{◌≡◌, ℕ, ◌<◌, Bool, true, false, List, [], ◌∷◌, length, map, Some, refl, sym, ap, ◌∙◌, arith}
use Rattle.term_value.specs.Value.{Value}
use Rattle.term_value.specs.Seen.{Seen}
use Rattle.term_value.specs.Tree.{Module}
use Rattle.term_value.specs.Local.{Local, NextAsk}
use Rattle.term_value.specs.AskOf.{ask_of}
use Rattle.term_value.specs.Machine as m
use Rattle.term_value.specs.declared.entry.Entry.TheVariants.{Stopped, Gone}
use Rattle.code_tree.specs.PlainTerms.{value}
use Rattle.process_acts.specs.declared.asking.Asking as asking
use Rattle.process_acts.specs.declared.asking.Asking.TheVariants as a
use Rattle.copy_machine.specs.Asks.{is_more}
use Rattle.copy_machine.specs.Entering.{Conditions, Acts, Settles, Rests}
use Rattle.copy_machine.specs.declared.act.Act.TheVariants.{Refused, Ends}
use Rattle.copy_machine.specs.declared.actor.Actor.{Actor}
use Rattle.copy_machine.specs.declared.ending.Ending.TheVariants as e
use Rattle.copy_machine.proofs.Acts.{Tells, tells, kept, asks_in}

holds_if : (b : Bool) (x : m.Machine) → b ≡ true → m.if_fits b x ≡ Some x
holds_if b x e = ap (λ (y : Bool). m.if_fits y x) e

for_more : (ask : asking.Asking) (n : NextAsk) → Tells ask n → is_more (Some ask) ≡ m.is_for_more n
for_more (a.Send to v) n t = sym (ap m.is_for_more t.1)
for_more (a.Show v) n t = sym (ap m.is_for_more t.1)
for_more (a.Start module_name function vs) n t = sym (ap m.is_for_more t.1)
for_more a.More n t = sym (ap m.is_for_more t.1)
for_more a.Done n t = sym (ap m.is_for_more t)
for_more (a.Raised reason) n t = sym (ap m.is_for_more t)

with_none : (code : Module) (l : Local) (us : List (Seen (List Bool))) → length us ≡ 0 → m.is_at_rest code (m.Running l (map value us)) ≡ m.is_for_more (ask_of code l)
with_none code l [] e = refl
with_none code l (u ∷ us) e = absurd (omega arith)

with_some : (code : Module) (l : Local) (us : List (Seen (List Bool))) → 0 < length us → m.is_at_rest code (m.Running l (map value us)) ≡ false
with_some code l [] e = absurd (omega arith)
with_some code l (u ∷ us) e = refl

module _ {P : Type 0} (code_of : P → Module) (local_of : P → Local) (waits_of : P → Type 0) where
  pub stop_some : (s : Conditions) (pid : ℕ) (old : Actor P) → Acts code_of local_of waits_of s (Stopped pid) old (Ends e.Waiting) old
  stop_some s pid old (m.Running l vs) h = (m.Waiting, refl, λ machine i. ap (m.stops machine pid) i.stands ∙ holds_if _ _ i.timely)
  stop_some s pid old (m.Over how) h = absurd h
  stop_some s pid old (m.Left how) h = absurd h

  pub gone_none : (s : Conditions) (pid births drops moved : ℕ) (old : Actor P) → Acts code_of local_of waits_of s (Gone pid births drops moved) old Refused old
  gone_none s pid births drops moved old (m.Running l vs) h = (h, λ machine i. ap (m.leaves machine pid) i.stands)
  gone_none s pid births drops moved old (m.Over how) h = absurd h
  gone_none s pid births drops moved old (m.Left how) h = absurd h

  pub rests_unseen : (old : Actor P) → 0 < length old.unseen.items → Rests code_of local_of waits_of old false old
  rests_unseen old some code (m.Running l vs) h = (h, sym (ap (λ (us : List Value). m.is_at_rest code (m.Running l us)) h.unseen ∙ with_some code l old.unseen.items some))
  rests_unseen old some code (m.Over how) h = absurd h
  rests_unseen old some code (m.Left how) h = absurd h

  pub rests_settled : (more : Bool) (old new : Actor P) → more ≡ is_more new.ask → length old.unseen.items ≡ 0 → Settles code_of local_of waits_of old new → Rests code_of local_of waits_of old more new
  rests_settled more old new is no_more g code (m.Running l vs) h =
      let k = kept code_of local_of waits_of code l vs old new h g in
      let t = tells code l (local_of new.process) k.runs g.ask (asks_in code_of local_of waits_of code l vs old new h g) in (
        k,
        is ∙ ap is_more g.is ∙ for_more g.ask (ask_of code l) t ∙ sym (ap (λ (us : List Value). m.is_at_rest code (m.Running l us)) h.unseen ∙ with_none code l old.unseen.items no_more),
      )
  rests_settled more old new is no_more g code (m.Over how) h = absurd h
  rests_settled more old new is no_more g code (m.Left how) h = absurd h
