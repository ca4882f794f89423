-- What comes of an actor's acts.
use Rattle.std.proofs.Common.{◌≡◌, ℕ, ◌+◌, Bool, true, false, ◌&&◌, List, [], ◌++◌, length, map, Option, Some, None, is_some, refl, sym, ap, ◌∙◌, subst}
use Rattle.std.specs.Prelude.{nat_eq, nat_le}
use Rattle.std.proofs.lemmas.Bool.{eqb-true, eq-eqb}
use Rattle.std.proofs.lemmas.List.{length-map}
use Rattle.term_value.specs.Result.{Limit, truth}
use Rattle.term_value.specs.Texts.{text}
use Rattle.term_value.specs.Value.{Value, VAtom, VPid, VList, Values, count}
use Rattle.erl_syntax.specs.Atoms.{a_undef}
use Rattle.term_value.specs.Seen.{Seen}
use Rattle.term_value.specs.Tree.{Module}
use Rattle.term_value.specs.Step.{Ask, SendTo, Show, Start, name_in}
use Rattle.term_value.specs.Local.{Local, Fell, next_of, NextAsk, Wants, WantsMore, EndsDone, EndsRaised, asked}
use Rattle.term_value.specs.AskOf.{ask_of}
use Rattle.term_value.specs.Machine as m
use Rattle.term_value.specs.declared.entry.Entry.TheVariants.{Sent, Saw, Shown, Started, Full, Ended}
use Rattle.term_value.specs.declared.entry.Entry.{Entry}
use Rattle.term_laws.proofs.Finishes.{ask_reached}
use Rattle.code_tree.specs.PlainTerms.{value}
use Rattle.process_acts.specs.Acts as acts
use Rattle.process_acts.specs.Acts.{Runs, AsksFor, AsksStart, AwaitsAnswer, AwaitsMessages, IsAsking, IsFirst}
use Rattle.process_acts.specs.declared.asking.Asking as asking
use Rattle.process_acts.specs.declared.asking.Asking.TheVariants as a
use Rattle.copy_machine.specs.Asks.{if_named, message_to, shown_by, called_by, is_start, is_more, ended_by, arguments_of}
use Rattle.copy_machine.specs.Following.{StandsAt, Plays, ending_of}
use Rattle.copy_machine.specs.Entering.{Conditions, IsIn, Acts, Settles, Answers, pid_of}
use Rattle.copy_machine.specs.declared.act.Act.TheVariants.{Refused, Goes, Ends}
use Rattle.copy_machine.specs.declared.act.Effect.TheVariants as f
use Rattle.copy_machine.specs.declared.actor.Actor.{Actor}
use Rattle.copy_machine.specs.declared.call.Call.{Call}
use Rattle.copy_machine.specs.Starting.{Begins}
use Rattle.process_acts.specs.declared.process.First.{First}
use Rattle.copy_machine.specs.declared.ending.Ending.{Ending}
use Rattle.copy_machine.specs.declared.ending.Ending.TheVariants as ends
use Rattle.process_acts.proofs.Paths.{none, on_from}

-- ---- What a process asks for that came to its ask

asked_for : (code : Module) (l k : Local) (ask : Ask) → Runs code l k → (h : AsksFor code k ask) → ask_of code l ≡ Wants ask h.next
asked_for code l k ask r h = sym (ask_reached code l k r.cost r.made (Wants ask h.next) r.path (ap asked h.asks))

start_asked : (code : Module) (k : Local) (module_name function : ℕ) (list : Value) → AsksStart code k module_name function list → AsksFor code k (Start module_name function (arguments_of list))
start_asked code k module_name function list h = subst (λ (vs : Values). AsksFor code k (Start module_name function vs)) (sym (ap arguments_of h.are)) h.asks

abbrev pub Tells : asking.Asking → NextAsk → Type 0
Tells (a.Send to v) n = (next : Value → Local) × (n ≡ Wants (SendTo to (value v)) next)
Tells (a.Show v) n = (next : Value → Local) × (n ≡ Wants (Show (value v)) next)
Tells (a.Start module_name function vs) n = (next : Value → Local) × (n ≡ Wants (Start module_name function (arguments_of (value vs))) next)
Tells a.More n = (state : Local) × (n ≡ WantsMore state)
Tells a.Done n = n ≡ EndsDone
Tells (a.Raised reason) n = n ≡ EndsRaised (value reason)

pub tells : (code : Module) (l k : Local) → Runs code l k → (ask : asking.Asking) → IsAsking code k ask → Tells ask (ask_of code l)
tells code l k r (a.Send to v) h = (h.next, asked_for code l k (SendTo to (value v)) r h)
tells code l k r (a.Show v) h = (h.next, asked_for code l k (Show (value v)) r h)
tells code l k r (a.Start module_name function vs) h =
    let b = start_asked code k module_name function (value vs) h in (b.next, asked_for code l k (Start module_name function (arguments_of (value vs))) r b)
tells code l k r a.More h = (h.state, sym (ask_reached code l k r.cost r.made (WantsMore h.state) r.path (ap asked h.asks)))
tells code l k r a.Done h = sym (ask_reached code l k r.cost r.made EndsDone r.path (ap asked h))
tells code l k r (a.Raised reason) h = sym (ask_reached code l k r.cost r.made (EndsRaised (value reason)) r.path (ap asked h))

-- ---- Which entries no machine allows

fails_if : (b : Bool) (x : m.Machine) → b ≡ false → m.if_fits b x ≡ None
fails_if b x e = ap (λ (y : Bool). m.if_fits y x) e

holds_if : (b : Bool) (x : m.Machine) → b ≡ true → m.if_fits b x ≡ Some x
holds_if b x e = ap (λ (y : Bool). m.if_fits y x) e

refused_if : (b : Bool) (v : Seen (List Bool)) (x : m.Machine) → if_named b v ≡ None → m.if_fits b x ≡ None
refused_if true v x e = absurd (cc e)
refused_if false v x e = refl

send_refused : (ask : asking.Asking) (n : NextAsk) (to : ℕ) → message_to to (Some ask) ≡ None → Tells ask n → (machine : m.Machine) (pid : ℕ) → m.sends machine pid to (Some n) ≡ None
send_refused (a.Send receiver v) n to e t machine pid = ap (λ (x : NextAsk). m.sends machine pid to (Some x)) t.1 ∙ refused_if (nat_eq receiver to) v _ e
send_refused (a.Show v) n to e t machine pid = ap (λ (x : NextAsk). m.sends machine pid to (Some x)) t.1
send_refused (a.Start module_name function vs) n to e t machine pid = ap (λ (x : NextAsk). m.sends machine pid to (Some x)) t.1
send_refused a.More n to e t machine pid = ap (λ (x : NextAsk). m.sends machine pid to (Some x)) t.1
send_refused a.Done n to e t machine pid = ap (λ (x : NextAsk). m.sends machine pid to (Some x)) t
send_refused (a.Raised reason) n to e t machine pid = ap (λ (x : NextAsk). m.sends machine pid to (Some x)) t

show_refused : (ask : asking.Asking) (n : NextAsk) → shown_by (Some ask) ≡ None → Tells ask n → (machine : m.Machine) (pid : ℕ) → m.shows machine pid (Some n) ≡ None
show_refused (a.Send receiver v) n e t machine pid = ap (λ (x : NextAsk). m.shows machine pid (Some x)) t.1
show_refused (a.Show v) n e t machine pid = absurd (cc e)
show_refused (a.Start module_name function vs) n e t machine pid = ap (λ (x : NextAsk). m.shows machine pid (Some x)) t.1
show_refused a.More n e t machine pid = ap (λ (x : NextAsk). m.shows machine pid (Some x)) t.1
show_refused a.Done n e t machine pid = ap (λ (x : NextAsk). m.shows machine pid (Some x)) t
show_refused (a.Raised reason) n e t machine pid = ap (λ (x : NextAsk). m.shows machine pid (Some x)) t

see_refused : (count : ℕ) (ask : asking.Asking) (n : NextAsk) → is_more (Some ask) ≡ false → Tells ask n → (machine : m.Machine) (pid : ℕ) → m.sees machine pid count (Some n) ≡ None
see_refused count (a.Send receiver v) n e t machine pid = ap (λ (x : NextAsk). m.sees machine pid count (Some x)) t.1
see_refused count (a.Show v) n e t machine pid = ap (λ (x : NextAsk). m.sees machine pid count (Some x)) t.1
see_refused count (a.Start module_name function vs) n e t machine pid = ap (λ (x : NextAsk). m.sees machine pid count (Some x)) t.1
see_refused count a.More n e t machine pid = absurd (cc e)
see_refused count a.Done n e t machine pid = ap (λ (x : NextAsk). m.sees machine pid count (Some x)) t
see_refused count (a.Raised reason) n e t machine pid = ap (λ (x : NextAsk). m.sees machine pid count (Some x)) t

end_refused : (code : Module) (ask : asking.Asking) (n : NextAsk) → ended_by code (Some ask) ≡ None → Tells ask n → (machine : m.Machine) (pid : ℕ) → m.ends machine pid (Some n) ≡ None
end_refused code (a.Send receiver v) n e t machine pid = ap (λ (x : NextAsk). m.ends machine pid (Some x)) t.1
end_refused code (a.Show v) n e t machine pid = ap (λ (x : NextAsk). m.ends machine pid (Some x)) t.1
end_refused code (a.Start module_name function vs) n e t machine pid = ap (λ (x : NextAsk). m.ends machine pid (Some x)) t.1
end_refused code a.More n e t machine pid = ap (λ (x : NextAsk). m.ends machine pid (Some x)) t.1
end_refused code a.Done n e t machine pid = absurd (cc e)
end_refused code (a.Raised reason) n e t machine pid = absurd (cc e)

end_told : (code : Module) (ask : asking.Asking) (n : NextAsk) (ending : Ending) → ended_by code (Some ask) ≡ Some ending → Tells ask n
    → (how : m.End) × (ending ≡ ending_of code how) × ((machine : m.Machine) (pid : ℕ) → m.ends machine pid (Some n) ≡ Some (m.with_process machine pid (m.Over how)))
end_told code (a.Send receiver v) n ending e t = absurd (cc e)
end_told code (a.Show v) n ending e t = absurd (cc e)
end_told code (a.Start module_name function vs) n ending e t = absurd (cc e)
end_told code a.More n ending e t = absurd (cc e)
end_told code a.Done n ending e t = let same : ending ≡ ends.Normal = cc e in (m.Normal, same, λ machine pid. ap (λ (x : NextAsk). m.ends machine pid (Some x)) t)
end_told code (a.Raised reason) n ending e t =
    let same : ending ≡ ends.Exit (text (name_in code) (value reason)) = cc e in (m.Exit (value reason), same, λ machine pid. ap (λ (x : NextAsk). m.ends machine pid (Some x)) t)

pub more_told : (code : Module) (k : Local) (ask : asking.Asking) → is_more (Some ask) ≡ true → IsAsking code k ask → AwaitsMessages code k
more_told code k (a.Send receiver v) e h = absurd (cc e)
more_told code k (a.Show v) e h = absurd (cc e)
more_told code k (a.Start module_name function vs) e h = absurd (cc e)
more_told code k a.More e h = h
more_told code k a.Done e h = absurd (cc e)
more_told code k (a.Raised reason) e h = absurd (cc e)

pub more_for : (code : Module) (l k : Local) → Runs code l k → (h : AwaitsMessages code k) → ask_of code l ≡ WantsMore h.state
more_for code l k r h = sym (ask_reached code l k r.cost r.made (WantsMore h.state) r.path (ap asked h.asks))

some_same : {X : Type 0} {x y : X} → Some x ≡ Some y → x ≡ y
some_same e = cc e

start_refused : (child : ℕ) (ask : asking.Asking) (n : NextAsk) → called_by (Some ask) ≡ None → Tells ask n → (machine : m.Machine) (pid : ℕ) → m.starts machine pid child (Some n) ≡ None
start_refused child (a.Send receiver v) n e t machine pid = ap (λ (x : NextAsk). m.starts machine pid child (Some x)) t.1
start_refused child (a.Show v) n e t machine pid = ap (λ (x : NextAsk). m.starts machine pid child (Some x)) t.1
start_refused child (a.Start module_name function vs) n e t machine pid = absurd (cc e)
start_refused child a.More n e t machine pid = ap (λ (x : NextAsk). m.starts machine pid child (Some x)) t.1
start_refused child a.Done n e t machine pid = ap (λ (x : NextAsk). m.starts machine pid child (Some x)) t
start_refused child (a.Raised reason) n e t machine pid = ap (λ (x : NextAsk). m.starts machine pid child (Some x)) t

start_too_far : (child : ℕ) (ask : asking.Asking) (n : NextAsk) → Tells ask n → (machine : m.Machine) (pid : ℕ) → (nat_eq child (length machine.processes + 1) && nat_le child m.process_bound) ≡ false → m.starts machine pid child (Some n) ≡ None
start_too_far child (a.Send receiver v) n t machine pid fails = ap (λ (x : NextAsk). m.starts machine pid child (Some x)) t.1
start_too_far child (a.Show v) n t machine pid fails = ap (λ (x : NextAsk). m.starts machine pid child (Some x)) t.1
start_too_far child (a.Start module_name function vs) n t machine pid fails = ap (λ (x : NextAsk). m.starts machine pid child (Some x)) t.1 ∙ fails_if _ _ fails
start_too_far child a.More n t machine pid fails = ap (λ (x : NextAsk). m.starts machine pid child (Some x)) t.1
start_too_far child a.Done n t machine pid fails = ap (λ (x : NextAsk). m.starts machine pid child (Some x)) t
start_too_far child (a.Raised reason) n t machine pid fails = ap (λ (x : NextAsk). m.starts machine pid child (Some x)) t

called_told : (code : Module) (k : Local) (ask : asking.Asking) (call : Call) → called_by (Some ask) ≡ Some call → IsAsking code k ask → AsksFor code k (Start call.module_name call.function (arguments_of (value call.arguments)))
called_told code k (a.Send receiver v) call e h = absurd (cc e)
called_told code k (a.Show v) call e h = absurd (cc e)
called_told code k (a.Start module_name function vs) call e h =
    let same : record { module_name = module_name; function = function; arguments = vs } ≡ call = some_same e in
    subst (λ (x : Call). AsksFor code k (Start x.module_name x.function (arguments_of (value x.arguments)))) same (start_asked code k module_name function (value vs) h)
called_told code k a.More call e h = absurd (cc e)
called_told code k a.Done call e h = absurd (cc e)
called_told code k (a.Raised reason) call e h = absurd (cc e)

called_list : (code : Module) (k : Local) (ask : asking.Asking) (call : Call) → called_by (Some ask) ≡ Some call → IsAsking code k ask → value call.arguments ≡ VList (arguments_of (value call.arguments))
called_list code k (a.Send receiver v) call e h = absurd (cc e)
called_list code k (a.Show v) call e h = absurd (cc e)
called_list code k (a.Start module_name function vs) call e h =
    let same : record { module_name = module_name; function = function; arguments = vs } ≡ call = some_same e in
    subst (λ (x : Call). value x.arguments ≡ VList (arguments_of (value x.arguments))) same (h.are ∙ ap VList (sym (ap arguments_of h.are)))
called_list code k a.More call e h = absurd (cc e)
called_list code k a.Done call e h = absurd (cc e)
called_list code k (a.Raised reason) call e h = absurd (cc e)

start_told : (code : Module) (k : Local) (ask : asking.Asking) → is_start (Some ask) ≡ true → IsAsking code k ask
    → (module_name : ℕ) × (function : ℕ) × (arguments : Values) × AsksFor code k (Start module_name function arguments)
start_told code k (a.Send receiver v) e h = absurd (cc e)
start_told code k (a.Show v) e h = absurd (cc e)
start_told code k (a.Start module_name function vs) e h = (module_name, function, arguments_of (value vs), start_asked code k module_name function (value vs) h)
start_told code k a.More e h = absurd (cc e)
start_told code k a.Done e h = absurd (cc e)
start_told code k (a.Raised reason) e h = absurd (cc e)

fill_refused : (ask : asking.Asking) (n : NextAsk) → is_start (Some ask) ≡ false → Tells ask n → (machine : m.Machine) (pid : ℕ) → m.fills machine pid (Some n) ≡ None
fill_refused (a.Send receiver v) n e t machine pid = ap (λ (x : NextAsk). m.fills machine pid (Some x)) t.1
fill_refused (a.Show v) n e t machine pid = ap (λ (x : NextAsk). m.fills machine pid (Some x)) t.1
fill_refused (a.Start module_name function vs) n e t machine pid = absurd (cc e)
fill_refused a.More n e t machine pid = ap (λ (x : NextAsk). m.fills machine pid (Some x)) t.1
fill_refused a.Done n e t machine pid = ap (λ (x : NextAsk). m.fills machine pid (Some x)) t
fill_refused (a.Raised reason) n e t machine pid = ap (λ (x : NextAsk). m.fills machine pid (Some x)) t

-- ---- What is asked for where the ask is of this kind

module _ (code : Module) (k : Local) where
  named : (b : Bool) (receiver to : ℕ) (u v : Seen (List Bool)) → nat_eq receiver to ≡ b → if_named b u ≡ Some v → AsksFor code k (SendTo receiver (value u)) → AsksFor code k (SendTo to (value v))
  named true receiver to u v t e h =
      let same : u ≡ v = cc e in
      subst (λ (x : ℕ). AsksFor code k (SendTo x (value v))) (eqb-true receiver to t) (subst (λ (x : Seen (List Bool)). AsksFor code k (SendTo receiver (value x))) same h)
  named false receiver to u v t e h = absurd (cc e)

  pub sends_this : (ask : asking.Asking) (to : ℕ) (v : Seen (List Bool)) → message_to to (Some ask) ≡ Some v → IsAsking code k ask → AsksFor code k (SendTo to (value v))
  sends_this (a.Send receiver u) to v e h = named (nat_eq receiver to) receiver to u v refl e h
  sends_this (a.Show u) to v e h = absurd (cc e)
  sends_this (a.Start module_name function vs) to v e h = absurd (cc e)
  sends_this a.More to v e h = absurd (cc e)
  sends_this a.Done to v e h = absurd (cc e)
  sends_this (a.Raised reason) to v e h = absurd (cc e)

  pub shows_this : (ask : asking.Asking) (v : Seen (List Bool)) → shown_by (Some ask) ≡ Some v → IsAsking code k ask → AsksFor code k (Show (value v))
  shows_this (a.Show u) v e h = let same : u ≡ v = cc e in subst (λ (x : Seen (List Bool)). AsksFor code k (Show (value x))) same h
  shows_this (a.Send receiver u) v e h = absurd (cc e)
  shows_this (a.Start module_name function vs) v e h = absurd (cc e)
  shows_this a.More v e h = absurd (cc e)
  shows_this a.Done v e h = absurd (cc e)
  shows_this (a.Raised reason) v e h = absurd (cc e)

-- ---- A machine in which the entry's process stands so

at_ask : (s : Conditions) (entry : Entry) (l : Local) (vs : List Value) (machine : m.Machine) → IsIn s entry (m.Running l vs) machine → m.ask_at machine (pid_of entry) ≡ Some (ask_of s.code l)
at_ask s entry l vs machine i = ap (m.ask_of_process machine.code) i.stands ∙ ap (λ (x : Module). Some (ask_of x l)) i.code

fits_same : (n : ℕ) (x : m.Machine) → m.if_fits (nat_eq n n) x ≡ Some x
fits_same n x = ap (λ (b : Bool). m.if_fits b x) (eq-eqb n n refl)

abbrev begun_as : Values → (pid left : ℕ) → Option ℕ → Local
begun_as vs pid left place = record { pid = pid; course = m.call_of place vs; seen = []; left = left }

begun_alike : (vs : Values) (p q r t : ℕ) (o w : Option ℕ) → p ≡ q → r ≡ t → o ≡ w
    → begun_as vs p r o ≡ begun_as vs q t w
begun_alike vs p q r t o w a b d = ap (λ (x : ℕ). begun_as vs x r o) a ∙ ap (λ (x : ℕ). begun_as vs q x o) b ∙ ap (λ (x : Option ℕ). begun_as vs q t x) d

-- ---- Actors

module _ {P : Type 0} (code_of : P → Module) (local_of : P → Local) (waits_of : P → Type 0) where
  asks_already : (actor : Actor P) (o : Option asking.Asking) → actor.ask ≡ o → is_some o ≡ true → StandsAt code_of local_of waits_of actor.process o → Settles code_of local_of waits_of actor actor
  asks_already actor (Some ask) e t h = record { code = refl; runs = none _ _; unseen = refl; ask = ask; is = e; waits = h.0; asks = h.1 }
  asks_already actor None e t h = absurd (cc t)

  -- an actor whose ask is known stands at it
  pub settled : (actor : Actor P) → is_some actor.ask ≡ true → StandsAt code_of local_of waits_of actor.process actor.ask → Settles code_of local_of waits_of actor actor
  settled actor t h = asks_already actor actor.ask refl t h

  -- what a settled actor plays it played before
  pub kept : (code : Module) (l : Local) (vs : List Value) (old new : Actor P) → Plays code_of local_of waits_of code l vs old → Settles code_of local_of waits_of old new → Plays code_of local_of waits_of code l vs new
  kept code l vs old new p s = record {
    code = s.code ∙ p.code;
    runs = on_from code (code_of old.process) l (local_of old.process) (local_of new.process) p.code p.runs s.runs;
    unseen = p.unseen ∙ ap (map value) (sym s.unseen);
    stands = subst (λ (o : Option asking.Asking). StandsAt code_of local_of waits_of new.process o) (sym s.is) (s.waits, s.asks);
  }

  pub asks_in : (code : Module) (l : Local) (vs : List Value) (old new : Actor P) → Plays code_of local_of waits_of code l vs old → (s : Settles code_of local_of waits_of old new) → IsAsking code (local_of new.process) s.ask
  asks_in code l vs old new p s = subst (λ (x : Module). IsAsking x (local_of new.process) s.ask) (s.code ∙ p.code) s.asks

  -- as what the process goes on that is answered
  went : (code : Module) (l : Local) (vs : List Value) (mid new : Actor P) (ask : Ask) (v : Value) → Plays code_of local_of waits_of code l vs mid → AsksFor code (local_of mid.process) ask → Answers code_of local_of v mid new
      → (next : Value → Local) × (ask_of code l ≡ Wants ask next) × Plays code_of local_of waits_of code (next v) vs new
  went code l vs mid new ask v p h w =
      let goes : local_of new.process ≡ h.next v = w.goes ask h.next (ap (λ (x : Module). next_of x (local_of mid.process)) p.code ∙ h.asks) in (
        h.next,
        asked_for code l (local_of mid.process) ask p.runs h,
        record {
          code = w.code ∙ p.code;
          runs = subst (λ (x : Local). Runs code (h.next v) x) (sym goes) (none code (h.next v));
          unseen = p.unseen ∙ ap (map value) (sym w.unseen);
          stands = subst (λ (o : Option asking.Asking). StandsAt code_of local_of waits_of new.process o) (sym w.ask) tt;
        },
      )

  -- ---- Messages

  pub send_none : (s : Conditions) (pid to : ℕ) (old new : Actor P) → Settles code_of local_of waits_of old new → message_to to new.ask ≡ None → Acts code_of local_of waits_of s (Sent pid to) old Refused new
  send_none s pid to old new g e (m.Running l vs) h =
      let k = kept s.code l vs old new h g in
      let t = tells s.code l (local_of new.process) k.runs g.ask (asks_in s.code l vs old new h g) in
      let at : message_to to (Some g.ask) ≡ None = ap (message_to to) (sym g.is) ∙ e in
      (k, λ machine i. ap (m.sends machine pid to) (at_ask s (Sent pid to) l vs machine i) ∙ send_refused g.ask (ask_of s.code l) to at t machine pid)
  send_none s pid to old new g e (m.Over how) h = absurd h
  send_none s pid to old new g e (m.Left how) h = absurd h

  pub send_some : (s : Conditions) (pid to : ℕ) (v : Seen (List Bool)) (old mid new : Actor P) → Settles code_of local_of waits_of old mid → message_to to mid.ask ≡ Some v → Answers code_of local_of (value v) mid new
      → Acts code_of local_of waits_of s (Sent pid to) old (Goes (f.Delivers to v)) new
  send_some s pid to v old mid new g e w (m.Running l vs) h =
      let k = kept s.code l vs old mid h g in
      let at : message_to to (Some g.ask) ≡ Some v = ap (message_to to) (sym g.is) ∙ e in
      let this = sends_this s.code (local_of mid.process) g.ask to v at (asks_in s.code l vs old mid h g) in
      let d = went s.code l vs mid new (SendTo to (value v)) (value v) k this w in (
        m.Running (d.0 (value v)) vs,
        d.2,
        tt,
        λ machine i.
            ap (m.sends machine pid to) (at_ask s (Sent pid to) l vs machine i ∙ ap Some d.1)
            ∙ fits_same to _
            ∙ ap (λ (us : List Value). let n = m.with_process machine pid (m.Running (d.0 (value v)) us) in Some (m.delivered n to (value v) (m.process_at n to))) (ap m.unseen_of i.stands),
      )
  send_some s pid to v old mid new g e w (m.Over how) h = absurd h
  send_some s pid to v old mid new g e w (m.Left how) h = absurd h

  pub send_awaits : (to : ℕ) (v : Seen (List Bool)) (old mid : Actor P) → (g : Settles code_of local_of waits_of old mid) → message_to to mid.ask ≡ Some v → AwaitsAnswer (code_of mid.process) (local_of mid.process)
  send_awaits to v old mid g e =
      record { ask = SendTo to (value v); asks = sends_this (code_of mid.process) (local_of mid.process) g.ask to v (ap (message_to to) (sym g.is) ∙ e) g.asks }

  -- ---- Displays

  pub show_none : (s : Conditions) (pid : ℕ) (old new : Actor P) → Settles code_of local_of waits_of old new → shown_by new.ask ≡ None → Acts code_of local_of waits_of s (Shown pid) old Refused new
  show_none s pid old new g e (m.Running l vs) h =
      let k = kept s.code l vs old new h g in
      let t = tells s.code l (local_of new.process) k.runs g.ask (asks_in s.code l vs old new h g) in
      let at : shown_by (Some g.ask) ≡ None = ap shown_by (sym g.is) ∙ e in
      (k, λ machine i. ap (m.shows machine pid) (at_ask s (Shown pid) l vs machine i) ∙ show_refused g.ask (ask_of s.code l) at t machine pid)
  show_none s pid old new g e (m.Over how) h = absurd h
  show_none s pid old new g e (m.Left how) h = absurd h

  pub show_some : (s : Conditions) (pid : ℕ) (v : Seen (List Bool)) (answer : Value) (old mid new : Actor P) → Settles code_of local_of waits_of old mid → shown_by mid.ask ≡ Some v → answer ≡ truth true → Answers code_of local_of answer mid new
      → Acts code_of local_of waits_of s (Shown pid) old (Goes (f.Shows v)) new
  show_some s pid v answer old mid new g e is w (m.Running l vs) h =
      let k = kept s.code l vs old mid h g in
      let at : shown_by (Some g.ask) ≡ Some v = ap shown_by (sym g.is) ∙ e in
      let this = shows_this s.code (local_of mid.process) g.ask v at (asks_in s.code l vs old mid h g) in
      let d = went s.code l vs mid new (Show (value v)) answer k this w in (
        m.Running (d.0 answer) vs,
        d.2,
        tt,
        λ machine i.
            ap (m.shows machine pid) (at_ask s (Shown pid) l vs machine i ∙ ap Some d.1)
            ∙ ap (λ (x : Value). Some (m.with_shown (m.with_process machine pid (m.Running (d.0 x) (m.unseen_at machine pid))) (value v))) (sym is)
            ∙ ap (λ (us : List Value). Some (m.with_shown (m.with_process machine pid (m.Running (d.0 answer) us)) (value v))) (ap m.unseen_of i.stands),
      )
  show_some s pid v answer old mid new g e is w (m.Over how) h = absurd h
  show_some s pid v answer old mid new g e is w (m.Left how) h = absurd h

  pub show_awaits : (v : Seen (List Bool)) (old mid : Actor P) → (g : Settles code_of local_of waits_of old mid) → shown_by mid.ask ≡ Some v → AwaitsAnswer (code_of mid.process) (local_of mid.process)
  show_awaits v old mid g e =
      record { ask = Show (value v); asks = shows_this (code_of mid.process) (local_of mid.process) g.ask v (ap shown_by (sym g.is) ∙ e) g.asks }

  -- ---- Ends

  pub end_none : (s : Conditions) (code : Module) (pid : ℕ) (old new : Actor P) → s.code ≡ code → Settles code_of local_of waits_of old new → ended_by code new.ask ≡ None → Acts code_of local_of waits_of s (Ended pid) old Refused new
  end_none s code pid old new same g e (m.Running l vs) h =
      let k = kept s.code l vs old new h g in
      let t = tells s.code l (local_of new.process) k.runs g.ask (asks_in s.code l vs old new h g) in
      let at : ended_by code (Some g.ask) ≡ None = ap (ended_by code) (sym g.is) ∙ e in
      (k, λ machine i. ap (m.ends machine pid) (at_ask s (Ended pid) l vs machine i) ∙ end_refused code g.ask (ask_of s.code l) at t machine pid)
  end_none s code pid old new same g e (m.Over how) h = absurd h
  end_none s code pid old new same g e (m.Left how) h = absurd h

  pub end_some : (s : Conditions) (code : Module) (pid : ℕ) (ending : Ending) (old new : Actor P) → s.code ≡ code → Settles code_of local_of waits_of old new → ended_by code new.ask ≡ Some ending
      → Acts code_of local_of waits_of s (Ended pid) old (Ends ending) new
  end_some s code pid ending old new same g e (m.Running l vs) h =
      let k = kept s.code l vs old new h g in
      let t = tells s.code l (local_of new.process) k.runs g.ask (asks_in s.code l vs old new h g) in
      let at : ended_by code (Some g.ask) ≡ Some ending = ap (ended_by code) (sym g.is) ∙ e in
      let d = end_told code g.ask (ask_of s.code l) ending at t in
      (d.0, d.1 ∙ ap (λ (x : Module). ending_of x d.0) (sym same), λ machine i. ap (m.ends machine pid) (at_ask s (Ended pid) l vs machine i) ∙ d.2 machine pid)
  end_some s code pid ending old new same g e (m.Over how) h = absurd h
  end_some s code pid ending old new same g e (m.Left how) h = absurd h

  -- ---- Messages that are seen

  pub see_none : (s : Conditions) (pid count : ℕ) (old new : Actor P) → Settles code_of local_of waits_of old new → is_more new.ask ≡ false → Acts code_of local_of waits_of s (Saw pid count) old Refused new
  see_none s pid count old new g e (m.Running l vs) h =
      let k = kept s.code l vs old new h g in
      let t = tells s.code l (local_of new.process) k.runs g.ask (asks_in s.code l vs old new h g) in
      let at : is_more (Some g.ask) ≡ false = ap is_more (sym g.is) ∙ e in
      (k, λ machine i. ap (m.sees machine pid count) (at_ask s (Saw pid count) l vs machine i) ∙ see_refused count g.ask (ask_of s.code l) at t machine pid)
  see_none s pid count old new g e (m.Over how) h = absurd h
  see_none s pid count old new g e (m.Left how) h = absurd h

  pub see_other : (s : Conditions) (pid count : ℕ) (old new : Actor P) → Settles code_of local_of waits_of old new → is_more new.ask ≡ true → (nat_eq count (length new.unseen.items) && nat_le 1 count) ≡ false
      → Acts code_of local_of waits_of s (Saw pid count) old Refused new
  see_other s pid count old new g e fails (m.Running l vs) h =
      let k = kept s.code l vs old new h g in
      let at : is_more (Some g.ask) ≡ true = ap is_more (sym g.is) ∙ e in
      let w = more_told s.code (local_of new.process) g.ask at (asks_in s.code l vs old new h g) in
      let n : ask_of s.code l ≡ WantsMore w.state = more_for s.code l (local_of new.process) k.runs w in (
        k,
        λ machine i.
            let many : length (m.unseen_at machine pid) ≡ length new.unseen.items = ap length (ap m.unseen_of i.stands ∙ k.unseen) ∙ length-map new.unseen.items value in
            ap (m.sees machine pid count) (at_ask s (Saw pid count) l vs machine i ∙ ap Some n)
            ∙ fails_if _ _ (ap (λ (x : ℕ). nat_eq count x && nat_le 1 count) many ∙ fails),
      )
  see_other s pid count old new g e fails (m.Over how) h = absurd h
  see_other s pid count old new g e fails (m.Left how) h = absurd h

  pub see_some : (s : Conditions) (pid count : ℕ) (messages : List (Seen (List Bool))) (old mid new : Actor P) → Settles code_of local_of waits_of old mid → is_more mid.ask ≡ true → (nat_eq count (length mid.unseen.items) && nat_le 1 count) ≡ true
      → messages ≡ mid.unseen.items → code_of new.process ≡ code_of mid.process → acts.Saw (code_of mid.process) (local_of mid.process) (map value messages) (local_of new.process) → new.unseen.items ≡ [] → new.ask ≡ None
      → Acts code_of local_of waits_of s (Saw pid count) old (Goes f.Nothing) new
  see_some s pid count messages old mid new g e holds are code saw none_left no_ask (m.Running l vs) h =
      let k = kept s.code l vs old mid h g in
      let at : is_more (Some g.ask) ≡ true = ap is_more (sym g.is) ∙ e in
      let w = more_told s.code (local_of mid.process) g.ask at (asks_in s.code l vs old mid h g) in
      let n : ask_of s.code l ≡ WantsMore w.state = more_for s.code l (local_of mid.process) k.runs w in
      let these : map value messages ≡ vs = ap (map value) are ∙ sym k.unseen in
      let goes : local_of new.process ≡ record w.state { seen = w.state.seen ++ vs } =
      saw w.state (ap (λ (x : Module). next_of x (local_of mid.process)) k.code ∙ w.asks) ∙ ap (λ (us : List Value). record w.state { seen = w.state.seen ++ us }) these in (
        m.Running (record w.state { seen = w.state.seen ++ vs }) [],
        record {
          code = code ∙ k.code;
          runs = subst (λ (x : Local). Runs s.code (record w.state { seen = w.state.seen ++ vs }) x) (sym goes) (none s.code (record w.state { seen = w.state.seen ++ vs }));
          unseen = ap (map value) (sym none_left);
          stands = subst (λ (o : Option asking.Asking). StandsAt code_of local_of waits_of new.process o) (sym no_ask) tt;
        },
        tt,
        λ machine i.
            let many : length (m.unseen_at machine pid) ≡ length mid.unseen.items = ap length (ap m.unseen_of i.stands ∙ k.unseen) ∙ length-map mid.unseen.items value in
            ap (m.sees machine pid count) (at_ask s (Saw pid count) l vs machine i ∙ ap Some n)
            ∙ ap (λ (b : Bool). m.if_fits b (m.with_process machine pid (m.Running (record w.state { seen = w.state.seen ++ m.unseen_at machine pid }) []))) (ap (λ (x : ℕ). nat_eq count x && nat_le 1 count) many ∙ holds)
            ∙ ap (λ (us : List Value). Some (m.with_process machine pid (m.Running (record w.state { seen = w.state.seen ++ us }) []))) (ap m.unseen_of i.stands),
      )
  see_some s pid count messages old mid new g e holds are code saw none_left no_ask (m.Over how) h = absurd h
  see_some s pid count messages old mid new g e holds are code saw none_left no_ask (m.Left how) h = absurd h

  pub more_awaits : (old mid : Actor P) → (g : Settles code_of local_of waits_of old mid) → is_more mid.ask ≡ true → AwaitsMessages (code_of mid.process) (local_of mid.process)
  more_awaits old mid g e = more_told (code_of mid.process) (local_of mid.process) g.ask (ap is_more (sym g.is) ∙ e) g.asks

  -- ---- Where no more processes may be started

  pub fill_none : (s : Conditions) (pid : ℕ) (old new : Actor P) → Settles code_of local_of waits_of old new → is_start new.ask ≡ false → Acts code_of local_of waits_of s (Full pid) old Refused new
  fill_none s pid old new g e (m.Running l vs) h =
      let k = kept s.code l vs old new h g in
      let t = tells s.code l (local_of new.process) k.runs g.ask (asks_in s.code l vs old new h g) in
      let at : is_start (Some g.ask) ≡ false = ap is_start (sym g.is) ∙ e in
      (k, λ machine i. ap (m.fills machine pid) (at_ask s (Full pid) l vs machine i) ∙ fill_refused g.ask (ask_of s.code l) at t machine pid)
  fill_none s pid old new g e (m.Over how) h = absurd h
  fill_none s pid old new g e (m.Left how) h = absurd h

  pub fill_early : (s : Conditions) (pid : ℕ) (old new : Actor P) → Settles code_of local_of waits_of old new → is_start new.ask ≡ true → nat_eq s.started m.process_bound ≡ false → Acts code_of local_of waits_of s (Full pid) old Refused new
  fill_early s pid old new g e fails (m.Running l vs) h =
      let k = kept s.code l vs old new h g in
      let at : is_start (Some g.ask) ≡ true = ap is_start (sym g.is) ∙ e in
      let w = start_told s.code (local_of new.process) g.ask at (asks_in s.code l vs old new h g) in
      let n : ask_of s.code l ≡ Wants (Start w.0 w.1 w.2) w.3.next = asked_for s.code l (local_of new.process) (Start w.0 w.1 w.2) k.runs w.3 in
      (k, λ machine i. ap (m.fills machine pid) (at_ask s (Full pid) l vs machine i ∙ ap Some n) ∙ fails_if _ _ (ap (λ (x : ℕ). nat_eq x m.process_bound) i.started ∙ fails))
  fill_early s pid old new g e fails (m.Over how) h = absurd h
  fill_early s pid old new g e fails (m.Left how) h = absurd h

  pub fill_some : (s : Conditions) (pid : ℕ) (old mid new : Actor P) → Settles code_of local_of waits_of old mid → is_start mid.ask ≡ true → nat_eq s.started m.process_bound ≡ true
      → code_of new.process ≡ code_of mid.process → acts.Filled (code_of mid.process) (local_of mid.process) (local_of new.process) → new.unseen.items ≡ mid.unseen.items → new.ask ≡ None
      → Acts code_of local_of waits_of s (Full pid) old (Goes f.Nothing) new
  fill_some s pid old mid new g e full code filled same no_ask (m.Running l vs) h =
      let k = kept s.code l vs old mid h g in
      let at : is_start (Some g.ask) ≡ true = ap is_start (sym g.is) ∙ e in
      let w = start_told s.code (local_of mid.process) g.ask at (asks_in s.code l vs old mid h g) in
      let n : ask_of s.code l ≡ Wants (Start w.0 w.1 w.2) w.3.next = asked_for s.code l (local_of mid.process) (Start w.0 w.1 w.2) k.runs w.3 in
      let q : Local = record (w.3.next (VAtom a_undef)) { course = Fell Limit } in
      let goes : local_of new.process ≡ q = filled (Start w.0 w.1 w.2) w.3.next (ap (λ (x : Module). next_of x (local_of mid.process)) k.code ∙ w.3.asks) in (
        m.Running q vs,
        record {
          code = code ∙ k.code;
          runs = subst (λ (x : Local). Runs s.code q x) (sym goes) (none s.code q);
          unseen = k.unseen ∙ ap (map value) (sym same);
          stands = subst (λ (o : Option asking.Asking). StandsAt code_of local_of waits_of new.process o) (sym no_ask) tt;
        },
        tt,
        λ machine i.
            ap (m.fills machine pid) (at_ask s (Full pid) l vs machine i ∙ ap Some n)
            ∙ holds_if _ _ (ap (λ (x : ℕ). nat_eq x m.process_bound) i.started ∙ full)
            ∙ ap (λ (us : List Value). Some (m.with_process machine pid (m.Running q us))) (ap m.unseen_of i.stands),
      )
  fill_some s pid old mid new g e full code filled same no_ask (m.Over how) h = absurd h
  fill_some s pid old mid new g e full code filled same no_ask (m.Left how) h = absurd h

  pub fill_awaits : (old mid : Actor P) → (g : Settles code_of local_of waits_of old mid) → is_start mid.ask ≡ true → AwaitsAnswer (code_of mid.process) (local_of mid.process)
  fill_awaits old mid g e =
      let w = start_told (code_of mid.process) (local_of mid.process) g.ask (ap is_start (sym g.is) ∙ e) g.asks in
      record { ask = Start w.0 w.1 w.2; asks = w.3 }

  -- ---- Starts

  pub start_none : (s : Conditions) (pid child : ℕ) (old new : Actor P) → Settles code_of local_of waits_of old new → called_by new.ask ≡ None → Acts code_of local_of waits_of s (Started pid child) old Refused new
  start_none s pid child old new g e (m.Running l vs) h =
      let k = kept s.code l vs old new h g in
      let t = tells s.code l (local_of new.process) k.runs g.ask (asks_in s.code l vs old new h g) in
      let at : called_by (Some g.ask) ≡ None = ap called_by (sym g.is) ∙ e in
      (k, λ machine i. ap (m.starts machine pid child) (at_ask s (Started pid child) l vs machine i) ∙ start_refused child g.ask (ask_of s.code l) at t machine pid)
  start_none s pid child old new g e (m.Over how) h = absurd h
  start_none s pid child old new g e (m.Left how) h = absurd h

  pub start_far : (s : Conditions) (pid child : ℕ) (old new : Actor P) → Settles code_of local_of waits_of old new → (nat_eq child (s.started + 1) && nat_le child m.process_bound) ≡ false
      → Acts code_of local_of waits_of s (Started pid child) old Refused new
  start_far s pid child old new g fails (m.Running l vs) h =
      let k = kept s.code l vs old new h g in
      let t = tells s.code l (local_of new.process) k.runs g.ask (asks_in s.code l vs old new h g) in (
        k,
        λ machine i. ap (m.starts machine pid child) (at_ask s (Started pid child) l vs machine i)
            ∙ start_too_far child g.ask (ask_of s.code l) t machine pid (ap (λ (x : ℕ). nat_eq child (x + 1) && nat_le child m.process_bound) i.started ∙ fails),
      )
  start_far s pid child old new g fails (m.Over how) h = absurd h
  start_far s pid child old new g fails (m.Left how) h = absurd h

  pub start_some : (s : Conditions) (pid child : ℕ) (call : Call) (first : First) (answer : Value) (process : P) (old mid new : Actor P) → Settles code_of local_of waits_of old mid → called_by mid.ask ≡ Some call
      → (nat_eq child (s.started + 1) && nat_le child m.process_bound) ≡ true → Begins s.code s.reductions child call first → IsFirst first (local_of process) → code_of process ≡ code_of mid.process → answer ≡ VPid child → Answers code_of local_of answer mid new
      → Acts code_of local_of waits_of s (Started pid child) old (Goes (f.Starts process)) new
  start_some s pid child call first answer process old mid new g e near begins is_first code is w (m.Running l vs) h =
      let k = kept s.code l vs old mid h g in
      let at : called_by (Some g.ask) ≡ Some call = ap called_by (sym g.is) ∙ e in
      let asks = asks_in s.code l vs old mid h g in
      let us = arguments_of (value call.arguments) in
      let this = called_told s.code (local_of mid.process) g.ask call at asks in
      let list = called_list s.code (local_of mid.process) g.ask call at asks in
      let d = went s.code l vs mid new (Start call.module_name call.function us) answer k this w in
      let begun : local_of process ≡ m.first_of s.code s.reductions child call.module_name call.function us =
      is_first us (ap value begins.arguments ∙ list)
      ∙ begun_alike us first.pid child first.reductions s.reductions first.function (m.exported_in (nat_eq call.module_name s.code.name) s.code call.function (count us)) begins.pid begins.reductions begins.function in (
        m.Running (d.0 answer) vs,
        d.2,
        code ∙ k.code,
        λ machine i.
            ap (m.starts machine pid child) (at_ask s (Started pid child) l vs machine i ∙ ap Some d.1)
            ∙ holds_if _ _ (ap (λ (x : ℕ). nat_eq child (x + 1) && nat_le child m.process_bound) i.started ∙ near)
            ∙ ap (λ (x : Local). Some (m.with_child (m.goes_on machine pid (d.0 (VPid child))) x)) (ap (λ (x : Module). m.first_of x machine.reductions child call.module_name call.function us) i.code ∙ ap (λ (x : ℕ). m.first_of s.code x child call.module_name call.function us) i.reductions ∙ sym begun)
            ∙ ap (λ (x : Value). Some (m.with_child (m.goes_on machine pid (d.0 x)) (local_of process))) (sym is)
            ∙ ap (λ (xs : List Value). Some (m.with_child (m.with_process machine pid (m.Running (d.0 answer) xs)) (local_of process))) (ap m.unseen_of i.stands),
      )
  start_some s pid child call first answer process old mid new g e near begins is_first code is w (m.Over how) h = absurd h
  start_some s pid child call first answer process old mid new g e near begins is_first code is w (m.Left how) h = absurd h

  pub start_awaits : (call : Call) (old mid : Actor P) → (g : Settles code_of local_of waits_of old mid) → called_by mid.ask ≡ Some call → AwaitsAnswer (code_of mid.process) (local_of mid.process)
  start_awaits call old mid g e =
      record { ask = Start call.module_name call.function (arguments_of (value call.arguments)); asks = called_told (code_of mid.process) (local_of mid.process) g.ask call (ap called_by (sym g.is) ∙ e) g.asks }
