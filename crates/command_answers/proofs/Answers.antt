-- From what was read and written to the answer of a command.
use Rattle.std.proofs.Common.{◌≡◌, ◌⊎◌, ℕ, ◌+◌, ◌≤◌, ◌<◌, List, ◌++◌, length, Option, Some, None, IfSome, Result, Ok, Err, IfErr, refl, ap, sym, ◌∙◌, inl, inr, arith, append-nil, length-append, subst}
use Rattle.std.specs.Io.KnownBytes.{Consumes, IsAtEnd}
use Rattle.erl_syntax.specs.Reading.{Reads, longest_text}
use Rattle.erl_syntax.specs.declared.checking.VarUse.{VarUse}
use Rattle.erl_syntax.specs.declared.module.Module as syntax
use Rattle.module_accept.specs.Accepting.{Accepts, IsDue}
use Rattle.module_accept.specs.Outcome.{Refuses}
use Rattle.module_accept.specs.declared.accepting.Refusal.{Refusal}
use Rattle.module_accept.specs.declared.accepting.Refusal.TheVariants.{Memory, Line}
use Rattle.std.specs.declared.vec.Vec.{Vec}
use Rattle.std.specs.declared.alloc.Global.{Global}
use Rattle.term_value.specs.Tree.{Module}
use Rattle.command_answers.specs.Answer.{Port, Held, IsOpened, IsRefusedWith, IsUnaccepted, AnswersUnopened, Opened, Reports, source_of}
use Rattle.command_answers.specs.Complete as complete
use Rattle.command_answers.specs.Complete.{Tells, IsModule, IsNoModule, IsOrNoMemory, IsWell}
use Rattle.command_answers.specs.Stream.{ReadsUpTo}
use Rattle.command_answers.specs.declared.status.Status.{Status}
use Rattle.command_answers.specs.declared.status.Status.TheVariants as s

-- what was read to the end is all that the source held
pub held_whole : (before after : Option (List ℕ)) (bytes : List ℕ) → Consumes before after bytes → IsAtEnd after → IfSome before (λ held. held ≡ bytes)
held_whole None after bytes h e = tt
held_whole (Some xs) None bytes h e = absurd h
held_whole (Some xs) (Some ys) bytes h e = h ∙ ap (λ l. bytes ++ l) e ∙ append-nil bytes

-- a source that gave more than the limit held more
pub held_long : (before after : Option (List ℕ)) (bytes : List ℕ) (limit : ℕ) → Consumes before after bytes → limit < length bytes →
    (text : List ℕ) × IfSome before (λ held. held ≡ text) × (limit < length text)
held_long None after bytes limit h long = (bytes, tt, long)
held_long (Some xs) None bytes limit h long = absurd h
held_long (Some xs) (Some ys) bytes limit h long =
    let l : length xs ≡ length bytes + length ys = ap length h ∙ length-append bytes ys in
    (xs, refl, omega arith)

none_accepted : (text : List ℕ) (refusal : Refusal) (line : Vec ℕ Global) → refusal ≡ Line line → (refusal ≡ Memory) ⊎ ((m : syntax.Module) → Accepts text m → ⊥) → (m : syntax.Module) → Accepts text m → ⊥
none_accepted text refusal line is (inl e) = cc
none_accepted text refusal line is (inr f) = f

pub unaccepted : (text : List ℕ) (shown : List ℕ) (refusal : Refusal) (line : Vec ℕ Global) → refusal ≡ Line line → shown ≡ line.items → length text ≤ longest_text → Refuses text refusal →
    (refusal ≡ Memory) ⊎ ((m : syntax.Module) → Accepts text m → ⊥) → IsUnaccepted (source_of text) text shown
unaccepted text shown refusal line is told short due none =
    let d : IsDue text line.items = (let P : Refusal → Type 0 = λ r. Refuses text r in subst P is due) in
    record {
      held = refl;
      ended = refl;
      short = short;
      none = none_accepted text refusal line is none;
      due = (let P : List ℕ → Type 0 = λ v. IsDue text v in subst P (sym told) d);
    }

-- the line of a refusal is written, or the report failed
pub refused_answers : (status : Status) (line : List ℕ) (source report : Port) → IsRefusedWith source line → Reports s.Refused line status report → AnswersUnopened status source report
refused_answers status line source report refused (inl h) =
    let P : Status → Type 0 = λ v. AnswersUnopened v source report in
    subst P (sym h.0) (record { line = line; refused = refused; reported = h.1 })
refused_answers status line source report refused (inr h) =
    let P : Status → Type 0 = λ v. AnswersUnopened v source report in
    subst P (sym h.0) (record { line = line; refused = refused; reported = h.1 })

-- what is said of a text is said of the source from which it was read

refused_of : (source : Port) (bytes line : List ℕ) → ReadsUpTo source.before source.after longest_text bytes → IsRefusedWith (source_of bytes) line → IsRefusedWith source line
refused_of source bytes line read h = elim h.cause [
  | inl w ↦
      (let e : bytes ≡ h.text = w.held in
      let longer : longest_text < length bytes = rw e w.long in
      let long = held_long source.before source.after bytes longest_text read.taken longer in
      record { text = long.0; cause = inl (record { held = long.1; long = long.2; due = w.due }) })
  | inr w ↦
      (let e : bytes ≡ h.text = w.held in
      let short : length bytes ≤ longest_text = rw e w.short in
      let held : Held source bytes = held_whole source.before source.after bytes read.taken (read.whole short) in
      record { text = h.text; cause = inr (record { held = subst (Held source) e held; ended = read.whole short; short = w.short; none = w.none; due = w.due }) })
]

unopened_of : (status : Status) (source report : Port) (bytes : List ℕ) → ReadsUpTo source.before source.after longest_text bytes → AnswersUnopened status (source_of bytes) report → AnswersUnopened status source report
unopened_of s.Refused source report bytes read h = record { line = h.line; refused = refused_of source bytes h.line read h.refused; reported = h.reported }
unopened_of s.ReadFault source report bytes read h = absurd (omega (arith, h.fault))
unopened_of s.ReportFault source report bytes read h = record { line = h.line; refused = refused_of source bytes h.line read h.refused; reported = h.reported }
unopened_of s.NoMemory source report bytes read h = h
unopened_of s.Done source report bytes read h = absurd h
unopened_of s.Usage source report bytes read h = absurd h
unopened_of s.OrderFault source report bytes read h = absurd h
unopened_of s.BadOrder source report bytes read h = absurd h

pub answers_of : {T : Type 0} (result : Result T Status) (source report : Port) (seen bytes : List ℕ) → seen ≡ bytes → ReadsUpTo source.before source.after longest_text bytes →
    IfErr result (λ status. AnswersUnopened status (source_of seen) report) → IfErr result (λ status. AnswersUnopened status source report)
answers_of (Ok opened) source report seen bytes same read h = tt
answers_of (Err status) source report seen bytes same read h =
    let P : List ℕ → Type 0 = λ v. AnswersUnopened status (source_of v) report in
    unopened_of status source report bytes read (subst P same h)

-- where no port fails

pub same_text : (before : Option (List ℕ)) (held text : List ℕ) → before ≡ Some text → IfSome before (λ x. x ≡ held) → text ≡ held
same_text None held text e h = cc
same_text (Some x) held text e h = cc

module_unrefused : (source : Port) (line text : List ℕ) (tree : syntax.Module) → Tells source text → IsModule text tree → IsRefusedWith source line → ⊥
module_unrefused source line text tree told m h = elim h.cause [
  | inl w ↦ (let e : text ≡ h.text = same_text source.before h.text text told.told w.held in let l : longest_text < length text = rw e w.long in omega (arith, l, m.short))
  | inr w ↦ (let e : text ≡ h.text = same_text source.before h.text text told.told w.held in let n : (k : syntax.Module) → Accepts text k → ⊥ = rw e w.none in n tree m.accepts)
]

pub unopened_good : (good status : Status) (source report : Port) (text : List ℕ) (tree : syntax.Module) → AnswersUnopened status source report → Tells source text → IsModule text tree → IsWell report → IsOrNoMemory good status
unopened_good good s.Refused source report text tree h told m well = absurd (module_unrefused source h.line text tree told m h.refused)
unopened_good good s.ReadFault source report text tree h told m well = absurd (told.well h.fault)
unopened_good good s.ReportFault source report text tree h told m well = absurd (well h.reported.fault)
unopened_good good s.NoMemory source report text tree h told m well = inr refl
unopened_good good s.Done source report text tree h told m well = absurd h
unopened_good good s.Usage source report text tree h told m well = absurd h
unopened_good good s.OrderFault source report text tree h told m well = absurd h
unopened_good good s.BadOrder source report text tree h told m well = absurd h

unopened_refused : (status : Status) (source report : Port) (text : List ℕ) → AnswersUnopened status source report → Tells source text → IsWell report → IsOrNoMemory s.Refused status
unopened_refused s.Refused source report text h told well = inl refl
unopened_refused s.ReadFault source report text h told well = absurd (told.well h.fault)
unopened_refused s.ReportFault source report text h told well = absurd (well h.reported.fault)
unopened_refused s.NoMemory source report text h told well = inr refl
unopened_refused s.Done source report text h told well = absurd h
unopened_refused s.Usage source report text h told well = absurd h
unopened_refused s.OrderFault source report text h told well = absurd h
unopened_refused s.BadOrder source report text h told well = absurd h

not_opened : (source : Port) (text : List ℕ) (tree : syntax.Module) (numbers : List (List VarUse)) → IsOpened source tree numbers → source.before ≡ Some text → IsNoModule text → ⊥
not_opened source text tree numbers h told none = let e : text ≡ h.text = same_text source.before h.text text told h.whole.held in elim none [
  | inl long ↦ (let short : length text ≤ longest_text = rw e h.whole.short in omega (arith, long, short))
  | inr unaccepted ↦ unaccepted tree (rw e h.whole.accepts)
]

-- a text of no module is refused, by each command
pub refuses : (status : Status) (source report : Port) (Others : Type 0) (Answers : Module → Type 0) → (AnswersUnopened status source report × Others) ⊎ Opened source Answers → complete.Refuses status source report
refuses status source report Others Answers (inl h) = λ text told none well. unopened_refused status source report text h.0 told well
refuses status source report Others Answers (inr h) = λ text told none well. absurd (not_opened source text h.tree h.numbers h.opened told.told none)

-- a report that doesn't fail is written whole
pub reports_good : (good status : Status) (due : List ℕ) (report : Port) → Reports good due status report → IsWell report → status ≡ good
reports_good good status due report (inl h) well = h.0
reports_good good status due report (inr h) well = absurd (well h.1.fault)

-- what is opened of a text that spells a module is that module
pub opened_tree : (source : Port) (text : List ℕ) (tree other : syntax.Module) (numbers : List (List VarUse)) → IsOpened source other numbers → source.before ≡ Some text → Accepts text tree → tree ≡ other
opened_tree source text tree other numbers h told a =
    let e : text ≡ h.text = same_text source.before h.text text told h.whole.held in
    h.only tree (let P : List ℕ → Type 0 = λ v. Reads v tree in subst P e a.reads)
