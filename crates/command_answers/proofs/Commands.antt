-- Where no port fails, each command does what it is asked for.
use Rattle.std.proofs.Common.{◌≡◌, ◌⊎◌, ℕ, ◌≤◌, List, [], ◌∷◌, ◌++◌, length, Option, Some, None, option_and_then, refl, ap, sym, ◌∙◌, inl, inr, arith, subst, codes}
use Rattle.std.proofs.Math.Logic.{∥∥₁_elim}
use Rattle.erl_syntax.specs.Checking.{AreNumbered}
use Rattle.erl_syntax.specs.declared.checking.VarUse.{VarUse}
use Rattle.erl_syntax.specs.declared.module.Function.{Function}
use Rattle.erl_syntax.specs.declared.module.Module as syntax
use Rattle.term_value.specs.Machine.{Machine, Leads, IsComplete, applied, all_applied, start_of}
use Rattle.term_value.specs.Orders.{BadOrder, too_long, no_entry, illegal, incomplete, order_bound}
use Rattle.report_text.specs.Laws.{OneOrder}
use Rattle.term_value.specs.ReadTrees.{module_of}
use Rattle.term_value.specs.Tree.{Module}
use Rattle.term_value.specs.declared.entry.Entry.{Entry}
use Rattle.report_text.specs.Laws.{OrderOrFault}
use Rattle.command_answers.specs.Answer.{Port, Held, AnswersCheck, AnswersCopied, AnswersCopy, AnswersGen, AnswersRan, AnswersRun, IsOpened, Reports}
use Rattle.command_answers.specs.Complete.{AreGiven, ChecksWell, CopiesWell, GensWell, RunsWell, Tells, IsModule, IsOrNoMemory, IsWell}
use Rattle.command_answers.specs.Laws.{BadOrLegal}
use Rattle.command_answers.specs.Whole.{IsReplayOf}
use Rattle.command_answers.specs.declared.status.Status.{Status}
use Rattle.command_answers.specs.declared.status.Status.TheVariants as s
use Rattle.command_answers.proofs.Answers.{opened_tree, refuses, reports_good, same_text, unopened_good}

with_nothing : {A B : Type 0} → A ⊎ B → (A × Unit {0}) ⊎ B
with_nothing (inl a) = inl (a, tt)
with_nothing (inr b) = inr b

check_finds : (status : Status) (source report : Port) → AnswersCheck status source report → (text : List ℕ) (tree : syntax.Module) → Tells source text → IsModule text tree → IsWell report → IsOrNoMemory s.Done status
check_finds status source report (inl h) text tree told m well = unopened_good s.Done status source report text tree h told m well
check_finds status source report (inr h) text tree told m well = inl (reports_good s.Done status (codes "ok\n") report h.answer well)

pub checks_well : (status : Status) (source report : Port) → AnswersCheck status source report → ChecksWell status source report
checks_well status source report h = record {
  finds = check_finds status source report h;
  refuses = refuses status source report (Unit {0}) (λ code. Reports s.Done (codes "ok\n") status report) (with_nothing h);
}

pub gens_well : (text : List ℕ) (status : Status) (report : Port) → AnswersGen text status report → GensWell status report
gens_well text status report (inl h) = λ well. inr h.0
gens_well text status report (inr h) = λ well. inl (reports_good s.Done status text report h well)

ran_done : (reductions : ℕ) (status : Status) (report order : Port) (code : Module) → AnswersRan reductions status report order code → IsWell report → IsWell order → IsOrNoMemory s.Done status
ran_done reductions s.Done report order code h well order_well = inl refl
ran_done reductions s.ReportFault report order code h well order_well = inl (reports_good s.Done s.ReportFault h.report_text report h.reported well)
ran_done reductions s.OrderFault report order code h well order_well = absurd (order_well h.ordered.fault)
ran_done reductions s.NoMemory report order code h well order_well = inr refl
ran_done reductions s.Refused report order code h well order_well = absurd h
ran_done reductions s.Usage report order code h well order_well = absurd h
ran_done reductions s.ReadFault report order code h well order_well = absurd h
ran_done reductions s.BadOrder report order code h well order_well = absurd h

run_runs : (reductions : ℕ) (status : Status) (source report order : Port) → AnswersRun reductions status source report order → (text : List ℕ) (tree : syntax.Module) → Tells source text → IsModule text tree → IsWell report → IsWell order → IsOrNoMemory s.Done status
run_runs reductions status source report order (inl h) text tree told m well order_well = unopened_good s.Done status source report text tree h.0 told m well
run_runs reductions status source report order (inr h) text tree told m well order_well = ran_done reductions status report order (module_of h.numbers h.tree) h.answer well order_well

pub runs_well : (reductions : ℕ) (status : Status) (source report order : Port) → AnswersRun reductions status source report order → RunsWell status source report order
runs_well reductions status source report order h = record {
  runs = run_runs reductions status source report order h;
  refuses = refuses status source report _ (AnswersRan reductions status report order) h;
}

-- ---- an order is legal and complete, or its text has a first fault, and not both

one_state : (m a b : Machine) (entries : List Entry) → Leads m entries a → Leads m entries b → a ≡ b
one_state m a b entries h k = (let e : Some a ≡ Some b = sym h ∙ k in cc)

-- a legal order has no entry in it that isn't legal
through : (a n : Machine) (before others : List Entry) → ((x : Machine) → Leads x others n → Leads x before a → ⊥) → (o : Option Machine) →
    option_and_then (λ k. all_applied k others) o ≡ Some n → option_and_then (λ k. all_applied k before) o ≡ Some a → ⊥
through a n before others rest None h k = cc
through a n before others rest (Some x) h k = rest x h k

legal_through : (a n : Machine) (before later : List Entry) (entry : Entry) → applied a entry ≡ None → (m : Machine) → Leads m (before ++ entry ∷ later) n → Leads m before a → ⊥
legal_through a n [] later entry refused m h k =
    let same : m ≡ a = cc in
    let none : applied m entry ≡ None = ap (λ x. applied x entry) same ∙ refused in
    let e : None ≡ Some n = sym (ap (λ o. option_and_then (λ x. all_applied x later) o) none) ∙ h in
    cc
legal_through a n (first ∷ before) later entry refused m h k = through a n before (before ++ entry ∷ later) (legal_through a n before later entry refused) (applied m first) h k

pub bad_or_legal : OneOrder → OrderOrFault → (code : Module) (reductions : ℕ) (text line due : List ℕ) → length text ≤ order_bound → IsReplayOf code reductions text due → BadOrder (start_of code reductions) text line → ⊥
bad_or_legal one apart code reductions text line due short replay (too_long m t l long is) = omega (arith, long, short)
bad_or_legal one apart code reductions text line due short replay (no_entry m t l k fits none is) = apart.apart text replay.entries k replay.ordered none
bad_or_legal one apart code reductions text line due short replay (illegal m t l k fits h is) =
    let e : replay.entries ≡ h.before ++ h.entry ∷ h.later = one text replay.entries (h.before ++ h.entry ∷ h.later) replay.ordered h.spells in
    let leads : Leads (start_of code reductions) (h.before ++ h.entry ∷ h.later) replay.state = rw e at replay.leads in
    legal_through h.state replay.state h.before h.later h.entry h.illegal (start_of code reductions) leads h.leads
bad_or_legal one apart code reductions text line due short replay (incomplete m t l fits h is) =
    let e : replay.entries ≡ h.entries = one text replay.entries h.entries replay.ordered h.spells in
    let leads : Leads (start_of code reductions) h.entries replay.state = rw e at replay.leads in
    let same : replay.state ≡ h.state = one_state (start_of code reductions) replay.state h.state h.entries leads h.leads in
    h.incomplete (subst IsComplete same replay.complete)

copied_done : (reductions : ℕ) (status : Status) (order_in report : Port) (code : Module) (order : List ℕ) → AnswersCopied reductions status order_in report code → Tells order_in order →
    ((line : List ℕ) → BadOrder (start_of code reductions) order line → ⊥) → IsWell report → IsOrNoMemory s.Done status
copied_done reductions s.Done order_in report code order h told none well = inl refl
copied_done reductions s.BadOrder order_in report code order h told none well =
    let e : order ≡ h.text = same_text order_in.before h.text order told.told h.held in
    absurd (none h.line (let P : List ℕ → Type 0 = λ v. BadOrder (start_of code reductions) v h.line in subst P (sym e) h.bad))
copied_done reductions s.ReportFault order_in report code order (inl h) told none well = inl (reports_good s.Done s.ReportFault h.due report h.reported well)
copied_done reductions s.ReportFault order_in report code order (inr h) told none well =
    let e : order ≡ h.text = same_text order_in.before h.text order told.told h.held in
    absurd (none h.line (let P : List ℕ → Type 0 = λ v. BadOrder (start_of code reductions) v h.line in subst P (sym e) h.bad))
copied_done reductions s.ReadFault order_in report code order h told none well = absurd (told.well h.fault)
copied_done reductions s.NoMemory order_in report code order h told none well = inr refl
copied_done reductions s.Refused order_in report code order h told none well = absurd h
copied_done reductions s.Usage order_in report code order h told none well = absurd h
copied_done reductions s.OrderFault order_in report code order h told none well = absurd h

copied_bad : (reductions : ℕ) (status : Status) (order_in report : Port) (code : Module) (order : List ℕ) → AnswersCopied reductions status order_in report code → Tells order_in order →
    ((due : List ℕ) → length order ≤ order_bound → IsReplayOf code reductions order due → ⊥) → IsWell report → IsOrNoMemory s.BadOrder status
copied_bad reductions s.BadOrder order_in report code order h told none well = inl refl
copied_bad reductions s.Done order_in report code order h told none well =
    let e : order ≡ h.text = same_text order_in.before h.text order told.told h.read.held in
    absurd (none h.due (rw e h.read.short) (let P : List ℕ → Type 0 = λ v. IsReplayOf code reductions v h.due in subst P (sym e) h.replay))
copied_bad reductions s.ReportFault order_in report code order (inl h) told none well =
    let e : order ≡ h.text = same_text order_in.before h.text order told.told h.read.held in
    absurd (none h.due (rw e h.read.short) (let P : List ℕ → Type 0 = λ v. IsReplayOf code reductions v h.due in subst P (sym e) h.replay))
copied_bad reductions s.ReportFault order_in report code order (inr h) told none well = inl (reports_good s.BadOrder s.ReportFault h.line report h.reported well)
copied_bad reductions s.ReadFault order_in report code order h told none well = absurd (told.well h.fault)
copied_bad reductions s.NoMemory order_in report code order h told none well = inr refl
copied_bad reductions s.Refused order_in report code order h told none well = absurd h
copied_bad reductions s.Usage order_in report code order h told none well = absurd h
copied_bad reductions s.OrderFault order_in report code order h told none well = absurd h

abbrev OneNumbering : Type 0
OneNumbering = (fs : List Function) (us vs : List (List VarUse)) → AreNumbered fs us → AreNumbered fs vs → us ≡ vs

-- the line of a bad order is written, or the report failed
pub bad_answers : (reductions : ℕ) (status : Status) (order_in report : Port) (code : Module) (text line : List ℕ) → Held order_in text → BadOrder (start_of code reductions) text line → Reports s.BadOrder line status report →
    AnswersCopied reductions status order_in report code
bad_answers reductions status order_in report code text line held bad (inl h) =
    let P : Status → Type 0 = λ v. AnswersCopied reductions v order_in report code in
    subst P (sym h.0) (record { text = text; held = held; line = line; bad = bad; reported = inl (refl, h.1) })
bad_answers reductions status order_in report code text line held bad (inr h) =
    let P : Status → Type 0 = λ v. AnswersCopied reductions v order_in report code in
    subst P (sym h.0) (inr (record { text = text; held = held; line = line; bad = bad; reported = inr (refl, h.1) }))

-- what follows of the module that was given follows of the one that was opened
of_opened : OneNumbering → (source order_in : Port) (tree other : syntax.Module) (numbers others : List (List VarUse)) (order : List ℕ) → AreGiven source order_in tree numbers order → IsOpened source other others →
    (module_of numbers tree ≡ module_of others other → ⊥) → ⊥
of_opened one source order_in tree other numbers others order g opened none =
    let same : tree ≡ other = opened_tree source g.text tree other others opened g.told.told g.accepted.accepts in
    let given : AreNumbered other.functions numbers = (let P : syntax.Module → Type 0 = λ m. AreNumbered m.functions numbers in subst P same g.numbered) in
    ∥∥₁_elim opened.numbered (λ a b. absurd a) (λ numbered.
    let e : numbers ≡ others = one other.functions numbers others given numbered in
    none (ap (λ m. module_of numbers m) same ∙ ap (λ us. module_of us other) e))

copy_copies : BadOrLegal → OneNumbering → (reductions : ℕ) (status : Status) (source order_in report : Port) → AnswersCopy reductions status source order_in report →
    (tree : syntax.Module) (numbers : List (List VarUse)) (order due : List ℕ) → AreGiven source order_in tree numbers order → length order ≤ order_bound → IsReplayOf (module_of numbers tree) reductions order due →
    IsWell report → IsOrNoMemory s.Done status
copy_copies apart numbering reductions status source order_in report (inl h) tree numbers order due g short replay well = unopened_good s.Done status source report g.text tree h.0 g.told g.accepted well
copy_copies apart numbering reductions status source order_in report (inr h) tree numbers order due g short replay well =
    copied_done reductions status order_in report (module_of h.numbers h.tree) order h.answer g.ordered
    (λ line bad. of_opened numbering source order_in tree h.tree numbers h.numbers order g h.opened (λ e.
    let P : Module → Type 0 = λ code. BadOrder (start_of code reductions) order line in
    apart (module_of numbers tree) reductions order line due short replay (subst P (sym e) bad)))
    well

copy_tells : BadOrLegal → OneNumbering → (reductions : ℕ) (status : Status) (source order_in report : Port) → AnswersCopy reductions status source order_in report →
    (tree : syntax.Module) (numbers : List (List VarUse)) (order line : List ℕ) → AreGiven source order_in tree numbers order → BadOrder (start_of (module_of numbers tree) reductions) order line →
    IsWell report → IsOrNoMemory s.BadOrder status
copy_tells apart numbering reductions status source order_in report (inl h) tree numbers order line g bad well = unopened_good s.BadOrder status source report g.text tree h.0 g.told g.accepted well
copy_tells apart numbering reductions status source order_in report (inr h) tree numbers order line g bad well =
    copied_bad reductions status order_in report (module_of h.numbers h.tree) order h.answer g.ordered
    (λ due short replay. of_opened numbering source order_in tree h.tree numbers h.numbers order g h.opened (λ e.
    let P : Module → Type 0 = λ code. IsReplayOf code reductions order due in
    apart (module_of numbers tree) reductions order line due short (subst P (sym e) replay) bad))
    well

pub copies_well : BadOrLegal → OneNumbering → (reductions : ℕ) (status : Status) (source order_in report : Port) → AnswersCopy reductions status source order_in report → CopiesWell reductions status source order_in report
copies_well apart numbering reductions status source order_in report h = record {
  copies = copy_copies apart numbering reductions status source order_in report h;
  tells = copy_tells apart numbering reductions status source order_in report h;
  refuses = refuses status source report _ (AnswersCopied reductions status order_in report) h;
}
