-- What each answer of a command says of the ports (this project's own).
use Rattle.std.specs.Prelude.{◌≡◌, ◌⊎◌, ℕ, ◌≤◌, ◌<◌, List, [], length, codes, Option, Some, IfSome}
use Rattle.std.specs.Io.KnownBytes.{Appends, IsAtEnd}
use Rattle.io_ports.specs.Causes.{Rose}
use Rattle.command_answers.specs.Stream.{AppendsPrefix}
use Rattle.erl_syntax.specs.Checking.{AreNumbered}
use Rattle.erl_syntax.specs.Reading.{Reads, longest_text}
use Rattle.erl_syntax.specs.declared.module.Module as syntax
use Rattle.erl_syntax.specs.declared.checking.VarUse.{VarUse}
use Rattle.module_accept.specs.Accepting.{Accepts, IsDue}
use Rattle.term_value.specs.Machine.{start_of}
use Rattle.term_value.specs.Orders.{BadOrder, order_bound}
use Rattle.term_value.specs.ReadTrees.{module_of}
use Rattle.term_value.specs.Tree.{Module}
use Rattle.command_answers.specs.Whole.{IsReplayOf, IsRunOf}
use Rattle.command_answers.specs.declared.status.Status.{Status}
use Rattle.command_answers.specs.declared.status.Status.TheVariants as s

-- a port before and after a call: the bytes that it tells, and its faults
pub record Port : Type 0 where
  pub before : Option (List ℕ)
  pub after : Option (List ℕ)
  pub faults_before : ℕ
  pub faults_after : ℕ

abbrev pub port : {X : Type 0} → (X → Option (List ℕ)) → (X → ℕ) → X → X → Port
port told faults old new = record { before = told old; after = told new; faults_before = faults old; faults_after = faults new }

-- the port of a source that held this text and was read to its end, without a fault: so a text that no port gave stands in a source's place
abbrev pub source_of : List ℕ → Port
source_of text = record { before = Some text; after = Some []; faults_before = 0; faults_after = 0 }

-- its count of faults rose in the call
abbrev pub Faulted : Port → Type 0
Faulted p = Rose p.faults_before p.faults_after

-- it tells the same as before, and so does its count
pub record Untouched (p : Port) : Type 0 where
  pub told : p.after ≡ p.before
  pub count : p.faults_after ≡ p.faults_before

-- a source held this text, where it tells
abbrev pub Held : Port → List ℕ → Type 0
Held p text = IfSome p.before (λ held. held ≡ text)

-- a sink took these bytes and no others, where it tells
abbrev pub Took : Port → List ℕ → Type 0
Took p bytes = Appends p.before p.after bytes

-- its count rose, and it took a front of these bytes
pub record TookFront (p : Port) (bytes : List ℕ) : Type 0 where
  pub fault : Faulted p
  pub taken : AppendsPrefix p.before p.after bytes

-- A text that is due to the report is written whole, and the status is this one; or the report failed.
abbrev pub Reports : (good : Status) → List ℕ → Status → Port → Type 0
Reports good due status report = ((status ≡ good) × Took report due) ⊎ ((status ≡ s.ReportFault) × TookFront report due)

-- ---- The module's text: the same for all commands.

-- The source was read to its end, and its text is that of an accepted module.
pub record IsWhole (source : Port) (text : List ℕ) (tree : syntax.Module) : Type 0 where
  pub held : Held source text
  pub ended : IsAtEnd source.after
  pub short : length text ≤ longest_text
  pub accepts : Accepts text tree

-- So it is, it spells no other, and these are the variables of each of the module's functions.
pub record IsOpened (source : Port) (tree : syntax.Module) (numbers : List (List VarUse)) : Type 0 where
  pub text : List ℕ
  pub whole : IsWhole source text tree
  pub only : (other : syntax.Module) → Reads text other → other ≡ tree
  pub numbered : ∥ AreNumbered tree.functions numbers ∥₁

pub record IsTooLong (source : Port) (text line : List ℕ) : Type 0 where
  pub held : Held source text
  pub long : longest_text < length text
  pub due : line ≡ codes "1:1: text too long\n"

-- The source was read to its end, and its text is that of no accepted module: the line tells its first fault.
pub record IsUnaccepted (source : Port) (text line : List ℕ) : Type 0 where
  pub held : Held source text
  pub ended : IsAtEnd source.after
  pub short : length text ≤ longest_text
  pub none : (tree : syntax.Module) → Accepts text tree → ⊥
  pub due : IsDue text line

-- The text is refused with this line.
pub record IsRefusedWith (source : Port) (line : List ℕ) : Type 0 where
  pub text : List ℕ
  pub cause : IsTooLong source text line ⊎ IsUnaccepted source text line

-- the line of a refusal is the whole report
pub record IsRefused (source report : Port) : Type 0 where
  pub line : List ℕ
  pub refused : IsRefusedWith source line
  pub reported : Took report line

pub record IsUnread (source report : Port) : Type 0 where
  pub fault : Faulted source
  pub reported : Untouched report

-- the line of a refusal was due
pub record IsLineUnwritten (source report : Port) : Type 0 where
  pub line : List ℕ
  pub refused : IsRefusedWith source line
  pub reported : TookFront report line

-- What a command answers that has no module to go on with: its text is refused or can't be read, or memory was wanting.
abbrev pub AnswersUnopened : Status → Port → Port → Type 0
AnswersUnopened s.Refused source report = IsRefused source report
AnswersUnopened s.ReadFault source report = IsUnread source report
AnswersUnopened s.ReportFault source report = IsLineUnwritten source report
AnswersUnopened s.NoMemory source report = Untouched report
AnswersUnopened _ source report = ⊥

-- The module was opened, and what a command answers to it is said of the module as the copying machine has it.
pub record Opened (source : Port) (Answers : Module → Type 0) : Type 0 where
  pub tree : syntax.Module
  pub numbers : List (List VarUse)
  pub opened : IsOpened source tree numbers
  pub answer : Answers (module_of numbers tree)

-- ---- `check`

-- the report is `ok`
abbrev pub AnswersFound : Status → Port → Type 0
AnswersFound status report = Reports s.Done (codes "ok\n") status report

-- What the answer to `check` says.
abbrev pub AnswersCheck : Status → Port → Port → Type 0
AnswersCheck status source report = AnswersUnopened status source report ⊎ Opened source (λ code. AnswersFound status report)

-- ---- `gen`

-- What the answer to `gen` says, to which this text is due. Want of memory may come before the first byte is written.
abbrev pub AnswersGen : List ℕ → Status → Port → Type 0
AnswersGen text status report = ((status ≡ s.NoMemory) × Untouched report) ⊎ Reports s.Done text status report

-- ---- `run`

-- the texts of a run; the order is written whole before the report
pub record IsRunWritten (code : Module) (reductions : ℕ) (status : Status) (report order : Port) : Type 0 where
  pub order_text : List ℕ
  pub report_text : List ℕ
  pub run : IsRunOf code reductions order_text report_text
  pub ordered : Took order order_text
  pub reported : Reports s.Done report_text status report

pub record IsOrderFault (code : Module) (reductions : ℕ) (report order : Port) : Type 0 where
  pub order_text : List ℕ
  pub report_text : List ℕ
  pub run : IsRunOf code reductions order_text report_text
  pub ordered : TookFront order order_text
  pub reported : Untouched report

-- nothing was written to the two sinks
pub record AreUntouched (report order : Port) : Type 0 where
  pub reported : Untouched report
  pub ordered : Untouched order

-- What `run` answers to a module. Want of memory may come at any time before the order is written.
abbrev pub AnswersRan : ℕ → Status → Port → Port → Module → Type 0
AnswersRan reductions s.Done report order code = IsRunWritten code reductions s.Done report order
AnswersRan reductions s.ReportFault report order code = IsRunWritten code reductions s.ReportFault report order
AnswersRan reductions s.OrderFault report order code = IsOrderFault code reductions report order
AnswersRan reductions s.NoMemory report order code = AreUntouched report order
AnswersRan reductions _ report order code = ⊥

-- What the answer to `run` says.
abbrev pub AnswersRun : ℕ → Status → Port → Port → Port → Type 0
AnswersRun reductions status source report order = (AnswersUnopened status source report × Untouched order) ⊎ Opened source (AnswersRan reductions status report order)

-- ---- `copy`

-- the source of the order was read to its end
pub record IsOrderRead (order_in : Port) (text : List ℕ) : Type 0 where
  pub held : Held order_in text
  pub ended : IsAtEnd order_in.after
  pub short : length text ≤ order_bound

-- the report of the module in the order that was read
pub record IsCopied (code : Module) (reductions : ℕ) (status : Status) (order_in report : Port) : Type 0 where
  pub text : List ℕ
  pub read : IsOrderRead order_in text
  pub due : List ℕ
  pub replay : IsReplayOf code reductions text due
  pub reported : Reports s.Done due status report

-- what was read is no legal and complete order of the module: the line tells the first fault
pub record IsBadOrder (code : Module) (reductions : ℕ) (status : Status) (order_in report : Port) : Type 0 where
  pub text : List ℕ
  pub held : Held order_in text
  pub line : List ℕ
  pub bad : BadOrder (start_of code reductions) text line
  pub reported : Reports s.BadOrder line status report

-- What `copy` answers to a module. Want of memory may come at any time before the report is written.
abbrev pub AnswersCopied : ℕ → Status → Port → Port → Module → Type 0
AnswersCopied reductions s.Done order_in report code = IsCopied code reductions s.Done order_in report
AnswersCopied reductions s.BadOrder order_in report code = IsBadOrder code reductions s.BadOrder order_in report
AnswersCopied reductions s.ReportFault order_in report code = IsCopied code reductions s.ReportFault order_in report ⊎ IsBadOrder code reductions s.ReportFault order_in report
AnswersCopied reductions s.ReadFault order_in report code = IsUnread order_in report
AnswersCopied reductions s.NoMemory order_in report code = Untouched report
AnswersCopied reductions _ order_in report code = ⊥

-- What the answer to `copy` says.
abbrev pub AnswersCopy : ℕ → Status → Port → Port → Port → Type 0
AnswersCopy reductions status source order_in report = (AnswersUnopened status source report × Untouched order_in) ⊎ Opened source (AnswersCopied reductions status order_in report)
