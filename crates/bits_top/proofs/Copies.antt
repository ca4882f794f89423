-- From a replay of the plain machine to the answer to `copy`.
use Rattle.std.proofs.Common.{ℕ, ◌≤◌, List, length, Err, sym, subst, inl, inr, refl}
use Rattle.copy_machine.specs.Replaying.{IsReplay}
use Rattle.copy_machine.specs.declared.fault.CopyFault.{CopyFault}
use Rattle.copy_machine.specs.declared.fault.CopyFault.TheVariants as f
use Rattle.term_value.specs.Machine.{Machine}
use Rattle.term_value.specs.Orders.{BadOrder, IsOrderText, illegal, incomplete, order_bound}
use Rattle.term_value.specs.Tree.{Module}
use Rattle.term_value.specs.declared.entry.Entry.{Entry}
use Rattle.command_answers.specs.Answer.{Port, AnswersCopied, IsOrderRead, Reports}
use Rattle.command_answers.specs.Whole.{IsReplayOf}
use Rattle.command_answers.specs.declared.status.Status.{Status}
use Rattle.command_answers.specs.declared.status.Status.TheVariants as s
use Rattle.bits_top.specs.Copying.{IsFaultLine}

-- the line of entries that are no legal and complete order is that of their text
pub bad_entries : (start : Machine) (text line : List ℕ) (entries : List Entry) (fault : CopyFault) → length text ≤ order_bound → IsOrderText text entries → IsReplay start entries (Err fault) → IsFaultLine fault line → BadOrder start text line
bad_entries start text line entries (f.Illegal place) short spells h due =
    let P : List Entry → Type 0 = λ es. IsOrderText text es in
    illegal start text line place short (record { before = h.before; entry = h.entry; later = h.later; spells = subst P h.are spells; state = h.state; leads = h.leads; illegal = h.illegal; place = h.is }) due
bad_entries start text line entries f.Incomplete short spells h due =
    incomplete start text line short (record { entries = entries; spells = spells; state = h.state; leads = h.leads; incomplete = h.incomplete }) due
bad_entries start text line entries f.NoMemory short spells h due = absurd due

-- the report of a replay is written, or it failed
pub copied_answers : (reductions : ℕ) (status : Status) (order_in report : Port) (code : Module) (text due : List ℕ) → IsOrderRead order_in text → IsReplayOf code reductions text due → Reports s.Done due status report →
    AnswersCopied reductions status order_in report code
copied_answers reductions status order_in report code text due read replay (inl h) =
    let P : Status → Type 0 = λ v. AnswersCopied reductions v order_in report code in
    subst P (sym h.0) (record { text = text; read = read; due = due; replay = replay; reported = inl (refl, h.1) })
copied_answers reductions status order_in report code text due read replay (inr h) =
    let P : Status → Type 0 = λ v. AnswersCopied reductions v order_in report code in
    subst P (sym h.0) (inl (record { text = text; read = read; due = due; replay = replay; reported = inr (refl, h.1) }))
