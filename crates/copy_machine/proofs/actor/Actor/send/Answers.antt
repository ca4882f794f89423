use Rattle.std.proofs.Common.{ℕ, Bool, List, sym, ◌∙◌, subst}
use Rattle.term_value.specs.Seen.{Seen}
use Rattle.code_tree.specs.PlainTerms.{value}
use Rattle.copy_machine.specs.Entering.{Answers, Conditions}
use Rattle.copy_machine.proofs.Acts.{send_none, send_some, send_awaits}
use Rattle.copy_machine.proofs.actor.Actor.send.Goals as goal

pub answer-requires : goal.answer-requires
answer-requires g c = record {
  waits = c.in_ok-settle.ensures.waits;
  awaits = send_awaits g.P.Process.code g.P.Process.local g.P.Process.waits c.args.to c.in-Some.message c.args.self.now c.settle.new.self c.in_ok-settle.ensures (sym c.in_ok-message_to.ensures ∙ c.in-Some.is);
}

pub returns-in-None : goal.returns-in-None
returns-in-None g c = λ (s : Conditions) (pid : ℕ).
    send_none g.P.Process.code g.P.Process.local g.P.Process.waits s pid c.args.to c.args.self.now c.settle.new.self c.in_ok-settle.ensures (sym c.in_ok-message_to.ensures ∙ c.in-None.is)

pub returns-in_ok-copy-in-Some : goal.returns-in_ok-copy-in-Some
returns-in_ok-copy-in-Some g c = λ (s : Conditions) (pid : ℕ).
    send_some g.P.Process.code g.P.Process.local g.P.Process.waits s pid c.args.to c.in-Some.message c.args.self.now c.settle.new.self c.answer.new.self c.in_ok-settle.ensures (sym c.in_ok-message_to.ensures ∙ c.in-Some.is)
    (subst (λ (v : Seen (List Bool)). Answers g.P.Process.code g.P.Process.local (value v) c.settle.new.self c.answer.new.self) c.in_ok-copy-in-Some.ensures c.answer.ensures)
