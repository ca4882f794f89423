use Rattle.std.proofs.Common.{ℕ, sym, ap, ◌∙◌}
use Rattle.code_tree.specs.PlainTerms.{value}
use Rattle.copy_machine.specs.Entering.{Conditions}
use Rattle.copy_machine.proofs.Acts.{show_none, show_some, show_awaits}
use Rattle.copy_machine.proofs.actor.Actor.show.Goals as goal

pub answer-requires : goal.answer-requires
answer-requires g c = record {
  waits = c.in_ok-settle.ensures.waits;
  awaits = show_awaits g.P.Process.code g.P.Process.local g.P.Process.waits c.in-Some.shown c.args.self.now c.settle.new.self c.in_ok-settle.ensures (sym c.in_ok-shown_by.ensures ∙ c.in-Some.is);
}

pub returns-in-None : goal.returns-in-None
returns-in-None g c = λ (s : Conditions) (pid : ℕ).
    show_none g.P.Process.code g.P.Process.local g.P.Process.waits s pid c.args.self.now c.settle.new.self c.in_ok-settle.ensures (sym c.in_ok-shown_by.ensures ∙ c.in-None.is)

pub returns-in-Some : goal.returns-in-Some
returns-in-Some g c = λ (s : Conditions) (pid : ℕ).
    show_some g.P.Process.code g.P.Process.local g.P.Process.waits s pid c.in-Some.shown (value c.of-yes.result) c.args.self.now c.settle.new.self c.answer.new.self c.in_ok-settle.ensures (sym c.in_ok-shown_by.ensures ∙ c.in-Some.is) (ap value c.of-yes.ensures) c.answer.ensures
