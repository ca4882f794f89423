use Rattle.std.proofs.Common.{◌≡◌, ◌+◌, ◌&&◌, ℕ, sym, ap, ◌∙◌, subst}
use Rattle.std.specs.Prelude.{nat_eq, nat_le}
use Rattle.code_tree.specs.PlainTerms.{value}
use Rattle.term_value.specs.Machine.{process_bound}
use Rattle.copy_machine.specs.Entering.{Conditions, conditions}
use Rattle.copy_machine.specs.Starting.{Begins}
use Rattle.copy_machine.proofs.Acts.{start_none, start_far, start_some, start_awaits}
use Rattle.copy_machine.proofs.actor.Actor.start.Goals as goal

pub answer-requires : goal.answer-requires
answer-requires g c = record {
  waits = c.in_ok-settle.ensures.waits;
  awaits = start_awaits g.P.Process.code g.P.Process.local g.P.Process.waits c.in-Some.call c.args.self.now c.settle.new.self c.in_ok-settle.ensures (sym c.in_ok-called_by.ensures ∙ c.in-Some.is);
}

pub returns-else-is_next : goal.returns-else-is_next
returns-else-is_next g c = λ (s : Conditions) (pid : ℕ) (same : s ≡ conditions c.args.world.now.code.now c.args.world.now.reductions c.args.started).
    start_far g.P.Process.code g.P.Process.local g.P.Process.waits s pid c.args.child c.args.self.now c.settle.new.self c.in_ok-settle.ensures
    (ap (λ (x : Conditions). nat_eq c.args.child (x.started + 1) && nat_le c.args.child process_bound) same ∙ (cc))

pub returns-in-None : goal.returns-in-None
returns-in-None g c = λ (s : Conditions) (pid : ℕ) (same : s ≡ conditions c.args.world.now.code.now c.args.world.now.reductions c.args.started).
    start_none g.P.Process.code g.P.Process.local g.P.Process.waits s pid c.args.child c.args.self.now c.settle.new.self c.in_ok-settle.ensures (sym c.in_ok-called_by.ensures ∙ c.in-None.is)

pub returns-in_ok-process-in-Some : goal.returns-in_ok-process-in-Some
returns-in_ok-process-in-Some g c = λ (s : Conditions) (pid : ℕ) (same : s ≡ conditions c.args.world.now.code.now c.args.world.now.reductions c.args.started).
    start_some g.P.Process.code g.P.Process.local g.P.Process.waits s pid c.args.child c.in-Some.call c.in_ok-first-in-Some.first (value c.of-pid.result) c.in_ok-process-in-Some.process c.args.self.now c.settle.new.self c.answer.new.self c.in_ok-settle.ensures (sym c.in_ok-called_by.ensures ∙ c.in-Some.is)
    (ap (λ (x : Conditions). nat_eq c.args.child (x.started + 1) && nat_le c.args.child process_bound) same ∙ (cc))
    (subst (λ (x : Conditions). Begins x.code x.reductions c.args.child c.in-Some.call c.in_ok-first-in-Some.first) (sym same) c.in_ok-first-in-Some.ensures)
    c.in_ok-process-in-Some.ensures.begins c.in_ok-process-in-Some.ensures.code (ap value c.of-pid.ensures) c.answer.ensures
