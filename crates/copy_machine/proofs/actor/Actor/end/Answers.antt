use Rattle.std.proofs.Common.{◌≡◌, ℕ, sym, ◌∙◌}
use Rattle.code_tree.specs.Reading.{module_meant}
use Rattle.copy_machine.specs.Entering.{Conditions}
use Rattle.copy_machine.proofs.Acts.{end_none, end_some}
use Rattle.copy_machine.proofs.actor.Actor.end.Goals as goal

pub returns-in-None : goal.returns-in-None
returns-in-None g c = λ (s : Conditions) (pid : ℕ) (same : s.code ≡ module_meant c.args.world.now.code.now).
    end_none g.P.Process.code g.P.Process.local g.P.Process.waits s (module_meant c.args.world.now.code.now) pid c.args.self.now c.settle.new.self same c.in_ok-settle.ensures (sym c.in_ok-ended_by.ensures ∙ c.in-None.is)

pub returns-in-Some : goal.returns-in-Some
returns-in-Some g c = λ (s : Conditions) (pid : ℕ) (same : s.code ≡ module_meant c.args.world.now.code.now).
    end_some g.P.Process.code g.P.Process.local g.P.Process.waits s (module_meant c.args.world.now.code.now) pid c.in-Some.ending c.args.self.now c.settle.new.self same c.in_ok-settle.ensures (sym c.in_ok-ended_by.ensures ∙ c.in-Some.is)
