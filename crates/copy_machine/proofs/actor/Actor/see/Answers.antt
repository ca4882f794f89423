use Rattle.std.proofs.Common.{ℕ, refl}
use Rattle.copy_machine.specs.Entering.{Conditions}
use Rattle.copy_machine.proofs.Acts.{see_none, see_other, see_some}
use Rattle.copy_machine.proofs.actor.Actor.see.Goals as goal

pub returns-else-is_more : goal.returns-else-is_more
returns-else-is_more g c = λ (s : Conditions) (pid : ℕ).
    see_none g.P.Process.code g.P.Process.local g.P.Process.waits s pid c.args.count c.args.self.now c.settle.new.self c.in_ok-settle.ensures (cc)

pub returns-else-is_all : goal.returns-else-is_all
returns-else-is_all g c = λ (s : Conditions) (pid : ℕ).
    see_other g.P.Process.code g.P.Process.local g.P.Process.waits s pid c.args.count c.args.self.now c.settle.new.self c.in_ok-settle.ensures (cc) (cc)

pub returns-in_ok-see : goal.returns-in_ok-see
returns-in_ok-see g c = λ (s : Conditions) (pid : ℕ).
    see_some g.P.Process.code g.P.Process.local g.P.Process.waits s pid c.args.count c.replace-messages.result.items c.args.self.now c.settle.new.self _ c.in_ok-settle.ensures (cc) (cc) (cc) c.in_ok-see.ensures.code c.in_ok-see.ensures.goes (cc) refl
