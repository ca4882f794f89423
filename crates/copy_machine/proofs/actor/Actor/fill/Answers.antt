use Rattle.std.proofs.Common.{◌≡◌, ℕ, refl, ap, ◌∙◌}
use Rattle.std.specs.Prelude.{nat_eq}
use Rattle.term_value.specs.Machine.{process_bound}
use Rattle.copy_machine.specs.Entering.{Conditions}
use Rattle.copy_machine.proofs.Acts.{fill_none, fill_early, fill_some, fill_awaits}
use Rattle.copy_machine.proofs.actor.Actor.fill.Goals as goal

pub fill-requires : goal.fill-requires
fill-requires g c = record {
  waits = c.in_ok-settle.ensures.waits;
  awaits = fill_awaits g.P.Process.code g.P.Process.local g.P.Process.waits c.args.self.now c.settle.new.self c.in_ok-settle.ensures (cc);
}

pub returns-else-is_start : goal.returns-else-is_start
returns-else-is_start g c = λ (s : Conditions) (pid : ℕ) (are : s.started ≡ c.args.started).
    fill_none g.P.Process.code g.P.Process.local g.P.Process.waits s pid c.args.self.now c.settle.new.self c.in_ok-settle.ensures (cc)

pub returns-else-is_full : goal.returns-else-is_full
returns-else-is_full g c = λ (s : Conditions) (pid : ℕ) (are : s.started ≡ c.args.started).
    fill_early g.P.Process.code g.P.Process.local g.P.Process.waits s pid c.args.self.now c.settle.new.self c.in_ok-settle.ensures (cc) (ap (λ (x : ℕ). nat_eq x process_bound) are ∙ (cc))

pub returns-then-is_full : goal.returns-then-is_full
returns-then-is_full g c = λ (s : Conditions) (pid : ℕ) (are : s.started ≡ c.args.started).
    fill_some g.P.Process.code g.P.Process.local g.P.Process.waits s pid c.args.self.now c.settle.new.self _ c.in_ok-settle.ensures (cc) (ap (λ (x : ℕ). nat_eq x process_bound) are ∙ (cc)) c.fill.ensures.code c.fill.ensures.goes refl refl
