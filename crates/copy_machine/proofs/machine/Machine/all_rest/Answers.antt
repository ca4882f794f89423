use Rattle.std.proofs.Common.{arith}
use Rattle.term_value.specs.Machine as m
use Rattle.copy_machine.specs.Following.{Follows}
use Rattle.copy_machine.proofs.Machines.{rest_not, rest_all}
use Rattle.copy_machine.proofs.machine.Machine.all_rest.Goals as goal

pub returns-then-not-branch : goal.returns-then-not-branch
returns-then-not-branch g c = λ (machine : m.Machine) (h : Follows g.P.Process.code g.P.Process.local g.P.Process.waits machine c.args.self.now).
    let b = c.loop-index.invariant.before machine h in
    rest_not g.P.Process.code g.P.Process.local g.P.Process.waits machine c.loop-index.index c.in_ok-rests_at.field-0 c.loop-index.self c.rests_at.new.self b (c.in_ok-rests_at.ensures machine b.0) (cc)

pub returns : goal.returns
returns g c = λ (machine : m.Machine) (h : Follows g.P.Process.code g.P.Process.local g.P.Process.waits machine c.args.self.now).
    rest_all g.P.Process.code g.P.Process.local g.P.Process.waits machine c.loop-index.index c.args.self.now c.loop-index.self h (omega arith) (c.loop-index.invariant.before machine h)
