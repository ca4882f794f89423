use Rattle.std.proofs.Common.{ap, arith, ◌+◌, ℕ}
use Rattle.std.proofs.lemmas.List.{get_or_default}
use Rattle.copy_machine.proofs.Replays.{stopped, led_more, follows_on}
use Rattle.copy_machine.proofs.replaying.lead.Goals as goal

pub returns-then-not-branch : goal.returns-then-not-branch
returns-then-not-branch g c =
    stopped g.P.Process.code g.P.Process.local g.P.Process.waits c.args.entries.now c.loop-entry.entry-index (c.loop-entry.place + 1) _ c.in_ok-apply.field-0 c.args.machine.now c.loop-entry.machine c.apply.new.self (omega arith) (get_or_default c.args.entries.now c.loop-entry.entry-index _ _ (omega arith)) (cc) (ap (λ (n : ℕ). n + 1) c.loop-entry.invariant.place) c.in_ok-apply.ensures c.loop-entry.invariant.led

pub loop-entry-preserved : goal.loop-entry-preserved
loop-entry-preserved g c = record {
  place = ap (λ (n : ℕ). n + 1) c.loop-entry.invariant.place;
  follower = follows_on g.P.Process.code g.P.Process.local g.P.Process.waits _ c.in_ok-apply.field-0 c.loop-entry.machine c.apply.new.self c.in_ok-apply.ensures c.loop-entry.invariant.follower;
  led = led_more g.P.Process.code g.P.Process.local g.P.Process.waits c.args.entries.now c.loop-entry.entry-index _ c.in_ok-apply.field-0 c.args.machine.now c.loop-entry.machine c.apply.new.self (omega arith) (get_or_default c.args.entries.now c.loop-entry.entry-index _ _ (omega arith)) (cc) c.in_ok-apply.ensures c.loop-entry.invariant.led;
}
