use Rattle.std.proofs.Common.{ℕ, ◌≡◌, ◌+◌, ◌-◌, refl, arith}
use Rattle.off_heap.proofs.Walked.{walk_start, walk_some, walk_keep, walk_drop, walk_sound, walk_walked}
use Rattle.off_heap.proofs.heap.Heap.walk.Goals.{then-stays, else-stays}
use Rattle.off_heap.proofs.heap.Heap.walk.Goals as goal

none : (n : ℕ) → n - 0 ≡ n
none n = omega arith

pub loop-i-init : goal.loop-i-init
loop-i-init c =
    let t = c.self.invariant.total in
    record {
      state = rw (none c.self.inside.count) (walk_start c.args.leaves c.self.inside.cells.slots c.self.inside.head c.self.inside.count c.self.invariant.chained);
      total = omega arith;
      bounded = omega arith;
      swept = refl;
    }

pub stays-requires : goal.stays-requires
stays-requires c = walk_some _ _ _ _ _ _ _ c.loop-i.invariant.state (omega arith)

pub loop-i-preserved : goal.loop-i-preserved
loop-i-preserved c =
    let r : c.self.inside.count - c.loop-i.i - 1 ≡ c.self.inside.count - (c.loop-i.i + 1) = omega arith in
    let t = c.loop-i.invariant.total in
    elim c.if-stays.branch [
      | then-stays w ↦ (let k = w.keep-next.ensures.total in record {
        state = rw (w.self-inside-is, w.head-is, w.at-is, w.count-is, ← r)
            (walk_keep c.args.leaves c.self.inside.cells.slots c.loop-i.self-inside.cells.slots w.keep-next.new.cells.slots c.loop-i.head c.loop-i.at c.loop-i.count
            (c.self.inside.count - c.loop-i.i) w.keep-next.result c.loop-i.invariant.state (omega arith)
            w.keep-next.ensures.others w.keep-next.ensures.here w.if-stays.ensures);
        total = rw (w.self-inside-is, w.count-is) (omega arith);
        bounded = omega arith;
        swept = rw w.self-inside-is c.loop-i.invariant.swept;
      })
      | else-stays w ↦ (let k = w.give_up-at.ensures.total in record {
        state = rw (w.self-inside-is, w.head-is, w.at-is, w.count-is, ← r)
            (walk_drop c.args.leaves c.self.inside.cells.slots c.loop-i.self-inside.cells.slots w.give_up-at.new.cells.slots c.loop-i.head c.loop-i.at c.loop-i.count
            (c.self.inside.count - c.loop-i.i) w.give_up-at.result c.loop-i.invariant.state (omega arith)
            w.give_up-at.ensures.others w.give_up-at.ensures.gone w.give_up-at.ensures.here w.if-stays.ensures);
        total = rw (w.self-inside-is, w.count-is) (omega arith);
        bounded = omega arith;
        swept = rw w.self-inside-is c.loop-i.invariant.swept;
      })
    ]

pub invariant_of-self : goal.invariant_of-self
invariant_of-self c =
    let z : c.self.inside.count - c.loop-i.i ≡ 0 = omega arith in
    let t = c.loop-i.invariant.total in
    walk_sound c.args.leaves c.self.inside.cells.slots c.loop-i.self-inside.cells.slots c.self.inside.head c.self.inside.count c.loop-i.head c.loop-i.at c.loop-i.count c.self.invariant (rw z at c.loop-i.invariant.state) (omega arith) (omega arith)

pub returns-clause-walked : goal.returns-clause-walked
returns-clause-walked c =
    let z : c.self.inside.count - c.loop-i.i ≡ 0 = omega arith in
    rw (← c.self.view_is) (walk_walked c.args.leaves c.self.inside.cells.slots c.loop-i.self-inside.cells.slots c.loop-i.head c.loop-i.at c.loop-i.count (rw z at c.loop-i.invariant.state))
