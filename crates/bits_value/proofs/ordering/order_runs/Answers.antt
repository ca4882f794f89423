use Rattle.std.proofs.Common.{◌≡◌, ◌+◌, ap, sym, ◌∙◌, refl, nat_cmp, arith}
use Rattle.bits_value.specs.Bits.{bit_list}
use Rattle.bits_value.specs.Number.{natural}
use Rattle.bits_value.proofs.Orders.{order-part, order-same, same-more}
use Rattle.bits_value.proofs.ordering.order_runs.Goals as goal

pub loop-done-init : goal.loop-done-init
unfolding bit_list
loop-done-init c = record { within = omega arith; same = refl }

pub returns-then-first-second : goal.returns-then-first-second
returns-then-first-second c =
    let a = natural (bit_list c.args.left.now (c.args.left_start + c.loop-done.done) c.min-step.result) in
    let b = natural (bit_list c.args.right.now (c.args.right_start + c.loop-done.done) c.min-step.result) in
    let ne : a ≡ b → ⊥ = λ (e : a ≡ b). c.if-first-second.true (c.chunk-first.ensures ∙ e ∙ sym c.chunk-second.ensures) in
    c.cmp.ensures ∙ ap (λ n. nat_cmp n c.chunk-second.result) c.chunk-first.ensures ∙ ap (nat_cmp a) c.chunk-second.ensures
    ∙ order-part c.args.left.now c.args.right.now c.args.left_start c.args.right_start c.loop-done.done c.min-step.result c.args.count (omega arith) c.loop-done.invariant.same ne

pub loop-done-preserved : goal.loop-done-preserved
loop-done-preserved c = record {
  within = omega arith;
  same = same-more c.args.left.now c.args.right.now c.args.left_start c.args.right_start c.loop-done.done c.min-step.result c.loop-done.invariant.same
      (sym c.chunk-first.ensures ∙ c.if-first-second.false ∙ c.chunk-second.ensures);
}

pub returns : goal.returns
returns c =
    let done : c.loop-done.done ≡ c.args.count = omega arith in
    order-same c.args.left.now c.args.right.now c.args.left_start c.args.right_start c.args.count (rw done at c.loop-done.invariant.same)
