use Rattle.std.proofs.Common.{◌≡◌, ◌∙◌, ℕ, List, Bool, sym, ap, length, take, min, nat_cmp, arith}
use Rattle.std.specs.declared.cmp.Ordering.{Ordering}
use Rattle.std.specs.Ordering.{bool_cmp, ordering_then}
use Rattle.std.specs.Cmp.Lexicographic.{slice_cmp}
use Rattle.bits_value.specs.Bits.{bit_list}
use Rattle.bits_value.proofs.BitLists.{length-bit_list, front-bit_list}
use Rattle.bits_value.proofs.Orders.{order-front}
use Rattle.bits_value.proofs.bits.order.Goals as goal

fronts : (left right : List ℕ) (s t m n k : ℕ) → k ≡ min m n →
    ordering_then (slice_cmp bool_cmp (bit_list left s k) (bit_list right t k)) (nat_cmp m n) ≡ slice_cmp bool_cmp (bit_list left s m) (bit_list right t n)
fronts left right s t m n k e =
    let lm : length (bit_list left s m) ≡ m = length-bit_list left s m in
    let ln : length (bit_list right t n) ≡ n = length-bit_list right t n in
    let k' : k ≡ min (length (bit_list left s m)) (length (bit_list right t n)) = omega arith in
    ap (λ (w : List Bool). ordering_then (slice_cmp bool_cmp w (bit_list right t k)) (nat_cmp m n)) (front-bit_list left s m k (omega arith))
    ∙ ap (λ (w : List Bool). ordering_then (slice_cmp bool_cmp (take k (bit_list left s m)) w) (nat_cmp m n)) (front-bit_list right t n k (omega arith))
    ∙ sym (order-front (bit_list left s m) (bit_list right t n) k k'
    ∙ ap (λ i. ordering_then (slice_cmp bool_cmp (take k (bit_list left s m)) (take k (bit_list right t n))) (nat_cmp i (length (bit_list right t n)))) lm
    ∙ ap (λ i. ordering_then (slice_cmp bool_cmp (take k (bit_list left s m)) (take k (bit_list right t n))) (nat_cmp m i)) ln)

pub returns : goal.returns
returns c =
    c.then.ensures ∙ ap (λ (o : Ordering). ordering_then o c.cmp.result) c.order_runs.ensures
    ∙ ap (ordering_then (slice_cmp bool_cmp (bit_list c.left.inside.bytes.now c.left.inside.off c.min-shared.result) (bit_list c.right.inside.bytes.now c.right.inside.off c.min-shared.result))) c.cmp.ensures
    ∙ fronts c.left.inside.bytes.now c.right.inside.bytes.now c.left.inside.off c.right.inside.off c.left.inside.len c.right.inside.len c.min-shared.result c.min-shared.ensures
    ∙ ap (λ (w : List Bool). slice_cmp bool_cmp w (bit_list c.right.inside.bytes.now c.right.inside.off c.right.inside.len)) c.left.view_is
    ∙ ap (slice_cmp bool_cmp c.args.left) c.right.view_is
