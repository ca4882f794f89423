use Rattle.std.proofs.Common.{◌≡◌, ℕ, ◌+◌, ◌-◌, ◌*◌, ◌/◌, ◌++◌, ap, sym, ◌∙◌, length, List, Bool, arith}
use lib.Seq.{paste}
use Rattle.bits_value.specs.Bits.{all_bits, bit_list}
use Rattle.bits_value.proofs.Written.{length-all_bits, own_kept}
use Rattle.bits_value.proofs.Copied.{copied-more, paste-second, bit_list-left}
use Rattle.bits_value.proofs.copying.copy_own_run.Goals as goal

pub returns-then-rest-gt0 : goal.returns-then-rest-gt0
returns-then-rest-gt0 c =
    let head = c.min-head.result in
    let rest = c.args.count - head in
    let at = c.args.from + head in
    let old = c.args.target.now in
    let new = c.copy_own_ends.new.target in
    let left = c.split_at_mut-source.result.0.now in
    let right = c.split_at_mut-source.result.1.now in
    let split : new ≡ left ++ right = c.split_at_mut-source.ensures.value in
    let long : length left ≡ (c.args.off + head) / 8 = c.split_at_mut-source.ensures.front_len in
    let place : 8 * length left ≡ c.args.off + head = omega arith in
    let la = length-all_bits old in
    let sum : head + rest ≡ c.args.count = omega arith in
    let own : bit_list left at rest ≡ bit_list old at rest
    = sym (bit_list-left left right at rest (omega arith)) ∙ ap (λ (b : List ℕ). bit_list b at rest) (sym split) ∙ own_kept old new c.args.off c.args.from head at rest (omega arith) (omega arith) c.copy_own_ends.ensures in
    paste-second left right c.copy_rest.new.target (bit_list left at rest) rest c.copy_rest.ensures
    ∙ ap (λ (b : List ℕ). paste (all_bits b) (8 * length left) (bit_list left at rest) rest) (sym split)
    ∙ ap (λ n. paste (all_bits new) n (bit_list left at rest) rest) place
    ∙ ap (λ (d : List Bool). paste d (c.args.off + head) (bit_list left at rest) rest) c.copy_own_ends.ensures
    ∙ ap (λ (w : List Bool). paste (paste (all_bits old) c.args.off (bit_list old c.args.from head) head) (c.args.off + head) w rest) own
    ∙ copied-more (all_bits old) c.args.off old c.args.from head rest (omega arith)
    ∙ ap (λ n. paste (all_bits old) c.args.off (bit_list old c.args.from n) n) sum
