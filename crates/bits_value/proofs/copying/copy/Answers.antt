use Rattle.std.proofs.Common.{◌≡◌, ◌+◌, ◌-◌, ap, ◌∙◌, List, Bool, arith}
use lib.Seq.{paste}
use Rattle.bits_value.specs.Bits.{all_bits, bit_list}
use Rattle.bits_value.proofs.Written.{length-all_bits}
use Rattle.bits_value.proofs.Copied.{copied-more}
use Rattle.bits_value.proofs.copying.copy.Goals as goal

pub returns-then-whole-eq0 : goal.returns-then-whole-eq0
returns-then-whole-eq0 c =
    let head = c.min-head.result in
    let rest = c.args.count - head in
    let sum : head + rest ≡ c.args.count = omega arith in
    let la = length-all_bits c.args.target.now in
    c.copy_ends-then-whole-eq0.ensures ∙ ap (λ (d : List Bool). paste d (c.args.off + head) (bit_list c.args.source.now (c.args.from + head) rest) rest) c.copy_ends.ensures
    ∙ copied-more (all_bits c.args.target.now) c.args.off c.args.source.now c.args.from head rest (omega arith)
    ∙ ap (λ n. paste (all_bits c.args.target.now) c.args.off (bit_list c.args.source.now c.args.from n) n) sum

pub returns-else-whole-eq0 : goal.returns-else-whole-eq0
returns-else-whole-eq0 c =
    let head = c.min-head.result in
    let rest = c.args.count - head in
    let sum : head + rest ≡ c.args.count = omega arith in
    let la = length-all_bits c.args.target.now in
    c.copy_rest.ensures ∙ ap (λ (d : List Bool). paste d (c.args.off + head) (bit_list c.args.source.now (c.args.from + head) rest) rest) c.copy_ends.ensures
    ∙ copied-more (all_bits c.args.target.now) c.args.off c.args.source.now c.args.from head rest (omega arith)
    ∙ ap (λ n. paste (all_bits c.args.target.now) c.args.off (bit_list c.args.source.now c.args.from n) n) sum
