use Rattle.std.proofs.Common.{◌≡◌, ◌+◌, ◌*◌, ◌/◌, ◌%◌, ◌^◌, ◌<◌, sym, ◌∙◌, length, slice_index_or, arith, rules}
use Rattle.std.proofs.lemmas.List.Edits.{paste_none}
use Rattle.bits_value.specs.Bits.{all_bits, bit_list}
use Rattle.bits_value.specs.Number.{natural}
use Rattle.bits_value.proofs.Written.{length-all_bits}
use Rattle.bits_value.proofs.Copied.{byte-more, natural-joined}
use Rattle.bits_value.proofs.copying.copy_shifted.Goals as goal

pub loop-i-init : goal.loop-i-init
loop-i-init c = paste_none (all_bits c.args.target.now) c.args.off (bit_list c.args.source.now c.args.from (8 * 0))

pub loop-i-preserved : goal.loop-i-preserved
loop-i-preserved c =
    let s = c.args.from % 8 in
    let f = c.args.from / 8 in
    let i = c.loop-i.i in
    let la = length-all_bits c.args.target.now in
    let lt : length (all_bits c.args.target.now) ≡ 8 * length c.loop-i.target = omega arith in
    let b : slice_index_or c.args.source.now (f + i + 1) 0 < 2 ^ 8 = search rules in
    let some : 0 < s = c.requires.shifted in
    let n : c.joined.result ≡ natural (bit_list c.args.source.now (c.args.from + 8 * i) 8)
    = c.joined.ensures ∙ sym (natural-joined c.args.source.now (c.args.from + 8 * i) (f + i) s (omega arith) some (omega arith) b) in
    byte-more (all_bits c.args.target.now) c.loop-i.target c.args.off c.args.source.now c.args.from i c.joined.result c.requires.aligned (omega arith) lt c.joined.type_inv n c.loop-i.invariant
