use Rattle.std.proofs.Common.{◌≡◌, ◌∙◌, sym, ap, length, arith}
use Rattle.std.proofs.lemmas.List.Edits.{paste_all}
use Rattle.bits_value.specs.Bits.{all_bits, bit_list}
use Rattle.bits_value.proofs.BitLists.{length-bit_list}
use Rattle.bits_value.proofs.bits.copy_bits.Goals as goal

pub copy-requires-clause-inside : goal.copy-requires-clause-inside
copy-requires-clause-inside c =
    let h = length-bit_list c.source.inside.bytes.now c.source.inside.off c.source.inside.len in
    let e : c.source.inside.len ≡ length c.args.source = sym h ∙ ap length c.source.view_is in
    omega arith

pub returns : goal.returns
returns c =
    let s = c.source.inside in
    let h = length-bit_list s.bytes.now s.off s.len in
    let e : length c.args.source ≡ s.len = sym (sym h ∙ ap length c.source.view_is) in
    rw (e, ← c.source.view_is) (c.copy.ensures ∙ paste_all (all_bits c.args.target.now) c.args.off (bit_list s.bytes.now s.off s.len) s.len (sym h))
