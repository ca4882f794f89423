use Rattle.std.proofs.Common.{◌≡◌, ◌∙◌, sym}
use Rattle.std.proofs.lemmas.Int.{to_z-of_z}
use Rattle.std.proofs.lemmas.List.Edits.{paste_all}
use mir.Val.{SFits, to_z, of_z}
use mir.Syntax.{w128}
use Rattle.bits_value.specs.Bits.{all_bits}
use Rattle.bits_value.specs.Number.{big_bits, little_bits, residue}
use Rattle.bits_value.proofs.BitLists.{length-big_bits}
use Rattle.bits_value.proofs.Little.{length-little_bits}
use Rattle.bits_value.proofs.writing.put.Goals as goal

pub returns-in-Big : goal.returns-in-Big
returns-in-Big c =
    let f : SFits w128 c.args.value = c.ranges.value in
    let same : to_z w128 (of_z w128 c.args.value) ≡ c.args.value = to_z-of_z w128 c.args.value f in
    let x = big_bits c.args.bits (residue c.args.bits c.args.value) in
    c.put_big.ensures ∙ rw (same, c.in-Big.is) (paste_all (all_bits c.args.target.now) c.args.off x c.args.bits (sym (length-big_bits c.args.bits (residue c.args.bits c.args.value))))

pub returns-in-Little : goal.returns-in-Little
returns-in-Little c =
    let f : SFits w128 c.args.value = c.ranges.value in
    let same : to_z w128 (of_z w128 c.args.value) ≡ c.args.value = to_z-of_z w128 c.args.value f in
    let x = little_bits c.args.bits (residue c.args.bits c.args.value) in
    c.put_little.ensures ∙ rw (same, c.in-Little.is) (paste_all (all_bits c.args.target.now) c.args.off x c.args.bits (sym (length-little_bits c.args.bits (residue c.args.bits c.args.value))))
