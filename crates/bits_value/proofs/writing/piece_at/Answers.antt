use Rattle.std.proofs.Common.{◌≡◌, ◌∙◌, ◌%◌, ◌^◌, ap, arith}
use Rattle.std.proofs.lemmas.Int.{to_z-of_z}
use Rattle.std.specs.Int.{int_shr}
use mir.Val.{of_z, to_z, SFits}
use mir.Syntax.{w128}
use Rattle.bits_value.proofs.Gathered.{masked_wide}
use Rattle.bits_value.proofs.Residues.{residue-of_z, shr-SFits, shr-min}
use Rattle.bits_value.proofs.writing.piece_at.Goals as goal

pub returns : goal.returns
returns c =
    let f : SFits w128 c.args.value = c.ranges.value in
    let v = c.args.value in
    let inner : to_z w128 (of_z w128 v) ≡ v = to_z-of_z w128 v f in
    let outer : to_z w128 (of_z w128 (int_shr v c.min.result)) ≡ int_shr v c.min.result = to_z-of_z w128 (int_shr v c.min.result) (shr-SFits v c.min.result f) in
    let e : c.cast_unsigned.result ≡ of_z w128 (int_shr v c.args.skip)
    = c.cast_unsigned.ensures ∙ ap (λ z. of_z w128 (to_z w128 (of_z w128 (int_shr z c.min.result)))) inner ∙ ap (of_z w128) outer
    ∙ ap (λ k. of_z w128 (int_shr v k)) c.min.ensures ∙ ap (of_z w128) (shr-min v c.args.skip f) in
    masked_wide c.cast_unsigned.result c.args.count (omega arith) ∙ ap (λ n. n % 2 ^ c.args.count) e
    ∙ residue-of_z c.args.count (int_shr v c.args.skip) (omega arith) (shr-SFits v c.args.skip f)
