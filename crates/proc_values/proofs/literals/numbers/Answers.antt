use Rattle.std.proofs.Common.{◌≡◌, ◌++◌, ◌∷◌, [], ap, ◌∙◌, arith, rules, to_z, of_z}
use mir.Val.{SFits}
use mir.Syntax.{w128}
use Rattle.std.proofs.lemmas.Int.{to_z-of_z}
use Rattle.std.proofs.lemmas.List.Elements.{All-same, All-push}
use Rattle.bits_value.specs.declared.Endian.TheVariants.{Big}
use Rattle.bit_store.specs.Pieces.{pieces_bits, IsInside, HasPiece}
use Rattle.bit_store.specs.declared.piece.Piece.TheVariants.{Number}
use Rattle.proc_values.proofs.Spelt.{more_numbers}
use Rattle.proc_values.proofs.literals.numbers.Goals as goal

pub loop-at-preserved : goal.loop-at-preserved
loop-at-preserved g c =
    let shown = g.S.Store.shown c.args.store.now in
    let has = g.S.Store.has c.args.store.now in
    let fits : SFits w128 c.in-Some.value = search rules in
    let same : to_z w128 (of_z w128 c.in-Some.value) ≡ c.in-Some.value = to_z-of_z w128 c.in-Some.value fits in
    let pieces = c.loop-at.pieces.items in
    let piece = Number c.in-Some.value c.min-count.result Big in
    let pushed : c.push.new.self.items ≡ pieces ++ piece ∷ [] = c.in_ok-push-in-Some.ensures.items ∙ ap (λ p. pieces ++ p ∷ []) (c.number.ensures ∙ ap (λ v. Number v c.min-count.result Big) same) in
    record {
      inside = omega (arith, c.loop-at.invariant.inside);
      are = ap (pieces_bits shown) pushed ∙ more_numbers shown c.bits-bits.result c.loop-at.at c.min-count.result c.in-Some.value pieces c.loop-at.invariant.are (omega arith) c.in-Some.ensures;
      insides = All-same (IsInside shown) c.push.new.self.items (pieces ++ piece ∷ []) pushed (All-push (IsInside shown) pieces piece c.loop-at.invariant.insides tt);
      valid = All-same (HasPiece has) c.push.new.self.items (pieces ++ piece ∷ []) pushed (All-push (HasPiece has) pieces piece c.loop-at.invariant.valid tt);
    }
