use Rattle.std.proofs.Common.{◌≡◌, ◌+◌, ◌++◌, List, Bool, length, arith, ap, sym, subst, ◌∙◌, IfOk}
use Rattle.std.proofs.lemmas.List.{length-append}
use Rattle.bit_store.specs.Stores.{itself}
use Rattle.bit_store.specs.Pieces.{pieces_bits}
use Rattle.bit_store.proofs.WrittenBits.{frozen_is}
use Rattle.bit_store.proofs.plain.made.Goals as goal

pub whole-requires-clause-size : goal.whole-requires-clause-size
whole-requires-clause-size c =
    let is : c.of.result ≡ c.args.first ++ pieces_bits itself c.args.pieces.now = frozen_is c.write_all.new.target _ _ c.args.total (length c.args.first + length (pieces_bits itself c.args.pieces.now)) (c.args.first ++ pieces_bits itself c.args.pieces.now) c.of.result
    (omega (arith, c.write_all.auto.target, c.deref_mut.ensures.len)) (omega (arith, c.write_all.auto.target, ap length c.deref_mut.ensures.value, c.in_ok-bytes.ensures)) c.requires.size c.of.ensures c.write_all.ensures in
    c.requires.size ∙ sym (ap length is ∙ length-append c.args.first (pieces_bits itself c.args.pieces.now))

pub returns : goal.returns
returns c =
    let is : c.of.result ≡ c.args.first ++ pieces_bits itself c.args.pieces.now = frozen_is c.write_all.new.target _ _ c.args.total (length c.args.first + length (pieces_bits itself c.args.pieces.now)) (c.args.first ++ pieces_bits itself c.args.pieces.now) c.of.result
    (omega (arith, c.write_all.auto.target, c.deref_mut.ensures.len)) (omega (arith, c.write_all.auto.target, ap length c.deref_mut.ensures.value, c.in_ok-bytes.ensures)) c.requires.size c.of.ensures c.write_all.ensures in
    let P : List Bool → Type 0 = λ bits. IfOk c.whole.result (λ (window : List Bool). window ≡ bits) in
    subst P is c.whole.ensures
