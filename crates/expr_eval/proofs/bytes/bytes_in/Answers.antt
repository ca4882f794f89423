use Rattle.std.proofs.Common.{◌-◌, ◌/◌, ◌*◌, ◌+◌, ◌∷◌, ℕ, length, drop, ap, sym, ◌∙◌, arith}
use Rattle.term_value.specs.BuiltIns.{bytes_of}
use Rattle.expr_eval.proofs.ByteTerms.{byte_more, pushed}
use Rattle.expr_eval.proofs.bytes.bytes_in.Goals as goal

pub loop-index-preserved : goal.loop-index-preserved
loop-index-preserved c =
    let bits = c.args.bits.now in
    let n = c.len-count.result / 8 in
    let rest = bytes_of (n - (c.loop-index.index + 1)) (drop (8 * (c.loop-index.index + 1)) bits) in
    pushed c.loop-index.bytes.items c.push.new.self.items c.byte_at.result (bytes_of (n - c.loop-index.index) (drop (8 * c.loop-index.index) bits)) rest (bytes_of (length bits / 8) bits)
    c.in_ok-push.ensures.items (byte_more bits n c.loop-index.index (omega (arith, c.loop-index-test.true)) ∙ ap (λ (b : ℕ). b ∷ rest) (sym c.byte_at.ensures)) c.loop-index.invariant
