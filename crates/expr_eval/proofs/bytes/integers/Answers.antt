use Rattle.std.proofs.Common.{◌-◌, ◌/◌, ◌*◌, ◌+◌, ◌∷◌, ◌++◌, [], ℤ, pos, length, take, drop, ap, ◌∙◌, arith}
use Rattle.bits_value.specs.Number.{natural}
use Rattle.term_value.specs.BuiltIns.{bytes_of}
use Rattle.term_value.specs.declared.term.Term.TheVariants.{Int}
use Rattle.term_value.proofs.SmallNumbers.{as_passed}
use Rattle.expr_eval.proofs.ByteTerms.{byte_more, int_terms, pushed}
use Rattle.expr_eval.proofs.bytes.integers.Goals as goal

pub loop-index-preserved : goal.loop-index-preserved
loop-index-preserved g c =
    let bits = c.args.bits.now in
    let n = c.len-count.result / 8 in
    let i = c.loop-index.index in
    let old = c.loop-index.items.items in
    let byte = natural (take 8 (drop (8 * i) bits)) in
    let item = as_passed bits (8 * i) 8 (omega arith) c.from.result (c.from.ensures ∙ ap pos c.byte_at.ensures) in
    pushed old c.push.new.self.items (Int (pos byte)) (int_terms (bytes_of (n - i) (drop (8 * i) bits))) (int_terms (bytes_of (n - (i + 1)) (drop (8 * (i + 1)) bits))) (int_terms (bytes_of (length bits / 8) bits))
    (c.in_ok-push.ensures.items ∙ ap (λ (z : ℤ). old ++ Int z ∷ []) item) (ap int_terms (byte_more bits n i (omega (arith, c.loop-index-test.true)))) c.loop-index.invariant
