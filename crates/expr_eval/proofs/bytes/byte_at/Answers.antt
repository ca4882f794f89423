use Rattle.std.proofs.Common.{◌≡◌, ◌<◌, ◌^◌, pos, take, drop, arith, rules}
use Rattle.bits_value.specs.Number.{natural}
use Rattle.term_value.proofs.SmallNumbers.{is_number, is_some}
use Rattle.expr_eval.proofs.ByteTerms.{byte_fits}
use Rattle.expr_eval.proofs.bytes.byte_at.Goals as goal

pub overflow_cast-result : goal.overflow_cast-result
overflow_cast-result c =
    let below : natural (take 8 (drop c.args.off c.args.bits.now)) < 2 ^ 8 = byte_fits c.args.bits.now c.args.off c.requires in
    rw (is_number c.args.bits.now c.args.off 8 (omega arith) c.uint.result c.in-Some.number c.uint.ensures c.in-Some.is) (search rules)

pub returns-in-None : goal.returns-in-None
returns-in-None c =
    let none : pos 0 ≡ pos (natural (take 8 (drop c.args.off c.args.bits.now))) = is_some c.args.bits.now c.args.off 8 (omega arith) c.uint.result (natural (take 8 (drop c.args.off c.args.bits.now))) c.uint.ensures c.in-None.is in
    cc
