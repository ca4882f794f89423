use Rattle.std.proofs.Common.{ap, length, arith}
use Rattle.term_value.specs.Terms.{value_of}
use Rattle.expr_eval.proofs.ByteRanges.{front_inside}
use Rattle.expr_eval.proofs.parts.split_binary.Goals as goal

pub split-requires-clause-inside : goal.split-requires-clause-inside
split-requires-clause-inside g c =
    let shown = g.S.Store.shown c.args.store.now in
    let inside = front_inside c.len.result (value_of shown c.args.count.now) c.in-Some.bytes (c.in-Some.ensures shown) in
    omega (arith, inside, c.len.ensures, ap length c.look.ensures)
