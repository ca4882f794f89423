use Rattle.std.proofs.Common.{ap, length, arith}
use Rattle.term_value.specs.Terms.{value_of}
use Rattle.expr_eval.proofs.ByteRanges.{wanted_inside}
use Rattle.expr_eval.proofs.parts.binary_part.Goals as goal

pub cut-requires-clause-inside : goal.cut-requires-clause-inside
cut-requires-clause-inside g c =
    let shown = g.S.Store.shown c.args.store.now in
    let inside = wanted_inside c.len.result (value_of shown c.args.start.now) (value_of shown c.args.len.now) c.in-Some.range (c.in-Some.ensures shown) in
    omega (arith, inside, c.len.ensures, ap length c.look.ensures)
