use Rattle.std.proofs.Common.{ap, sym}
use Rattle.term_value.specs.Primitives.{bounded_result}
use Rattle.term_value.specs.BuiltIns.{native_1, bit_size, byte_size, tuple_size, list_length, absolute}
use Rattle.term_value.specs.Terms.{value_of}
use Rattle.erl_syntax.specs.declared.built_in.BuiltIn.{BuiltIn}
use Rattle.expr_eval.proofs.Evaluations.{evaluated}
use Rattle.expr_eval.proofs.GuardCalls.{plain_known, computed_evaluated}
use Rattle.expr_eval.proofs.guards.measure.Goals as goal

pub returns-in-BitSize-clause-is : goal.returns-in-BitSize-clause-is
returns-in-BitSize-clause-is g c =
    let shown = g.S.Store.shown c.args.store.now in
    let due = bounded_result (bit_size (value_of shown c.args.value.now)) in
    evaluated shown c.bit_size.result due (bounded_result (native_1 c.args.which (value_of shown c.args.value.now)))
    (ap (λ (b : BuiltIn). bounded_result (native_1 b (value_of shown c.args.value.now))) (sym c.in-BitSize.is)) (computed_evaluated shown c.bit_size.result due c.bit_size.ensures.is)

pub returns-in-BitSize-clause-known : goal.returns-in-BitSize-clause-known
returns-in-BitSize-clause-known g c = plain_known (g.S.Store.has c.args.store.now) c.bit_size.result c.bit_size.ensures.plain

pub returns-in-ByteSize-clause-is : goal.returns-in-ByteSize-clause-is
returns-in-ByteSize-clause-is g c =
    let shown = g.S.Store.shown c.args.store.now in
    let due = bounded_result (byte_size (value_of shown c.args.value.now)) in
    evaluated shown c.byte_size.result due (bounded_result (native_1 c.args.which (value_of shown c.args.value.now)))
    (ap (λ (b : BuiltIn). bounded_result (native_1 b (value_of shown c.args.value.now))) (sym c.in-ByteSize.is)) (computed_evaluated shown c.byte_size.result due c.byte_size.ensures.is)

pub returns-in-ByteSize-clause-known : goal.returns-in-ByteSize-clause-known
returns-in-ByteSize-clause-known g c = plain_known (g.S.Store.has c.args.store.now) c.byte_size.result c.byte_size.ensures.plain

pub returns-in-TupleSize-clause-is : goal.returns-in-TupleSize-clause-is
returns-in-TupleSize-clause-is g c =
    let shown = g.S.Store.shown c.args.store.now in
    let due = bounded_result (tuple_size (value_of shown c.args.value.now)) in
    evaluated shown c.tuple_size.result due (bounded_result (native_1 c.args.which (value_of shown c.args.value.now)))
    (ap (λ (b : BuiltIn). bounded_result (native_1 b (value_of shown c.args.value.now))) (sym c.in-TupleSize.is)) (computed_evaluated shown c.tuple_size.result due (c.tuple_size.ensures.is shown))

pub returns-in-TupleSize-clause-known : goal.returns-in-TupleSize-clause-known
returns-in-TupleSize-clause-known g c = plain_known (g.S.Store.has c.args.store.now) c.tuple_size.result c.tuple_size.ensures.plain

pub returns-in-Length-clause-is : goal.returns-in-Length-clause-is
returns-in-Length-clause-is g c =
    let shown = g.S.Store.shown c.args.store.now in
    let due = bounded_result (list_length (value_of shown c.args.value.now)) in
    evaluated shown c.list_length.result due (bounded_result (native_1 c.args.which (value_of shown c.args.value.now)))
    (ap (λ (b : BuiltIn). bounded_result (native_1 b (value_of shown c.args.value.now))) (sym c.in-Length.is)) (computed_evaluated shown c.list_length.result due (c.list_length.ensures.is shown))

pub returns-in-Length-clause-known : goal.returns-in-Length-clause-known
returns-in-Length-clause-known g c = plain_known (g.S.Store.has c.args.store.now) c.list_length.result c.list_length.ensures.plain

pub returns-in-Abs-clause-is : goal.returns-in-Abs-clause-is
returns-in-Abs-clause-is g c =
    let shown = g.S.Store.shown c.args.store.now in
    let due = bounded_result (absolute (value_of shown c.args.value.now)) in
    evaluated shown c.absolute.result due (bounded_result (native_1 c.args.which (value_of shown c.args.value.now)))
    (ap (λ (b : BuiltIn). bounded_result (native_1 b (value_of shown c.args.value.now))) (sym c.in-Abs.is)) (computed_evaluated shown c.absolute.result due (c.absolute.ensures.is shown))

pub returns-in-Abs-clause-known : goal.returns-in-Abs-clause-known
returns-in-Abs-clause-known g c = plain_known (g.S.Store.has c.args.store.now) c.absolute.result c.absolute.ensures.plain
