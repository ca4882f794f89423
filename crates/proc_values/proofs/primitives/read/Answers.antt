use Rattle.std.proofs.Common.{ap, sym, ◌∙◌}
use Rattle.term_value.specs.Primitives.{prim}
use Rattle.term_value.specs.Seen.{meanings}
use Rattle.term_value.specs.Terms.{row}
use Rattle.term_value.specs.Tree as t
use Rattle.code_tree.specs.Reading.{prim_of}
use Rattle.code_tree.specs.declared.form.Primitive.{Primitive}
use Rattle.expr_eval.specs.Answers.{setting}
use Rattle.expr_eval.proofs.Evaluations.{evaluated}
use Rattle.proc_values.proofs.primitives.read.Goals as goal

pub returns-in-Tuple-clause-is : goal.returns-in-Tuple-clause-is
returns-in-Tuple-clause-is g c =
    let shown = g.S.Store.shown c.args.store.now in
    let s = setting c.args.caller.now.names.now c.args.caller.now.pid in
    evaluated shown c.tuple.result (prim s t.MakeTuple (meanings shown (row c.args.values.items))) (prim s (prim_of c.args.primitive.now) (meanings shown (row c.args.values.items)))
    (ap (λ (p : Primitive). prim s (prim_of p) (meanings shown (row c.args.values.items))) (sym c.in-Tuple.is)) (c.tuple.ensures.is s)

pub returns-in-List-clause-is : goal.returns-in-List-clause-is
returns-in-List-clause-is g c =
    let shown = g.S.Store.shown c.args.store.now in
    let s = setting c.args.caller.now.names.now c.args.caller.now.pid in
    evaluated shown c.list.result (prim s t.MakeList (meanings shown (row c.args.values.items))) (prim s (prim_of c.args.primitive.now) (meanings shown (row c.args.values.items)))
    (ap (λ (p : Primitive). prim s (prim_of p) (meanings shown (row c.args.values.items))) (sym c.in-List.is)) (c.list.ensures.is s)

pub returns-in-Prefix-clause-is : goal.returns-in-Prefix-clause-is
returns-in-Prefix-clause-is g c =
    let shown = g.S.Store.shown c.args.store.now in
    let s = setting c.args.caller.now.names.now c.args.caller.now.pid in
    evaluated shown c.prefix.result (prim s (t.Prefixed c.in-Prefix.op) (meanings shown (row c.deref-in-Prefix.result.now))) (prim s (prim_of c.args.primitive.now) (meanings shown (row c.args.values.items)))
    (ap (λ ts. prim s (t.Prefixed c.in-Prefix.op) (meanings shown (row ts))) c.deref-in-Prefix.ensures.value ∙ ap (λ (p : Primitive). prim s (prim_of p) (meanings shown (row c.args.values.items))) (sym c.in-Prefix.is)) (c.prefix.ensures.is s)
