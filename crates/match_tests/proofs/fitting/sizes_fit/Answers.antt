use Rattle.std.proofs.Common.{sym, subst}
use Rattle.std.proofs.lemmas.List.{take_all}
use Rattle.std.proofs.lemmas.List.Elements.{All-more, All-same}
use Rattle.std.specs.Prelude.{Option, take}
use Rattle.pattern_compile.specs.Meaning.{size_form}
use Rattle.pattern_compile.specs.Patterns.{SizeFits, given}
use Rattle.pattern_compile.specs.declared.operation.Operation.{Operation}
use Rattle.pattern_compile.specs.declared.pattern.SizeForm.{SizeForm}
use Rattle.match_tests.proofs.fitting.sizes_fit.Goals as goal

pub loop-op-preserved : goal.loop-op-preserved
loop-op-preserved c =
    let fits = subst (λ (size : Option SizeForm). SizeFits c.args.count (given size)) c.size.ensures (c.size_fits.ensures c.if-not-size_fits.false) in
    All-more (λ (op : Operation). SizeFits c.args.count (given (size_form op))) c.args.ops.now c.loop-op.op-index _ c.loop-op-test.true c.loop-op.invariant fits

pub returns : goal.returns
returns c = λ e. All-same (λ (op : Operation). SizeFits c.args.count (given (size_form op))) c.args.ops.now (take c.loop-op.op-index c.args.ops.now) (sym (take_all c.loop-op.op-index c.args.ops.now c.loop-op-test.false)) c.loop-op.invariant
