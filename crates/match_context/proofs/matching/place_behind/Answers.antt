use Rattle.std.proofs.Common.{◌∙◌, false, drop, sym}
use Rattle.bits_value.specs.declared.Sign.TheVariants.{Unsigned}
use Rattle.bits_value.specs.declared.Endian.TheVariants.{Big}
use Rattle.term_value.specs.Decode as d
use Rattle.term_value.specs.Match.{all_taken}
use Rattle.pattern_compile.specs.Meaning.{means}
use Rattle.pattern_compile.specs.declared.pattern.SizeForm.TheVariants.{Fixed}
use Rattle.pattern_compile.specs.declared.operation.Operation.{Operation}
use Rattle.pattern_compile.specs.declared.operation.Operation.TheVariants.{SizeOf}
use Rattle.pattern_compile.specs.declared.operation.SizedOperation.TheVariants.{Take}
use Rattle.match_context.specs.Contexts.{left}
use Rattle.match_context.specs.Envs.{known}
use Rattle.match_context.proofs.Running.{taken_more, none_left, fits_more, not_bound}
use Rattle.match_context.proofs.matching.place_behind.Goals as goal

-- what stands at no place of the list
abbrev none : Operation
none = SizeOf (Fixed 0) 0 (Take Unsigned Big false 0)

pub returns-in-Nowhere-clause-is : goal.returns-in-Nowhere-clause-is
returns-in-Nowhere-clause-is g c = λ bs a.
    let shown = g.S.Store.shown c.args.store.now in
    let F = g.E.Env.fixed c.args.env.now in
    let inv = c.loop-op.invariant.is bs a in
    sym (taken_more F (g.E.Env.fixed c.loop-op.env) c.loop-op.invariant.kept c.args.ops.now c.loop-op.op-index none c.loop-op-test.true inv.0 (drop c.loop-op.at (shown c.args.context.now.of)) (all_taken F.setting (means F.trees c.args.ops.now) bs (left shown c.args.context.now)) inv.1 d.NoCut (c.in-Nowhere.ensures.is inv.0 inv.2))

pub returns-in-Limit-clause-is : goal.returns-in-Limit-clause-is
returns-in-Limit-clause-is g c = λ bs a.
    let shown = g.S.Store.shown c.args.store.now in
    let F = g.E.Env.fixed c.args.env.now in
    let inv = c.loop-op.invariant.is bs a in
    sym (taken_more F (g.E.Env.fixed c.loop-op.env) c.loop-op.invariant.kept c.args.ops.now c.loop-op.op-index none c.loop-op-test.true inv.0 (drop c.loop-op.at (shown c.args.context.now.of)) (all_taken F.setting (means F.trees c.args.ops.now) bs (left shown c.args.context.now)) inv.1 d.CutLimit (c.in-Limit.ensures.is inv.0 inv.2))

pub returns-in-Nowhere-clause-others : goal.returns-in-Nowhere-clause-others
returns-in-Nowhere-clause-others g c = λ x n. c.in-Nowhere.ensures.others x (not_bound c.args.ops.now c.loop-op.op-index none x c.loop-op-test.true n) ∙ c.loop-op.invariant.others x n

pub returns-in-Limit-clause-others : goal.returns-in-Limit-clause-others
returns-in-Limit-clause-others g c = λ x n. c.in-Limit.ensures.others x (not_bound c.args.ops.now c.loop-op.op-index none x c.loop-op-test.true n) ∙ c.loop-op.invariant.others x n

pub returns-in-NoMemory-clause-others : goal.returns-in-NoMemory-clause-others
returns-in-NoMemory-clause-others g c = λ x n. c.in-NoMemory.ensures.others x (not_bound c.args.ops.now c.loop-op.op-index none x c.loop-op-test.true n) ∙ c.loop-op.invariant.others x n

pub loop-op-preserved : goal.loop-op-preserved
loop-op-preserved g c =
    let shown = g.S.Store.shown c.args.store.now in
    let F = g.E.Env.fixed c.args.env.now in
    record {
      is = λ bs a.
          let inv = c.loop-op.invariant.is bs a in
          let step = c.in-At.ensures.is inv.0 inv.2 in
          (step.0, taken_more F (g.E.Env.fixed c.loop-op.env) c.loop-op.invariant.kept c.args.ops.now c.loop-op.op-index none c.loop-op-test.true inv.0 (drop c.loop-op.at (shown c.args.context.now.of)) (all_taken F.setting (means F.trees c.args.ops.now) bs (left shown c.args.context.now)) inv.1 (d.Cut step.0 (drop c.in-At.next (shown c.args.context.now.of))) step.1, step.2);
      inside = c.in-At.ensures.inside;
      fits = fits_more F.variables (known (g.E.Env.held c.loop-op.env)) c.args.ops.now c.loop-op.op-index none c.loop-op-test.true (known (g.E.Env.held c.place_after.new.env)) c.in-At.ensures.known c.loop-op.invariant.fits;
      others = λ x n. c.in-At.ensures.others x (not_bound c.args.ops.now c.loop-op.op-index none x c.loop-op-test.true n) ∙ c.loop-op.invariant.others x n;
      there = c.in-At.ensures.there;
      kept = c.in-At.ensures.kept ∙ c.loop-op.invariant.kept;
    }

pub returns-clause-is : goal.returns-clause-is
returns-clause-is g c = λ bs a.
    let shown = g.S.Store.shown c.args.store.now in
    let F = g.E.Env.fixed c.args.env.now in
    let inv = c.loop-op.invariant.is bs a in
    (inv.0, none_left F c.args.ops.now c.loop-op.op-index inv.0 (drop c.loop-op.at (shown c.args.context.now.of)) (all_taken F.setting (means F.trees c.args.ops.now) bs (left shown c.args.context.now)) c.loop-op-test.false inv.1, inv.2)
