use Rattle.std.proofs.Common.{Some, None, drop, subst}
use Rattle.segment_cut.specs.Cuts.{IsCut}
use Rattle.term_value.specs.Decode as d
use Rattle.pattern_compile.specs.Meaning.{wants}
use Rattle.match_context.proofs.Wanting.{off_has, off_found, none_found}
use Rattle.match_context.proofs.found.find.Goals as goal

pub wanted-requires-clause-cut : goal.wanted-requires-clause-cut
wanted-requires-clause-cut g c =
    let shown = g.S.Store.shown c.args.store.now in
    let has = g.S.Store.has c.args.store.now in
    let all = shown c.args.context.now.of in
    let some = c.in-Bits.ensures.some in
    let cut = d.cut c.typed-typed.result some.0 (drop c.args.at all) in
    let off : IsCut shown has all cut (Some c.in-Ok-Some.off) = subst (IsCut shown has all cut) c.in-Ok-Some.field-0-is (c.in-Ok-Some.ensures some.0 some.1) in
    off_has shown has all cut c.in-Ok-Some.off off

pub returns-in-Ok-Some-clause-is : goal.returns-in-Ok-Some-clause-is
returns-in-Ok-Some-clause-is g c = λ bs a.
    let shown = g.S.Store.shown c.args.store.now in
    let has = g.S.Store.has c.args.store.now in
    let all = shown c.args.context.now.of in
    let F = g.E.Env.fixed c.args.env.now in
    let reached = c.in-Bits.ensures.is bs a in
    let cut = d.cut c.typed-typed.result reached.0 (drop c.args.at all) in
    let off : IsCut shown has all cut (Some c.in-Ok-Some.off) = subst (IsCut shown has all cut) c.in-Ok-Some.field-0-is (c.in-Ok-Some.ensures reached.0 reached.2) in
    off_found shown has F.setting F.trees bs all c.args.at c.args.op.now c.typed-typed.result c.size.result c.target.result c.typed-typed.ensures c.size.ensures reached.0 reached.1 c.in-Ok-Some.off off c.target.ensures c.wanted.result
    (λ v is. c.wanted.ensures.is bs a v F.setting all is)

pub returns-in-Ok-Some-clause-inside : goal.returns-in-Ok-Some-clause-inside
returns-in-Ok-Some-clause-inside g c =
    let shown = g.S.Store.shown c.args.store.now in
    let has = g.S.Store.has c.args.store.now in
    let all = shown c.args.context.now.of in
    let some = c.in-Bits.ensures.some in
    let cut = d.cut c.typed-typed.result some.0 (drop c.args.at all) in
    let off : IsCut shown has all cut (Some c.in-Ok-Some.off) = subst (IsCut shown has all cut) c.in-Ok-Some.field-0-is (c.in-Ok-Some.ensures some.0 some.1) in
    c.wanted.ensures.inside all off.inside

pub returns-in-Ok-None-clause-is : goal.returns-in-Ok-None-clause-is
returns-in-Ok-None-clause-is g c = λ bs a.
    let shown = g.S.Store.shown c.args.store.now in
    let has = g.S.Store.has c.args.store.now in
    let all = shown c.args.context.now.of in
    let F = g.E.Env.fixed c.args.env.now in
    let reached = c.in-Bits.ensures.is bs a in
    let cut = d.cut c.typed-typed.result reached.0 (drop c.args.at all) in
    let none : IsCut shown has all cut None = subst (IsCut shown has all cut) c.in-Ok-None.field-0-is (c.in-Ok-None.ensures reached.0 reached.2) in
    none_found shown has F.setting F.trees bs all c.args.at c.args.op.now c.typed-typed.result c.size.result (wants c.args.op.now) c.typed-typed.ensures c.size.ensures reached.0 reached.1 none
