use Rattle.std.proofs.Common.{map}
use Rattle.term_value.specs.Match.{all_taken}
use Rattle.term_value.specs.Rows.{front, skips}
use Rattle.pattern_compile.specs.Meaning.{means, wants}
use Rattle.match_context.proofs.Binding.{as_before}
use Rattle.match_context.specs.Contexts.{left}
use Rattle.match_context.specs.Envs.{known}
use Rattle.comprehension.proofs.Fronts.{stands, row_none, row_skips, front_same, same_agrees, skips_same, range_kept}
use Rattle.comprehension.proofs.rows.Rows.front.Goals as goal

pub release-requires : goal.release-requires
release-requires g c = range_kept (g.E.Env.fixed c.args.env.now) (g.E.Env.fixed c.run.new.env) (known (g.E.Env.held c.args.env.now)) c.args.self.now.pattern.ops c.run.ensures.kept c.requires.pattern

pub returns-else-left-length-clause-is : goal.returns-else-left-length-clause-is
returns-else-left-length-clause-is g c = λ bs a.
    let shown = g.S.Store.shown c.args.store.now in
    let F = g.E.Env.fixed c.args.env.now in
    let bits = left shown c.args.self.now.context in
    row_none shown (g.E.Env.held c.run.new.env) c.args.self.now.pattern.whole c.requires.rows.pattern (left shown c.run.new.context) bits
    (all_taken F.setting (means F.trees c.args.self.now.shape.ops) bs bits) (all_taken F.setting (means F.trees c.args.self.now.pattern.ops) bs bits) (c.in-Yes.ensures.is bs a)
    (stands shown (g.S.Store.has c.args.store.now) c.args.self.now.context c.run.new.context c.requires.rows.context c.in-Yes.ensures.valid c.left-length.result c.left.result c.left-length.ensures c.left.ensures c.if-left-length.false)

pub returns-else-left-length-clause-unbound : goal.returns-else-left-length-clause-unbound
returns-else-left-length-clause-unbound g c = as_before (g.E.Env.held c.args.env.now) (g.E.Env.held c.run.new.env) (g.E.Env.held c.release.new.env) (g.E.Env.fixed c.args.env.now).variables (map wants c.args.self.now.pattern.ops) c.requires.pattern c.run.ensures.others c.release.ensures.unbound

pub returns-in-No-clause-is : goal.returns-in-No-clause-is
returns-in-No-clause-is g c = λ bs a.
    let shown = g.S.Store.shown c.args.store.now in
    let F = g.E.Env.fixed c.args.env.now in
    let bits = left shown c.args.self.now.context in
    let rest = left shown c.skip.new.self.context in
    let held = g.E.Env.held c.skip.new.env in
    let skipped = all_taken F.setting (means F.trees c.args.self.now.shape.ops) bs bits in
    let agrees = same_agrees shown (g.E.Env.held c.args.env.now) (g.E.Env.held c.run.new.env) bs c.in-No.ensures.refused.1 a in
    front_same shown held rest c.skip.result (front F.setting (means F.trees c.args.self.now.pattern.ops) (means F.trees c.args.self.now.shape.ops) bs bits) (skips bits skipped)
    (row_skips shown held c.args.self.now.pattern.whole c.requires.rows.pattern rest bits skipped (all_taken F.setting (means F.trees c.args.self.now.pattern.ops) bs bits) (c.in-No.ensures.is bs a))
    (skips_same shown held rest c.skip.result c.args.self.now.shape.ops bs (g.E.Env.fixed c.run.new.env) F c.run.new.context c.args.self.now.context c.run.ensures.kept c.in-No.ensures.refused.0 (c.skip.ensures.is bs agrees))
