use Rattle.std.proofs.Common.{map}
use Rattle.term_value.specs.Match.{all_taken}
use Rattle.pattern_compile.specs.Meaning.{means, wants}
use Rattle.match_context.proofs.Binding.{as_before}
use Rattle.match_context.specs.Contexts.{left}
use Rattle.match_context.specs.Envs.{known}
use Rattle.comprehension.proofs.Fronts.{moved, stands, skip_found, skip_none, range_kept}
use Rattle.comprehension.proofs.rows.Rows.skip.Goals as goal

pub release-requires : goal.release-requires
release-requires g c = range_kept (g.E.Env.fixed c.args.env.now) (g.E.Env.fixed c.run.new.env) (known (g.E.Env.held c.args.env.now)) c.args.self.now.shape.ops c.run.ensures.kept c.requires.shape

pub returns-then-left-before-clause-is : goal.returns-then-left-before-clause-is
returns-then-left-before-clause-is g c = λ bs a.
    let shown = g.S.Store.shown c.args.store.now in
    let F = g.E.Env.fixed c.args.env.now in
    skip_found shown (g.E.Env.held c.run.new.env) c.args.self.now.shape.whole c.requires.rows.shape (left shown c.run.new.context) (left shown c.args.self.now.context)
    (all_taken F.setting (means F.trees c.args.self.now.shape.ops) bs (left shown c.args.self.now.context)) (c.in-Yes.ensures.is bs a)
    (moved shown (g.S.Store.has c.args.store.now) c.args.self.now.context c.run.new.context c.requires.rows.context c.in-Yes.ensures.valid c.left-before.result c.left.result c.left-before.ensures c.left.ensures c.if-left-before.true)

pub returns-else-left-before-clause-is : goal.returns-else-left-before-clause-is
returns-else-left-before-clause-is g c = λ bs a.
    let shown = g.S.Store.shown c.args.store.now in
    let F = g.E.Env.fixed c.args.env.now in
    skip_none shown (g.E.Env.held c.run.new.env) c.args.self.now.shape.whole c.requires.rows.shape (left shown c.run.new.context) (left shown c.args.self.now.context)
    (all_taken F.setting (means F.trees c.args.self.now.shape.ops) bs (left shown c.args.self.now.context)) (c.in-Yes.ensures.is bs a)
    (stands shown (g.S.Store.has c.args.store.now) c.args.self.now.context c.run.new.context c.requires.rows.context c.in-Yes.ensures.valid c.left-before.result c.left.result c.left-before.ensures c.left.ensures c.if-left-before.false)

pub returns-then-left-before-clause-before : goal.returns-then-left-before-clause-before
returns-then-left-before-clause-before g c = as_before (g.E.Env.held c.args.env.now) (g.E.Env.held c.run.new.env) (g.E.Env.held c.release.new.env) (g.E.Env.fixed c.args.env.now).variables (map wants c.args.self.now.shape.ops) c.requires.shape c.run.ensures.others c.release.ensures.unbound

pub returns-else-left-before-clause-before : goal.returns-else-left-before-clause-before
returns-else-left-before-clause-before g c = as_before (g.E.Env.held c.args.env.now) (g.E.Env.held c.run.new.env) (g.E.Env.held c.release.new.env) (g.E.Env.fixed c.args.env.now).variables (map wants c.args.self.now.shape.ops) c.requires.shape c.run.ensures.others c.release.ensures.unbound
