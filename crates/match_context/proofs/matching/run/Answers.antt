use Rattle.std.proofs.Common.{◌≡◌, ◌∙◌, ◌<◌, true, List, length, map, ap, sym, refl, rules, arith}
use Rattle.term_value.specs.Match.{all_taken}
use Rattle.pattern_compile.specs.Meaning.{means, wants}
use Rattle.pattern_compile.specs.Patterns.{one_binds}
use Rattle.pattern_compile.specs.declared.operation.Operation.{Operation}
use Rattle.match_context.specs.Contexts.{left}
use Rattle.match_context.specs.Envs.{known}
use Rattle.match_context.specs.Runs.{closed}
use Rattle.match_context.proofs.Binding.{kept_range, as_before}
use Rattle.match_context.proofs.Running.{closed_away}
use Rattle.match_context.proofs.matching.run.Goals as goal

pub release-requires : goal.release-requires
release-requires g c = kept_range (g.E.Env.fixed c.args.env.now) (g.E.Env.fixed c.place_behind.new.env) (known (g.E.Env.held c.args.env.now)) c.args.program.now.ops c.place_behind.ensures.kept c.requires.targets

pub release-requires-in-Nowhere : goal.release-requires-in-Nowhere
release-requires-in-Nowhere g c = kept_range (g.E.Env.fixed c.args.env.now) (g.E.Env.fixed c.place_behind.new.env) (known (g.E.Env.held c.args.env.now)) c.args.program.now.ops c.place_behind.ensures.kept c.requires.targets

pub release-requires-in-Limit : goal.release-requires-in-Limit
release-requires-in-Limit g c = kept_range (g.E.Env.fixed c.args.env.now) (g.E.Env.fixed c.place_behind.new.env) (known (g.E.Env.held c.args.env.now)) c.args.program.now.ops c.place_behind.ensures.kept c.requires.targets

pub release-requires-in-NoMemory : goal.release-requires-in-NoMemory
release-requires-in-NoMemory g c = kept_range (g.E.Env.fixed c.args.env.now) (g.E.Env.fixed c.place_behind.new.env) (known (g.E.Env.held c.args.env.now)) c.args.program.now.ops c.place_behind.ensures.kept c.requires.targets

pub returns-else-not-program-clause-is : goal.returns-else-not-program-clause-is
returns-else-not-program-clause-is g c = λ bs a.
    let all = g.S.Store.shown c.args.store.now c.args.context.now.of in
    let F = g.E.Env.fixed c.args.env.now in
    let whole : c.args.program.now.whole ≡ true = search rules in
    let more : c.in-At.at < length all = omega (arith, c.if-at-context.false, c.requires.context.end, c.in-At.ensures.inside) in
    let place = c.in-At.ensures.is bs a in
    ap (λ (ops : List Operation). closed c.args.program.now.whole (all_taken F.setting (means F.trees ops) bs (left (g.S.Store.shown c.args.store.now) c.args.context.now))) (sym c.items.ensures)
    ∙ ap (closed c.args.program.now.whole) place.1 ∙ closed_away c.args.program.now.whole place.0 c.in-At.at all whole more

pub returns-else-not-program-clause-refused : goal.returns-else-not-program-clause-refused
returns-else-not-program-clause-refused g c = (refl, as_before (g.E.Env.held c.args.env.now) (g.E.Env.held c.place_behind.new.env) (g.E.Env.held c.release.new.env) (g.E.Env.fixed c.args.env.now).variables (map wants c.args.program.now.ops) c.requires.targets (λ x n. c.place_behind.ensures.others x (ap (λ (ops : List Operation). one_binds (map wants ops) x) c.items.ensures ∙ n)) c.release.ensures.unbound)

pub returns-in-Nowhere-clause-refused : goal.returns-in-Nowhere-clause-refused
returns-in-Nowhere-clause-refused g c = (refl, as_before (g.E.Env.held c.args.env.now) (g.E.Env.held c.place_behind.new.env) (g.E.Env.held c.release-in-Nowhere.new.env) (g.E.Env.fixed c.args.env.now).variables (map wants c.args.program.now.ops) c.requires.targets (λ x n. c.place_behind.ensures.others x (ap (λ (ops : List Operation). one_binds (map wants ops) x) c.items.ensures ∙ n)) c.release-in-Nowhere.ensures.unbound)

pub returns-in-Limit-clause-refused : goal.returns-in-Limit-clause-refused
returns-in-Limit-clause-refused g c = (refl, as_before (g.E.Env.held c.args.env.now) (g.E.Env.held c.place_behind.new.env) (g.E.Env.held c.release-in-Limit.new.env) (g.E.Env.fixed c.args.env.now).variables (map wants c.args.program.now.ops) c.requires.targets (λ x n. c.place_behind.ensures.others x (ap (λ (ops : List Operation). one_binds (map wants ops) x) c.items.ensures ∙ n)) c.release-in-Limit.ensures.unbound)

pub returns-in-NoMemory-clause-refused : goal.returns-in-NoMemory-clause-refused
returns-in-NoMemory-clause-refused g c = (refl, as_before (g.E.Env.held c.args.env.now) (g.E.Env.held c.place_behind.new.env) (g.E.Env.held c.release-in-NoMemory.new.env) (g.E.Env.fixed c.args.env.now).variables (map wants c.args.program.now.ops) c.requires.targets (λ x n. c.place_behind.ensures.others x (ap (λ (ops : List Operation). one_binds (map wants ops) x) c.items.ensures ∙ n)) c.release-in-NoMemory.ensures.unbound)
