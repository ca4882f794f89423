use Rattle.std.proofs.Common.{[]}
use Rattle.std.proofs.lemmas.Result.{IfOk-weaker}
use Rattle.erl_syntax.specs.Scopes.{Scope, past_row, generated}
use Rattle.module_check.specs.Spots.{each, same_in, quals_in}
use Rattle.module_check.proofs.Chained.{grown_twice}
use Rattle.module_check.proofs.Tasked.{adds_twice, adds_then, means_grown}
use Rattle.module_check.proofs.tasks.Walk.push_comprehension.Goals as goal

pub returns : goal.returns
returns c = IfOk-weaker c.push_quals.result _ _ (λ u h s m.
    let row = c.args.row.now in
    let quals = c.args.quals.now in
    let t : Scope = record s { known = generated quals s.known } in
    let inner = c.in_ok-inner.ensures in
    let k = inner.means s m in
    let one = c.in_ok-push_same.ensures t k in
    let k1 = means_grown _ _ _ _ one.grown k in
    let moved = c.in_ok-behind.ensures in
    let k2 = moved.means t k1 in
    let g = grown_twice _ _ _ inner.adds.grown (grown_twice _ _ _ one.grown moved.adds.grown) in
    let base = means_grown _ _ _ _ g m in
    adds_twice c.args.self.now c.behind_all.new.self c.push_quals.new.self (each (same_in t) [] row) (each (quals_in (past_row row quals s)) [] quals)
    (adds_then c.args.self.now c.push_same.new.self c.behind_all.new.self _ (adds_twice c.args.self.now c.generate_all.new.self c.push_same.new.self [] _ inner.adds one) moved.adds)
    (h (past_row row quals s) (record { known = base.known; dangers = k2.dangers; guarded = base.guarded }))) c.push_quals.ensures
