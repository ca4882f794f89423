use Rattle.std.proofs.Common.{arith, ◌∙◌, ◌<◌, List, [], ap, take, length}
use Rattle.erl_syntax.specs.Bindings.{Bound}
use Rattle.erl_syntax.specs.Scopes.{Scope, generated}
use Rattle.module_check.proofs.Tasked.{adds_none, adds_then, means_same, passed_more}
use Rattle.module_check.proofs.Passing.{generated_more}
use Rattle.module_check.proofs.tasks.Walk.generate_all.Goals as goal

pub loop-qual-init : goal.loop-qual-init
loop-qual-init c = record { adds = adds_none c.args.self.now; means = λ s m. m }

pub loop-qual-preserved : goal.loop-qual-preserved
loop-qual-preserved c = record {
  adds = adds_then c.args.self.now c.loop-qual.self c.generate.new.self [] c.loop-qual.invariant.adds c.in_ok-after.ensures.adds;
  means = λ s m.
      let i = c.loop-qual.qual-index in
      let xs = c.args.quals.now in
      let one = c.qual-item.result in
      let l : i < length xs = omega arith in
      let F : List Bound → Scope = λ ks. record s { known = ks } in
      means_same _ _ _ _ (ap F (generated_more (take i xs) one s.known ∙ ap (λ gs. generated gs s.known) (passed_more [] xs i one l c.qual-item.is))) (c.in_ok-after.ensures.means (record s { known = generated (take i xs) s.known }) (c.loop-qual.invariant.means s m));
}
