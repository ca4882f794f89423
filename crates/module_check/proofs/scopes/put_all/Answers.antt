use Rattle.std.proofs.Common.{List, [], ◌++◌, ◌-◌, arith, sym, subst, drop, get_or}
use Rattle.std.proofs.lemmas.List.{get_or_default}
use Rattle.erl_syntax.specs.Bindings.{Bound}
use Rattle.module_check.specs.declared.scopes.Target.{Target}
use Rattle.module_check.specs.Nodes.{Sees, bounds_of}
use Rattle.module_check.proofs.Chained.{grown_twice, sees_put, bounds_left}
use Rattle.module_check.proofs.scopes.put_all.Goals as goal

pub loop-left-preserved : goal.loop-left-preserved
loop-left-preserved c =
    let d : Target = record { name = record { ref_ptr = (0, 0); now = [] }; at = record { line = 0; column = 0 } } in
    let xs = c.args.targets.now in
    let i = c.loop-left.left - 1 in
    let one : Target = get_or xs i d in
    let low = c.loop-left.invariant.within in
    record {
      within = omega (arith, low);
      grown = grown_twice c.args.nodes.now.items c.loop-left.nodes.items c.put.new.nodes.items c.loop-left.invariant.grown c.in_ok-last.ensures.grown;
      put = λ bs s.
          let P : List Bound → Type 0 = λ zs. Sees c.put.new.nodes.items c.in_ok-last.last (zs ++ bs) in
          subst P (sym (bounds_left xs i c.loop-left.left one (omega arith) (omega (arith, low)) (get_or_default xs i d one (omega (arith, low)))))
          (sees_put c.loop-left.nodes.items c.put.new.nodes.items c.loop-left.last c.in_ok-last.last (bounds_of (drop c.loop-left.left xs) ++ bs) one.name.now one.at (c.loop-left.invariant.put bs s) c.in_ok-last.ensures.put);
    }
