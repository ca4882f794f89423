use Rattle.std.proofs.Common.{◌≡◌, ◌-◌, ◌<◌, pos, length, get_or, ap, arith, rules, refl}
use Rattle.std.proofs.lemmas.Int.{to_z-of_z}
use Rattle.std.proofs.lemmas.List.{get_or_default}
use mir.Val.{SFits}
use mir.Syntax.{w128}
use Rattle.erl_syntax.specs.declared.module.Name.{Name}
use Rattle.code_layout.proofs.Found.{exports_more}
use Rattle.code_layout.proofs.names.exports_of.Goals as goal

pub loop-left-preserved : goal.loop-left-preserved
loop-left-preserved c =
    let inside : c.loop-left.left - 1 < length c.args.names.now = omega (arith, c.loop-left.invariant.0) in
    let e : Name = get_or c.args.names.now (c.loop-left.left - 1) (record { at = record { line = 0; column = 0 }; name = 0; arity = pos 0 }) in
    let fits : SFits w128 e.arity = search rules in (
      omega (arith, c.loop-left.invariant.0),
      exports_more c.args.names.now (c.loop-left.left - 1) c.loop-left.left e _ c.loop-left.exports c.insert.new.self (omega arith) inside (get_or_default c.args.names.now (c.loop-left.left - 1) _ _ inside) (ap (λ z. (e.name, z)) (to_z-of_z w128 e.arity fits)) c.in_ok-insert.ensures.updates.0 c.loop-left.invariant.1,
    )
