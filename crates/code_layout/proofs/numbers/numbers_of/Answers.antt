use Rattle.std.proofs.Common.{◌-◌, ◌<◌, length, arith, refl}
use Rattle.std.proofs.lemmas.List.{get_or_default}
use Rattle.code_layout.proofs.Found.{numbers_more}
use Rattle.code_layout.proofs.numbers.numbers_of.Goals as goal

pub loop-left-preserved : goal.loop-left-preserved
loop-left-preserved c =
    let inside : c.loop-left.left - 1 < length c.args.uses.now = omega (arith, c.loop-left.invariant.0) in (
      omega (arith, c.loop-left.invariant.0),
      numbers_more c.args.uses.now (c.loop-left.left - 1) c.loop-left.left _ _ _ c.loop-left.numbers c.insert.new.self (omega arith) inside (get_or_default c.args.uses.now (c.loop-left.left - 1) _ _ inside) refl refl c.in_ok-insert.ensures.updates.0 c.loop-left.invariant.1,
    )
