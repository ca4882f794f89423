use Rattle.std.proofs.Common.{◌<◌, length, get_or, arith}
use Rattle.std.proofs.lemmas.List.{get_or_default}
use Rattle.module_check.specs.declared.places.Position.{Position}
use Rattle.module_check.specs.declared.places.Occurrence.{Occurrence}
use Rattle.module_check.proofs.Numbered.{uses_on, uses_end}
use Rattle.module_check.proofs.numbers.uses_of.Goals as goal

pub loop-occurrence-init : goal.loop-occurrence-init
loop-occurrence-init c = λ s h. c.new-uses.ensures.items

pub loop-occurrence-preserved : goal.loop-occurrence-preserved
loop-occurrence-preserved c =
    let none : Position = record { line = 0; column = 0 } in
    let d : Occurrence = record { at = none; bound_at = none } in
    let i = c.loop-occurrence.occurrence-index in
    let os = c.args.occurrences.now in
    let one = get_or os i d in
    let l : i < length os = omega arith in
    uses_on c.args.binders.now os i one c.loop-occurrence.uses.items c.push.new.self.items c.in_ok-variable.variable l (get_or_default os i d one l) c.in_ok-push.ensures.items c.in_ok-variable.ensures c.loop-occurrence.invariant

pub returns : goal.returns
returns c = uses_end c.args.binders.now c.args.occurrences.now c.loop-occurrence.occurrence-index c.loop-occurrence.uses.items (omega arith) c.loop-occurrence.invariant
