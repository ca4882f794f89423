use Rattle.std.proofs.Common.{refl}
use Rattle.module_check.specs.Places.{span_of}
use Rattle.module_check.proofs.Numbered.{use_is}
use Rattle.module_check.proofs.numbers.use_of.Goals as goal

pub returns : goal.returns
returns c = λ s h. use_is c.args.binders.now c.args.occurrence.now (record { at = span_of c.args.occurrence.now.at; number = c.in_ok-number_of.field-0; binds = c.eq.result }) s (c.in_ok-number_of.ensures s h) c.eq.ensures refl
