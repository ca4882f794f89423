use Rattle.std.proofs.Common.{ap, sym, ◌∙◌}
use Rattle.term_value.specs.Machine.{call_of}
use Rattle.plain_process.proofs.ArgumentRows.{call_is}
use Rattle.plain_process.proofs.starting.called.Goals as goal

pub returns-in_ok-arguments-in-Some : goal.returns-in_ok-arguments-in-Some
returns-in_ok-arguments-in-Some c = λ s vs e.
    call_is s c.in-Some.function c.in_ok-arguments-in-Some.arguments _ vs c.new.ensures (c.in_ok-arguments-in-Some.ensures vs e) ∙ ap (λ o. call_of o vs) (sym c.in-Some.is)
