use Rattle.std.proofs.Common.{◌∙◌}
use Rattle.bits_top.proofs.Loads.{load_answers}
use Rattle.bits_top.proofs.running.load.Goals as goal

pub returns-in-Ok-open_text : goal.returns-in-Ok-open_text
returns-in-Ok-open_text g c =
    load_answers g.A.Sink.written g.A.Sink.faults c.args.report.now c.open_text.new.report c.run_checked.new.report _ c.run_checked.result c.deref.result.now _ _ c.in-Ok-open_text.checked
    (c.deref.ensures.value ∙ c.in-Ok.ensures) c.in-Ok-open_text.ensures.kept c.in-Ok-open_text.ensures.opened c.run_checked.ensures
