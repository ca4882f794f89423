use Rattle.term_value.specs.Orders.{no_entry}
use Rattle.bits_top.proofs.copying.text_copied.Goals as goal

pub returns-in_ok-line_of-in-Err-NoEntry : goal.returns-in_ok-line_of-in-Err-NoEntry
returns-in_ok-line_of-in-Err-NoEntry c =
    no_entry _ c.args.text.now _ c.in-Err-NoEntry.line c.requires (rw c.in-Err-NoEntry.field-0-is at c.in-Err-NoEntry.ensures.fault) c.in_ok-line_of-in-Err-NoEntry.ensures
