-- Reading an order's text (this project's own).
use Rattle.std.specs.Prelude.{ℕ, ◌<◌, ◌≤◌, List, length, take, drop}
use Rattle.term_value.specs.Orders.{HasNoEntry, IsLine}
use Rattle.report_text.specs.declared.lines.OrderFault.{OrderFault}
use Rattle.report_text.specs.declared.lines.OrderFault.TheVariants.{NoEntry, Memory}

-- the first bytes are the first line
pub record StartsWithLine (text : List ℕ) (len : ℕ) : Type 0 where
  pub some : 0 < len
  pub inside : len ≤ length text
  pub chars : List ℕ
  pub line : IsLine chars (take len text) (drop len text)

-- why no order was read; want of memory is free
abbrev pub HasFault : List ℕ → OrderFault → Type 0
HasFault text (NoEntry k) = HasNoEntry text k
HasFault text Memory = Unit {0}
