-- Which texts are those of accepted modules, and the line that is due to any other (this project's own).
use Rattle.std.specs.Prelude.{◌≡◌, ◌≢◌, ℕ, List}
use Rattle.erl_syntax.specs.Reading.{Reads}
use Rattle.erl_syntax.specs.Checking.{IsAccepted, IsFirstFault}
use Rattle.erl_syntax.specs.declared.span.Span.{Span}
use Rattle.erl_syntax.specs.declared.module.Module.{Module}
use Rattle.erl_syntax.specs.declared.checking.CheckCause.{CheckCause}
use Rattle.clause_read.specs.ReadText.{IsReadFault}
use Rattle.clause_read.specs.declared.read.ReadCause.TheVariants as r
use Rattle.clause_read.specs.declared.read.ReadFault.{ReadFault}
use Rattle.module_accept.specs.Causes.{line_of, read_text, check_text}

-- the text spells the module, and it has no fault
pub record Accepts (text : List ℕ) (m : Module) : Type 0 where
  pub reads : Reads text m
  pub accepted : IsAccepted m

abbrev pub place_of : ReadFault → Span
place_of fault = record { line = fault.line; column = fault.column }

-- The line of a text's first fault: of reading, and else of the module that it spells.
pub data IsDue (text line : List ℕ) : Type 0 where
  of_text : (fault : ReadFault) → IsReadFault text fault → fault.why ≢ r.NoMemory → line ≡ line_of (place_of fault) (read_text fault.why) → IsDue text line
  of_module : (m : Module) (at : Span) (why : CheckCause) → Reads text m → IsFirstFault m at why → line ≡ line_of at (check_text why) → IsDue text line
