-- A law of the generated text (this project's own).
use Rattle.std.specs.Prelude.{ℕ, ◌^◌, ◌<◌, ◌≤◌, length}
use Rattle.erl_syntax.specs.Reading.{longest_text}
use Rattle.module_gen.specs.Generated.{generated}

-- the text from two numbers of 32 bits is no longer than the longest text that is read
abbrev pub GeneratedIsShort : Type 0
GeneratedIsShort = (seed size : ℕ) → seed < 2 ^ 32 → size < 2 ^ 32 → length (generated seed size) ≤ longest_text
