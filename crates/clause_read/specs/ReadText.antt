-- Why a text spells no module, and where.
use Rattle.std.specs.Prelude.{◌≡◌, ℕ, ◌≤◌, ◌<◌, List, [], ◌∷◌, length, Option, Some, None}
use Rattle.erl_syntax.specs.Word.{Word}
use Rattle.erl_syntax.specs.Tokens.{Lexes, place}
use Rattle.erl_syntax.specs.Grammar.{strict}
use Rattle.erl_syntax.specs.Reading.{longest_text, atoms_of, words_of}
use Rattle.erl_syntax.specs.declared.span.Span.{Span}
use Rattle.erl_syntax.specs.declared.token.Token.{Token}
use Rattle.erl_syntax.specs.declared.token.LexFault.{LexFault}
use Rattle.erl_syntax.specs.declared.token.LexCause.{LexCause}
use Rattle.erl_syntax.specs.declared.token.LexCause.TheVariants as l
use Rattle.pattern_read.specs.declared.fault.Cause.{Cause}
use Rattle.pattern_read.specs.declared.fault.Cause.TheVariants as c
use Rattle.clause_read.specs.declared.read.ReadCause.{ReadCause}
use Rattle.clause_read.specs.declared.read.ReadCause.TheVariants as r
use Rattle.clause_read.specs.declared.read.ReadFault.{ReadFault}
use Rattle.pattern_read.specs.Reading.{IsRefused}
use Rattle.clause_read.specs.WantedForms.{anything, forms_in}

-- the place of the first word, or that of the end
abbrev pub place_in : Span → List Word → Span
place_in last [] = last
place_in last (w ∷ ws) = w.at

-- a refused token's cause as it is told: one that is decided
abbrev pub told : Cause → Option ReadCause
told c.Syntax = Some r.Syntax
told c.TooDeep = Some r.TooDeep
told c.UnknownAttribute = Some r.UnknownAttribute
told c.UnknownSegmentType = Some r.UnknownSegmentType
told c.Undecided = None

-- The words up to `rest` begin a module within the limits of modules, and with the first of `rest`, or the end, no module
-- goes on, for the cause that is told.
pub record IsTold (all rest : List Word) (cause : ReadCause) : Type 0 where
  pub why : Cause
  pub is : told why ≡ Some cause
  pub refused : IsRefused strict anything forms_in all rest why

-- a fault of tokens, and want of memory
abbrev pub told_of_token : LexCause → ReadCause
told_of_token l.NoMemory = r.NoMemory
told_of_token cause = r.Token cause

abbrev pub fault_at : Span → ReadCause → ReadFault
fault_at at why = record { line = at.line; column = at.column; why = why }

-- The first fault of a text that spells no module: that it is too long, its first fault of tokens, or its first token with which no
-- module goes on, where the end counts as one. Or memory ran out.
pub data IsReadFault (text : List ℕ) (fault : ReadFault) : Type 0 where
  memory : fault.why ≡ r.NoMemory → IsReadFault text fault
  too_long : longest_text < length text → fault ≡ fault_at (record { line = 1; column = 1 }) r.TextTooLong → IsReadFault text fault
  of_token : (tokens : List Token) (first : LexFault) → length text ≤ longest_text → Lexes text tokens (Some first) → fault ≡ fault_at first.at (r.Token first.why) → IsReadFault text fault
  of_word : (tokens : List Token) (rest : List Word) (cause : ReadCause) → length text ≤ longest_text → Lexes text tokens None →
      IsTold (words_of text (atoms_of text tokens) tokens) rest cause → fault ≡ fault_at (place_in (place text (length text)) rest) cause → IsReadFault text fault
