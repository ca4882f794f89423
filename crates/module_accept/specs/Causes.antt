-- The causes of refusals as they are printed (this project's own).
use Rattle.std.specs.Prelude.{ℕ, List, codes, decimal, ◌++◌}
use Rattle.erl_syntax.specs.declared.span.Span.{Span}
use Rattle.erl_syntax.specs.declared.token.LexCause.{LexCause}
use Rattle.erl_syntax.specs.declared.token.LexCause.TheVariants as l
use Rattle.erl_syntax.specs.declared.typing.SegFault.{SegFault}
use Rattle.erl_syntax.specs.declared.typing.SegFault.TheVariants as s
use Rattle.erl_syntax.specs.declared.checking.CheckCause.{CheckCause}
use Rattle.erl_syntax.specs.declared.checking.CheckCause.TheVariants as c
use Rattle.clause_read.specs.declared.read.ReadCause.{ReadCause}
use Rattle.clause_read.specs.declared.read.ReadCause.TheVariants as r

-- a fault of tokens
abbrev pub token_text : LexCause → List ℕ
token_text l.NotUtf8 = codes "not UTF-8"
token_text l.UnexpectedCharacter = codes "unexpected character"
token_text l.UnclosedQuote = codes "unclosed quote"
token_text l.BadEscape = codes "bad escape"
token_text l.BadNumber = codes "bad number"
token_text l.Float = codes "float"
token_text l.IntegerTooWide = codes "integer too wide"
token_text l.AtomTooLong = codes "atom too long"
token_text l.NoMemory = codes "out of memory"

-- why a text isn't read
abbrev pub read_text : ReadCause → List ℕ
read_text r.TextTooLong = codes "text too long"
read_text (r.Token why) = token_text why
read_text r.Syntax = codes "syntax"
read_text r.TooDeep = codes "too deep"
read_text r.UnknownAttribute = codes "unknown attribute"
read_text r.UnknownSegmentType = codes "unknown segment type"
read_text r.NoMemory = codes "out of memory"

-- a fault of a segment
abbrev pub segment_text : SegFault → List ℕ
segment_text s.TwoOfAKind = codes "two specs of a kind"
segment_text s.UnitRange = codes "unit out of range"
segment_text s.FloatType = codes "float segment"
segment_text s.SizeOnUtf = codes "size on utf"
segment_text s.UnitOnUtf = codes "unit on utf"
segment_text s.UnitWithoutSize = codes "unit without size"
segment_text s.StringType = codes "string as binary"
segment_text s.OpenNotLast = codes "open segment not last"
segment_text s.OpenInGenerator = codes "open segment in generator"

-- a fault of a module
abbrev pub check_text : CheckCause → List ℕ
check_text (c.Segment fault) = segment_text fault
check_text c.ModuleAgain = codes "module again"
check_text c.HeadsDiffer = codes "heads differ"
check_text c.FunctionAgain = codes "function again"
check_text c.ExportMissing = codes "exported function missing"
check_text c.UndefinedFunction = codes "undefined function"
check_text c.CallInGuard = codes "call in guard"
check_text c.UnboundVariable = codes "unbound variable"
check_text c.UnsafeVariable = codes "unsafe variable"
check_text c.NoModule = codes "no module attribute"
check_text c.NoMain = codes "no main/0"
check_text c.NoMemory = codes "out of memory"

-- the line `LINE:COLUMN: CAUSE`
abbrev pub line_of : Span → List ℕ → List ℕ
line_of at cause = decimal at.line ++ codes ":" ++ decimal at.column ++ codes ": " ++ cause ++ codes "\n"
