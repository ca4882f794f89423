-- The rows that a bit generator has still to give (Erlang Reference Manual, "Comprehensions"; skipping and ending are this project's
-- own rules).
use Rattle.std.specs.Prelude.{◌≡◌, ℕ, Bool, true, false, List, [], ◌∷◌, length, Option, cond}
use Rattle.term_value.specs.Rows.{bit_rows, Front, Takes, Ends, AtLimit}
use Rattle.term_value.specs.Seen.{Seen}
use Rattle.term_value.specs.Tree as t
use Rattle.pattern_compile.specs.Meaning.{means}
use Rattle.match_context.specs.Contexts.{left, IsContext}
use Rattle.match_context.specs.Envs.{Fixed, Agrees}
use Rattle.match_context.specs.Runs.{AsBefore}
use Rattle.comprehension.specs.declared.rows.Row.{Row}
use Rattle.comprehension.specs.declared.rows.Row.TheVariants.{Bound, Skipped, Ended, Limit, NoMemory}
use Rattle.comprehension.specs.declared.rows.Rows.{Rows}

-- both programs leave what is behind them, and the context has its reference
pub record IsRows {R : Type 0} (shown : R → List Bool) (has : R → Type 0) (rows : Rows R) : Type 0 where
  pub pattern : rows.pattern.whole ≡ false
  pub shape : rows.shape.whole ≡ false
  pub context : IsContext shown has rows.context

-- under bindings, from the next one on
abbrev pub rows_left : {R : Type 0} → (R → List Bool) → Fixed → List t.Bound → Rows R → List t.Row
rows_left shown fixed bs rows = cond rows.done [] (bit_rows fixed.setting (means fixed.trees rows.pattern.ops) (means fixed.trees rows.shape.ops) bs (length (left shown rows.context)) (left shown rows.context))

-- The row that was given, those that are left behind it, and those that were left before it. A limit is the last row. Want of memory
-- takes no row.
abbrev pub IsNext : {R : Type 0} → (R → List Bool) → (ℕ → Option (Seen R)) → List t.Row → List t.Row → Row → Type 0
IsNext shown held rest rows Bound = (bs : List t.Bound) × (rows ≡ t.Found bs ∷ rest) × Agrees shown held bs
IsNext shown held rest rows Skipped = rows ≡ t.Skipped ∷ rest
IsNext shown held rest rows Ended = (rows ≡ []) × (rest ≡ [])
IsNext shown held rest rows Limit = (rows ≡ t.RowLimit ∷ []) × (rest ≡ [])
IsNext shown held rest rows NoMemory = rest ≡ rows

-- each variable is bound as it was where no row was given
abbrev pub StaysIfNone : {R : Type 0} → Row → (ℕ → Option (Seen R)) → (ℕ → Option (Seen R)) → Type 0
StaysIfNone Bound old new = Unit {0}
StaysIfNone Skipped old new = AsBefore old new
StaysIfNone Ended old new = AsBefore old new
StaysIfNone Limit old new = AsBefore old new
StaysIfNone NoMemory old new = AsBefore old new

-- After the end and after a limit nothing is left, and then the only answer is the end.
abbrev pub StaysDone : {R : Type 0} → Row → Rows R → Rows R → Type 0
StaysDone Bound old new = (old.done ≡ false) × (new.done ≡ false)
StaysDone Skipped old new = (old.done ≡ false) × (new.done ≡ false)
StaysDone Ended old new = new.done ≡ true
StaysDone Limit old new = (old.done ≡ false) × (new.done ≡ true)
StaysDone NoMemory old new = (old.done ≡ false) × (new ≡ old)

-- the pattern, its shape and the source are the same
pub record LeavesPattern {R : Type 0} (old new : Rows R) : Type 0 where
  pub pattern : new.pattern ≡ old.pattern
  pub shape : new.shape ≡ old.shape
  pub source : new.context.of ≡ old.context.of

-- what is found in front of bits, and the bits that are left behind it
abbrev pub IsFront : {R : Type 0} → (R → List Bool) → (ℕ → Option (Seen R)) → List Bool → Front → Row → Type 0
IsFront shown held rest front Bound = (bs : List t.Bound) × (front ≡ Takes (t.Found bs) rest) × Agrees shown held bs
IsFront shown held rest front Skipped = front ≡ Takes t.Skipped rest
IsFront shown held rest front Ended = front ≡ Ends
IsFront shown held rest front Limit = front ≡ AtLimit
IsFront shown held rest front NoMemory = Unit {0}

-- the programs and the source are the same, and where memory was wanting all is
abbrev pub MovesIfFound : {R : Type 0} → Row → Rows R → Rows R → Type 0
MovesIfFound NoMemory old new = new ≡ old
MovesIfFound row old new = LeavesPattern old new × (new.done ≡ old.done)

-- no row follows
abbrev pub is_last : Row → Bool
is_last Bound = false
is_last Skipped = false
is_last Ended = true
is_last Limit = true
is_last NoMemory = false
