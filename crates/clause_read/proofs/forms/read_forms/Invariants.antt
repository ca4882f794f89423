use Rattle.std.proofs.Common.{◌-◌, ◌≤◌, length, drop}
use Rattle.pattern_read.specs.Reading.{Passes}
use Rattle.clause_read.specs.WantedForms.{anything, forms_in, collected_before}
use Rattle.clause_read.proofs.forms.read_forms.Given as goal

abbrev pub invariant-loop-alloc : goal.invariant-loop-alloc
invariant-loop-alloc l = (l.at ≤ length l.cursor.words) × Passes l.cursor.limits anything forms_in l.cursor.words forms_in (drop l.at l.cursor.words) (collected_before l.collected)

abbrev pub decreases-loop-alloc : goal.decreases-loop-alloc
decreases-loop-alloc l = length l.cursor.words - l.at
