use Rattle.std.proofs.Common.{◌-◌, ◌≤◌, ◌∷◌, ◌++◌, length, drop}
use Rattle.pattern_read.specs.Reading.{Passes, closed}
use Rattle.clause_read.specs.WantedForms.{names_in}
use Rattle.clause_read.proofs.NameLaws.{name_and_more}
use Rattle.clause_read.proofs.forms.names.Given as goal

abbrev pub invariant-loop-names : goal.invariant-loop-names
invariant-loop-names l = (l.at ≤ l.next) × (l.next ≤ length l.cursor.words) × Passes l.cursor.limits closed names_in (drop l.at l.cursor.words) name_and_more (drop l.next l.cursor.words) (λ p. l.names.items ++ (p.0 ∷ p.1))

abbrev pub decreases-loop-names : goal.decreases-loop-names
decreases-loop-names l = length l.cursor.words - l.next
