use Rattle.std.proofs.Common.{◌≡◌, map, take}
use Rattle.std.specs.List.{Contains}
use Rattle.std.specs.List.Sorted.{IsStrictlySortedBy}
use Rattle.erl_syntax.specs.Checking.{use_at}
use Rattle.module_check.specs.declared.places.Occurrence.{Occurrence}
use Rattle.module_check.specs.Numbers.{position_cmp}
use Rattle.module_check.specs.Places.{span_of, seen}
use Rattle.module_check.proofs.numbers.uses_of.Given as goal

abbrev pub invariant-loop-occurrence : goal.invariant-loop-occurrence
invariant-loop-occurrence l = IsStrictlySortedBy position_cmp l.binders → ((o : Occurrence) → Contains l.occurrences o → Contains l.binders o.bound_at) → l.uses.items ≡ map (use_at (map span_of l.binders)) (map seen (take l.occurrence-index l.occurrences))
