use Rattle.std.proofs.Common.{◌≡◌, ◌+◌, ◌<◌, ◌^◌}
use Rattle.term_value.specs.Seen.{count_of}
use Rattle.term_value.specs.Terms.{row_of}
use Rattle.expr_eval.proofs.sizes.counted_items.Given as goal

abbrev pub invariant-loop-after : goal.invariant-loop-after
invariant-loop-after g l = (l.count < 2 ^ 127) × (l.count + count_of (row_of l.rest) ≡ count_of (row_of l.items))

abbrev pub decreases-loop-after : goal.decreases-loop-after
decreases-loop-after g l = count_of (row_of l.rest)
