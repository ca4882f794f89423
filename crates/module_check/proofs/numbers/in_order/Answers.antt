use Rattle.std.proofs.lemmas.List.Filters.{dedup_is}
use Rattle.std.proofs.lemmas.List.Kept.{IsStrictlySortedBy-dedup, Contains-dedup, Contains-from_dedup}
use Rattle.std.proofs.lemmas.List.Sorted.{Contains-permutation, IsPermutation-sym}
use Rattle.module_check.proofs.Ordered.{occurrence_total, occurrence_ties, occurrence_equiv, occurrence_is}
use Rattle.module_check.proofs.numbers.in_order.Goals as goal

pub returns-clause-rising : goal.returns-clause-rising
returns-clause-rising c =
    let is = dedup_is _ _ _ c.dedup.ensures.filtered in
    rw is (IsStrictlySortedBy-dedup occurrence_total occurrence_ties _ c.in_ok-sort.ensures.sorted)

pub returns-clause-same : goal.returns-clause-same
returns-clause-same c =
    let is = dedup_is _ _ _ c.dedup.ensures.filtered in
    let moved = c.in_ok-sort.ensures.permutation in
    λ o. (λ h. rw is (Contains-dedup occurrence_equiv occurrence_is _ o (Contains-permutation _ _ o moved h)), λ h. Contains-permutation _ _ o (IsPermutation-sym _ _ moved) (Contains-from_dedup _ _ o (rw is at h)))
