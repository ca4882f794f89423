use Rattle.std.proofs.Common.{◌<◌, ◌≤◌, length, List, ℕ, sym, subst}
use Rattle.erl_tokens.proofs.FoundMark.{mark_within}
use Rattle.erl_tokens.proofs.marks.mark.Goals as goal

pub returns-in-Some-clause-within : goal.returns-in-Some-clause-within
returns-in-Some-clause-within c =
    let P : List ℕ → Type 0 = λ s. (0 < length s) × (length s ≤ length c.args.bs.now) in
    subst P (sym c.spelling.ensures) (mark_within c.args.bs.now _ c.in-Some.ensures)
