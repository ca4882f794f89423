use Rattle.std.proofs.Common.{rules}
use Rattle.std.proofs.lemmas.List.Sorted.{answers_always}
use Rattle.module_check.proofs.Neighbours.{is_left, told}
use Rattle.module_check.proofs.numbers.stand_apart.Goals as goal

pub returns : goal.returns
returns c = λ s. told c.args.occurrences.now c.is_sorted_by.result (c.is_sorted_by.ensures.cases is_left (answers_always _ _ _ (λ f a r q k. search rules))) s
