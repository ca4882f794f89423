-- How long the generated text is.
use Rattle.std.proofs.Common.{◌≡◌, ℕ, ◌+◌, ◌≤◌, List, ◌++◌, length, decimal, ap, sym, ◌∙◌, arith}
use Rattle.std.proofs.lemmas.Fmt.{length-decimal-le}
use Rattle.std.proofs.lemmas.List.{length-append}
use Rattle.module_gen.proofs.Joined.{joined}
use Rattle.module_gen.specs.Generated.{generated}
use Rattle.module_gen.specs.Laws.{GeneratedIsShort}
use Rattle.module_gen.specs.declared.TheConstants.{BEFORE_SEED, BEFORE_SIZE, BEHIND_SIZE}

length_of_five : (a d b e k : List ℕ) → length (a ++ (d ++ (b ++ (e ++ k)))) ≡ length a + (length d + (length b + (length e + length k)))
length_of_five a d b e k = rw (length-append a, length-append d, length-append b, length-append e)

generated_length : (seed size : ℕ) → length (generated seed size) ≡ 137 + (length (decimal seed) + (42 + (length (decimal size) + 459)))
generated_length seed size =
    ap length (sym (joined seed size)) ∙ length_of_five BEFORE_SEED.now (decimal seed) BEFORE_SIZE.now (decimal size) BEHIND_SIZE.now

at_most : (whole first second : ℕ) → whole ≡ 137 + (first + (42 + (second + 459))) → first ≤ 10 → second ≤ 10 → whole ≤ 1048576
at_most whole first second e f s = omega arith

pub short : GeneratedIsShort
short seed size seed_fits size_fits =
    let first : length (decimal seed) ≤ 10 = length-decimal-le 10 seed (omega arith) (omega arith) (omega arith) in
    let second : length (decimal size) ≤ 10 = length-decimal-le 10 size (omega arith) (omega arith) (omega arith) in
    at_most (length (generated seed size)) (length (decimal seed)) (length (decimal size)) (generated_length seed size) first second
