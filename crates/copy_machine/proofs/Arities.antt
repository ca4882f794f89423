-- The number of the arguments in a list.
use Rattle.std.proofs.Common.{◌≡◌, ℕ, ◌-◌, ◌^◌, ◌≢◌, min, Bool, List, sym, ap, ◌∙◌, arith}
use Rattle.term_value.specs.Seen.{Seen, SList, Row, count_of}
use Rattle.term_value.specs.Value.{count}
use Rattle.term_value.proofs.Measures.{counts}
use Rattle.bit_store.specs.Stores.{itself}
use Rattle.code_tree.specs.PlainTerms.{value}
use Rattle.copy_machine.specs.Asks.{arguments_of}

pub arity_is : (s : Seen (List Bool)) (r : Row (List Bool)) (n : ℕ) → s ≡ SList r → n ≡ min (count_of r) (2 ^ 32 - 1) → n ≢ 2 ^ 32 - 1 → n ≡ count (arguments_of (value s))
arity_is s r n e m d =
    let is : n ≡ count_of r = omega arith in
    is ∙ sym (counts itself r) ∙ ap (λ (x : Seen (List Bool)). count (arguments_of (value x))) (sym e)
