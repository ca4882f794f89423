use Rattle.std.proofs.Common.{◌≡◌, ◌≢◌, ap, sym, ◌∙◌, length, map, arith}
use Rattle.code_tree.specs.PlainTerms.{value}
use Rattle.term_value.specs.Machine.{value_trees}
use Rattle.term_value.specs.Step.{step}
use Rattle.term_value.specs.Tree.{All, Display}
use Rattle.term_value.specs.Value.{row}
use Rattle.plain_moves.proofs.Asks.{display_falls}
use Rattle.plain_moves.proofs.acting.display.Goals as goal

pub returns-in_default : goal.returns-in_default
returns-in_default c = λ w.
    let other : length c.terms.result.now ≢ 1 = grind arith in
    ap (λ vs. step w (All Display (value_trees (row (map value vs))))) (sym c.terms.ensures.are) ∙ display_falls w c.terms.result.now other
