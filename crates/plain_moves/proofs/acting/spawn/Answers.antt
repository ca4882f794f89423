use Rattle.std.proofs.Common.{◌≡◌, ◌≢◌, ap, sym, ◌∙◌, length, map, arith}
use Rattle.code_tree.specs.PlainTerms.{value}
use Rattle.term_value.specs.Machine.{value_trees}
use Rattle.term_value.specs.Step.{step}
use Rattle.term_value.specs.Tree.{All, Spawn}
use Rattle.term_value.specs.Value.{row}
use Rattle.plain_moves.proofs.Alike.{along}
use Rattle.plain_moves.proofs.Asks.{three_are, spawn_falls}
use Rattle.plain_moves.proofs.acting.spawn.Goals as goal

pub returns-in-len3 : goal.returns-in-len3
returns-in-len3 c = λ w.
    along w _ _ c.start.result
    (ap (All Spawn) (three_are c.terms.result.now c.home-item.result c.name-item.result c.arguments-item.result (omega arith) c.home-item.is c.name-item.is c.arguments-item.is)
    ∙ ap (λ vs. All Spawn (value_trees (row (map value vs)))) c.terms.ensures.are)
    (c.start.ensures w)

pub returns-in_default : goal.returns-in_default
returns-in_default c = λ w.
    let other : length c.terms.result.now ≢ 3 = grind arith in
    ap (λ vs. step w (All Spawn (value_trees (row (map value vs))))) (sym c.terms.ensures.are) ∙ spawn_falls w c.terms.result.now other
