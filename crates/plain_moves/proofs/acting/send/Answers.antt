use Rattle.std.proofs.Common.{◌≡◌, ◌≢◌, ap, sym, ◌∙◌, length, map, arith}
use Rattle.code_tree.specs.PlainTerms.{value}
use Rattle.term_value.specs.Machine.{value_trees}
use Rattle.term_value.specs.Step.{step}
use Rattle.term_value.specs.Tree.{All, Send}
use Rattle.term_value.specs.Value.{row}
use Rattle.plain_moves.proofs.Alike.{along}
use Rattle.plain_moves.proofs.Asks.{two_are, send_falls}
use Rattle.plain_moves.proofs.acting.send.Goals as goal

pub returns-in-len2 : goal.returns-in-len2
returns-in-len2 c = λ w.
    along w _ _ c.send_to.result
    (ap (All Send) (two_are c.terms.result.now c.to-item.result c.message-item.result (omega arith) c.to-item.is c.message-item.is)
    ∙ ap (λ vs. All Send (value_trees (row (map value vs)))) c.terms.ensures.are)
    (c.send_to.ensures w)

pub returns-in_default : goal.returns-in_default
returns-in_default c = λ w.
    let other : length c.terms.result.now ≢ 2 = grind arith in
    ap (λ vs. step w (All Send (value_trees (row (map value vs))))) (sym c.terms.ensures.are) ∙ send_falls w c.terms.result.now other
