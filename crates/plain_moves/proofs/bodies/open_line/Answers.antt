use Rattle.std.proofs.Common.{◌≡◌, [], ◌∷◌, ap, sym, ◌∙◌, length, arith}
use Rattle.std.proofs.lemmas.List.{nil_from_length}
use Rattle.std.proofs.lemmas.Bool.Decides.{nat_tests}
use Rattle.term_value.specs.PutIn.{put_in, in_shut}
use Rattle.term_value.specs.Tree as t
use Rattle.code_tree.specs.declared.clause.Line.{out-Line}
use Rattle.code_tree.specs.Reading.{body_of, tree_of, patterns_of}
use Rattle.code_match.specs.Binds.{bounds}
use Rattle.plain_moves.proofs.Alike.{along}
use Rattle.plain_moves.proofs.BodyItems.{before}
use Rattle.plain_moves.proofs.bodies.open_line.Goals as goal

pub returns-then-is_empty : goal.returns-then-is_empty
returns-then-is_empty c = λ w.
    let none_behind : length c.args.rest.now ≡ 0 = grind (arith, nat_tests) in
    along w _ _ c.open_last.result (ap (λ ls. put_in (bounds c.args.bindings) (body_of (c.args.line.now ∷ ls))) (sym (nil_from_length c.args.rest.now none_behind))) (c.open_last.ensures w)

pub returns-in_ok-again : goal.returns-in_ok-again
returns-in_ok-again c = λ w.
    let some_behind : length c.args.rest.now ≡ 0 → ⊥ = grind (arith, nat_tests) in
    let first = put_in (bounds c.args.bindings) (tree_of (out-Line c.args.line.now).value) in
    ap (put_in (bounds c.args.bindings)) (before c.args.line.now c.args.rest.now some_behind)
    ∙ ap (λ bs. t.First first (in_shut (bounds bs) (t.Then (patterns_of (out-Line c.args.line.now).patterns) (body_of c.args.rest.now)))) (sym c.in_ok-again.ensures)
    ∙ ap (λ qs. t.First first (in_shut (bounds c.in_ok-again.field-0) (t.Then (patterns_of qs) (body_of c.args.rest.now)))) (sym c.items.ensures)
