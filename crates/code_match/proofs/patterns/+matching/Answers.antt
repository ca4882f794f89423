use Rattle.std.proofs.Common.{◌≡◌, Bool, List, Some, ap, sym, ◌∙◌, arith, rules}
use Rattle.std.proofs.lemmas.Result.{IfOk-weaker}
use Rattle.bit_store.specs.Stores.{itself}
use Rattle.term_value.specs.Match as m
use Rattle.term_value.specs.Value.{more}
use Rattle.term_value.specs.Seen.{meaning, meanings}
use Rattle.term_value.specs.Terms.{row, row_of, value_of}
use Rattle.term_value.specs.Tree as t
use Rattle.term_value.specs.declared.cells.Cells.{Cells}
use Rattle.term_value.specs.declared.term.Term.{Term}
use Rattle.code_tree.specs.Reading.{pattern_of, patterns_of}
use Rattle.expr_eval.specs.Answers.{setting}
use Rattle.code_match.specs.Binds.{bounds}
use Rattle.code_match.specs.Matches.{match_of}
use Rattle.code_match.proofs.Forms as form
use Rattle.code_match.proofs.Matching as by
use Rattle.code_match.proofs.patterns.+matching.Goals as goal

pub matched-returns-in-Same : goal.matched-returns-in-Same
matched-returns-in-Same g c =
    let s = setting c.args.caller.now.names.now c.args.caller.now.pid in
    IfOk-weaker c.all_matched.result _ _ (λ u h. form.same_is s (value_of itself c.args.value.now) (bounds c.args.bindings) _ c.args.pattern.now c.in-Same.patterns _ c.in-Same.is c.items-in-Same.ensures h) c.all_matched.ensures

pub list_matched-returns-in-Some-Empty : goal.list_matched-returns-in-Some-Empty
list_matched-returns-in-Some-Empty g c =
    let s = setting c.args.caller.now.names.now c.args.caller.now.pid in
    let ps = patterns_of c.args.patterns.now in
    let bs = bounds c.args.bindings in
    let e = c.in-Some-Empty.ensures.is ∙ ap (λ (x : Cells (List Bool)). Some (meanings itself (row_of x))) c.in-Some-Empty.field-0-is in
    IfOk-weaker c.items_matched.result _ _ (λ u h. by.list_is s ps (meanings itself (row_of c.in-List.items)) bs e _ h
    ∙ ap (λ (x : Term (List Bool)). m.matched s (t.PList ps) (value_of itself x) bs) (sym c.in-List.is)) c.items_matched.ensures

pub list_matched-returns-in-Some-More : goal.list_matched-returns-in-Some-More
list_matched-returns-in-Some-More g c =
    let s = setting c.args.caller.now.names.now c.args.caller.now.pid in
    let ps = patterns_of c.args.patterns.now in
    let bs = bounds c.args.bindings in
    let link = c.in-Some-More.field-0-0 in
    let e = c.in-Some-More.ensures.is ∙ ap (λ (x : Cells (List Bool)). Some (meanings itself (row_of x))) c.in-Some-More.field-0-is in
    by.too_many s ps (meanings itself (row_of c.in-List.items)) bs (meanings itself link.1) (meaning itself link.0) e
    ∙ ap (λ (x : Term (List Bool)). m.matched s (t.PList ps) (value_of itself x) bs) (sym c.in-List.is)

pub list_matched-returns-in-None : goal.list_matched-returns-in-None
list_matched-returns-in-None g c =
    let s = setting c.args.caller.now.names.now c.args.caller.now.pid in
    let ps = patterns_of c.args.patterns.now in
    let bs = bounds c.args.bindings in
    by.too_few s ps (meanings itself (row_of c.in-List.items)) bs c.in-None.ensures.is
    ∙ ap (λ (x : Term (List Bool)). m.matched s (t.PList ps) (value_of itself x) bs) (sym c.in-List.is)

pub matched-returns-in_ok-begun-in-ListOn : goal.matched-returns-in_ok-begun-in-ListOn
matched-returns-in_ok-begun-in-ListOn g c =
    let s = setting c.args.caller.now.names.now c.args.caller.now.pid in
    IfOk-weaker c.tail_matched.result _ _ (λ u h. form.list_on_is s (value_of itself c.args.value.now) (bounds c.args.bindings) _ c.args.pattern.now c.in-ListOn.patterns c.items-in-ListOn.result.now c.in-ListOn.tail c.get.result.now
    c.in-ListOn.is c.items-in-ListOn.ensures c.get.ensures (h ∙ c.in_ok-begun-in-ListOn.ensures.is (pattern_of c.get.result.now))) c.tail_matched.ensures

pub each_matched-returns-in-Limit : goal.each_matched-returns-in-Limit
each_matched-returns-in-Limit g c =
    let s = setting c.args.caller.now.names.now c.args.caller.now.pid in
    let e : meanings itself (row c.loop-pattern.left.now) ≡ more (value_of itself c.in-Some.value.now) (meanings itself (row c.in-Some.rest.now)) = search rules in
    by.even s c.args.patterns.now c.args.values.now (bounds c.args.bindings) m.MatchLimit (omega arith)
    (by.each_are c.args.patterns.now c.loop-pattern.pattern-index c.pattern-item.result c.loop-pattern-test.true c.pattern-item.is s (bounds c.loop-pattern.found) m.MatchLimit
    (m.each_matched s (patterns_of c.args.patterns.now) (meanings itself (row c.args.values.now)) (bounds c.args.bindings)) (meanings itself (row c.loop-pattern.left.now)) (meanings itself (row c.in-Some.rest.now)) (value_of itself c.in-Some.value.now)
    e (ap match_of (sym c.in-Limit.is) ∙ c.in_ok-more.ensures) (c.loop-pattern.invariant.rest ∙ ap (λ bs. m.each_matched s (patterns_of c.args.patterns.now) (meanings itself (row c.args.values.now)) (bounds bs)) c.bindings.view_is))

pub each_matched-returns : goal.each_matched-returns
each_matched-returns g c =
    let s = setting c.args.caller.now.names.now c.args.caller.now.pid in
    by.even s c.args.patterns.now c.args.values.now (bounds c.args.bindings) (m.Yes (bounds c.loop-pattern.found)) (omega arith)
    (by.each_end s c.args.patterns.now c.loop-pattern.pattern-index c.loop-pattern.left.now (bounds c.loop-pattern.found)
    (m.each_matched s (patterns_of c.args.patterns.now) (meanings itself (row c.args.values.now)) (bounds c.args.bindings)) c.loop-pattern-test.false c.loop-pattern.invariant.many (c.loop-pattern.invariant.rest ∙ ap (λ bs. m.each_matched s (patterns_of c.args.patterns.now) (meanings itself (row c.args.values.now)) (bounds bs)) c.bindings.view_is))

pub list_begun-returns-in_default-behind-clause-is : goal.list_begun-returns-in_default-behind-clause-is
list_begun-returns-in_default-behind-clause-is g c =
    let s = setting c.args.caller.now.names.now c.args.caller.now.pid in
    let ps = patterns_of c.args.patterns.now in
    let bs = bounds c.args.bindings in
    λ p. by.not_enough s ps (meanings itself (row_of c.in-List.items)) bs p c.in_default-behind.ensures.is
    ∙ ap (λ (x : Term (List Bool)). m.matched s (t.PListOn ps p) (value_of itself x) bs) (sym c.in-List.is)

pub list_begun-returns-clause-is : goal.list_begun-returns-clause-is
list_begun-returns-clause-is g c =
    let s = setting c.args.caller.now.names.now c.args.caller.now.pid in
    let ps = patterns_of c.args.patterns.now in
    let bs = bounds c.args.bindings in
    let rest = c.in_ok-again.field-0 in
    let e = c.in-Some.ensures.is ∙ ap (λ (x : Cells (List Bool)). Some (meanings itself (row_of x))) (sym c.in_ok-again.ensures) in
    λ p. by.list_on_is s ps (meanings itself (row_of c.in-List.items)) bs p (meanings itself (row_of rest)) e (match_of c.in_ok-begun.begun) c.in_ok-begun.ensures
    ∙ ap (λ (x : Term (List Bool)). m.matched s (t.PListOn ps p) (value_of itself x) bs) (sym c.in-List.is)
