use Rattle.std.proofs.Common.{ap, sym, subst, ◌∙◌}
use Rattle.term_value.specs.PutIn.{put_in}
use Rattle.term_value.specs.Tree as t
use Rattle.code_tree.specs.Reading.{tree_of, clauses_of, nothing_of, qualifiers_of}
use Rattle.code_tree.proofs.Equations.{tree_of-Value, tree_of-Variable, tree_of-Case, tree_of-AndAlso, tree_of-OrElse, tree_of-Receive, tree_of-Comprehension}
use Rattle.code_match.specs.Binds.{bounds}
use Rattle.plain_moves.specs.Moving.{IsMove}
use Rattle.plain_moves.specs.Worlds.{world_of}
use Rattle.plain_moves.proofs.Alike.{along}
use Rattle.plain_moves.proofs.opening.open_tree.Goals as goal

pub returns-in-Value : goal.returns-in-Value
returns-in-Value c = along (world_of c.args.scene.now) _ _ c.open_literal.result (sym (ap (put_in (bounds c.args.bindings)) (ap tree_of c.in-Value.is ∙ tree_of-Value _))) (c.open_literal.ensures (world_of c.args.scene.now))

pub returns-in-Variable : goal.returns-in-Variable
returns-in-Variable c = along (world_of c.args.scene.now) _ _ c.open_variable.result (sym (ap (put_in (bounds c.args.bindings)) (ap tree_of c.in-Variable.is ∙ tree_of-Variable _))) (c.open_variable.ensures (world_of c.args.scene.now))

pub returns-in-Case : goal.returns-in-Case
returns-in-Case c =
    let w = world_of c.args.scene.now in
    let put = put_in (bounds c.args.bindings) in
    along w _ _ c.open_case.result
    (ap (λ v. put (t.First (tree_of v) (t.Alts (clauses_of c.items-in-Case.result.now)))) c.get.ensures
    ∙ ap (λ x. put (t.First (tree_of c.in-Case.first) (t.Alts (clauses_of x)))) c.items-in-Case.ensures
    ∙ sym (ap put (ap tree_of c.in-Case.is ∙ tree_of-Case c.in-Case.first c.in-Case.clauses)))
    (c.open_case.ensures w)

pub returns-in-AndAlso : goal.returns-in-AndAlso
returns-in-AndAlso c =
    let w = world_of c.args.scene.now in
    let put = put_in (bounds c.args.bindings) in
    along w _ _ c.open_and_also.result
    (ap (λ v. put (t.First (tree_of v) (t.AndAlso (tree_of c.get-in-AndAlso-2.result.now)))) c.get-in-AndAlso.ensures
    ∙ ap (λ x. put (t.First (tree_of c.in-AndAlso.first) (t.AndAlso (tree_of x)))) c.get-in-AndAlso-2.ensures
    ∙ sym (ap put (ap tree_of c.in-AndAlso.is ∙ tree_of-AndAlso c.in-AndAlso.first c.in-AndAlso.second)))
    (c.open_and_also.ensures w)

pub returns-in-OrElse : goal.returns-in-OrElse
returns-in-OrElse c =
    let w = world_of c.args.scene.now in
    let put = put_in (bounds c.args.bindings) in
    along w _ _ c.open_or_else.result
    (ap (λ v. put (t.First (tree_of v) (t.OrElse (tree_of c.get-in-OrElse-2.result.now)))) c.get-in-OrElse.ensures
    ∙ ap (λ x. put (t.First (tree_of c.in-OrElse.first) (t.OrElse (tree_of x)))) c.get-in-OrElse-2.ensures
    ∙ sym (ap put (ap tree_of c.in-OrElse.is ∙ tree_of-OrElse c.in-OrElse.first c.in-OrElse.second)))
    (c.open_or_else.ensures w)

pub returns-in-Receive : goal.returns-in-Receive
returns-in-Receive c =
    let w = world_of c.args.scene.now in
    let put = put_in (bounds c.args.bindings) in
    subst (λ (u : t.Tree). IsMove w u c.open_receive.result)
    (ap (λ ks. put (t.Receive (clauses_of ks))) c.items-in-Receive.ensures
    ∙ sym (ap put (ap tree_of c.in-Receive.is ∙ tree_of-Receive c.in-Receive.clauses)))
    (c.open_receive.ensures w)

pub returns : goal.returns
returns c =
    let w = world_of c.args.scene.now in
    let put = put_in (bounds c.args.bindings) in
    let kind = c.in-Comprehension.kind in
    along w _ _ c.open_comprehension.result
    (ap (λ qs. put (t.Gather (nothing_of kind) (qualifiers_of qs c.get-in-Comprehension.result.now) t.bottom)) c.items-in-Comprehension.ensures
    ∙ ap (λ row. put (t.Gather (nothing_of kind) (qualifiers_of c.in-Comprehension.qualifiers row) t.bottom)) c.get-in-Comprehension.ensures
    ∙ sym (ap put (ap tree_of c.in-Comprehension.is ∙ tree_of-Comprehension kind c.in-Comprehension.qualifiers c.in-Comprehension.row)))
    c.open_comprehension.ensures
