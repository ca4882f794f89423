use Rattle.std.proofs.Common.{ap, sym, ◌∙◌}
use Rattle.std.proofs.lemmas.Result.{IfOk-weaker}
use Rattle.bit_store.specs.Stores.{itself}
use Rattle.term_value.specs.Match as m
use Rattle.term_value.specs.Seen.{meanings}
use Rattle.term_value.specs.Terms.{row}
use Rattle.expr_eval.specs.Answers.{setting}
use Rattle.code_match.specs.Binds.{bounds}
use Rattle.code_match.specs.Matches.{match_of}
use Rattle.code_match.proofs.Choosing.{tried_is}
use Rattle.code_match.proofs.clauses.tried.Goals as goal

pub returns-in-Yes : goal.returns-in-Yes
returns-in-Yes c =
    let s = setting c.args.caller.now.names.now c.args.caller.now.pid in
    IfOk-weaker c.guarded.result _ _ (λ u h. h ∙ tried_is s (bounds c.args.bindings.now) (meanings itself (row c.args.values.now)) c.args.clause.now c.items.result.now c.items-in-Yes.result.now c.items-in-Yes-2.result.now
    (bounds c.in_ok-again.field-0) (m.Yes (bounds c.in-Yes.found)) c.items.ensures c.items-in-Yes.ensures c.items-in-Yes-2.ensures (ap bounds c.in_ok-again.ensures) (ap match_of (sym c.in-Yes.is) ∙ c.in_ok-found.ensures)) c.guarded.ensures
