use Rattle.std.proofs.Common.{◌≡◌, List, Bool, ap, sym, ◌∙◌, map, subst}
use Rattle.std.specs.declared.result.Result.TheVariants.{Err}
use Rattle.bit_store.specs.Stores.{itself}
use Rattle.term_value.specs.Primitives.{prim}
use Rattle.term_value.specs.Result.{Gives, Stops, Raise, Limit}
use Rattle.term_value.specs.Seen.{meanings}
use Rattle.term_value.specs.Step.{Goes, Falls, bits_made}
use Rattle.term_value.specs.Terms.{row, value_of}
use Rattle.term_value.specs.Tree.{Val}
use Rattle.term_value.specs.Value as V
use Rattle.expr_eval.specs.Answers.{setting, IsEvaluated, reason_of}
use Rattle.expr_eval.specs.declared.reason.EvalFault.{EvalFault}
use Rattle.code_tree.specs.PlainTerms.{value}
use Rattle.code_tree.specs.Reading.{prim_of}
use Rattle.plain_moves.specs.Worlds.{world_of}
use Rattle.plain_moves.proofs.Acts.{result_is}
use Rattle.plain_moves.proofs.Known.{values_of}
use Rattle.plain_moves.proofs.acting.compute.Goals as goal

pub returns-in-Ok : goal.returns-in-Ok
returns-in-Ok c =
    let us = meanings itself (row c.into_terms.result.items) in
    let are : us ≡ V.row (map value c.args.values) = values_of c.into_terms.result.items ∙ ap (λ xs. V.row (map value xs)) c.into_terms.ensures.are in (
      bits_made (value_of itself c.in-Ok.term),
      result_is (world_of c.args.scene.now) (setting c.caller.result.names.now c.caller.result.pid) (prim_of c.args.what.now) (V.row (map value c.args.values)) us (Gives (value_of itself c.in-Ok.term)) c.caller.ensures are c.in-Ok.ensures.is
          ∙ ap (λ p. Goes 0 (bits_made (value_of itself c.in-Ok.term)) (Val (value p))) (sym c.of.ensures),
    )

pub returns-in-Err-Raised : goal.returns-in-Err-Raised
returns-in-Err-Raised c =
    let us = meanings itself (row c.into_terms.result.items) in
    let are : us ≡ V.row (map value c.args.values) = values_of c.into_terms.result.items ∙ ap (λ xs. V.row (map value xs)) c.into_terms.ensures.are in
    let s = setting c.caller.result.names.now c.caller.result.pid in
    let h = subst (λ (f : EvalFault (List Bool)). IsEvaluated itself (Err f) (prim s (prim_of c.args.what.now) us)) c.in-Err-Raised.field-0-is c.in-Err-Raised.ensures.is in
    result_is (world_of c.args.scene.now) s (prim_of c.args.what.now) (V.row (map value c.args.values)) us (Stops (Raise (reason_of itself c.in-Err-Raised.reason))) c.caller.ensures are h
    ∙ ap (Falls 0) (sym c.raised.ensures)

pub returns-in-Err-Limit : goal.returns-in-Err-Limit
returns-in-Err-Limit c =
    let us = meanings itself (row c.into_terms.result.items) in
    let are : us ≡ V.row (map value c.args.values) = values_of c.into_terms.result.items ∙ ap (λ xs. V.row (map value xs)) c.into_terms.ensures.are in
    let s = setting c.caller.result.names.now c.caller.result.pid in
    let h = subst (λ (f : EvalFault (List Bool)). IsEvaluated itself (Err f) (prim s (prim_of c.args.what.now) us)) c.in-Err-Limit.field-0-is c.in-Err-Limit.ensures.is in
    result_is (world_of c.args.scene.now) s (prim_of c.args.what.now) (V.row (map value c.args.values)) us (Stops Limit) c.caller.ensures are h
