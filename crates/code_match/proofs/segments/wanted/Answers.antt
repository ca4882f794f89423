use Rattle.std.proofs.Common.{◌≡◌, ◌∙◌, true, drop, ap, subst, rules}
use Rattle.std.proofs.lemmas.Int.{to_z-of_z}
use Rattle.std.specs.Result.{IfOk}
use mir.Syntax.{w128}
use mir.Val.{SFits, to_z, of_z}
use Rattle.term_value.specs.Decode.{Taken, met, taken_where}
use Rattle.term_value.specs.PutIn.{in_target}
use Rattle.term_value.specs.Value.{VInt}
use Rattle.code_tree.specs.Reading.{target_of}
use Rattle.expr_eval.specs.Answers.{setting}
use Rattle.code_match.specs.Binds.{bounds}
use Rattle.code_match.specs.Places.{place_of}
use Rattle.code_match.proofs.Taking.{number_wanted}
use Rattle.code_match.proofs.segments.wanted.Goals as goal

pub returns-in-Number-clause-is : goal.returns-in-Number-clause-is
returns-in-Number-clause-is c = λ bits cut is.
    let s = setting c.args.caller.now.names.now c.args.caller.now.pid in
    let t = in_target (bounds c.args.bindings) (target_of c.args.target.now) in
    let bs = bounds c.args.bindings in
    let fits : SFits w128 c.in-Number.number = search rules in
    let same : to_z w128 (of_z w128 c.in-Number.number) ≡ c.in-Number.number = to_z-of_z w128 c.in-Number.number fits in
    subst (λ (due : Taken). IfOk c.met.result (λ place. place_of bits place ≡ due))
    (ap (λ n. taken_where true (met s t (VInt n) bs) (drop c.args.off.next bits)) same ∙ number_wanted s t bs bits cut c.args.off is c.in-Number.number c.in-Number.is)
    (c.met.ensures.is bits)
