use Rattle.std.proofs.Common.{◌≡◌, drop, refl, subst, Some}
use Rattle.std.specs.Prelude.{option_map}
use Rattle.std.specs.Result.{IfOk}
use Rattle.bit_store.specs.Stores.{itself}
use Rattle.segment_cut.specs.Cuts.{IsCut}
use Rattle.term_value.specs.Decode as d
use Rattle.term_value.specs.PutIn.{in_target}
use Rattle.code_tree.specs.PlainTerms.{IsShort}
use Rattle.code_tree.specs.Reading.{size, target_of, tree_of}
use Rattle.expr_eval.specs.Answers.{setting}
use Rattle.code_match.specs.Binds.{bounds}
use Rattle.code_match.specs.Places.{place_of, IsReach}
use Rattle.code_match.proofs.Taking.{wanted_taken, none_taken}
use Rattle.code_match.proofs.segments.place_after.Goals as goal

pub returns-in-Some-2-clause-is : goal.returns-in-Some-2-clause-is
returns-in-Some-2-clause-is c =
    let s = setting c.args.caller.now.names.now c.args.caller.now.pid in
    let k = c.args.segment.now in
    let bs = bounds c.args.bindings in
    let bits = drop c.args.at c.args.bits.now in
    let reached : IsReach (d.reach s k.typed bs (size (option_map tree_of k.size))) (Some c.in-Some.extent) = subst (IsReach (d.reach s k.typed bs (size (option_map tree_of k.size)))) c.in-Some.is c.in_ok-extent.ensures in
    let off : IsCut itself IsShort c.args.bits.now (d.cut k.typed reached.0 bits) (Some c.in-Some-2.off) = subst (IsCut itself IsShort c.args.bits.now (d.cut k.typed reached.0 bits)) c.in-Some-2.is (c.in_ok-off.ensures reached.0 reached.2) in
    subst (λ (due : d.Taken). IfOk c.wanted.result (λ place. place_of c.args.bits.now place ≡ due))
    (wanted_taken s k bs bits reached.0 (d.wanted s (in_target bs (target_of k.target)) bs (d.cut k.typed reached.0 bits)) reached.1 refl)
    (c.wanted.ensures.is c.args.bits.now (d.cut k.typed reached.0 bits) off)

pub returns-in-Some-2-clause-inside : goal.returns-in-Some-2-clause-inside
returns-in-Some-2-clause-inside c =
    let s = setting c.args.caller.now.names.now c.args.caller.now.pid in
    let k = c.args.segment.now in
    let bs = bounds c.args.bindings in
    let bits = drop c.args.at c.args.bits.now in
    let reached : IsReach (d.reach s k.typed bs (size (option_map tree_of k.size))) (Some c.in-Some.extent) = subst (IsReach (d.reach s k.typed bs (size (option_map tree_of k.size)))) c.in-Some.is c.in_ok-extent.ensures in
    let off : IsCut itself IsShort c.args.bits.now (d.cut k.typed reached.0 bits) (Some c.in-Some-2.off) = subst (IsCut itself IsShort c.args.bits.now (d.cut k.typed reached.0 bits)) c.in-Some-2.is (c.in_ok-off.ensures reached.0 reached.2) in
    c.wanted.ensures.inside c.args.bits.now off.inside

pub returns-in-None-clause-is : goal.returns-in-None-clause-is
returns-in-None-clause-is c =
    let s = setting c.args.caller.now.names.now c.args.caller.now.pid in
    let k = c.args.segment.now in
    let bs = bounds c.args.bindings in
    let bits = drop c.args.at c.args.bits.now in
    let reached : IsReach (d.reach s k.typed bs (size (option_map tree_of k.size))) (Some c.in-Some.extent) = subst (IsReach (d.reach s k.typed bs (size (option_map tree_of k.size)))) c.in-Some.is c.in_ok-extent.ensures in
    none_taken s k bs bits reached.0 reached.1 (subst (IsCut itself IsShort c.args.bits.now (d.cut k.typed reached.0 bits)) c.in-None.is (c.in_ok-off.ensures reached.0 reached.2))
