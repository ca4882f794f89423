use Rattle.std.proofs.Common.{◌≡◌, ◌∙◌, List, map, ap, arith}
use Rattle.std.specs.List.{zip}
use Rattle.erl_syntax.specs.Checking.{number_at}
use Rattle.erl_syntax.specs.declared.checking.VarUse.{VarUse}
use Rattle.erl_syntax.specs.declared.module.Function.{Function}
use Rattle.erl_syntax.specs.declared.module.Module.{Module}
use Rattle.term_value.specs.ReadTrees as text
use Rattle.term_value.specs.ReadTrees.{reading}
use Rattle.code_tree.specs.Reading.{function_of}
use Rattle.code_layout.proofs.Zipped.{zip_more, zip_done, zip_out}
use Rattle.code_layout.proofs.layout.functions.Goals as goal

pub loop-read-preserved : goal.loop-read-preserved
loop-read-preserved c =
    zip_more function_of (λ (f : Function × List VarUse). text.function_of (reading (number_at f.1) c.args.names.now) c.args.names.now.exports f.0) c.items-reads.result.now c.loop-read.read-index c.read-item.result c.loop-read.left.now c.in-Some.later.now c.in-Some.uses.now c.loop-read.found.items
    c.push.new.self.items c.in_ok-function.function _ (omega arith) c.read-item.is c.in-Some.ensures.cases.0 c.in_ok-push.ensures.items
    (c.in_ok-function.ensures ∙ ap (λ us. text.function_of (reading (number_at us) c.args.names.now) c.args.names.now.exports c.read-item.result) c.items.ensures) c.loop-read.invariant

pub returns : goal.returns
returns c =
    zip_done function_of (λ (f : Function × List VarUse). text.function_of (reading (number_at f.1) c.args.names.now) c.args.names.now.exports f.0) c.items-reads.result.now c.loop-read.read-index c.loop-read.left.now c.loop-read.found.items _ (omega arith) c.loop-read.invariant
    ∙ ap (λ fs. map (λ (f : Function × List VarUse). text.function_of (reading (number_at f.1) c.args.names.now) c.args.names.now.exports f.0) (zip fs c.args.vars.now)) (c.items-reads.ensures ∙ ap (λ (m : Module). m.functions) c.module.ensures)
