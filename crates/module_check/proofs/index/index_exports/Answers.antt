use Rattle.std.proofs.Common.{arith, get_or, pos}
use Rattle.std.proofs.lemmas.List.{get_or_default}
use Rattle.erl_syntax.specs.declared.module.Name.{Name}
use Rattle.module_check.proofs.Indexing.{exports_more, exports_all, has_export}
use Rattle.module_check.proofs.index.index_exports.Goals as goal

pub loop-export-preserved : goal.loop-export-preserved
loop-export-preserved c =
    let d : Name = record { at = record { line = 0; column = 0 }; name = 0; arity = pos 0 } in
    let es = c.args.exports.now in
    let i = c.loop-export.export-index in
    let e : Name = get_or es i d in
    let k = c.export_key.result in
    exports_more es i e k c.loop-export.index c.insert.new.self (omega arith) (get_or_default es i d e (omega arith)) (has_export e k c.export_key.ensures) c.in_ok-insert.ensures.updates.0 c.loop-export.invariant

pub returns : goal.returns
returns c = exports_all c.args.exports.now c.loop-export.export-index c.loop-export.index (omega arith) c.loop-export.invariant
