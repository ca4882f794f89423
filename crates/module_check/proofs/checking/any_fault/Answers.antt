use Rattle.std.proofs.Common.{subst, List, length}
use Rattle.erl_syntax.specs.declared.module.Head.{Head}
use Rattle.erl_syntax.specs.declared.module.Module.{Module}
use Rattle.module_check.specs.Order.{IsLeast, Below, Either, Some_of}
use Rattle.module_check.specs.Faults.{rest, HeadFault, ExportFault, EndFault, FunctionFault}
use Rattle.module_check.proofs.Firsts.{least_of_both}
use Rattle.module_check.proofs.checking.any_fault.Goals as goal

pub returns : goal.returns
returns c =
    let P : List Head → Type 0 = λ zs. IsLeast (Some_of HeadFault (rest zs)) c.heads_fault-heads.result in
    let Q : Module → Type 0 = λ m. IsLeast (Some_of (ExportFault m) m.exports) c.exports_fault.result in
    let R : Module → Type 0 = λ m. IsLeast (Below (FunctionFault m) (length m.functions)) c.in_ok-functions.functions in
    let same = c.in_ok-indexed.ensures in
    let m = c.args.tree.now in
    least_of_both (Either (Some_of HeadFault (rest m.heads)) (Some_of (ExportFault m) m.exports)) (Either (Below (FunctionFault m) (length m.functions)) (EndFault m)) _ _ _
    (least_of_both (Some_of HeadFault (rest m.heads)) (Some_of (ExportFault m) m.exports) _ _ _ (subst P c.items.ensures c.heads_fault-heads.ensures) (subst Q same c.exports_fault.ensures) c.first_of-forms.ensures)
    (least_of_both (Below (FunctionFault m) (length m.functions)) (EndFault m) _ _ _ (subst R same c.in_ok-functions.ensures) c.end_fault.ensures c.first_of-rest.ensures) c.first_of.ensures
