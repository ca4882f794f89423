use Rattle.std.proofs.Common.{◌≡◌, ◌∙◌, ap, refl, subst, List, take, get_or}
use Rattle.erl_syntax.specs.declared.module.Function.{Function}
use Rattle.module_check.proofs.Walking.{function_least}
use Rattle.module_check.proofs.checking.function_fault.Goals as goal

pub returns : goal.returns
returns c =
    let e : c.items-functions.result.now ≡ c.args.tree.now.functions = c.items-functions.ensures ∙ ap (λ m. m.functions) c.module.ensures in
    let P : List Function → Type 0 = λ zs. c.index-functions-index.result ≡ get_or zs c.args.index c.index-functions-index.result in
    function_least c.args.tree.now c.args.index c.index-functions-index.result (take c.args.index c.args.tree.now.functions) c.clauses_fault-heads.result c.in_ok-inner.inner c.first_of.result c.requires (subst P e c.index-functions-index.is) refl c.clauses_fault-heads.ensures c.in_ok-inner.ensures c.first_of.ensures
