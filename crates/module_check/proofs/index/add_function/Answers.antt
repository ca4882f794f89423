use Rattle.std.proofs.Common.{subst, sym, ◌∙◌, Option}
use Rattle.module_check.specs.declared.index.Named.{Named}
use Rattle.module_check.specs.Index.{AreNamed}
use Rattle.module_check.proofs.Indexing.{lists_more, has_key}
use Rattle.module_check.proofs.index.add_function.Goals as goal

pub returns : goal.returns
returns c = λ before e l.
    let f = c.args.function.now in
    let k = c.key-key.result in
    let has = has_key f k c.key-key.ensures in
    let P : Option Named → Type 0 = AreNamed before k in
    let named = subst P (sym (c.copied-named.ensures ∙ c.get.ensures.value)) (l k) in
    lists_more before f k c.args.functions.now c.insert.new.self c.with_one_more.result has c.in_ok-insert.ensures.updates.0 (c.with_one_more.ensures before k e has named) l
