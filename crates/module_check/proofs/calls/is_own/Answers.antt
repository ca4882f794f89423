use Rattle.erl_syntax.specs.declared.module.Head.{Head}
use Rattle.std.proofs.Common.{arith, ◌∙◌, ◌≡◌, List, ap}
use Rattle.erl_syntax.specs.Checking.{macro}
use Rattle.std.proofs.Common.{get_or}
use Rattle.module_check.proofs.Calling.{own_by}
use Rattle.module_check.proofs.calls.is_own.Goals as goal

pub returns-in-ModuleName : goal.returns-in-ModuleName
returns-in-ModuleName c = macro c.args.home.now c.in-ModuleName.at c.in-ModuleName.is

pub returns-in-Some : goal.returns-in-Some
returns-in-Some c = let e : c.items.result.now ≡ c.args.tree.now.heads = c.items.ensures in own_by c.args.tree.now c.args.home.now c.in-Atom.at c.in-Atom.atom c.in-Some.head.now c.in-Atom.is (rw (← e) (omega (arith, c.in-Some.ensures.item.3.0))) (c.in-Some.ensures.item.1 ∙ ap (λ (zs : List Head). get_or zs 0 c.in-Some.head.now) c.items.ensures)
