use Rattle.std.proofs.Common.{subst, ◌≡◌, List, pos, MatchBool}
use Rattle.std.specs.List.{Contains}
use Rattle.std.specs.Prelude.{codes}
use Rattle.erl_syntax.specs.Checking.{Spelled}
use Rattle.erl_syntax.specs.declared.module.Name.{Name}
use Rattle.module_check.proofs.Formed.{no_main_by}
use Rattle.module_check.proofs.forms.has_no_main.Goals as goal

pub returns : goal.returns
returns c = let T = c.args.tree.now in let P : List Name → Type 0 = λ zs. MatchBool c.exports_main.result ((e : Name) × (Contains zs e × (Spelled T e.name (codes "main") × (e.arity ≡ pos 0)))) ((e : Name) × (Contains zs e × (Spelled T e.name (codes "main") × (e.arity ≡ pos 0))) → ⊥) in no_main_by c.args.tree.now c.exports_main.result (subst P c.items.ensures c.exports_main.ensures)
