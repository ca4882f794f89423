use Rattle.std.proofs.Common.{subst, sym, ◌∙◌, List}
use Rattle.erl_syntax.specs.Checking.{Spelled}
use Rattle.std.proofs.Common.{ℕ}
use Rattle.module_check.proofs.Calling.{none_at_all, one_at_all, bare_by, home_by}
use Rattle.module_check.proofs.calls.calls_built_in.Goals as goal

pub returns-in-empty : goal.returns-in-empty
returns-in-empty c = bare_by c.args.tree.now c.args.home.now c.args.name c.args.arity c.args.built_in c.is_bare.result (none_at_all c.args.home.now c.in-empty.len_below) c.is_bare.ensures (sym c.arity.ensures ∙ c.if-arity.false) (let P : List ℕ → Type 0 = λ zs. Spelled c.args.tree.now c.args.name zs in subst P c.name.ensures c.if-not-is_spelled.ensures)

pub returns-in-len1 : goal.returns-in-len1
returns-in-len1 c = home_by c.args.tree.now c.args.home.now c.home-item.result c.args.name c.args.arity c.args.built_in c.is_atom.result (one_at_all c.args.home.now c.home-item.result c.in-len1.len_at_least c.in-len1.len_below c.home-item.is) (sym c.arity.ensures ∙ c.if-arity.false) (let P : List ℕ → Type 0 = λ zs. Spelled c.args.tree.now c.args.name zs in subst P c.name.ensures c.if-not-is_spelled.ensures) (rw (← c.home.ensures) c.is_atom.ensures)
