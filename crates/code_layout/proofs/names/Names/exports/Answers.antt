use Rattle.std.proofs.Common.{◌≡◌, ◌∙◌, ap, rules}
use Rattle.std.proofs.lemmas.Int.{to_z-of_z}
use mir.Val.{SFits, to_z, of_z}
use mir.Syntax.{w128}
use Rattle.std.specs.Prelude.{nat_eq, ◌&&◌}
use Rattle.std.specs.List.{list_any}
use Rattle.std.specs.Ordering.{int_eq}
use Rattle.std.specs.BTreeSet as set
use Rattle.erl_syntax.specs.declared.module.Name.{Name}
use Rattle.erl_syntax.specs.declared.module.Module.{Module}
use Rattle.term_value.specs.ReadTrees.{is_exported}
use Rattle.code_layout.specs.Lookups.{export_cmp}
use Rattle.code_layout.proofs.names.Names.exports.Goals as goal

pub returns : goal.returns
returns c =
    let fits : SFits w128 c.from.result = search rules in
    let same : to_z w128 (of_z w128 c.from.result) ≡ c.from.result = to_z-of_z w128 c.from.result fits in
    c.contains.ensures ∙ ap (λ z. set.contains export_cmp c.self.inside.exports (c.args.name, z)) same ∙ c.self.invariant.1 (c.args.name, c.from.result)
    ∙ ap (λ z. list_any (λ (e : Name). nat_eq e.name c.args.name && int_eq e.arity z) c.self.inside.tree.now.exports) c.from.ensures ∙ ap (λ (m : Module). is_exported m.exports c.args.name c.args.arity) c.self.view_is
