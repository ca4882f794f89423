use Rattle.std.proofs.Common.{◌≡◌, ◌∙◌, map, ap}
use Rattle.erl_syntax.specs.declared.module.Module.{Module}
use Rattle.term_value.specs.Tree as tree
use Rattle.term_value.specs.ReadTrees as text
use Rattle.code_tree.specs.Reading.{function_of}
use Rattle.code_layout.proofs.layout.lay_out.Goals as goal

pub returns : goal.returns
returns c =
    ap {B = tree.Module} (λ z. record { atoms = z; name = c.own.result; functions = map function_of c.of-3.result }) (c.of-2.ensures ∙ c.in_ok-atoms.ensures ∙ c.items.ensures)
    ∙ ap {B = tree.Module} (λ z. record { atoms = c.args.tree.now.atoms; name = z; functions = map function_of c.of-3.result }) (c.own.ensures ∙ ap (λ (m : Module). text.name_of m.heads) c.in_ok-names.ensures)
    ∙ ap {B = tree.Module} (λ z. record { atoms = c.args.tree.now.atoms; name = text.name_of c.args.tree.now.heads; functions = z }) (ap (map function_of) c.of-3.ensures ∙ c.in_ok-functions.ensures ∙ ap (text.functions_of c.args.vars.now) c.in_ok-names.ensures)
