use Rattle.std.proofs.Common.{◌&&◌, sym, ◌∙◌}
use Rattle.std.specs.Prelude.{nat_eq}
use Rattle.term_value.specs.Tree.{Function}
use Rattle.code_tree.specs.Reading.{function_of}
use Rattle.copy_machine.proofs.Places.{position_map}
use Rattle.copy_machine.proofs.world.World.exported.Goals as goal

pub returns : goal.returns
returns c = c.first_exported.ensures ∙ sym (position_map function_of (λ (f : Function). f.exported && (nat_eq f.name c.args.name && nat_eq f.arity c.args.arity)) c.args.self.now.code.now.functions)
