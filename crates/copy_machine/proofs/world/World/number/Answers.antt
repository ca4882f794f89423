use Rattle.std.proofs.Common.{sym, ap, length, ◌∙◌}
use Rattle.copy_machine.proofs.Places.{number_found, number_missing}
use Rattle.copy_machine.proofs.world.World.number.Goals as goal

pub returns-in-Some : goal.returns-in-Some
returns-in-Some c = number_found c.args.self.now.code.now.atoms c.args.chars.now c.in-Some.number (sym c.atom.ensures ∙ c.in-Some.is)

pub returns-in-None : goal.returns-in-None
returns-in-None c = ap length c.items.ensures ∙ number_missing c.args.self.now.code.now.atoms c.args.chars.now (sym c.atom.ensures ∙ c.in-None.is)
