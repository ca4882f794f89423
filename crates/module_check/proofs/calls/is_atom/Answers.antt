use Rattle.module_check.proofs.Calling.{atom_by}
use Rattle.module_check.proofs.calls.is_atom.Goals as goal

pub returns-in-Atom : goal.returns-in-Atom
returns-in-Atom c = atom_by c.args.tree.now c.args.chars.now c.args.home.now c.in-Atom.at c.in-Atom.atom c.is_spelled.result c.in-Atom.is c.is_spelled.ensures
