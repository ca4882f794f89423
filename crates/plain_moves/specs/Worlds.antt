-- The module and the pid of a process (this project's own).
use Rattle.term_value.specs.Step.{World}
use Rattle.code_tree.specs.Reading.{module_meant}
use Rattle.plain_moves.specs.declared.scene.Scene.{Scene}

abbrev pub world_of : Scene → World
world_of s = record { code = module_meant s.code.now; pid = s.pid }
