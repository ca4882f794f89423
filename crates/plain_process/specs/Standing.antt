-- What a process stands for: the local state of the definitions (this project's own).
use Rattle.std.specs.Prelude.{◌≡◌, ℕ, List, [], ◌∷◌, map}
use Rattle.term_value.specs.Value as V
use Rattle.term_value.specs.Setting.{Setting}
use Rattle.term_value.specs.Tree.{Module}
use Rattle.term_value.specs.Step.{World, setting}
use Rattle.term_value.specs.Local as l
use Rattle.term_layers.specs.Layers.{plug}
use Rattle.code_tree.specs.PlainTerms.{value}
use Rattle.plain_moves.specs.Reading.{stop_of, layer, open_tree}
use Rattle.plain_moves.specs.Worlds.{world_of}
use Rattle.plain_moves.specs.declared.focus.Focus.TheVariants as f
use Rattle.plain_process.specs.declared.standing.Course.{Course}
use Rattle.plain_process.specs.declared.standing.Course.TheVariants.{At, Fell}
use Rattle.plain_process.specs.declared.standing.Standing.{Standing}
use Rattle.plain_process.specs.declared.process.PlainProcess.{PlainProcess}

-- the open part within its frames, or how it fell
abbrev pub course_in : Setting → Course → l.Course
course_in s (At focus frames) = l.At (plug (map (layer s) frames) (open_tree s focus))
course_in s (Fell stop) = l.Fell (stop_of stop)

abbrev pub local_in : World → Standing → l.Local
local_in w standing = record { pid = w.pid; course = course_in (setting w) standing.course; seen = map value standing.seen; left = standing.left }

-- nothing goes on by itself: it stands at an ask, or at its end
abbrev pub Rests : Course → Type 0
Rests (At (f.Goes part) frames) = ⊥
Rests (At (f.Value v) []) = Unit {0}
Rests (At (f.Value v) (frame ∷ frames)) = ⊥
Rests (At (f.Asks a) frames) = Unit {0}
Rests (At (f.Receives ks b) frames) = Unit {0}
Rests (Fell stop) = Unit {0}

abbrev pub code_of : PlainProcess → Module
code_of p = (world_of p.scene).code

abbrev pub local_of : PlainProcess → l.Local
local_of p = local_in (world_of p.scene) p.standing

abbrev pub waits_of : PlainProcess → Type 0
waits_of p = Rests p.standing.course
