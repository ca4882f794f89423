-- The first seen message that some clause takes (Erlang Reference Manual, "Receive").
use Rattle.std.specs.Prelude.{ℕ, ◌<◌, Bool, List, remove, map}
use Rattle.term_value.specs.Value.{Value, none, more}
use Rattle.term_value.specs.Seen.{Seen}
use Rattle.term_value.specs.Setting.{Setting}
use Rattle.term_value.specs.Tree.{Bound, Clauses}
use Rattle.term_value.specs.PutIn.{put_in}
use Rattle.term_value.specs.Local as l
use Rattle.term_layers.specs.Environments.{Choice, chosen}
use Rattle.code_tree.specs.PlainTerms.{value}
use Rattle.code_tree.specs.Reading.{body_of}
use Rattle.code_match.specs.Binds.{bounds}
use Rattle.plain_process.specs.declared.looking.Found.{Found}
use Rattle.plain_process.specs.declared.looking.Found.TheVariants.{Takes, NoMessage, Limit}

-- the choice for a message
abbrev pub choice_for : Setting → List Bound → Clauses → Seen (List Bool) → Choice
choice_for s env cs message = chosen s env cs (more (value message) none)

-- what was found among these messages
abbrev pub found_in : List (Seen (List Bool)) → Found → l.Seen
found_in messages (Takes index b lines) = l.Takes (put_in (bounds b) (body_of lines.now)) (map value (remove messages index))
found_in messages NoMessage = l.NoMessage
found_in messages Limit = l.SeenLimit

-- the place is one of so many
abbrev pub IsAmong : ℕ → Found → Type 0
IsAmong many (Takes index b lines) = index < many
IsAmong many NoMessage = Unit {0}
IsAmong many Limit = Unit {0}
