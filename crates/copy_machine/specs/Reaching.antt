-- What a process comes to by its turns (this project's own).
use Rattle.std.specs.Prelude.{◌≡◌}
use Rattle.term_value.specs.Tree.{Module}
use Rattle.term_value.specs.Local.{Local}
use Rattle.process_acts.specs.Acts.{Runs, IsAsking}
use Rattle.process_acts.specs.declared.asking.Asking.{Asking}

-- by contractions a process came to this ask, and stands at it
pub record Reaches {P : Type 0} (code_of : P → Module) (local_of : P → Local) (waits_of : P → Type 0) (before after : P) (ask : Asking) : Type 0 where
  pub code : code_of after ≡ code_of before
  pub runs : Runs (code_of before) (local_of before) (local_of after)
  pub waits : waits_of after
  pub asks : IsAsking (code_of after) (local_of after) ask
