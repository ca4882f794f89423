-- What a refusal says of a text.
use Rattle.std.specs.Prelude.{ℕ, List}
use Rattle.module_accept.specs.Accepting.{IsDue}
use Rattle.module_accept.specs.declared.accepting.Refusal.{Refusal}
use Rattle.module_accept.specs.declared.accepting.Refusal.TheVariants as r

-- the line is the one that is due; want of memory says nothing
abbrev pub Refuses : List ℕ → Refusal → Type 0
Refuses text r.Memory = Unit {0}
Refuses text (r.Line line) = IsDue text line.items
