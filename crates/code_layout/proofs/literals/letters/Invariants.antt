use Rattle.std.proofs.Common.{◌≡◌, take}
use Rattle.code_layout.specs.Layout.{letter_terms}
use Rattle.code_layout.proofs.literals.letters.Given as goal

abbrev pub invariant-loop-character : goal.invariant-loop-character
invariant-loop-character l = l.letters.items ≡ letter_terms (take l.character-index l.characters)
