use Rattle.std.proofs.Common.{ap, ◌∙◌}
use Rattle.std.proofs.lemmas.List.{take_rest}
use Rattle.erl_syntax.specs.Characters.{spelled_number}
use Rattle.erl_tokens.proofs.values.character_number.Goals as goal

pub returns : goal.returns
returns c = c.unit.ensures.number ∙ ap spelled_number (take_rest c.args.token.now 1)
