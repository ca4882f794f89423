use Rattle.std.proofs.Common.{◌≡◌, ◌<◌, ◌^◌, drop}
use Rattle.erl_syntax.specs.Characters.{number, number_after}
use Rattle.erl_tokens.proofs.characters.number.Given as goal

abbrev pub invariant-loop-b : goal.invariant-loop-b
invariant-loop-b l = record { small : l.number < 2 ^ 127; so_far : number l.base l.bs ≡ number_after l.base l.number (drop l.b-index l.bs) }
