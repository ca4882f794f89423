use Rattle.erl_syntax.proofs.LongestMark.{longest_mark}
use Rattle.erl_syntax.proofs.token.longest_mark_first.Goals as goal

pub returns : goal.returns
returns c = longest_mark
