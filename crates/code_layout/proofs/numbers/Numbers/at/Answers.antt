use Rattle.std.proofs.Common.{◌∙◌, ap, unwrap_or}
use Rattle.erl_syntax.specs.Checking.{number_at}
use Rattle.code_layout.proofs.numbers.Numbers.at.Goals as goal

pub returns : goal.returns
returns c = c.unwrap_or.ensures ∙ ap (λ o. unwrap_or o 0) (c.copied.ensures ∙ c.get.ensures.value) ∙ c.self.invariant (c.args.at.line, c.args.at.column) ∙ ap (λ us. number_at us c.args.at) c.self.view_is
