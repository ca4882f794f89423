use Rattle.std.proofs.Common.{arith, ◌∙◌}
use Rattle.std.proofs.lemmas.List.{take_rest}
use Rattle.erl_tokens.proofs.Spelled.{plain_character, escaped_dollar, unescaped_dollar}
use Rattle.erl_tokens.proofs.quotes.character.Goals as goal

pub returns-then-bs-ne92-clause-value : goal.returns-then-bs-ne92-clause-value
returns-then-bs-ne92-clause-value c = plain_character _ _ c.args.bs.now _ (take_rest c.args.bs.now 1) c.if-bs-eq1.false (λ e. c.if-bs-ne92.true e) c.character_len.ensures.value

pub returns-in-Some-clause-value : goal.returns-in-Some-clause-value
returns-in-Some-clause-value c = escaped_dollar _ _ c.args.bs.now _ (take_rest c.args.bs.now 2) c.if-bs-eq1.false (omega arith) c.in-Some.ensures.value.0

pub returns-in-None-clause-value : goal.returns-in-None-clause-value
returns-in-None-clause-value c =
    c.no_escape.ensures.value ∙ unescaped_dollar _ c.args.bs.now _ (take_rest c.args.bs.now 2) c.if-bs-eq1.false (omega arith) c.in-None.ensures.value
