use Rattle.std.proofs.Common.{rules, ◌∙◌, sym}
use denote.Enum.Bare.{same_true}
use Rattle.erl_syntax.specs.contracts.token.TokenKind.{the_type}
use Rattle.erl_syntax.specs.declared.token.TokenKind.TheVariants as k
use Rattle.pattern_read.proofs.Signs.{sign_minus, sign_plus, not_minus}
use Rattle.pattern_read.proofs.pattern_leaves.signed.Goals as goal

pub returns-then-eq : goal.returns-then-eq
returns-then-eq c = sign_minus c.args.sign c.args.digits.now.value c.integer-value.result (same_true the_type _ c.args.sign k.Minus (sym c.eq.ensures ∙ c.if-eq.true)) c.requires.narrow c.integer-value.ensures

pub returns-else-eq : goal.returns-else-eq
returns-else-eq c = sign_plus c.args.sign c.args.digits.now.value c.integer-value.result (not_minus c.requires.sign (λ e. search rules)) c.requires.narrow c.integer-value.ensures
