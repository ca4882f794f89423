use Rattle.std.proofs.Common.{rules, ◌+◌, ◌∙◌, sym}
use denote.Enum.Bare.{same_true}
use Rattle.std.proofs.Math.Facts.{to_z-of_z}
use mir.Syntax.{w128}
use Rattle.erl_syntax.specs.contracts.token.TokenKind.{the_type}
use Rattle.erl_syntax.specs.declared.token.TokenKind.TheVariants as k
use Rattle.pattern_read.proofs.Words.{is_no, is_none}
use Rattle.pattern_read.proofs.LeafExits.{sign_end, sign_ok}
use Rattle.pattern_read.proofs.pattern_leaves.signed_pattern.Goals as goal

pub returns-in_default-clause-reads : goal.returns-in_default-clause-reads
returns-in_default-clause-reads c = λ x. sign_end x c.args.cursor.now c.args.at c.args.numbered c.requires.stands c.requires.sign (is_none c.args.cursor.now (c.args.at + 1) k.Integer c.in_default.ensures.token)

pub returns-then-eq-clause-reads : goal.returns-then-eq-clause-reads
returns-then-eq-clause-reads c = λ x. sign_ok x c.args.cursor.now c.args.at c.args.numbered c.in-Some.digits c.signed-value.result _ c.requires.stands c.in-Some.ensures.token c.requires.sign (same_true the_type _ c.in-Some.digits.token.kind k.Integer (sym c.eq.ensures ∙ c.if-eq.true)) c.signed-value.ensures (to_z-of_z {w = w128} {z = c.signed-value.result} (record { sfits = c.signed-value.type_inv }))

pub returns-else-eq-clause-reads : goal.returns-else-eq-clause-reads
returns-else-eq-clause-reads c = λ x. sign_end x c.args.cursor.now c.args.at c.args.numbered c.requires.stands c.requires.sign (is_no c.args.cursor.now (c.args.at + 1) c.in-Some.digits k.Integer c.in-Some.ensures.token (λ h. search rules))
