use Rattle.std.proofs.Common.{rules, arith, ◌+◌, ◌∙◌, sym, refl}
use denote.Enum.Bare.{same_true}
use Rattle.std.proofs.Math.Facts.{to_z-of_z}
use mir.Syntax.{w128}
use Rattle.erl_syntax.specs.contracts.token.TokenKind.{the_type}
use Rattle.erl_syntax.specs.declared.token.TokenKind.TheVariants as k
use Rattle.pattern_read.proofs.Words.{is_no, is_none}
use Rattle.pattern_read.proofs.Values.{sign_deep, sign_end, sign_ok}
use Rattle.pattern_read.proofs.pattern_leaves.signed_value.Goals as goal

pub returns-then-deep-trees-clause-reads : goal.returns-then-deep-trees-clause-reads
returns-then-deep-trees-clause-reads c = λ x q. sign_deep x c.args.deep c.args.cursor.now c.args.at c.args.numbered c.args.op q c.requires.stands c.requires.sign c.requires.prefix (omega arith)

pub returns-in_default-clause-reads : goal.returns-in_default-clause-reads
returns-in_default-clause-reads c = λ x q. sign_end x c.args.deep c.args.cursor.now c.args.at c.args.numbered c.args.op q c.requires.stands c.requires.sign c.requires.prefix (omega arith) (is_none c.args.cursor.now (c.args.at + 1) k.Integer c.in_default.ensures.token)

pub returns-in_ok-vec-clause-reads : goal.returns-in_ok-vec-clause-reads
returns-in_ok-vec-clause-reads c = λ x q. sign_ok x c.args.deep c.args.cursor.now c.args.at c.args.numbered c.in-Some.digits c.args.op _ _ _ q c.requires.stands c.in-Some.ensures.token c.requires.sign c.requires.prefix (omega arith) (same_true the_type _ c.in-Some.digits.token.kind k.Integer (sym c.eq.ensures ∙ c.if-eq.true)) (c.of-part.ensures ∙ c.in_ok-vec.ensures.items) refl (to_z-of_z {w = w128} {z = c.integer-value.result} (record { sfits = c.integer-value.type_inv }) ∙ c.integer-value.ensures)

pub returns-else-eq-clause-reads : goal.returns-else-eq-clause-reads
returns-else-eq-clause-reads c = λ x q. sign_end x c.args.deep c.args.cursor.now c.args.at c.args.numbered c.args.op q c.requires.stands c.requires.sign c.requires.prefix (omega arith) (is_no c.args.cursor.now (c.args.at + 1) c.in-Some.digits k.Integer c.in-Some.ensures.token (λ h. search rules))
