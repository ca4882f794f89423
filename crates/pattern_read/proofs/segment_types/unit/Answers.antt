use Rattle.std.proofs.Common.{rules, ◌∙◌, ◌+◌, sym}
use denote.Enum.Bare.{same_true}
use Rattle.std.proofs.Math.Facts.{to_z-of_z}
use mir.Syntax.{w128}
use Rattle.erl_syntax.specs.contracts.token.TokenKind.{the_type}
use Rattle.erl_syntax.specs.declared.token.TokenKind.TheVariants as k
use Rattle.pattern_read.proofs.Words.{is_no, is_none}
use Rattle.pattern_read.proofs.Types.{unit_no_colon, unit_no_number, unit_ok}
use Rattle.pattern_read.proofs.segment_types.unit.Goals as goal

pub returns-then-not-is-clause-reads : goal.returns-then-not-is-clause-reads
returns-then-not-is-clause-reads c = unit_no_colon c.args.cursor.now c.args.at c.requires.unit (c.is.ensures.no (search rules))

pub returns-in_default-clause-reads : goal.returns-in_default-clause-reads
returns-in_default-clause-reads c = unit_no_number c.args.cursor.now c.args.at c.requires.unit (c.is.ensures.yes (search rules)) (is_none c.args.cursor.now (c.args.at + 2) k.Integer c.in_default.ensures.token)

pub returns-else-eq-clause-reads : goal.returns-else-eq-clause-reads
returns-else-eq-clause-reads c = unit_no_number c.args.cursor.now c.args.at c.requires.unit (c.is.ensures.yes (search rules)) (is_no c.args.cursor.now (c.args.at + 2) c.in-Some.numbered k.Integer c.in-Some.ensures.token (λ h. search rules))

pub returns-then-eq-clause-reads : goal.returns-then-eq-clause-reads
returns-then-eq-clause-reads c = unit_ok c.args.cursor.now c.args.at c.in-Some.numbered _ c.requires.unit (c.is.ensures.yes (search rules)) c.in-Some.ensures.token (same_true the_type _ c.in-Some.numbered.token.kind k.Integer (sym c.eq.ensures ∙ c.if-eq.true)) (to_z-of_z {w = w128} {z = c.integer.result} (record { sfits = c.integer.type_inv }) ∙ c.integer.ensures)
