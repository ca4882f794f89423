use Rattle.std.proofs.Common.{◌∙◌, ◌+◌, drop}
use Rattle.std.proofs.Math.Facts.{to_z-of_z}
use mir.Syntax.{w128}
use Rattle.body_read.proofs.BodiedExits.{literal_variable, literal_integer, literal_character, literal_string, literal_none}
use Rattle.body_read.proofs.operand.literal.Goals as goal

pub returns-in_ok-name-in-Variable-clause-reads : goal.returns-in_ok-name-in-Variable-clause-reads
returns-in_ok-name-in-Variable-clause-reads c = literal_variable c.args.cursor.now c.args.at c.args.numbered c.in_ok-name-in-Variable.name c.requires.token c.in-Variable.is (c.in_ok-name-in-Variable.ensures c.requires.token.word (drop (c.args.at + 1) c.args.cursor.now.words) c.requires.token.is (c.requires.token.kind ∙ c.in-Variable.is))

pub returns-in-Integer-clause-reads : goal.returns-in-Integer-clause-reads
returns-in-Integer-clause-reads c = literal_integer c.args.cursor.now c.args.at c.args.numbered _ c.requires.token c.in-Integer.is (to_z-of_z {w = w128} {z = c.integer-value.result} (record { sfits = c.integer-value.type_inv }) ∙ c.integer-value.ensures)

pub returns-in-Character-clause-reads : goal.returns-in-Character-clause-reads
returns-in-Character-clause-reads c = literal_character c.args.cursor.now c.args.at c.args.numbered c.requires.token c.in-Character.is

pub returns-in_ok-chars-in-Str-clause-reads : goal.returns-in_ok-chars-in-Str-clause-reads
returns-in_ok-chars-in-Str-clause-reads c = literal_string c.args.cursor.now c.args.at c.args.numbered c.in_ok-chars-in-Str.chars c.requires.token c.in-Str.is (c.in_ok-chars-in-Str.ensures c.requires.token.word (drop (c.args.at + 1) c.args.cursor.now.words) c.requires.token.is (c.requires.token.kind ∙ c.in-Str.is))

pub returns-in_default : goal.returns-in_default
returns-in_default c = record { reads = literal_none c.args.cursor.now c.args.at c.args.numbered c.requires.token c.in_default.not-Variable c.in_default.not-Integer c.in_default.not-Character c.in_default.not-Str c.requires.bits c.requires.paren; further = tt; height = tt }
