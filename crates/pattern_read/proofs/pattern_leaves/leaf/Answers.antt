use Rattle.std.proofs.Common.{◌+◌, ◌∙◌, drop}
use Rattle.std.proofs.Math.Facts.{to_z-of_z}
use mir.Syntax.{w128}
use Rattle.pattern_read.proofs.LeafExits.{leaf_variable, leaf_wild, leaf_integer, leaf_character, leaf_atom, leaf_string, leaf_none}
use Rattle.pattern_read.proofs.pattern_leaves.leaf.Goals as goal

pub returns-in_ok-name-in-Variable-clause-reads : goal.returns-in_ok-name-in-Variable-clause-reads
returns-in_ok-name-in-Variable-clause-reads c = λ x. leaf_variable x c.args.cursor.now c.args.at c.args.numbered c.in_ok-name-in-Variable.name c.requires.stands c.in-Variable.is (c.in_ok-name-in-Variable.ensures c.requires.stands.word (drop (c.args.at + 1) c.args.cursor.now.words) c.requires.stands.is (c.requires.stands.kind ∙ c.in-Variable.is))

pub returns-in-Underscore-clause-reads : goal.returns-in-Underscore-clause-reads
returns-in-Underscore-clause-reads c = λ x. leaf_wild x c.args.cursor.now c.args.at c.args.numbered c.requires.stands c.in-Underscore.is

pub returns-in-Integer-clause-reads : goal.returns-in-Integer-clause-reads
returns-in-Integer-clause-reads c = λ x. leaf_integer x c.args.cursor.now c.args.at c.args.numbered _ c.requires.stands c.in-Integer.is (to_z-of_z {w = w128} {z = c.integer-value.result} (record { sfits = c.integer-value.type_inv }) ∙ c.integer-value.ensures)

pub returns-in-Character-clause-reads : goal.returns-in-Character-clause-reads
returns-in-Character-clause-reads c = λ x. leaf_character x c.args.cursor.now c.args.at c.args.numbered c.requires.stands c.in-Character.is

pub returns-in-Atom-clause-reads : goal.returns-in-Atom-clause-reads
returns-in-Atom-clause-reads c = λ x. leaf_atom x c.args.cursor.now c.args.at c.args.numbered c.requires.stands c.in-Atom.is

pub returns-in_ok-chars-in-Str-clause-reads : goal.returns-in_ok-chars-in-Str-clause-reads
returns-in_ok-chars-in-Str-clause-reads c = λ x. leaf_string x c.args.cursor.now c.args.at c.args.numbered c.in_ok-chars-in-Str.chars c.requires.stands c.in-Str.is (c.in_ok-chars-in-Str.ensures c.requires.stands.word (drop (c.args.at + 1) c.args.cursor.now.words) c.requires.stands.is (c.requires.stands.kind ∙ c.in-Str.is))

pub returns-in_default-clause-reads : goal.returns-in_default-clause-reads
returns-in_default-clause-reads c = λ x. leaf_none x c.args.cursor.now c.args.at c.args.numbered c.requires.stands c.requires.bare c.in_default.not-Variable c.in_default.not-Underscore c.in_default.not-Integer c.in_default.not-Plus c.in_default.not-Minus c.in_default.not-Character c.in_default.not-Atom c.in_default.not-Str
