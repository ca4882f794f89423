use Rattle.std.proofs.Common.{◌+◌, ◌∙◌, drop}
use Rattle.std.proofs.Math.Facts.{to_z-of_z}
use mir.Syntax.{w128}
use Rattle.pattern_read.proofs.Values.{ends_variable, ends_wild, ends_integer, ends_character, ends_string, ends_none, ends_there}
use Rattle.pattern_read.proofs.pattern_leaves.pattern_value.Goals as goal

pub returns-in_default-clause-reads : goal.returns-in_default-clause-reads
returns-in_default-clause-reads c = λ x q. ends_there x c.args.cursor.now c.args.at c.in_default.ensures.token

pub returns-in_ok-name-in-Variable-clause-reads : goal.returns-in_ok-name-in-Variable-clause-reads
returns-in_ok-name-in-Variable-clause-reads c = λ x q. ends_variable x c.args.cursor.now c.args.at c.in-Some.numbered c.in_ok-name-in-Variable.name c.in-Some.ensures.token c.in-Variable.is (c.in_ok-name-in-Variable.ensures c.in-Some.ensures.token.word (drop (c.args.at + 1) c.args.cursor.now.words) c.in-Some.ensures.token.is (c.in-Some.ensures.token.kind ∙ c.in-Variable.is))

pub returns-in-Underscore-clause-reads : goal.returns-in-Underscore-clause-reads
returns-in-Underscore-clause-reads c = λ x q. ends_wild x c.args.cursor.now c.args.at c.in-Some.numbered c.in-Some.ensures.token c.in-Underscore.is

pub returns-in-Integer-clause-reads : goal.returns-in-Integer-clause-reads
returns-in-Integer-clause-reads c = λ x q. ends_integer x c.args.cursor.now c.args.at c.in-Some.numbered _ c.in-Some.ensures.token c.in-Integer.is (to_z-of_z {w = w128} {z = c.integer-value.result} (record { sfits = c.integer-value.type_inv }) ∙ c.integer-value.ensures)

pub returns-in-Character-clause-reads : goal.returns-in-Character-clause-reads
returns-in-Character-clause-reads c = λ x q. ends_character x c.args.cursor.now c.args.at c.in-Some.numbered c.in-Some.ensures.token c.in-Character.is

pub returns-in_ok-chars-in-Str-clause-reads : goal.returns-in_ok-chars-in-Str-clause-reads
returns-in_ok-chars-in-Str-clause-reads c = λ x q. ends_string x c.args.cursor.now c.args.at c.in-Some.numbered c.in_ok-chars-in-Str.chars c.in-Some.ensures.token c.in-Str.is (c.in_ok-chars-in-Str.ensures c.in-Some.ensures.token.word (drop (c.args.at + 1) c.args.cursor.now.words) c.in-Some.ensures.token.is (c.in-Some.ensures.token.kind ∙ c.in-Str.is))

pub returns-in_default-kind-clause-reads : goal.returns-in_default-kind-clause-reads
returns-in_default-kind-clause-reads c = λ x q. ends_none x c.args.cursor.now c.args.at c.in-Some.numbered c.in-Some.ensures.token c.in_default-kind.not-Variable c.in_default-kind.not-Underscore c.in_default-kind.not-Integer c.in_default-kind.not-Plus c.in_default-kind.not-Minus c.in_default-kind.not-Character c.in_default-kind.not-Str
