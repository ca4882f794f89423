use Rattle.std.proofs.Common.{arith, ◌+◌, ◌∙◌, drop}
use Rattle.std.proofs.lemmas.Result.{err_from_is_err_and}
use Rattle.std.proofs.Math.Facts.{to_z-of_z}
use mir.Syntax.{w128}
use Rattle.pattern_read.specs.Wanted.{in_size}
use Rattle.pattern_read.proofs.Segs.{size_integer_ok, size_variable_ok, size_paren_deep, size_paren_err, size_close_err, size_close, size_there, size_other}
use Rattle.pattern_read.proofs.pattern_segments.pattern_size.Goals as goal

pub returns-in_default-clause-reads : goal.returns-in_default-clause-reads
returns-in_default-clause-reads c = size_there (in_size c.args.deep c.args.brackets) c.args.cursor.now c.args.at c.in_default.ensures.token

pub returns-in-Integer-clause-reads : goal.returns-in-Integer-clause-reads
returns-in-Integer-clause-reads c = size_integer_ok (in_size c.args.deep c.args.brackets) c.args.cursor.now c.args.at c.in-Some.numbered _ c.in-Some.ensures.token c.in-Integer.is (to_z-of_z {w = w128} {z = c.integer-value.result} (record { sfits = c.integer-value.type_inv }) ∙ c.integer-value.ensures)

pub returns-in_ok-name-in-Variable-clause-reads : goal.returns-in_ok-name-in-Variable-clause-reads
returns-in_ok-name-in-Variable-clause-reads c = size_variable_ok (in_size c.args.deep c.args.brackets) c.args.cursor.now c.args.at c.in-Some.numbered c.in_ok-name-in-Variable.name c.in-Some.ensures.token c.in-Variable.is (c.in_ok-name-in-Variable.ensures c.in-Some.ensures.token.word (drop (c.args.at + 1) c.args.cursor.now.words) c.in-Some.ensures.token.is (c.in-Some.ensures.token.kind ∙ c.in-Variable.is))

pub returns-then-brackets-clause-reads : goal.returns-then-brackets-clause-reads
returns-then-brackets-clause-reads c = size_paren_deep (in_size c.args.deep c.args.brackets) c.args.cursor.now c.args.at c.in-Some.numbered c.in-Some.ensures.token c.in-LeftParen.is (omega arith)

pub returns-in_err-inner-in-LeftParen-clause-reads : goal.returns-in_err-inner-in-LeftParen-clause-reads
returns-in_err-inner-in-LeftParen-clause-reads c = let p = err_from_is_err_and c.from_residual-in_err-inner-in-LeftParen.result c.from_residual-in_err-inner-in-LeftParen.ensures.1 in rw (p.1, p.2) (size_paren_err (in_size c.args.deep c.args.brackets) c.args.cursor.now c.args.at c.in-Some.numbered _ c.in-Some.ensures.token c.in-LeftParen.is (omega arith) c.in_err-inner-in-LeftParen.ensures.reads)

pub returns-in_err-next-in-LeftParen-clause-reads : goal.returns-in_err-next-in-LeftParen-clause-reads
returns-in_err-next-in-LeftParen-clause-reads c = let p = err_from_is_err_and c.from_residual-in_err-next-in-LeftParen.result c.from_residual-in_err-next-in-LeftParen.ensures.1 in rw (p.1, p.2) (size_close_err (in_size c.args.deep c.args.brackets) c.args.cursor.now c.args.at c.in_ok-inner-in-LeftParen.after c.in-Some.numbered c.in_ok-inner-in-LeftParen.inner _ c.in-Some.ensures.token c.in-LeftParen.is (omega arith) c.in_ok-inner-in-LeftParen.ensures.reads c.in_err-next-in-LeftParen.ensures.reads)

pub returns-in_ok-next-in-LeftParen-clause-reads : goal.returns-in_ok-next-in-LeftParen-clause-reads
returns-in_ok-next-in-LeftParen-clause-reads c = size_close (in_size c.args.deep c.args.brackets) c.args.cursor.now c.args.at c.in_ok-inner-in-LeftParen.after c.in_ok-next-in-LeftParen.next c.in-Some.numbered c.in_ok-inner-in-LeftParen.inner _ c.in-Some.ensures.token c.in-LeftParen.is (omega arith) c.in_ok-inner-in-LeftParen.ensures.reads c.in_ok-next-in-LeftParen.ensures.reads

pub returns-in_default-kind-clause-reads : goal.returns-in_default-kind-clause-reads
returns-in_default-kind-clause-reads c = size_other (in_size c.args.deep c.args.brackets) c.args.cursor.now c.args.at c.in-Some.numbered c.in-Some.ensures.token c.in_default-kind.not-Integer c.in_default-kind.not-Variable c.in_default-kind.not-LeftParen
