use Rattle.std.proofs.Common.{rules}
use Rattle.std.proofs.lemmas.Result.{err_from_is_err_and}
use Rattle.pattern_read.specs.Wanted.{in_size}
use Rattle.pattern_read.proofs.Segs.{rest_unsized_err, rest_unsized, rest_size_err, rest_type_err, rest_sized}
use Rattle.pattern_read.proofs.pattern_segments.segment_rest.Goals as goal

pub returns-in_err-segment-clause-reads : goal.returns-in_err-segment-clause-reads
returns-in_err-segment-clause-reads c = let p = err_from_is_err_and c.from_residual.result c.from_residual.ensures.1 in rw (p.1, p.2) (rest_unsized_err (in_size c.args.deep c.args.brackets) c.args.cursor.now c.args.at c.args.value _ (c.is.ensures.no (search rules)) c.in_err-segment.ensures.reads)

pub returns-then-not-is-clause-reads : goal.returns-then-not-is-clause-reads
returns-then-not-is-clause-reads c = rest_unsized (in_size c.args.deep c.args.brackets) c.args.cursor.now c.args.at c.in_ok-segment.next c.args.value c.in_ok-segment.segment (c.is.ensures.no (search rules)) c.in_ok-segment.ensures.reads

pub returns-in_err-size-clause-reads : goal.returns-in_err-size-clause-reads
returns-in_err-size-clause-reads c = let p = err_from_is_err_and c.from_residual-in_err-size.result c.from_residual-in_err-size.ensures.1 in rw (p.1, p.2) (rest_size_err (in_size c.args.deep c.args.brackets) c.args.cursor.now c.args.at c.args.value _ (c.is.ensures.yes (search rules)) c.in_err-size.ensures.reads)

pub returns-in_err-segment-2-clause-reads : goal.returns-in_err-segment-2-clause-reads
returns-in_err-segment-2-clause-reads c = let p = err_from_is_err_and c.from_residual-in_err-segment-2.result c.from_residual-in_err-segment-2.ensures.1 in rw (p.1, p.2) (rest_type_err (in_size c.args.deep c.args.brackets) c.args.cursor.now c.args.at c.in_ok-size.after c.args.value c.in_ok-size.size c.in_ok-size.tall _ (c.is.ensures.yes (search rules)) c.in_ok-size.ensures.reads c.in_err-segment-2.ensures.reads)

pub returns-clause-reads : goal.returns-clause-reads
returns-clause-reads c = rest_sized (in_size c.args.deep c.args.brackets) c.args.cursor.now c.args.at c.in_ok-size.after c.in_ok-segment-2.next c.args.value c.in_ok-size.size c.in_ok-size.tall c.higher.result c.in_ok-segment-2.segment (c.is.ensures.yes (search rules)) c.higher.ensures c.in_ok-size.ensures.reads c.in_ok-segment-2.ensures.reads
