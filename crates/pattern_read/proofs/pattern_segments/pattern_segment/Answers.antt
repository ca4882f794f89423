use Rattle.std.proofs.Common.{refl}
use Rattle.std.proofs.lemmas.Result.{err_from_is_err_and}
use Rattle.pattern_read.specs.Wanted.{in_size}
use Rattle.pattern_read.proofs.Segs.{segment_value_err, segment_whole}
use Rattle.pattern_read.proofs.pattern_segments.pattern_segment.Goals as goal

pub returns-in_err-value-clause-reads : goal.returns-in_err-value-clause-reads
returns-in_err-value-clause-reads c = let p = err_from_is_err_and c.from_residual.result c.from_residual.ensures.1 in rw (p.1, p.2) (segment_value_err (in_size c.args.deep c.args.brackets) c.args.cursor.now c.args.at _ (c.in_err-value.ensures.reads (in_size c.args.deep c.args.brackets) refl))

pub returns-clause-reads : goal.returns-clause-reads
returns-clause-reads c = segment_whole (in_size c.args.deep c.args.brackets) c.args.cursor.now c.args.at c.in_ok-value.after c.in_ok-value.value c.segment_rest.result (c.in_ok-value.ensures.reads (in_size c.args.deep c.args.brackets) refl) c.segment_rest.ensures.reads
