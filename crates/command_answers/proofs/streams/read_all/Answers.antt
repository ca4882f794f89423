use Rattle.std.proofs.Common.{◌+◌, arith}
use Rattle.command_answers.proofs.Taken.{taken_more}
use Rattle.command_answers.proofs.streams.read_all.Goals as goal

pub returns-in_err-read_piece-clause-takes : goal.returns-in_err-read_piece-clause-takes
returns-in_err-read_piece-clause-takes g c =
    taken_more (g.S.Source.left c.args.source.now) (g.S.Source.left c.loop-bytes.source) (g.S.Source.left c.read_piece.new.source) c.loop-bytes.bytes.items _ (c.args.limit + 1) c.loop-bytes.invariant.taken
    c.in_err-read_piece.ensures.takes (omega (arith, c.loop-bytes.invariant.bound, c.len-in-loop-bytes.ensures, c.loop-bytes-test.true))
