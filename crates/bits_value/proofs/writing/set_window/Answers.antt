use Rattle.std.proofs.Common.{◌≡◌, ◌+◌, ◌-◌, ◌%◌, arith}
use Rattle.bits_value.proofs.Written.{window_written}
use Rattle.bits_value.proofs.writing.set_window.Goals as goal

pub returns : goal.returns
returns c =
    let e : c.args.at % 8 + c.args.count + (8 - c.args.at % 8 - c.args.count) ≡ 8 = omega arith in
    rw c.blend.ensures (window_written c.args.target.now c.args.at c.args.count c.args.piece (8 - c.args.at % 8 - c.args.count) e c.requires.inside c.requires.fits)
