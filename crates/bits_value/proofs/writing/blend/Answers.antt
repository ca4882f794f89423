use Rattle.std.proofs.Common.{◌≡◌, ◌+◌, ◌-◌, arith, rules}
use Rattle.bits_value.proofs.Written.{blended-is, blended-lt}
use Rattle.bits_value.proofs.writing.blend.Goals as goal

pub overflow_cast-result-4 : goal.overflow_cast-result-4
overflow_cast-result-4 c =
    let e : c.args.skip + c.args.count + (8 - c.args.skip - c.args.count) ≡ 8 = omega arith in
    let l = blended-lt c.args.byte c.args.skip c.args.count c.args.piece (8 - c.args.skip - c.args.count) e c.requires.fits (search rules) in
    rw (blended-is c.args.byte c.args.skip c.args.count c.args.piece (8 - c.args.skip - c.args.count) e c.requires.fits (search rules)) (record { fits = l })

pub returns : goal.returns
returns c =
    let e : c.args.skip + c.args.count + (8 - c.args.skip - c.args.count) ≡ 8 = omega arith in
    blended-is c.args.byte c.args.skip c.args.count c.args.piece (8 - c.args.skip - c.args.count) e c.requires.fits (search rules)
