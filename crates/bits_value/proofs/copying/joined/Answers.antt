use Rattle.std.proofs.Common.{rules}
use Rattle.bits_value.proofs.Copied.{joined-is}
use Rattle.bits_value.proofs.copying.joined.Goals as goal

pub returns : goal.returns
returns c = joined-is c.args.left c.args.right c.args.skip c.requires.some c.requires.one_byte (search rules)
