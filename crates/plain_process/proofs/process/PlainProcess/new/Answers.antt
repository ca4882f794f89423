use Rattle.std.proofs.Common.{refl}
use Rattle.code_tree.specs.Reading.{module_meant}
use Rattle.plain_process.proofs.process.PlainProcess.new.Goals as goal

pub returns-clause-begins : goal.returns-clause-begins
returns-clause-begins c = c.in_ok-standing.ensures (record { code = module_meant c.args.code.now; pid = c.args.first.pid }) refl
