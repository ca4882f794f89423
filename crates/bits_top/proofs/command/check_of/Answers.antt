use Rattle.std.proofs.Common.{rules, string_bytes, arith}
use Rattle.bits_top.proofs.Words.{of_two}
use Rattle.bits_top.proofs.command.check_of.Goals as goal

pub returns : goal.returns
returns c =
    let two = of_two c.args.words.now c.name-item.result c.module-item.result (omega arith) c.name-item.is c.module-item.is in
    rw two (record {
      source = string_bytes c.module-item.result;
      words_are = search rules;
      source_some = search rules;
    })
