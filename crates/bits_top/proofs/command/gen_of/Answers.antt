use Rattle.std.proofs.Common.{rules, string_bytes, arith}
use Rattle.bits_top.proofs.Words.{of_three}
use Rattle.bits_top.proofs.command.gen_of.Goals as goal

pub returns : goal.returns
returns c =
    let three = of_three c.args.words.now c.name-item.result c.seed-item.result c.size-item.result (omega arith) c.name-item.is c.seed-item.is c.size-item.is in
    rw three (record {
      seed = string_bytes c.seed-item.result;
      size = string_bytes c.size-item.result;
      words_are = search rules;
      input_is = search rules;
    })
