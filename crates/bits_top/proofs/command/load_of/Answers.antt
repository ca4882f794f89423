use Rattle.std.proofs.Common.{rules, string_bytes, arith}
use Rattle.bits_top.proofs.Words.{of_four}
use Rattle.bits_top.proofs.command.load_of.Goals as goal

pub returns : goal.returns
returns c =
    let four = of_four c.args.words.now c.name-item.result c.seed-item.result c.size-item.result c.schedulers-item.result (omega arith) c.name-item.is c.seed-item.is c.size-item.is c.schedulers-item.is in
    rw four (record {
      seed = string_bytes c.seed-item.result;
      size = string_bytes c.size-item.result;
      schedulers = string_bytes c.schedulers-item.result;
      words_are = search rules;
      input_is = search rules;
      schedulers_are = search rules;
    })
