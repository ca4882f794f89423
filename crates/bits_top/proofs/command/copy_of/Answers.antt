use Rattle.std.proofs.Common.{rules, string_bytes, arith}
use Rattle.bits_top.proofs.Words.{of_four}
use Rattle.bits_top.proofs.command.copy_of.Goals as goal

pub returns : goal.returns
returns c =
    let four = of_four c.args.words.now c.name-item.result c.module-item.result c.order-item.result c.reductions-item.result (omega arith) c.name-item.is c.module-item.is c.order-item.is c.reductions-item.is in
    rw four (record {
      source = string_bytes c.module-item.result;
      order = string_bytes c.order-item.result;
      reductions = string_bytes c.reductions-item.result;
      words_are = search rules;
      source_some = search rules;
      order_some = search rules;
      reductions_are = search rules;
    })
