use Rattle.std.proofs.Common.{rules, string_bytes, arith}
use Rattle.bits_top.proofs.Words.{of_five}
use Rattle.bits_top.proofs.command.run_of.Goals as goal

pub returns : goal.returns
returns c =
    let five = of_five c.args.words.now c.name-item.result c.module-item.result c.order-item.result c.schedulers-item.result c.reductions-item.result (omega arith) c.name-item.is c.module-item.is
    c.order-item.is c.schedulers-item.is c.reductions-item.is in
    rw five (record {
      source = string_bytes c.module-item.result;
      order = string_bytes c.order-item.result;
      schedulers = string_bytes c.schedulers-item.result;
      reductions = string_bytes c.reductions-item.result;
      words_are = search rules;
      source_some = search rules;
      order_some = search rules;
      schedulers_are = search rules;
      reductions_are = search rules;
    })
