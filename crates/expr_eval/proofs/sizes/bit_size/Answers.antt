use Rattle.std.proofs.Common.{ap, sym, ◌∙◌, length}
use Rattle.term_value.specs.BuiltIns.{number, bit_size}
use Rattle.term_value.specs.Terms.{value_of}
use Rattle.term_value.specs.declared.term.Term.{Term}
use Rattle.expr_eval.proofs.NumberValues.{number_is}
use Rattle.expr_eval.proofs.sizes.bit_size.Goals as goal

pub returns-in-Bits-clause-is : goal.returns-in-Bits-clause-is
returns-in-Bits-clause-is g c =
    let shown = g.S.Store.shown c.args.store.now in
    number_is shown c.number_term.result c.counted.result c.len.result (bit_size (value_of shown c.args.value.now)) c.counted.ensures
    (ap number (c.len.ensures ∙ ap length c.look.ensures) ∙ ap (λ (t : Term _). bit_size (value_of shown t)) (sym c.in-Bits.is)) (c.number_term.ensures.is shown)
