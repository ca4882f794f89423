use Rattle.std.proofs.Common.{sym, ◌∙◌, refl, [], ◌∷◌, ap}
use Rattle.std.proofs.lemmas.Result.{IfOk-weaker}
use Rattle.erl_syntax.specs.Scopes.{AnExpr, to_generate}
use Rattle.erl_syntax.specs.declared.typing.SideUse.TheVariants as side
use Rattle.module_check.specs.Spots.{spot, each, segment_in}
use Rattle.module_check.proofs.Standing.{in_items, in_bit_items, in_filter}
use Rattle.module_check.proofs.Tasked.{adds_same}
use Rattle.module_check.proofs.tasks.Walk.push_qual.Goals as goal

pub returns-in-Items : goal.returns-in-Items
returns-in-Items c = IfOk-weaker c.push_generator.result _ _ (λ u h s m. adds_same _ _ _ _ (sym (in_items s c.args.qual.now c.in-Items.at c.in-Items.pattern c.in-Items.source c.in-Items.is)) (h s m)) c.push_generator.ensures

pub returns-in-Bits : goal.returns-in-Bits
returns-in-Bits c = IfOk-weaker c.push_bit_generator.result _ _ (λ u h s m. adds_same _ _ _ _ (ap (λ zs. spot s (AnExpr c.in-Bits.source) ∷ each (segment_in side.Generator (to_generate s)) [] zs) c.items.ensures ∙ sym (in_bit_items s c.args.qual.now c.in-Bits.at c.in-Bits.segments c.in-Bits.source c.in-Bits.is)) (h s m)) c.push_bit_generator.ensures

pub returns-in-Filter : goal.returns-in-Filter
returns-in-Filter c = IfOk-weaker c.push.result _ _ (λ u h s m. adds_same _ _ _ _ (sym (in_filter s c.args.qual.now c.in-Filter.at c.in-Filter.test c.in-Filter.is)) (h (spot s (AnExpr c.in-Filter.test)) (record { part = refl; means = m; sizes = tt }))) c.push.ensures
