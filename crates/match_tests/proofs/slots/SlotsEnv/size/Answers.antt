use Rattle.std.proofs.Common.{◌≡◌, ◌∙◌, ap, refl, arith, length, Option, Some}
use Rattle.std.proofs.lemmas.Option.{slice_get_read}
use Rattle.std.specs.Prelude.{slice_get}
use Rattle.term_value.specs.Guards.{result_of}
use Rattle.term_value.specs.PutIn.{put_in}
use Rattle.match_context.specs.Envs.{sized}
use Rattle.match_tests.specs.Sizes.{slots_setting, rule_trees, rule_tree_or}
use Rattle.match_tests.specs.declared.slots.SizeRule.{SizeRule}
use Rattle.match_tests.proofs.Writing.{sized_is}
use Rattle.match_tests.proofs.slots.SlotsEnv.size.Goals as goal

pub returns-in-Some : goal.returns-in-Some
returns-in-Some g c = λ bs a.
    let rules = c.args.self.now.sizes.items in
    let here : slice_get rules c.args.expr ≡ Some c.in-Some.rule.now = grind (arith, slice_get_read rules (length rules) c.args.expr c.in-Some.rule.now refl c.requires.range, c.in-Some.ensures.lookup, c.deref.ensures.value) in
    let at = λ (rule : Option SizeRule). sized (result_of slots_setting (put_in bs (rule_tree_or rule))) in
    sized_is (result_of slots_setting (put_in bs (rule_trees rules c.args.expr))) c.come_to.result (ap at here ∙ c.come_to.ensures (g.S.Store.shown c.args._store.now) bs a)
