use Rattle.std.proofs.Common.{◌∙◌, ap}
use Rattle.term_value.specs.Tree as tree
use Rattle.code_layout.specs.Layout.{reading_of}
use Rattle.code_layout.proofs.laying.Laying.called.Goals as goal

pub returns-in-Some : goal.returns-in-Some
returns-in-Some c = c.built_in_form.ensures ∙ c.in-Some.ensures ((reading_of c.args.self.now).place c.args.name c.args.arity)

pub returns-in_ok-place-in-None : goal.returns-in_ok-place-in-None
returns-in_ok-place-in-None c = ap tree.Call c.in_ok-place-in-None.ensures ∙ c.in-None.ensures ((reading_of c.args.self.now).place c.args.name c.args.arity)
