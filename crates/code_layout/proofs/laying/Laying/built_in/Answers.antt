use Rattle.std.proofs.Common.{◌≡◌, ◌∙◌, Some, sym, ap}
use Rattle.erl_syntax.specs.declared.expr.Expr.{out-Expr}
use Rattle.term_value.specs.Calls.{called, form_or_call}
use Rattle.code_layout.specs.Layout.{reading_of}
use Rattle.code_layout.specs.Readings.{home_in}
use Rattle.code_layout.proofs.Layers.{home_first}
use Rattle.code_layout.proofs.laying.Laying.built_in.Goals as goal

pub returns-in-Some : goal.returns-in-Some
returns-in-Some c = λ place.
    ap (λ o. form_or_call o place) c.at_home.ensures ∙ ap (λ m. called (Some m) c.characters-name.result.now c.args.arity place) c.home.ensures
    ∙ ap (λ n. called (Some (home_in (reading_of c.args.self.now) (out-Expr c.in-Some.expr.now))) n c.args.arity place) c.characters-name.ensures
    ∙ ap (λ m. called m ((reading_of c.args.self.now).names c.args.name) c.args.arity place) (sym (home_first (reading_of c.args.self.now) c.args.home.now c.in-Some.expr.now c.in-Some.ensures.value))
