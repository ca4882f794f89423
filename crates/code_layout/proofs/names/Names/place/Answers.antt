use Rattle.std.proofs.Common.{◌≡◌, ◌∙◌, ap, sym, unwrap_or, length, Some, None}
use Rattle.std.specs.Prelude.{option_copied}
use Rattle.std.proofs.lemmas.Result.{IfOk-weaker}
use Rattle.erl_syntax.specs.declared.module.Module.{Module}
use Rattle.term_value.specs.ReadTrees.{place_of}
use Rattle.code_layout.proofs.names.Names.place.Goals as goal

pub returns-in-Some : goal.returns-in-Some
returns-in-Some c =
    ap (λ o. unwrap_or o (length c.self.inside.tree.now.functions)) c.in-Some.ensures.value ∙ c.self.invariant.0 (c.args.name, c.args.arity) ∙ ap (λ (m : Module). place_of m.functions c.args.name c.args.arity) c.self.view_is

pub returns-in-None : goal.returns-in-None
returns-in-None c =
    IfOk-weaker c.place.result _ _ (λ n h.
    h ∙ ap length c.items.ensures ∙ ap (λ o. unwrap_or o (length c.self.inside.tree.now.functions)) c.in-None.ensures.value ∙ c.self.invariant.0 (c.args.name, c.args.arity) ∙ ap (λ (m : Module). place_of m.functions c.args.name c.args.arity) c.self.view_is) c.place.ensures
