use Rattle.std.proofs.Common.{◌≡◌, ◌∙◌, ap, sym, rules}
use Rattle.std.proofs.lemmas.Int.{to_z-of_z}
use mir.Syntax.{w128}
use mir.Val.{SFits, to_z, of_z}
use Rattle.term_value.specs.Order.{same}
use Rattle.term_value.specs.Decode.{met}
use Rattle.term_value.specs.PutIn.{in_target}
use Rattle.term_value.specs.Value.{VInt}
use Rattle.pattern_compile.specs.Meaning.{target_of}
use Rattle.pattern_compile.specs.declared.pattern.Target.TheVariants.{Same}
use Rattle.match_context.proofs.Wanting.{literal_met}
use Rattle.match_context.proofs.wanted.is_wanted.Goals as goal

pub returns-in-Literal : goal.returns-in-Literal
returns-in-Literal g c =
    let fits : SFits w128 c.in-Literal.number = search rules in
    let equal : to_z w128 (of_z w128 c.in-Literal.number) ≡ c.in-Literal.number = to_z-of_z w128 c.in-Literal.number fits in
    λ bs a v s is. literal_met (g.S.Store.shown c.args.store.now) s bs v c.in-Literal.number c.is_number.result (c.is_number.ensures (g.S.Store.shown c.args.store.now) v s.names is ∙ ap (λ n. same s.names (VInt n) v) equal)
    ∙ ap (λ w. met s (in_target bs (target_of (Same w))) v bs) (sym c.in-Literal.is)
