use Rattle.std.proofs.Common.{◌≡◌, ◌∙◌, pos, Some, subst, rules}
use Rattle.std.proofs.lemmas.Int.{to_z-of_z}
use mir.Syntax.{w128}
use mir.Val.{SFits, to_z, of_z}
use Rattle.bits_build.specs.Extents.{IsExtent}
use Rattle.term_value.specs.Extent.{extent}
use Rattle.term_value.specs.Guards.{result_of}
use Rattle.term_value.specs.PutIn.{put_in}
use Rattle.term_value.specs.Value.{VInt}
use Rattle.match_context.proofs.Reaching.{fixed_form, given_form, reached_number, reached_bad, reached_limit}
use Rattle.match_context.specs.declared.found.Reached.TheVariants as r
use Rattle.bits_build.specs.declared.extent.Extent.TheVariants as x
use Rattle.match_context.proofs.found.length_by.Goals as goal

pub returns-in-Fixed-clause-is : goal.returns-in-Fixed-clause-is
returns-in-Fixed-clause-is g c =
    let fits : SFits w128 c.from.result = search rules in
    let same : to_z w128 (of_z w128 c.from.result) ≡ c.from.result = to_z-of_z w128 c.from.result fits in
    let e : c.from.result ≡ pos c.in-Fixed.count = search rules in
    λ bs a. fixed_form (g.E.Env.fixed c.args.env.now).setting (g.E.Env.fixed c.args.env.now).trees c.args.typed bs c.args.form c.in-Fixed.count c.extent_with.result c.in-Fixed.is
    (subst (λ n. IsExtent (extent c.args.typed.size c.args.typed.unit (Some (VInt n))) c.extent_with.result) (same ∙ e) c.extent_with.ensures)

pub returns-in-Size-clause-is : goal.returns-in-Size-clause-is
returns-in-Size-clause-is g c =
    let fits : SFits w128 c.in-Size.count = search rules in
    let same : to_z w128 (of_z w128 c.in-Size.count) ≡ c.in-Size.count = to_z-of_z w128 c.in-Size.count fits in
    λ bs a. given_form (g.E.Env.fixed c.args.env.now).setting (g.E.Env.fixed c.args.env.now).trees c.args.typed bs c.args.form c.in-Given.expr (r.Bits c.extent_with-in-Size.result) c.in-Given.is
    (reached_number c.args.typed (result_of (g.E.Env.fixed c.args.env.now).setting (put_in bs ((g.E.Env.fixed c.args.env.now).trees c.in-Given.expr))) c.in-Size.count c.extent_with-in-Size.result (c.in-Size.ensures bs a)
    (subst (λ n. IsExtent (extent c.args.typed.size c.args.typed.unit (Some (VInt n))) c.extent_with-in-Size.result) same c.extent_with-in-Size.ensures))

pub returns-in-Bad-clause-is : goal.returns-in-Bad-clause-is
returns-in-Bad-clause-is g c = λ bs a. given_form (g.E.Env.fixed c.args.env.now).setting (g.E.Env.fixed c.args.env.now).trees c.args.typed bs c.args.form c.in-Given.expr (r.Bits x.BadSize) c.in-Given.is
    (reached_bad c.args.typed (result_of (g.E.Env.fixed c.args.env.now).setting (put_in bs ((g.E.Env.fixed c.args.env.now).trees c.in-Given.expr))) c.requires.given (c.in-Bad.ensures bs a))

pub returns-in-Limit-clause-is : goal.returns-in-Limit-clause-is
returns-in-Limit-clause-is g c = λ bs a. given_form (g.E.Env.fixed c.args.env.now).setting (g.E.Env.fixed c.args.env.now).trees c.args.typed bs c.args.form c.in-Given.expr r.Limit c.in-Given.is
    (reached_limit c.args.typed (result_of (g.E.Env.fixed c.args.env.now).setting (put_in bs ((g.E.Env.fixed c.args.env.now).trees c.in-Given.expr))) (c.in-Limit.ensures bs a))
