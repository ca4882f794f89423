use Rattle.std.proofs.Common.{sym, subst}
use Rattle.term_value.specs.Step as step
use Rattle.term_value.specs.Tree.{Val}
use Rattle.term_layers.specs.Layers.{wrap}
use Rattle.code_tree.specs.PlainTerms.{value}
use Rattle.plain_moves.specs.Moving.{IsMove}
use Rattle.plain_moves.specs.Reading.{layer}
use Rattle.plain_moves.specs.Worlds.{world_of}
use Rattle.plain_moves.specs.declared.frame.Frame.{Frame}
use Rattle.plain_moves.proofs.giving.give.Goals as goal

pub returns-in-AndAlso : goal.returns-in-AndAlso
returns-in-AndAlso c =
    let w = world_of c.args.scene.now in
    subst (λ (k : Frame). IsMove w (wrap (layer (step.setting w) k) (Val (value c.args.term))) c.give_and_also.result) (sym c.in-AndAlso.is) (c.give_and_also.ensures w)

pub returns-in-OrElse : goal.returns-in-OrElse
returns-in-OrElse c =
    let w = world_of c.args.scene.now in
    subst (λ (k : Frame). IsMove w (wrap (layer (step.setting w) k) (Val (value c.args.term))) c.give_or_else.result) (sym c.in-OrElse.is) (c.give_or_else.ensures w)
