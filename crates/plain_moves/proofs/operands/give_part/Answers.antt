use Rattle.std.proofs.Common.{◌≡◌, ap, sym, ◌∙◌, map, reverse}
use Rattle.std.proofs.lemmas.List.{nil_from_length}
use Rattle.term_value.specs.Machine.{value_trees}
use Rattle.term_value.specs.PutIn.{puts_in}
use Rattle.term_value.specs.Tree as t
use Rattle.term_value.specs.Value as V
use Rattle.term_layers.specs.Layers.{rewound}
use Rattle.code_tree.specs.PlainTerms.{value}
use Rattle.code_tree.specs.Reading.{form_of, trees_of}
use Rattle.code_match.specs.Binds.{bounds}
use Rattle.plain_moves.specs.Worlds.{world_of}
use Rattle.plain_moves.proofs.Acts.{rewound_terms}
use Rattle.plain_moves.proofs.Alike.{along}
use Rattle.plain_moves.proofs.operands.give_part.Goals as goal

pub returns-in-None : goal.returns-in-None
returns-in-None c =
    let form = form_of c.args.part.form.now in
    let env = bounds c.args.part.bindings in
    along (world_of c.args.scene.now) _ _ c.act.result
    (ap (λ xs. t.All form (value_trees (V.row (map value xs)))) c.in_ok-push.ensures
    ∙ ap (t.All form) (rewound_terms c.args.part.values c.args.term)
    ∙ ap (λ ts. t.All form (rewound (reverse (map value c.args.part.values)) (t.and (t.Val (value c.args.term)) (puts_in env (trees_of ts))))) (sym (nil_from_length c.args.part.waiting.now c.in-None.ensures.cases)))
    c.act.ensures
