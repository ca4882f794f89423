-- What is next in the open part is next in the whole expression.
use Rattle.std.proofs.Common.{◌≡◌, List, [], ◌∷◌, refl, ap, sym, ◌∙◌}
use Rattle.term_value.specs.Value.{Value, none, more}
use Rattle.term_value.specs.Tree.{Form, Tree, Val, All, Trees, end, and}
use Rattle.term_value.specs.Step.{World, Step, Ready, Goes, Falls, Asks, Looks, lift, acted, step, steps}
use Rattle.term_layers.specs.Layers.{Layer, Part, Before, Giving, Drawing, Testing, rewound, rewound_values, wrap, plug}

-- lifting twice is lifting once
lift_lift : {V W X T U A : Type 0} (q : W → Step X A) (g : U → A) (r : V → Step W U) (f : T → U) (s : Step V T)
    → lift q g (lift r f s) ≡ lift (λ v. lift q g (r v)) (λ t. g (f t)) s
lift_lift q g r f (Ready v) = refl
lift_lift q g r f (Goes cost made t) = refl
lift_lift q g r f (Falls cost stop) = refl
lift_lift q g r f (Asks ask next) = refl
lift_lift q g r f (Looks cs next) = refl

lift_same : {V T : Type 0} (s : Step V T) → s ≡ lift Ready (λ t. t) s
lift_same (Ready v) = refl
lift_same (Goes cost made t) = refl
lift_same (Falls cost stop) = refl
lift_same (Asks ask next) = refl
lift_same (Looks cs next) = refl

-- what a value is made of may be told in another way
lift_by : {V W T U : Type 0} (q r : V → Step W U) (f : T → U) (s : Step V T) → ((v : V) → q v ≡ r v) → lift q f s ≡ lift r f s
lift_by q r f (Ready v) h = h v
lift_by q r f (Goes cost made t) h = refl
lift_by q r f (Falls cost stop) h = refl
lift_by q r f (Asks ask next) h = refl
lift_by q r f (Looks cs next) h = refl

module _ (w : World) where
  -- parts that have their values stay
  pub steps_rewound : (vs : List Value) (ts : Trees) → steps w (rewound vs ts) ≡ lift (λ ws. Ready (rewound_values vs ws)) (rewound vs) (steps w ts)
  steps_rewound [] ts = lift_same (steps w ts)
  steps_rewound (v ∷ vs) ts =
      steps_rewound vs (and (Val v) ts)
      ∙ lift_lift (λ ws. Ready (rewound_values vs ws)) (rewound vs) (λ ws. Ready (more v ws)) (and (Val v)) (steps w ts)

  -- a form is next where its parts behind the values are
  formed : (form : Form) (vs : List Value) (ts : Trees) → step w (All form (rewound vs ts)) ≡ lift (λ ws. acted w form (rewound_values vs ws)) (λ us. All form (rewound vs us)) (steps w ts)
  formed form vs ts =
      ap (lift (acted w form) (All form)) (steps_rewound vs ts)
      ∙ lift_lift (acted w form) (All form) (λ ws. Ready (rewound_values vs ws)) (rewound vs) (steps w ts)

  -- a form whose parts all have values acts on them
  pub acts : (form : Form) (vs : List Value) → step w (All form (rewound vs end)) ≡ acted w form (rewound_values vs none)
  acts form vs = formed form vs end

  part : (form : Form) (vs : List Value) (ts : Trees) (t : Tree)
      → step w (All form (rewound vs (and t ts))) ≡ lift (λ v. step w (All form (rewound vs (and (Val v) ts)))) (λ u. All form (rewound vs (and u ts))) (step w t)
  part form vs ts t =
      formed form vs (and t ts)
      ∙ lift_lift (λ ws. acted w form (rewound_values vs ws)) (λ us. All form (rewound vs us)) (λ v. lift (λ ws. Ready (more v ws)) (and (Val v)) (steps w ts)) (λ u. and u ts) (step w t)
      ∙ lift_by _ _ (λ u. All form (rewound vs (and u ts))) (step w t) (λ v. sym (formed form vs (and (Val v) ts)))

  pub layered : (layer : Layer) (t : Tree) → step w (wrap layer t) ≡ lift (λ v. step w (wrap layer (Val v))) (wrap layer) (step w t)
  layered (Part form vs ts) t = part form vs ts t
  layered (Before rest) t = refl
  layered (Giving got levels) t = refl
  layered (Drawing got g qs levels) t = refl
  layered (Testing got qs levels) t = refl

  -- a value goes to the innermost layer, and all else of the open part is of the whole
  pub under : (layers : List Layer) (t : Tree) → step w (plug layers t) ≡ lift (λ v. step w (plug layers (Val v))) (plug layers) (step w t)
  under [] t = lift_same (step w t)
  under (layer ∷ layers) t =
      under layers (wrap layer t)
      ∙ ap (lift (λ v. step w (plug layers (Val v))) (plug layers)) (layered layer t)
      ∙ lift_lift (λ v. step w (plug layers (Val v))) (plug layers) (λ v. step w (wrap layer (Val v))) (wrap layer) (step w t)
      ∙ lift_by _ _ (plug (layer ∷ layers)) (step w t) (λ v. sym (under layers (wrap layer (Val v))))
