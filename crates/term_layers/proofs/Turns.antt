-- A turn is what is next in the tree, and in all that stands round it.
use Rattle.std.proofs.Common.{◌≡◌, List, ◌∷◌, refl, ap, ◌∙◌}
use Rattle.term_value.specs.Value.{Value}
use Rattle.term_value.specs.Tree.{Tree, Val, Var, All, First, Choose, Receive, Gather, end, and, turn, give, from, test}
use Rattle.term_value.specs.Step.{World, Step, lift, step}
use Rattle.term_layers.specs.Layers.{Layer, Part, Before, Giving, Drawing, Testing, wrap, plug}
use Rattle.term_layers.specs.Turns.{opening, giving, IsNext}
use Rattle.term_layers.proofs.Under.{acts, under}

module _ (w : World) where
  pub opening_next : (t : Tree) → IsNext w t (opening w t)
  opening_next (Val v) = refl
  opening_next (Var x) = refl
  opening_next (All form end) = refl
  opening_next (All form (and t ts)) = refl
  opening_next (First t rest) = refl
  opening_next (Choose cs) = refl
  opening_next (Receive cs) = refl
  opening_next (Gather got turn levels) = refl
  opening_next (Gather got (give t) levels) = refl
  opening_next (Gather got (from t g qs) levels) = refl
  opening_next (Gather got (test t qs) levels) = refl

  pub giving_next : (layer : Layer) (v : Value) → IsNext w (wrap layer (Val v)) (giving w layer v)
  giving_next (Part form vs end) v = acts w form (v ∷ vs)
  giving_next (Part form vs (and t ts)) v = refl
  giving_next (Before rest) v = refl
  giving_next (Giving got levels) v = refl
  giving_next (Drawing got g qs levels) v = refl
  giving_next (Testing got qs levels) v = refl

  -- what is next in the open part is next in the whole
  pub step_under : (layers : List Layer) (t : Tree) (s : Step Value Tree) → step w t ≡ s → step w (plug layers t) ≡ lift (λ v. step w (plug layers (Val v))) (plug layers) s
  step_under layers t s e = under w layers t ∙ ap (lift (λ v. step w (plug layers (Val v))) (plug layers)) e
