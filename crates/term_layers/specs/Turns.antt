-- A turn: what an open part does, and what a layer does with the value of the part that stood in it (this project's own).
use Rattle.std.specs.Prelude.{◌≡◌, [], ◌∷◌}
use Rattle.erl_syntax.specs.Atoms.{a_badarg, a_if_clause}
use Rattle.term_value.specs.Value.{Value, none, more}
use Rattle.term_value.specs.Result.{raise, truth_of}
use Rattle.term_value.specs.Tree.{Tree, Val, Var, All, First, Choose, Receive, Gather, end, and, turn, give, from, test}
use Rattle.term_value.specs.Match.{picked}
use Rattle.term_value.specs.Rows.{rows_of}
use Rattle.term_value.specs.Step.{World, Step, Ready, Falls, Looks, setting, of_picked, acted, opened, collect, generated, filtered, turned, step}
use Rattle.term_layers.specs.Layers.{Layer, Part, Before, Giving, Drawing, Testing, rewound_values, wrap}

pub data Turn : Type 0 where
  -- the expression stays as it is: its first open part is told apart from the layer round it
  Into : (layer : Layer) (t : Tree) → Turn
  Makes : (s : Step Value Tree) → Turn

-- of an open part
abbrev pub opening : World → Tree → Turn
opening w (Val v) = Makes (Ready v)
opening w (Var x) = Makes (Falls 0 (raise a_badarg))
opening w (All form end) = Makes (acted w form none)
opening w (All form (and t ts)) = Into (Part form [] ts) t
opening w (First t rest) = Into (Before rest) t
opening w (Choose cs) = Makes (of_picked 0 (raise a_if_clause) (picked (setting w) cs none))
opening w (Receive cs) = Makes (Looks cs (λ t. t))
opening w (Gather got turn levels) = Makes (turned got levels)
opening w (Gather got (give t) levels) = Into (Giving got levels) t
opening w (Gather got (from t g qs) levels) = Into (Drawing got g qs levels) t
opening w (Gather got (test t qs) levels) = Into (Testing got qs levels) t

-- of a layer, with the value of what stood in it
abbrev pub giving : World → Layer → Value → Turn
giving w (Part form vs end) v = Makes (acted w form (rewound_values vs (more v none)))
giving w (Part form vs (and t ts)) v = Into (Part form (v ∷ vs) ts) t
giving w (Before rest) v = Makes (opened w rest v)
giving w (Giving got levels) v = Makes (collect got levels v)
giving w (Drawing got g qs levels) v = Makes (generated got qs levels v (rows_of (setting w) g v))
giving w (Testing got qs levels) v = Makes (filtered got qs levels v (truth_of v))

-- the turn tells what the expression is, or what is next in it
abbrev pub IsNext : World → Tree → Turn → Type 0
IsNext w t (Into layer u) = t ≡ wrap layer u
IsNext w t (Makes s) = step w t ≡ s

abbrev pub OpeningNext : Type 0
OpeningNext = (w : World) (t : Tree) → IsNext w t (opening w t)

abbrev pub GivingNext : Type 0
GivingNext = (w : World) (layer : Layer) (v : Value) → IsNext w (wrap layer (Val v)) (giving w layer v)
