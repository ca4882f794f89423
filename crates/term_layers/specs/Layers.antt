-- What stands round the open part of an expression, from the innermost layer (this project's own). An expression is its open part
-- within its layers: what is next there is next in the whole, so a machine looks at the open part and its innermost layer only.
use Rattle.std.specs.Prelude.{◌≡◌, ℕ, List, [], ◌∷◌, Some}
use Rattle.term_value.specs.Value.{Value, Values, none, more}
use Rattle.term_value.specs.Tree.{Form, Got, Tree, Val, All, First, Gather, Trees, end, and, Shut, Quals, give, from, test, Generator, Levels, Module}
use Rattle.term_value.specs.Step.{World, Step, Ready, lift, acted, step}
use Rattle.term_value.specs.Local.{Local, Course, At, Fell, Next, On, Asking, ForMore, Done, Raised, world, next_of, Contracts, NextAsk, asked}
use Rattle.term_value.specs.AskOf.{ask_of}

pub data Layer : Type 0 where
  -- a form: the parts before the open one have their values, the last first, and those behind it wait
  Part : (form : Form) (values : List Value) (waiting : Trees) → Layer
  -- what is shut until the open part has its value
  Before : (rest : Shut) → Layer
  -- a comprehension whose row is open
  Giving : (got : Got) (levels : Levels) → Layer
  -- a comprehension of which the source of a generator is open
  Drawing : (got : Got) (generator : Generator) (quals : Quals) (levels : Levels) → Layer
  -- a comprehension of which a filter is open
  Testing : (got : Got) (quals : Quals) (levels : Levels) → Layer

-- the parts behind values, of which the last is first
abbrev pub rewound : List Value → Trees → Trees
rewound [] ts = ts
rewound (v ∷ vs) ts = rewound vs (and (Val v) ts)

abbrev pub rewound_values : List Value → Values → Values
rewound_values [] ws = ws
rewound_values (v ∷ vs) ws = rewound_values vs (more v ws)

-- the expression that a layer and what stands in it are
abbrev pub wrap : Layer → Tree → Tree
wrap (Part form vs ts) t = All form (rewound vs (and t ts))
wrap (Before rest) t = First t rest
wrap (Giving got levels) t = Gather got (give t) levels
wrap (Drawing got g qs levels) t = Gather got (from t g qs) levels
wrap (Testing got qs levels) t = Gather got (test t qs) levels

abbrev pub plug : List Layer → Tree → Tree
plug [] t = t
plug (layer ∷ layers) t = plug layers (wrap layer t)

abbrev pub plug_course : List Layer → Course → Course
plug_course layers (At t) = At (plug layers t)
plug_course layers (Fell stop) = Fell stop

-- the local state with layers round its expression
abbrev pub within_layers : List Layer → Local → Local
within_layers layers l = record l { course = plug_course layers l.course }

abbrev pub next_within : List Layer → Next → Next
next_within layers (On cost made l) = On cost made (within_layers layers l)
next_within layers (Asking ask next) = Asking ask (λ answer. within_layers layers (next answer))
next_within layers (ForMore l) = ForMore (within_layers layers l)
next_within layers Done = Done
next_within layers (Raised reason) = Raised reason

-- what is next is no value
abbrev pub IsOpen : {V T : Type 0} → Step V T → Type 0
IsOpen (Ready v) = ⊥
IsOpen _ = Unit {0}

abbrev pub IsOpenCourse : World → Course → Type 0
IsOpenCourse w (At t) = IsOpen (step w t)
IsOpenCourse w (Fell stop) = Unit {0}

-- A value of the open part goes to the innermost layer, and whatever else is next in the open part is next in the whole.
abbrev pub StepUnder : Type 0
StepUnder = (w : World) (layers : List Layer) (t : Tree) → step w (plug layers t) ≡ lift (λ v. step w (plug layers (Val v))) (plug layers) (step w t)

-- a form whose parts all have values acts on them
abbrev pub FormActs : Type 0
FormActs = (w : World) (form : Form) (vs : List Value) → step w (All form (rewound vs end)) ≡ acted w form (rewound_values vs none)

-- while the open part has no value, what is next for the local state of the open part is next for that of the whole
abbrev pub NextUnder : Type 0
NextUnder = (layers : List Layer) (code : Module) (l : Local) → IsOpenCourse (world code l) l.course → next_of code (within_layers layers l) ≡ next_within layers (next_of code l)

-- a run of the open part is a run of the whole, at the same cost, and makes as many bits
abbrev pub RunsUnder : Type 0
RunsUnder = (layers : List Layer) (code : Module) (l k : Local) (cost made : ℕ) → Contracts code l cost made k → Contracts code (within_layers layers l) cost made (within_layers layers k)
