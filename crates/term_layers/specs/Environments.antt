-- A machine with environments: a tree stands for itself with its environment's values put in, a frame for a layer (this project's
-- own). A machine reads what is open and its frames into these; that it does what the expression does is proved once, here.
use Rattle.std.specs.Prelude.{◌≡◌, ℕ, List, [], ◌∷◌, ◌++◌, Option, Some, None, slice_get, true, false}
use Rattle.erl_syntax.specs.Atoms.{a_badarg, a_case_clause, a_if_clause, a_function_clause, a_undef}
use Rattle.term_value.specs.Value.{Value, Values, none, more}
use Rattle.term_value.specs.Result.{Stop, Limit, raise, raise_of, truth_of}
use Rattle.term_value.specs.Setting.{Setting}
use Rattle.term_value.specs.Guards.{Verdict, Holds, Fails, AtLimit, guard_holds}
use Rattle.term_value.specs.Match.{Matched, Yes, No, MatchLimit, Picked, Body, NoClause, PickLimit, picked, as_many, if_match, each_matched, all_matched}
use Rattle.term_value.specs.Rows.{rows_of}
use Rattle.term_value.specs.Tree.{Bound, Form, Call, Row, Found, Skipped, RowLimit, Got, Tree, Val, Var, All, First, Choose, Receive, Gather, Trees, end, and, Shut, Then, Last, Alts, AndAlso, OrElse, Clauses, no_clause, clause, Guard, Quals, turn, give, from, test, Generator, Levels, bottom, level, Function}
use Rattle.term_value.specs.PutIn.{value_in, put_in, puts_in, in_shut, in_clauses, in_guard, in_quals, in_generator}
use Rattle.term_value.specs.Step.{World, Step, Ready, Goes, Falls, Looks, setting, lift, acted, collected, of_match, second_by, collect_by, generated_by, filtered_by}
use Rattle.term_layers.specs.Layers.{Layer, Part, Before, Giving, Drawing, Testing, rewound_values}
use Rattle.term_layers.specs.Turns.{Turn, Into, Makes, opening, giving}

-- rows that wait, and what begins with each, in an environment
pub data LevelsUnder : Type 0 where
  bottom_under : LevelsUnder
  level_under : (env : List Bound) (rows : List Row) (quals : Quals) (levels : LevelsUnder) → LevelsUnder

abbrev pub levels_of : LevelsUnder → Levels
levels_of bottom_under = bottom
levels_of (level_under env rows quals levels) = level rows (in_quals env quals) (levels_of levels)

-- what is open: an expression, or a comprehension at one of its qualifiers
pub data Focus : Type 0 where
  Open : (env : List Bound) (t : Tree) → Focus
  Gathers : (got : Got) (env : List Bound) (now : Quals) (levels : LevelsUnder) → Focus

abbrev pub tree_in : Focus → Tree
tree_in (Open env t) = put_in env t
tree_in (Gathers got env now levels) = Gather got (in_quals env now) (levels_of levels)

-- a layer, in the environment of what waits there
pub data Frame : Type 0 where
  PartIn : (form : Form) (values : List Value) (waiting : Trees) (env : List Bound) → Frame
  BeforeIn : (rest : Shut) (env : List Bound) → Frame
  GivingIn : (got : Got) (levels : LevelsUnder) → Frame
  DrawingIn : (got : Got) (generator : Generator) (quals : Quals) (env : List Bound) (levels : LevelsUnder) → Frame
  TestingIn : (got : Got) (quals : Quals) (env : List Bound) (levels : LevelsUnder) → Frame

abbrev pub layer_of : Frame → Layer
layer_of (PartIn form vs ts env) = Part form vs (puts_in env ts)
layer_of (BeforeIn rest env) = Before (in_shut env rest)
layer_of (GivingIn got levels) = Giving got (levels_of levels)
layer_of (DrawingIn got g qs env levels) = Drawing got (in_generator env g) (in_quals env qs) (levels_of levels)
layer_of (TestingIn got qs env levels) = Testing got (in_quals env qs) (levels_of levels)

-- a turn with environments
pub data Move : Type 0 where
  Enters : (frame : Frame) (focus : Focus) → Move
  Does : (s : Step Value Focus) → Move

abbrev pub turn_of : Move → Turn
turn_of (Enters frame focus) = Into (layer_of frame) (tree_in focus)
turn_of (Does s) = Makes (lift Ready tree_in s)

-- the first clause that takes the values, and its environment
pub data Choice : Type 0 where
  Chosen : (env : List Bound) (body : Tree) → Choice
  NotChosen : Choice
  ChoiceLimit : Choice

abbrev pub holds_in : Verdict → List Bound → Tree → Choice → Choice
holds_in Holds env body later = Chosen env body
holds_in Fails env body later = later
holds_in AtLimit env body later = ChoiceLimit

abbrev pub matches_in : Setting → Matched → Guard → Tree → Choice → Choice
matches_in s (Yes env) guard body later = holds_in (guard_holds s (in_guard env guard)) env body later
matches_in s No guard body later = later
matches_in s MatchLimit guard body later = ChoiceLimit

abbrev pub chosen : Setting → List Bound → Clauses → Values → Choice
chosen s env no_clause vs = NotChosen
chosen s env (clause ps guard body cs) vs = matches_in s (if_match (as_many ps vs) (each_matched s ps vs env)) guard body (chosen s env cs vs)

abbrev pub picked_of : Choice → Picked
picked_of (Chosen env body) = Body (put_in env body)
picked_of NotChosen = NoClause
picked_of ChoiceLimit = PickLimit

abbrev pub of_choice : ℕ → Stop → Choice → Step Value Focus
of_choice cost otherwise (Chosen env body) = Goes cost 0 (Open env body)
of_choice cost otherwise NotChosen = Falls cost otherwise
of_choice cost otherwise ChoiceLimit = Falls cost Limit

-- what is shut takes a value
abbrev pub opened_in : World → List Bound → Shut → Value → Step Value Focus
opened_in w env (Then ps rest) v = of_match v (λ bs. Open bs rest) (all_matched (setting w) ps v env)
opened_in w env (Last ps) v = of_match v (λ bs. Open [] (Val v)) (all_matched (setting w) ps v env)
opened_in w env (Alts cs) v = of_choice 0 (raise_of a_case_clause v) (chosen (setting w) env cs (more v none))
opened_in w env (AndAlso t) v = second_by true (Open env t) (Open [] (Val v)) v (truth_of v)
opened_in w env (OrElse t) v = second_by false (Open env t) (Open [] (Val v)) v (truth_of v)

abbrev pub entered_in : World → Option Function → Values → Step Value Focus
entered_in w None vs = Falls 1 (raise a_undef)
entered_in w (Some f) vs = of_choice 1 (raise a_function_clause) (chosen (setting w) [] f.clauses vs)

-- a call begins in an environment of its own
abbrev pub acted_in : World → Form → Values → Step Value Focus
acted_in w (Call f) vs = entered_in w (slice_get w.code.functions f) vs
acted_in w form vs = lift Ready (Open []) (acted w form vs)

abbrev pub levels_under : List Bound → Levels → LevelsUnder
levels_under env bottom = bottom_under
levels_under env (level rows quals levels) = level_under env rows quals (levels_under env levels)

abbrev pub turned_in : Got → LevelsUnder → Step Value Focus
turned_in got bottom_under = Goes 0 0 (Open [] (Val (collected got)))
turned_in got (level_under env [] quals levels) = Goes 0 0 (Gathers got [] turn levels)
turned_in got (level_under env (Found bs ∷ rows) quals levels) = Goes 1 0 (Gathers got (env ++ bs) quals (level_under env rows quals levels))
turned_in got (level_under env (Skipped ∷ rows) quals levels) = Goes 1 0 (Gathers got [] turn (level_under env rows quals levels))
turned_in got (level_under env (RowLimit ∷ rows) quals levels) = Falls 1 Limit

abbrev pub gathering_in : Got → List Bound → Quals → LevelsUnder → Move
gathering_in got env turn levels = Does (turned_in got levels)
gathering_in got env (give t) levels = Enters (GivingIn got levels) (Open env t)
gathering_in got env (from t g qs) levels = Enters (DrawingIn got g qs env levels) (Open env t)
gathering_in got env (test t qs) levels = Enters (TestingIn got qs env levels) (Open env t)

abbrev pub variable_in : Option Value → Move
variable_in None = Does (Falls 0 (raise a_badarg))
variable_in (Some v) = Does (Ready v)

abbrev pub opening_in : World → Focus → Move
opening_in w (Open env (Val v)) = Does (Ready v)
opening_in w (Open env (Var x)) = variable_in (value_in env x)
opening_in w (Open env (All form end)) = Does (acted_in w form none)
opening_in w (Open env (All form (and t ts))) = Enters (PartIn form [] ts env) (Open env t)
opening_in w (Open env (First t rest)) = Enters (BeforeIn rest env) (Open env t)
opening_in w (Open env (Choose cs)) = Does (of_choice 0 (raise a_if_clause) (chosen (setting w) env cs none))
opening_in w (Open env (Receive cs)) = Does (Looks (in_clauses env cs) (Open []))
opening_in w (Open env (Gather got now levels)) = gathering_in got env now (levels_under env levels)
opening_in w (Gathers got env now levels) = gathering_in got env now levels

abbrev pub giving_in : World → Frame → Value → Move
giving_in w (PartIn form vs end env) v = Does (acted_in w form (rewound_values vs (more v none)))
giving_in w (PartIn form vs (and t ts) env) v = Enters (PartIn form (v ∷ vs) ts env) (Open env t)
giving_in w (BeforeIn rest env) v = Does (opened_in w env rest v)
giving_in w (GivingIn got levels) v = Does (collect_by (λ g. Gathers g [] turn levels) got v)
giving_in w (DrawingIn got g qs env levels) v = Does (generated_by (λ rows. Gathers got [] turn (level_under env rows qs levels)) v (rows_of (setting w) (in_generator env g) v))
giving_in w (TestingIn got qs env levels) v = Does (filtered_by (Gathers got env qs levels) (Gathers got [] turn levels) v (truth_of v))

-- the clause that is chosen in an environment is picked of the clauses with the environment's values put in
abbrev pub ChosenIsPicked : Type 0
ChosenIsPicked = (s : Setting) (env : List Bound) (cs : Clauses) (vs : Values) → picked_of (chosen s env cs vs) ≡ picked s (in_clauses env cs) vs

-- an open part does in an environment what it does with the environment's values put in
abbrev pub OpensAlike : Type 0
OpensAlike = (w : World) (focus : Focus) → turn_of (opening_in w focus) ≡ opening w (tree_in focus)

-- a frame does with a value what its layer does
abbrev pub GivesAlike : Type 0
GivesAlike = (w : World) (frame : Frame) (v : Value) → turn_of (giving_in w frame v) ≡ giving w (layer_of frame) v
