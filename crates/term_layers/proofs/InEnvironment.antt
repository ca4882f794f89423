-- What is shut opens in an environment as it does with the environment's values put in.
use Rattle.std.proofs.Common.{◌≡◌, ℕ, List, [], ◌∷◌, ◌++◌, refl, ap, sym, ◌∙◌, Bool, true, false, Option, Some, None, append-nil}
use Rattle.erl_syntax.specs.Atoms.{a_case_clause, a_if_clause, a_function_clause}
use Rattle.term_value.specs.Value.{Value, VInt, VAtom, VPid, VTuple, VList, VBits, Values, none, more}
use Rattle.term_value.specs.Result.{Stop, Result, Gives, Stops, raise, raise_of, truth_of}
use Rattle.term_value.specs.Setting.{Setting}
use Rattle.term_value.specs.Guards.{Verdict, Holds, Fails, AtLimit, guard_holds}
use Rattle.term_value.specs.Match.{Matched, Yes, No, MatchLimit, Picked, as_many, if_match, each_matched, all_matched, where_holds, where_matched, picked_under, picked}
use Rattle.term_value.specs.Tree.{Var, All, First, Choose, Receive, Gather, Form, Table, Call, Send, Display, Spawn, Row, Found, Skipped, RowLimit, Got, Items, Bits, Quals, turn, give, from, test, Levels, bottom, level, Function, end, and, Bound, Tree, Val, Patterns, Shut, Then, Last, Alts, AndAlso, OrElse, Clauses, no_clause, clause, Guard}
use Rattle.term_value.specs.PutIn.{value_in, tree_or_variable, in_quals, in_levels, in_generator, put_in, in_shut, in_guard, in_clauses, in_patterns}
use Rattle.term_value.specs.Step.{World, Step, Ready, Goes, Falls, Asks, Looks, setting, lift, of_picked, of_match, second_by, collected_by, collect_by, generated_by, filtered_by, turned, entered, acted, opened}
use Rattle.term_layers.specs.Environments.{LevelsUnder, bottom_under, level_under, levels_of, levels_under, Focus, Open, Gathers, tree_in, Frame, PartIn, BeforeIn, GivingIn, DrawingIn, TestingIn, layer_of, turn_of, Choice, Chosen, NotChosen, ChoiceLimit, holds_in, matches_in, chosen, picked_of, of_choice, opened_in, entered_in, acted_in, turned_in, gathering_in, variable_in, opening_in, giving_in}
use Rattle.term_layers.specs.Layers.{rewound_values}
use Rattle.term_layers.specs.Turns.{Makes, opening, giving}
use Rattle.term_layers.proofs.Nothing.{same}
use Rattle.term_value.specs.Rows.{rows_of}
use Rattle.std.specs.Prelude.{slice_get}
use Rattle.term_layers.proofs.Twice.{twice, quals_twice}
use Rattle.term_layers.specs.Bindings.{matched_behind}
use Rattle.term_layers.proofs.Matches.{all_under, picks_under}

holds_of : (o : Verdict) (env : List Bound) (body : Tree) (c : Choice) (p : Picked) → picked_of c ≡ p → picked_of (holds_in o env body c) ≡ where_holds o (put_in env body) p
holds_of Holds env body c p h = refl
holds_of Fails env body c p h = h
holds_of AtLimit env body c p h = refl

matches_of : (s : Setting) (m : Matched) (guard : Guard) (body : Tree) (c : Choice) (p : Picked) → picked_of c ≡ p → picked_of (matches_in s m guard body c) ≡ where_matched s m guard body p
matches_of s (Yes env) guard body c p h = holds_of (guard_holds s (in_guard env guard)) env body c p h
matches_of s No guard body c p h = h
matches_of s MatchLimit guard body c p h = refl

chosen_of : (s : Setting) (env : List Bound) (cs : Clauses) (vs : Values) → picked_of (chosen s env cs vs) ≡ picked_under s env cs vs
chosen_of s env no_clause vs = refl
chosen_of s env (clause ps guard body cs) vs = matches_of s (if_match (as_many ps vs) (each_matched s ps vs env)) guard body (chosen s env cs vs) (picked_under s env cs vs) (chosen_of s env cs vs)

-- the clause that is chosen in an environment is the one picked with the values put in
pub chosen_picked : (s : Setting) (env : List Bound) (cs : Clauses) (vs : Values) → picked_of (chosen s env cs vs) ≡ picked s (in_clauses env cs) vs
chosen_picked s env cs vs = chosen_of s env cs vs ∙ picks_under s env cs vs

choice_of : (cost : ℕ) (stop : Stop) (c : Choice) → lift Ready tree_in (of_choice cost stop c) ≡ of_picked cost stop (picked_of c)
choice_of cost stop (Chosen env body) = refl
choice_of cost stop NotChosen = refl
choice_of cost stop ChoiceLimit = refl

match_by : {T U : Type 0} (f : T → U) (v : Value) (next : List Bound → T) (m : Matched) → lift Ready f (of_match v next m) ≡ of_match v (λ bs. f (next bs)) m
match_by f v next (Yes bs) = refl
match_by f v next No = refl
match_by f v next MatchLimit = refl

second_lift : {T U : Type 0} (f : T → U) (b : Bool) (t u : T) (v : Value) (o : Option Bool) → lift Ready f (second_by b t u v o) ≡ second_by b (f t) (f u) v o
second_lift f true t u v (Some true) = refl
second_lift f true t u v (Some false) = refl
second_lift f false t u v (Some true) = refl
second_lift f false t u v (Some false) = refl
second_lift f true t u v None = refl
second_lift f false t u v None = refl

collected_lift : {T U : Type 0} (f : T → U) (next : Got → T) (r : Result) (got : Got) → lift Ready f (collected_by next r got) ≡ collected_by (λ g. f (next g)) r got
collected_lift f next (Gives v) got = refl
collected_lift f next (Stops stop) got = refl

collect_lift : {T U : Type 0} (f : T → U) (next : Got → T) (got : Got) (v : Value) → lift Ready f (collect_by next got v) ≡ collect_by (λ g. f (next g)) got v
collect_lift f next (Items vs) v = collected_lift f next _ (Items (vs ++ v ∷ []))
collect_lift f next (Bits bits) (VBits bs) = collected_lift f next _ (Bits (bits ++ bs))
collect_lift f next (Bits bits) (VInt n) = refl
collect_lift f next (Bits bits) (VAtom n) = refl
collect_lift f next (Bits bits) (VPid n) = refl
collect_lift f next (Bits bits) (VTuple vs) = refl
collect_lift f next (Bits bits) (VList vs) = refl

generated_lift : {T U : Type 0} (f : T → U) (next : List Row → T) (v : Value) (o : Option (List Row)) → lift Ready f (generated_by next v o) ≡ generated_by (λ rows. f (next rows)) v o
generated_lift f next v (Some rows) = refl
generated_lift f next v None = refl

filtered_lift : {T U : Type 0} (f : T → U) (t u : T) (v : Value) (o : Option Bool) → lift Ready f (filtered_by t u v o) ≡ filtered_by (f t) (f u) v o
filtered_lift f t u v (Some true) = refl
filtered_lift f t u v (Some false) = refl
filtered_lift f t u v None = refl

-- a match in an environment goes on with what the match of the pattern with its values put in goes on with
match_of : (s : Setting) (env : List Bound) (v : Value) (f g : List Bound → Tree) (m : Matched) → ((bs : List Bound) → f (env ++ bs) ≡ g bs) → of_match v f (matched_behind env m) ≡ of_match v g m
match_of s env v f g (Yes bs) h = ap (Goes 0 0) (h bs)
match_of s env v f g No h = refl
match_of s env v f g MatchLimit h = refl

all_from : (s : Setting) (env : List Bound) (ps : Patterns) (v : Value) → all_matched s ps v env ≡ matched_behind env (all_matched s (in_patterns env ps) v [])
all_from s env ps v = ap (all_matched s ps v) (sym (append-nil env)) ∙ all_under s env ps v []

pub opened_of : (w : World) (env : List Bound) (rest : Shut) (v : Value) → lift Ready tree_in (opened_in w env rest v) ≡ opened w (in_shut env rest) v
opened_of w env (Then ps rest) v =
    match_by tree_in v (λ bs. Open bs rest) (all_matched (setting w) ps v env) ∙ ap (of_match v (λ bs. put_in bs rest)) (all_from (setting w) env ps v)
    ∙ match_of (setting w) env v (λ bs. put_in bs rest) (λ bs. put_in bs (put_in env rest)) (all_matched (setting w) (in_patterns env ps) v []) (λ bs. sym (twice env bs rest))
opened_of w env (Last ps) v =
    match_by tree_in v (λ bs. Open [] (Val v)) (all_matched (setting w) ps v env) ∙ ap (of_match v (λ bs. Val v)) (all_from (setting w) env ps v)
    ∙ match_of (setting w) env v (λ bs. Val v) (λ bs. Val v) (all_matched (setting w) (in_patterns env ps) v []) (λ bs. refl)
opened_of w env (Alts cs) v =
    choice_of 0 (raise_of a_case_clause v) (chosen (setting w) env cs (more v none)) ∙ ap (of_picked 0 (raise_of a_case_clause v)) (chosen_picked (setting w) env cs (more v none))
opened_of w env (AndAlso t) v = second_lift tree_in true (Open env t) (Open [] (Val v)) v (truth_of v)
opened_of w env (OrElse t) v = second_lift tree_in false (Open env t) (Open [] (Val v)) v (truth_of v)

entered_of : (w : World) (o : Option Function) (vs : Values) → lift Ready tree_in (entered_in w o vs) ≡ entered w o vs
entered_of w None vs = refl
entered_of w (Some f) vs = choice_of 1 (raise a_function_clause) (chosen (setting w) [] f.clauses vs) ∙ ap (of_picked 1 (raise a_function_clause)) (chosen_of (setting w) [] f.clauses vs)

closed_of : (s : Step Value Tree) → lift Ready tree_in (lift Ready (Open []) s) ≡ s
closed_of (Ready v) = refl
closed_of (Goes cost made t) = ap (Goes cost made) (same t)
closed_of (Falls cost stop) = refl
closed_of (Asks ask next) = ap (Asks ask) (λ i v. same (next v) i)
closed_of (Looks cs next) = ap (Looks cs) (λ i t. same (next t) i)

acted_of : (w : World) (form : Form) (vs : Values) → lift Ready tree_in (acted_in w form vs) ≡ acted w form vs
acted_of w (Call f) vs = entered_of w (slice_get w.code.functions f) vs
acted_of w (Table p) vs = closed_of (acted w (Table p) vs)
acted_of w Send vs = closed_of (acted w Send vs)
acted_of w Display vs = closed_of (acted w Display vs)
acted_of w Spawn vs = closed_of (acted w Spawn vs)

levels_put : (env : List Bound) (levels : Levels) → levels_of (levels_under env levels) ≡ in_levels env levels
levels_put env bottom = refl
levels_put env (level rows quals levels) = ap (level rows (in_quals env quals)) (levels_put env levels)

turned_of : (got : Got) (levels : LevelsUnder) → lift Ready tree_in (turned_in got levels) ≡ turned got (levels_of levels)
turned_of got bottom_under = refl
turned_of got (level_under env [] quals levels) = refl
turned_of got (level_under env (Found bs ∷ rows) quals levels) = ap (λ q. Goes 1 0 (Gather got q (levels_of (level_under env rows quals levels)))) (sym (quals_twice env bs quals))
turned_of got (level_under env (Skipped ∷ rows) quals levels) = refl
turned_of got (level_under env (RowLimit ∷ rows) quals levels) = refl

gathering_of : (w : World) (got : Got) (env : List Bound) (now : Quals) (levels : LevelsUnder) → turn_of (gathering_in got env now levels) ≡ opening w (Gather got (in_quals env now) (levels_of levels))
gathering_of w got env turn levels = ap Makes (turned_of got levels)
gathering_of w got env (give t) levels = refl
gathering_of w got env (from t g qs) levels = refl
gathering_of w got env (test t qs) levels = refl

variable_of : (w : World) (o : Option Value) (x : ℕ) → turn_of (variable_in o) ≡ opening w (tree_or_variable o x)
variable_of w None x = refl
variable_of w (Some v) x = refl

-- what an open part does in an environment is what it does with the environment's values put in
pub opening_of : (w : World) (focus : Focus) → turn_of (opening_in w focus) ≡ opening w (tree_in focus)
opening_of w (Open env (Val v)) = refl
opening_of w (Open env (Var x)) = variable_of w (value_in env x) x
opening_of w (Open env (All form end)) = ap Makes (acted_of w form none)
opening_of w (Open env (All form (and t ts))) = refl
opening_of w (Open env (First t rest)) = refl
opening_of w (Open env (Choose cs)) =
    ap Makes (choice_of 0 (raise a_if_clause) (chosen (setting w) env cs none) ∙ ap (of_picked 0 (raise a_if_clause)) (chosen_picked (setting w) env cs none))
opening_of w (Open env (Receive cs)) = ap (λ f. Makes (Looks (in_clauses env cs) f)) (λ i t. same t i)
opening_of w (Open env (Gather got now levels)) = gathering_of w got env now (levels_under env levels) ∙ ap (λ l. opening w (Gather got (in_quals env now) l)) (levels_put env levels)
opening_of w (Gathers got env now levels) = gathering_of w got env now levels

pub giving_of : (w : World) (frame : Frame) (v : Value) → turn_of (giving_in w frame v) ≡ giving w (layer_of frame) v
giving_of w (PartIn form vs end env) v = ap Makes (acted_of w form (rewound_values vs (more v none)))
giving_of w (PartIn form vs (and t ts) env) v = refl
giving_of w (BeforeIn rest env) v = ap Makes (opened_of w env rest v)
giving_of w (GivingIn got levels) v = ap Makes (collect_lift tree_in _ got v)
giving_of w (DrawingIn got g qs env levels) v = ap Makes (generated_lift tree_in _ v (rows_of (setting w) (in_generator env g) v))
giving_of w (TestingIn got qs env levels) v = ap Makes (filtered_lift tree_in _ _ v (truth_of v))
