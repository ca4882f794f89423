-- What is scoped goes on to what is scoped.
use Rattle.std.proofs.Common.{◌≡◌, ℕ, zero, suc, Bool, true, false, ◌-◌, List, [], ◌∷◌, ◌++◌, Option, Some, None, refl, subst, ◌⊎◌, inl, inr, length}
use Rattle.std.specs.Prelude.{nat_lt, slice_get}
use Rattle.std.specs.List.{All, Contains}
use Rattle.std.proofs.lemmas.List.{append-nil}
use Rattle.std.proofs.lemmas.Option.{slice_get_within, get_or_from_slice_get}
use Rattle.std.proofs.lemmas.List.Elements.{Contains-append_left}
use Rattle.erl_syntax.specs.Atoms.{a_if_clause, a_case_clause, a_function_clause}
use Rattle.term_value.specs.Value.{Value, VAtom, VPid, VList, VBits, Values, none, more, row}
use Rattle.term_value.specs.Result.{Stop, Result, Gives, Stops, Raise, Limit, raise, raise_of, truth_of}
use Rattle.term_value.specs.Bounds.{within}
use Rattle.term_value.specs.Setting.{Setting}
use Rattle.term_value.specs.Primitives.{prim}
use Rattle.term_value.specs.Guards.{Verdict, Holds, Fails, AtLimit as GuardLimit, guard_holds}
use Rattle.term_value.specs.Tree.{Bound, Form, Table, Call, Send, Display, Spawn, Row, Found, Skipped, RowLimit, Got, Items, Bits, Tree, Val, Var, All as Formed, First, Choose, Receive, Gather, Trees, end, and, Shut, Then, Last, Alts, AndAlso, OrElse, Clauses, no_clause, clause, Guard, Quals, turn, give, from, test, Generator, InList, InBits, Levels, bottom, level, Pattern, Segments, Function, Module}
use Rattle.term_value.specs.PutIn.{put_in, in_guard}
use Rattle.term_value.specs.Decode.{Taken, Cut, NoCut, CutLimit}
use Rattle.term_value.specs.Match.{Matched, Yes, No, MatchLimit, as_many, if_match, matched, each_matched, all_matched, all_taken, Picked, Body, NoClause, PickLimit, where_holds, where_matched, picked}
use Rattle.term_value.specs.Rows.{row_before, list_rows, Front, Takes, Ends, AtLimit, takes_where, skips, first_or_skips, front, row_then, bit_rows, rows_of}
use Rattle.term_value.specs.Step.{World, setting, Step, Ready, Goes, Falls, Asks, Looks, lift, of_result, of_picked, entered, sent, displayed, spawned, acted, of_match, second_at, opened, collected_by, collect, generated, filtered, turned, step, steps, gathered}
use Rattle.term_value.specs.Local.{Local, Course, At, Fell, Next, Asking, ForMore, world, Seen, Takes as SeenTakes, NoMessage, SeenLimit, kept_before, takes, looked, charged, is_normal, raised_where, ended, if_left, of_seen, of_step, of_course, next_of}
use Rattle.term_laws.specs.Scoped.{variables, pattern_names, patterns_names, segment_names, EachRow, IsScoped, AreScoped, IsShutScoped, AreClausesScoped, AreQualsScoped, AreLevelsScoped, generator_names, IsFunctionScoped, IsModuleScoped, IsCourseScoped, IsNextScoped}
use Rattle.term_laws.proofs.ScopedPut.{none_in, Fits, put_scoped, quals_scoped, quals_alike}
use Rattle.term_laws.proofs.ScopedMatch.{has_value, Binds, MatchBinds, CutBinds, each_binds, all_bind, matched_binds, segments_bind}

-- what is next has this
abbrev pub Each : {V T : Type 0} → (T → Type 0) → Step V T → Type 0
Each P (Ready v) = Unit {0}
Each P (Goes cost made t) = P t
Each P (Falls cost stop) = Unit {0}
Each P (Asks ask next) = (v : Value) → P (next v)
Each P (Looks cs next) = AreClausesScoped [] cs × ((t : Tree) → IsScoped [] t → P (next t))

lift_each : {V W T U : Type 0} (P : T → Type 0) (Q : U → Type 0) (ready : V → Step W U) (around : T → U) (s : Step V T)
    → Each P s → ((t : T) → P t → Q (around t)) → ((v : V) → Each Q (ready v)) → Each Q (lift ready around s)
lift_each P Q ready around (Ready v) h g r = r v
lift_each P Q ready around (Goes cost made t) h g r = g t h
lift_each P Q ready around (Falls cost stop) h g r = tt
lift_each P Q ready around (Asks ask next) h g r = λ v. g (next v) (h v)
lift_each P Q ready around (Looks cs next) h g r = (h.0, λ t k. g (next t) (h.1 t k))

-- with what a match bound put in, nothing more has to be known
pub fits_bound : (names : List ℕ) (bs : List Bound) → Binds names [] bs → Fits bs (names ++ []) []
fits_bound names bs b = record {
  covers = λ x h. inl (has_value bs x (b.bound x (let P : List ℕ → Type 0 = λ l. Contains l x in subst P (append-nil names) h)));
  within = λ x h. absurd (none_in x h);
}

abbrev PickedScoped : Picked → Type 0
PickedScoped (Body t) = IsScoped [] t
PickedScoped NoClause = Unit {0}
PickedScoped PickLimit = Unit {0}

holds_scoped : (v : Verdict) (t : Tree) (later : Picked) → IsScoped [] t → PickedScoped later → PickedScoped (where_holds v t later)
holds_scoped Holds t later h g = h
holds_scoped Fails t later h g = g
holds_scoped GuardLimit t later h g = tt

where_scoped : (s : Setting) (names : List ℕ) (m : Matched) (guard : Guard) (body : Tree) (later : Picked) → MatchBinds s names [] m → IsScoped (names ++ []) body → PickedScoped later → PickedScoped (where_matched s m guard body later)
where_scoped s names (Yes bs) guard body later b h g = holds_scoped (guard_holds s (in_guard bs guard)) (put_in bs body) later (put_scoped bs body (names ++ []) [] (fits_bound names bs b) h) g
where_scoped s names No guard body later b h g = g
where_scoped s names MatchLimit guard body later b h g = tt

if_binds : (s : Setting) (names : List ℕ) (b : Bool) (m : Matched) → MatchBinds s names [] m → MatchBinds s names [] (if_match b m)
if_binds s names true m h = h
if_binds s names false m h = tt

picked_scoped : (s : Setting) (cs : Clauses) (vs : Values) → AreClausesScoped [] cs → PickedScoped (picked s cs vs)
picked_scoped s no_clause vs h = tt
picked_scoped s (clause ps guard body cs) vs h =
    where_scoped s (patterns_names ps) (if_match (as_many ps vs) (each_matched s ps vs [])) guard body (picked s cs vs) (if_binds s (patterns_names ps) (as_many ps vs) (each_matched s ps vs []) (each_binds s ps vs [])) h.2 (picked_scoped s cs vs h.3)

of_picked_scoped : (cost : ℕ) (stop : Stop) (p : Picked) → PickedScoped p → Each (IsScoped []) (of_picked cost stop p)
of_picked_scoped cost stop (Body t) h = h
of_picked_scoped cost stop NoClause h = tt
of_picked_scoped cost stop PickLimit h = tt

result_scoped : (r : Result) → Each (IsScoped []) (of_result r)
result_scoped (Gives v) = tt
result_scoped (Stops stop) = tt

function_scoped : (functions : List Function) (f : ℕ) → All IsFunctionScoped functions → (g : Function) → slice_get functions f ≡ Some g → IsFunctionScoped g
function_scoped functions f h g e =
    let l = slice_get_within functions f g e in
    let P : Function → Type 0 = IsFunctionScoped in
    subst P (get_or_from_slice_get functions f g g e) (h f g l)

module _ (w : World) (code : IsModuleScoped w.code) where
  entered_scoped : (o : Option Function) (vs : Values) → ((g : Function) → o ≡ Some g → IsFunctionScoped g) → Each (IsScoped []) (entered w o vs)
  entered_scoped None vs h = tt
  entered_scoped (Some f) vs h = of_picked_scoped 1 (raise a_function_clause) (picked (setting w) f.clauses vs) (picked_scoped (setting w) f.clauses vs (h f refl))

  sent_scoped : (vs : Values) → Each (IsScoped []) (sent vs)
  sent_scoped (more (VPid to) (more v none)) = λ answer. tt
  sent_scoped _ = tt

  displayed_scoped : (vs : Values) → Each (IsScoped []) (displayed vs)
  displayed_scoped (more v none) = λ answer. tt
  displayed_scoped _ = tt

  spawned_scoped : (vs : Values) → Each (IsScoped []) (spawned vs)
  spawned_scoped (more (VAtom m) (more (VAtom f) (more (VList vs) none))) = λ answer. tt
  spawned_scoped _ = tt

  acted_scoped : (form : Form) (vs : Values) → Each (IsScoped []) (acted w form vs)
  acted_scoped (Table p) vs = result_scoped (prim (setting w) p vs)
  acted_scoped (Call f) vs = entered_scoped (slice_get w.code.functions f) vs (function_scoped w.code.functions f code)
  acted_scoped Send vs = sent_scoped vs
  acted_scoped Display vs = displayed_scoped vs
  acted_scoped Spawn vs = spawned_scoped vs

  match_scoped : (names : List ℕ) (v : Value) (next : List Bound → Tree) (m : Matched) → MatchBinds (setting w) names [] m → ((bs : List Bound) → Binds names [] bs → IsScoped [] (next bs)) → Each (IsScoped []) (of_match v next m)
  match_scoped names v next (Yes bs) b h = h bs b
  match_scoped names v next No b h = tt
  match_scoped names v next MatchLimit b h = tt

  second_scoped : (b : Bool) (t : Tree) (v : Value) (o : Option Bool) → IsScoped [] t → Each (IsScoped []) (second_at b t v o)
  second_scoped true t v (Some true) h = h
  second_scoped true t v (Some false) h = tt
  second_scoped false t v (Some true) h = tt
  second_scoped false t v (Some false) h = h
  second_scoped true t v None h = tt
  second_scoped false t v None h = tt

  opened_scoped : (rest : Shut) (v : Value) → IsShutScoped [] rest → Each (IsScoped []) (opened w rest v)
  opened_scoped (Then ps rest) v h =
      match_scoped (patterns_names ps) v (λ bs. put_in bs rest) (all_matched (setting w) ps v []) (all_bind (setting w) ps v []) (λ bs b. put_scoped bs rest (patterns_names ps ++ []) [] (fits_bound (patterns_names ps) bs b) h.1)
  opened_scoped (Last ps) v h = match_scoped (patterns_names ps) v (λ bs. Val v) (all_matched (setting w) ps v []) (all_bind (setting w) ps v []) (λ bs b. tt)
  opened_scoped (Alts cs) v h = of_picked_scoped 0 (raise_of a_case_clause v) (picked (setting w) cs (more v none)) (picked_scoped (setting w) cs (more v none) h)
  opened_scoped (AndAlso t) v h = second_scoped true t v (truth_of v) h
  opened_scoped (OrElse t) v h = second_scoped false t v (truth_of v) h

  collected_scoped : (next : Got → Tree) (r : Result) (got : Got) → ((g : Got) → IsScoped [] (next g)) → Each (IsScoped []) (collected_by next r got)
  collected_scoped next (Gives v) got h = h got
  collected_scoped next (Stops stop) got h = tt

  collect_scoped : (got : Got) (levels : Levels) (v : Value) → AreLevelsScoped [] levels → Each (IsScoped []) (collect got levels v)
  collect_scoped (Items vs) levels v h = collected_scoped (λ g. Gather g turn levels) (within (VList (row (vs ++ v ∷ [])))) (Items (vs ++ v ∷ [])) (λ g. (tt, h))
  collect_scoped (Bits bits) levels (VBits bs) h = collected_scoped (λ g. Gather g turn levels) (within (VBits (bits ++ bs))) (Bits (bits ++ bs)) (λ g. (tt, h))
  collect_scoped (Bits bits) levels _ h = tt

  -- each row binds the variables of the generator
  abbrev RowsBind : List ℕ → List Row → Type 0
  RowsBind names [] = Unit {0}
  RowsBind names (Found bs ∷ rows) = Binds names [] bs × RowsBind names rows
  RowsBind names (Skipped ∷ rows) = RowsBind names rows
  RowsBind names (RowLimit ∷ rows) = RowsBind names rows

  before_binds : (names : List ℕ) (m : Matched) (rows : List Row) → MatchBinds (setting w) names [] m → RowsBind names rows → RowsBind names (row_before m rows)
  before_binds names (Yes bs) rows b h = (b, h)
  before_binds names No rows b h = h
  before_binds names MatchLimit rows b h = tt

  list_rows_bind : (p : Pattern) (vs : Values) → RowsBind (pattern_names p) (list_rows (setting w) p [] vs)
  list_rows_bind p none = tt
  list_rows_bind p (more v vs) = before_binds (pattern_names p) (matched (setting w) p v []) (list_rows (setting w) p [] vs) (matched_binds (setting w) p v []) (list_rows_bind p vs)

  -- the row in front does
  abbrev FrontBinds : List ℕ → Front → Type 0
  FrontBinds names (Takes (Found bs) rest) = Binds names [] bs
  FrontBinds names _ = Unit {0}

  found_binds : (names : List ℕ) (b : Bool) (bs : List Bound) (rest : List Bool) → Binds names [] bs → FrontBinds names (takes_where b (Found bs) rest)
  found_binds names true bs rest f = f
  found_binds names false bs rest f = tt

  skipped_binds : (names : List ℕ) (b : Bool) (rest : List Bool) → FrontBinds names (takes_where b Skipped rest)
  skipped_binds names true rest = tt
  skipped_binds names false rest = tt

  skips_bind : (names : List ℕ) (bits : List Bool) (t : Taken) → FrontBinds names (skips bits t)
  skips_bind names bits (Cut bs rest) = skipped_binds names (nat_lt (length rest) (length bits)) rest
  skips_bind names bits NoCut = tt
  skips_bind names bits CutLimit = tt

  first_binds : (names : List ℕ) (bits : List Bool) (u t : Taken) → CutBinds (setting w) names [] t → FrontBinds names (first_or_skips bits u t)
  first_binds names bits u (Cut bs rest) b = found_binds names (nat_lt (length rest) (length bits)) bs rest b
  first_binds names bits u NoCut b = skips_bind names bits u
  first_binds names bits u CutLimit b = tt

  then_bind : (names : List ℕ) (later : List Bool → List Row) (r : Front) → FrontBinds names r → ((l : List Bool) → RowsBind names (later l)) → RowsBind names (row_then later r)
  then_bind names later (Takes (Found bs) rest) b h = (b, h rest)
  then_bind names later (Takes Skipped rest) b h = h rest
  then_bind names later (Takes RowLimit rest) b h = h rest
  then_bind names later Ends b h = tt
  then_bind names later AtLimit b h = tt

  front_binds : (ss shape : Segments) (bits : List Bool) → FrontBinds (segment_names ss) (front (setting w) ss shape [] bits)
  front_binds ss shape bits = first_binds (segment_names ss) bits (all_taken (setting w) shape [] bits) (all_taken (setting w) ss [] bits) (segments_bind (setting w) ss [] bits)

  bit_rows_bind : (ss shape : Segments) (n : ℕ) (bits : List Bool) → RowsBind (segment_names ss) (bit_rows (setting w) ss shape [] n bits)
  bit_rows_bind ss shape zero bits = then_bind (segment_names ss) (λ rest. []) (front (setting w) ss shape [] bits) (front_binds ss shape bits) (λ l. tt)
  bit_rows_bind ss shape (suc n) bits = then_bind (segment_names ss) (bit_rows (setting w) ss shape [] n) (front (setting w) ss shape [] bits) (front_binds ss shape bits) (bit_rows_bind ss shape n)

  rows_scoped : (names : List ℕ) (qs : Quals) (rows : List Row) → AreQualsScoped (names ++ []) qs → RowsBind names rows → EachRow (λ known. AreQualsScoped (known ++ []) qs) rows
  rows_scoped names qs [] h b = tt
  rows_scoped names qs (Found bs ∷ rows) h b = (
    quals_alike qs (names ++ []) (variables bs ++ [])
        (λ x k. Contains-append_left (variables bs) [] x (b.0.bound x (let P : List ℕ → Type 0 = λ l. Contains l x in subst P (append-nil names) k)))
        (λ x k. Contains-append_left names [] x (only x (b.0.only x (let P : List ℕ → Type 0 = λ l. Contains l x in subst P (append-nil (variables bs)) k)))) h,
    rows_scoped names qs rows h b.1,
  )
    where
      only : (x : ℕ) → Contains names x ⊎ Contains [] x → Contains names x
      only x (inl k) = k
      only x (inr k) = absurd (none_in x k)
  rows_scoped names qs (Skipped ∷ rows) h b = rows_scoped names qs rows h b
  rows_scoped names qs (RowLimit ∷ rows) h b = rows_scoped names qs rows h b

  generated_scoped : (got : Got) (g : Generator) (qs : Quals) (levels : Levels) (v : Value) → AreQualsScoped (generator_names g ++ []) qs → AreLevelsScoped [] levels → Each (IsScoped []) (generated got qs levels v (rows_of (setting w) g v))
  generated_scoped got (InList p) qs levels (VList vs) h l = (tt, (rows_scoped (pattern_names p) qs (list_rows (setting w) p [] vs) h (list_rows_bind p vs), l))
  generated_scoped got (InList p) qs levels _ h l = tt
  generated_scoped got (InBits ss shape) qs levels (VBits bits) h l = (tt, (rows_scoped (segment_names ss) qs (bit_rows (setting w) ss shape [] (length bits) bits) h (bit_rows_bind ss shape (length bits) bits), l))
  generated_scoped got (InBits ss shape) qs levels _ h l = tt

  filtered_scoped : (got : Got) (qs : Quals) (levels : Levels) (v : Value) (o : Option Bool) → AreQualsScoped [] qs → AreLevelsScoped [] levels → Each (IsScoped []) (filtered got qs levels v o)
  filtered_scoped got qs levels v (Some true) h l = (h, l)
  filtered_scoped got qs levels v (Some false) h l = (tt, l)
  filtered_scoped got qs levels v None h l = tt

  fits_row : (bs : List Bound) → Fits bs (variables bs ++ []) []
  fits_row bs = record {
    covers = λ x h. inl (has_value bs x (let P : List ℕ → Type 0 = λ l. Contains l x in subst P (append-nil (variables bs)) h));
    within = λ x h. absurd (none_in x h);
  }

  turned_scoped : (got : Got) (levels : Levels) → AreLevelsScoped [] levels → Each (IsScoped []) (turned got levels)
  turned_scoped got bottom h = tt
  turned_scoped got (level [] qs levels) h = (tt, h.1)
  turned_scoped got (level (Found bs ∷ rows) qs levels) h = (quals_scoped bs qs (variables bs ++ []) [] (fits_row bs) h.0.0, (h.0.1, h.1))
  turned_scoped got (level (Skipped ∷ rows) qs levels) h = (tt, (h.0, h.1))
  turned_scoped got (level (RowLimit ∷ rows) qs levels) h = tt

  mutual
    pub step_scoped : (t : Tree) → IsScoped [] t → Each (IsScoped []) (step w t)
    step_scoped (Val v) h = tt
    step_scoped (Var x) h = tt
    step_scoped (Formed form ts) h = lift_each (AreScoped []) (IsScoped []) (acted w form) (Formed form) (steps w ts) (steps_scoped ts h) (λ us k. k) (acted_scoped form)
    step_scoped (First t rest) h = lift_each (IsScoped []) (IsScoped []) (opened w rest) (λ u. First u rest) (step w t) (step_scoped t h.0) (λ u k. (k, h.1)) (λ v. opened_scoped rest v h.1)
    step_scoped (Choose cs) h = of_picked_scoped 0 (raise a_if_clause) (picked (setting w) cs none) (picked_scoped (setting w) cs none h)
    step_scoped (Receive cs) h = (h, λ t k. k)
    step_scoped (Gather got now levels) h = gathered_scoped got levels now h.0 h.1

    steps_scoped : (ts : Trees) → AreScoped [] ts → Each (AreScoped []) (steps w ts)
    steps_scoped end h = tt
    steps_scoped (and t ts) h =
        lift_each (IsScoped []) (AreScoped []) (λ v. lift (λ vs. Ready (more v vs)) (and (Val v)) (steps w ts)) (λ u. and u ts) (step w t) (step_scoped t h.0) (λ u k. (k, h.1))
        (λ v. lift_each (AreScoped []) (AreScoped []) (λ vs. Ready (more v vs)) (and (Val v)) (steps w ts) (steps_scoped ts h.1) (λ us k. (tt, k)) (λ vs. tt))

    gathered_scoped : (got : Got) (levels : Levels) (now : Quals) → AreQualsScoped [] now → AreLevelsScoped [] levels → Each (IsScoped []) (gathered w got levels now)
    gathered_scoped got levels turn h l = turned_scoped got levels l
    gathered_scoped got levels (give t) h l = lift_each (IsScoped []) (IsScoped []) (collect got levels) (λ u. Gather got (give u) levels) (step w t) (step_scoped t h) (λ u k. (k, l)) (λ v. collect_scoped got levels v l)
    gathered_scoped got levels (from t g qs) h l =
        lift_each (IsScoped []) (IsScoped []) (λ v. generated got qs levels v (rows_of (setting w) g v)) (λ u. Gather got (from u g qs) levels) (step w t) (step_scoped t h.0) (λ u k. ((k, h.1, h.2, h.3), l)) (λ v. generated_scoped got g qs levels v h.3 l)
    gathered_scoped got levels (test t qs) h l =
        lift_each (IsScoped []) (IsScoped []) (λ v. filtered got qs levels v (truth_of v)) (λ u. Gather got (test u qs) levels) (step w t) (step_scoped t h.0) (λ u k. ((k, h.1), l)) (λ v. filtered_scoped got qs levels v (truth_of v) h.1 l)

-- of a course
charged_scoped : (b : Bool) (l : Local) (cost made : ℕ) (course : Course) → IsCourseScoped course → IsNextScoped (charged b l cost made course)
charged_scoped true l cost made course h = tt
charged_scoped false l cost made course h = h

left_scoped : (left : ℕ) (l : Local) (next : Next) → IsNextScoped next → IsNextScoped (if_left left l next)
left_scoped zero l next h = tt
left_scoped (suc left) l next h = h

abbrev SeenScoped : Seen → Type 0
SeenScoped (SeenTakes body others) = IsScoped [] body
SeenScoped NoMessage = Unit {0}
SeenScoped SeenLimit = Unit {0}

kept_scoped : (v : Value) (seen : Seen) → SeenScoped seen → SeenScoped (kept_before v seen)
kept_scoped v (SeenTakes body others) h = h
kept_scoped v NoMessage h = tt
kept_scoped v SeenLimit h = tt

takes_scoped : (p : Picked) (v : Value) (vs : List Value) (later : Seen) → PickedScoped p → SeenScoped later → SeenScoped (takes p v vs later)
takes_scoped (Body t) v vs later h g = h
takes_scoped NoClause v vs later h g = kept_scoped v later g
takes_scoped PickLimit v vs later h g = tt

looked_scoped : (w : World) (cs : Clauses) (vs : List Value) → AreClausesScoped [] cs → SeenScoped (looked w cs vs)
looked_scoped w cs [] h = tt
looked_scoped w cs (v ∷ vs) h = takes_scoped (picked (setting w) cs (more v none)) v vs (looked w cs vs) (picked_scoped (setting w) cs (more v none) h) (looked_scoped w cs vs h)

module _ (code : Module) (l : Local) where
  -- a state that asks for more messages goes on as it is
  seen_scoped : (next : Tree → Tree) (seen : Seen) → ((t : Tree) → IsScoped [] t → IsScoped [] (next t)) → SeenScoped seen → IsCourseScoped l.course → IsNextScoped (of_seen l next seen)
  seen_scoped next (SeenTakes body others) h g k = h body g
  seen_scoped next NoMessage h g k = left_scoped l.left l (ForMore (record l { left = l.left - 1 })) k
  seen_scoped next SeenLimit h g k = tt

  ended_scoped : (stop : Stop) → IsNextScoped (ended stop)
  ended_scoped Limit = tt
  ended_scoped (Raise reason) = cases (is_normal reason)
    where
      cases : (b : Bool) → IsNextScoped (raised_where b reason)
      cases true = tt
      cases false = tt

  step_stays : (s : Step Value Tree) → Each (IsScoped []) s → IsCourseScoped l.course → IsNextScoped (of_step code l s)
  step_stays (Ready v) h k = tt
  step_stays (Goes cost made t) h k = charged_scoped (nat_lt l.left cost) l cost made (At t) h
  step_stays (Falls cost stop) h k = charged_scoped (nat_lt l.left cost) l cost 0 (Fell stop) tt
  step_stays (Asks ask next) h k = left_scoped l.left l (Asking ask (λ answer. record l { course = At (next answer); left = l.left - 1 })) h
  step_stays (Looks cs next) h k = seen_scoped next (looked (world code l) cs l.seen) h.1 (looked_scoped (world code l) cs l.seen h.0) k

  course_stays : (course : Course) → IsModuleScoped code → IsCourseScoped course → IsCourseScoped l.course → IsNextScoped (of_course code l course)
  course_stays (At t) m h k = step_stays (step (world code l) t) (step_scoped (world code l) m t h) k
  course_stays (Fell stop) m h k = ended_scoped stop

  pub next_scoped : IsModuleScoped code → IsCourseScoped l.course → IsNextScoped (next_of code l)
  next_scoped m h = course_stays l.course m h h
