-- Contractions keep a property of all values.
use Rattle.std.proofs.Common.{◌≡◌, ℕ, zero, suc, Bool, true, false, List, [], ◌∷◌, ◌++◌, Option, Some, None, refl, subst}
use Rattle.std.specs.Prelude.{slice_get, nat_lt}
use Rattle.term_value.specs.Value.{Value, VInt, VAtom, VPid, VTuple, VList, VBits, Values, none, more, row}
use Rattle.term_value.specs.Result.{Stop, Raise, Limit, Result, Gives, Stops, truth_of}
use Rattle.term_value.specs.Bounds.{is_within, value_or_limit}
use Rattle.term_value.specs.Primitives.{prim}
use Rattle.term_value.specs.Tree.{Bound, Form, Table, Call, Send, Display, Spawn, Row, Found, Skipped, RowLimit, Got, Items, Bits, Tree, Val, Var, All, First, Choose, Receive, Gather, Trees, end, and, Shut, Then, Last, Alts, AndAlso, OrElse, Clauses, Quals, turn, give, from, test, Levels, bottom, level, Function, Module}
use Rattle.term_value.specs.PutIn.{put_in}
use Rattle.term_value.specs.Match.{Matched, Yes, No, MatchLimit, all_matched, Picked, Body, NoClause, PickLimit, picked}
use Rattle.term_value.specs.Rows.{rows_of}
use Rattle.term_value.specs.Step.{World, setting, Ask, Step, Ready, Goes, Falls, Asks, Looks, lift, of_result, of_picked, entered, sent, displayed, spawned, acted, of_match, second_at, opened, collected, collected_by, collect_by, collect, generated, filtered, turned, step, steps, gathered}
use Rattle.term_value.specs.Local.{Local, Course, At, Fell, world, Seen, Takes, NoMessage, SeenLimit, kept_before, takes, looked, charged, Next, On, Asking, ForMore, Done, Raised, is_normal, raised_where, ended, if_left, of_seen, of_step, of_course, next_of, NextAsk, Wants, WantsMore, EndsDone, EndsRaised, Unfinished, asked, Contracts, stands, contracts}
use Rattle.term_laws.specs.Inside.{EachValue, EachOf, EachBound, EachRow, InRow, InGot, InTree, InTrees, InShut, InClauses, InQuals, InLevels, EachFunction, InModule, InCourse, InLocal, InAsk, OfResult, IsKept}
use Rattle.term_laws.proofs.KeptPut.{put_kept, quals_kept}
use Rattle.term_laws.proofs.KeptMatch.{OfMatched, OfPicked, OfRows, all_kept, picked_kept, rows_kept}

-- what a step gives, what it asks, and what it goes on with
abbrev OfStep : {V T : Type 0} → (Value → Type 0) → (V → Type 0) → (T → Type 0) → Step V T → Type 0
OfStep P Q R (Ready v) = Q v
OfStep P Q R (Goes cost made t) = R t
OfStep P Q R (Falls cost stop) = Unit {0}
OfStep P Q R (Asks ask next) = InAsk P ask × ((v : Value) → P v → R (next v))
OfStep P Q R (Looks cs next) = InClauses P cs × ((t : Tree) → InTree P t → R (next t))

abbrev OfFunction : (Value → Type 0) → Option Function → Type 0
OfFunction P None = Unit {0}
OfFunction P (Some f) = InClauses P f.clauses

abbrev OfSeen : (Value → Type 0) → Seen → Type 0
OfSeen P (Takes body others) = InTree P body × EachOf P others
OfSeen P NoMessage = Unit {0}
OfSeen P SeenLimit = Unit {0}

abbrev pub OfNext : (Value → Type 0) → Next → Type 0
OfNext P (On cost made l) = InLocal P l
OfNext P (Asking ask next) = InAsk P ask × ((v : Value) → P v → InLocal P (next v))
OfNext P (ForMore l) = InLocal P l
OfNext P Done = Unit {0}
OfNext P (Raised reason) = Unit {0}

module _ (P : Value → Type 0) (kept : IsKept P) where
  lift_kept : {V W T U : Type 0} (Q : V → Type 0) (R : T → Type 0) (S : W → Type 0) (X : U → Type 0) (ready : V → Step W U) (around : T → U) (r : Step V T)
      → OfStep P Q R r → ((v : V) → Q v → OfStep P S X (ready v)) → ((t : T) → R t → X (around t)) → OfStep P S X (lift ready around r)
  lift_kept Q R S X ready around (Ready v) h f g = f v h
  lift_kept Q R S X ready around (Goes cost made t) h f g = g t h
  lift_kept Q R S X ready around (Falls cost stop) h f g = tt
  lift_kept Q R S X ready around (Asks ask next) h f g = (h.0, λ v i. g (next v) (h.1 v i))
  lift_kept Q R S X ready around (Looks cs next) h f g = (h.0, λ t i. g (next t) (h.1 t i))

  result_kept : (r : Result) → OfResult P r → OfStep P P (InTree P) (of_result r)
  result_kept (Gives v) h = h
  result_kept (Stops stop) h = tt

  pick_kept : (cost : ℕ) (stop : Stop) (p : Picked) → OfPicked P p → OfStep P P (InTree P) (of_picked cost stop p)
  pick_kept cost stop (Body t) h = h
  pick_kept cost stop NoClause h = tt
  pick_kept cost stop PickLimit h = tt

  function_kept : (fs : List Function) (i : ℕ) → EachFunction P fs → OfFunction P (slice_get fs i)
  function_kept [] i h = tt
  function_kept (f ∷ fs) zero h = h.0
  function_kept (f ∷ fs) (suc i) h = function_kept fs i h.1

  entered_kept : (w : World) (o : Option Function) (vs : Values) → OfFunction P o → EachValue P vs → OfStep P P (InTree P) (entered w o vs)
  entered_kept w None vs h g = tt
  entered_kept w (Some f) vs h g = pick_kept 1 _ (picked (setting w) f.clauses vs) (picked_kept P kept (setting w) f.clauses vs h g)

  sent_kept : (vs : Values) → EachValue P vs → OfStep P P (InTree P) (sent vs)
  sent_kept (more (VPid to) (more v none)) h = (h.1.0, λ answer i. i)
  sent_kept _ h = tt

  displayed_kept : (vs : Values) → EachValue P vs → OfStep P P (InTree P) (displayed vs)
  displayed_kept (more v none) h = (h.0, λ answer i. i)
  displayed_kept _ h = tt

  spawned_kept : (vs : Values) → EachValue P vs → OfStep P P (InTree P) (spawned vs)
  spawned_kept (more (VAtom m) (more (VAtom f) (more (VList vs) none))) h = (kept.lists vs h.1.1.0, λ answer i. i)
  spawned_kept _ h = tt

  acted_kept : (w : World) (form : Form) (vs : Values) → InModule P w.code → EachValue P vs → OfStep P P (InTree P) (acted w form vs)
  acted_kept w (Table p) vs m h = result_kept (prim (setting w) p vs) (kept.prims (setting w) p vs h)
  acted_kept w (Call f) vs m h = entered_kept w (slice_get w.code.functions f) vs (function_kept w.code.functions f m) h
  acted_kept w Send vs m h = sent_kept vs h
  acted_kept w Display vs m h = displayed_kept vs h
  acted_kept w Spawn vs m h = spawned_kept vs h

  match_kept : (v : Value) (next : List Bound → Tree) (m : Matched) → OfMatched P m → ((bs : List Bound) → EachBound P bs → InTree P (next bs)) → OfStep P P (InTree P) (of_match v next m)
  match_kept v next (Yes bs) h g = g bs h
  match_kept v next No h g = tt
  match_kept v next MatchLimit h g = tt

  second_kept : (b : Bool) (t : Tree) (v : Value) (o : Option Bool) → InTree P t → P v → OfStep P P (InTree P) (second_at b t v o)
  second_kept true t v (Some true) h g = h
  second_kept true t v (Some false) h g = g
  second_kept false t v (Some true) h g = g
  second_kept false t v (Some false) h g = h
  second_kept true t v None h g = tt
  second_kept false t v None h g = tt

  opened_kept : (w : World) (rest : Shut) (v : Value) → InShut P rest → P v → OfStep P P (InTree P) (opened w rest v)
  opened_kept w (Then ps t) v h g = match_kept v (λ bs. put_in bs t) (all_matched (setting w) ps v []) (all_kept P kept (setting w) ps v [] g tt) (λ bs i. put_kept P bs t i h.1)
  opened_kept w (Last ps) v h g = match_kept v (λ bs. Val v) (all_matched (setting w) ps v []) (all_kept P kept (setting w) ps v [] g tt) (λ bs i. g)
  opened_kept w (Alts cs) v h g = pick_kept 0 _ (picked (setting w) cs (more v none)) (picked_kept P kept (setting w) cs (more v none) h (g, tt))
  opened_kept w (AndAlso t) v h g = second_kept true t v (truth_of v) h g
  opened_kept w (OrElse t) v h g = second_kept false t v (truth_of v) h g

  got_kept : (b : Bool) (v : Value) (got : Got) (levels : Levels) → (b ≡ true → InGot P got) → InLevels P levels → OfStep P P (InTree P) (collected_by (λ g. Gather g turn levels) (value_or_limit b v) got)
  got_kept true v got levels h g = (h refl, tt, g)
  got_kept false v got levels h g = tt

  collect_kept : (got : Got) (levels : Levels) (v : Value) → InGot P got → InLevels P levels → P v → OfStep P P (InTree P) (collect got levels v)
  collect_kept (Items vs) levels v h g i = got_kept (is_within (VList (row (vs ++ v ∷ [])))) (VList (row (vs ++ v ∷ []))) (Items (vs ++ v ∷ [])) levels (kept.longer vs v h i) g
  collect_kept (Bits bits) levels (VBits more_bits) h g i = got_kept (is_within (VBits (bits ++ more_bits))) (VBits (bits ++ more_bits)) (Bits (bits ++ more_bits)) levels (kept.bits (bits ++ more_bits)) g
  collect_kept (Bits bits) levels _ h g i = tt

  generated_kept : (got : Got) (qs : Quals) (levels : Levels) (v : Value) (o : Option (List Row)) → InGot P got → InQuals P qs → InLevels P levels → OfRows P o → OfStep P P (InTree P) (generated got qs levels v o)
  generated_kept got qs levels v (Some rows) h g i r = (h, tt, (r, g, i))
  generated_kept got qs levels v None h g i r = tt

  filtered_kept : (got : Got) (qs : Quals) (levels : Levels) (v : Value) (o : Option Bool) → InGot P got → InQuals P qs → InLevels P levels → OfStep P P (InTree P) (filtered got qs levels v o)
  filtered_kept got qs levels v (Some true) h g i = (h, g, i)
  filtered_kept got qs levels v (Some false) h g i = (h, tt, i)
  filtered_kept got qs levels v None h g i = tt

  collected_kept : (got : Got) → InGot P got → P (collected got)
  collected_kept (Items vs) h = h
  collected_kept (Bits bits) h = h

  turned_kept : (got : Got) (levels : Levels) → InGot P got → InLevels P levels → OfStep P P (InTree P) (turned got levels)
  turned_kept got bottom h g = collected_kept got h
  turned_kept got (level [] qs levels) h g = (h, tt, g.2)
  turned_kept got (level (Found bs ∷ rows) qs levels) h g = (h, quals_kept P bs qs g.0.0 g.1, (g.0.1, g.1, g.2))
  turned_kept got (level (Skipped ∷ rows) qs levels) h g = (h, tt, (g.0.1, g.1, g.2))
  turned_kept got (level (RowLimit ∷ rows) qs levels) h g = tt

  mutual
    pub step_kept : (w : World) (t : Tree) → InModule P w.code → InTree P t → OfStep P P (InTree P) (step w t)
    step_kept w (Val v) m h = h
    step_kept w (Var x) m h = tt
    step_kept w (All form ts) m h = lift_kept (EachValue P) (InTrees P) P (InTree P) (acted w form) (All form) (steps w ts) (steps_kept w ts m h) (λ vs i. acted_kept w form vs m i) (λ us i. i)
    step_kept w (First t rest) m h = lift_kept P (InTree P) P (InTree P) (opened w rest) (λ u. First u rest) (step w t) (step_kept w t m h.0) (λ v i. opened_kept w rest v h.1 i) (λ u i. (i, h.1))
    step_kept w (Choose cs) m h = pick_kept 0 _ (picked (setting w) cs none) (picked_kept P kept (setting w) cs none h tt)
    step_kept w (Receive cs) m h = (h, λ t i. i)
    step_kept w (Gather got now levels) m h = gathered_kept w got levels now m h.0 h.2 h.1

    pub steps_kept : (w : World) (ts : Trees) → InModule P w.code → InTrees P ts → OfStep P (EachValue P) (InTrees P) (steps w ts)
    steps_kept w end m h = tt
    steps_kept w (and t ts) m h = lift_kept P (InTree P) (EachValue P) (InTrees P) (λ v. lift (λ vs. Ready (more v vs)) (and (Val v)) (steps w ts)) (λ u. and u ts) (step w t) (step_kept w t m h.0)
        (λ v i. lift_kept (EachValue P) (InTrees P) (EachValue P) (InTrees P) (λ vs. Ready (more v vs)) (and (Val v)) (steps w ts) (steps_kept w ts m h.1) (λ vs j. (i, j)) (λ us j. (i, j)))
        (λ u i. (i, h.1))

    pub gathered_kept : (w : World) (got : Got) (levels : Levels) (qs : Quals) → InModule P w.code → InGot P got → InLevels P levels → InQuals P qs → OfStep P P (InTree P) (gathered w got levels qs)
    gathered_kept w got levels turn m g i h = turned_kept got levels g i
    gathered_kept w got levels (give t) m g i h = lift_kept P (InTree P) P (InTree P) (collect got levels) (λ u. Gather got (give u) levels) (step w t) (step_kept w t m h) (λ v j. collect_kept got levels v g i j) (λ u j. (g, j, i))
    gathered_kept w got levels (from t generator qs) m g i h = lift_kept P (InTree P) P (InTree P) (λ v. generated got qs levels v (rows_of (setting w) generator v)) (λ u. Gather got (from u generator qs) levels) (step w t) (step_kept w t m h.0)
        (λ v j. generated_kept got qs levels v (rows_of (setting w) generator v) g h.2 i (rows_kept P kept (setting w) generator v j)) (λ u j. (g, (j, h.1, h.2), i))
    gathered_kept w got levels (test t qs) m g i h = lift_kept P (InTree P) P (InTree P) (λ v. filtered got qs levels v (truth_of v)) (λ u. Gather got (test u qs) levels) (step w t) (step_kept w t m h.0)
        (λ v j. filtered_kept got qs levels v (truth_of v) g h.1 i) (λ u j. (g, (j, h.1), i))

  -- ---- A local state

  later_kept : (v : Value) (s : Seen) → P v → OfSeen P s → OfSeen P (kept_before v s)
  later_kept v (Takes body others) h g = (g.0, (h, g.1))
  later_kept v NoMessage h g = tt
  later_kept v SeenLimit h g = tt

  takes_kept : (p : Picked) (v : Value) (vs : List Value) (later : Seen) → OfPicked P p → P v → EachOf P vs → OfSeen P later → OfSeen P (takes p v vs later)
  takes_kept (Body t) v vs later h g i j = (h, i)
  takes_kept NoClause v vs later h g i j = later_kept v later g j
  takes_kept PickLimit v vs later h g i j = tt

  looked_kept : (w : World) (cs : Clauses) (vs : List Value) → InClauses P cs → EachOf P vs → OfSeen P (looked w cs vs)
  looked_kept w cs [] h g = tt
  looked_kept w cs (v ∷ vs) h g = takes_kept (picked (setting w) cs (more v none)) v vs (looked w cs vs) (picked_kept P kept (setting w) cs (more v none) h (g.0, tt)) g.0 g.1 (looked_kept w cs vs h g.1)

  charged_kept : (b : Bool) (l : Local) (cost made : ℕ) (course : Course) → InLocal P l → InCourse P course → OfNext P (charged b l cost made course)
  charged_kept true l cost made course h g = (tt, h.1)
  charged_kept false l cost made course h g = (g, h.1)

  left_kept : (n : ℕ) (l : Local) (next : Next) → InLocal P l → OfNext P next → OfNext P (if_left n l next)
  left_kept zero l next h g = (tt, h.1)
  left_kept (suc n) l next h g = g

  seen_kept : (l : Local) (next : Tree → Tree) (s : Seen) → InLocal P l → OfSeen P s → ((t : Tree) → InTree P t → InTree P (next t)) → OfNext P (of_seen l next s)
  seen_kept l next (Takes body others) h g i = (i body g.0, g.1)
  seen_kept l next NoMessage h g i = left_kept l.left l _ h (h.0, h.1)
  seen_kept l next SeenLimit h g i = (tt, h.1)

  one_kept : (code : Module) (l : Local) (s : Step Value Tree) → InLocal P l → OfStep P P (InTree P) s → OfNext P (of_step code l s)
  one_kept code l (Ready v) h g = tt
  one_kept code l (Goes cost made t) h g = charged_kept (nat_lt l.left cost) l cost made (At t) h g
  one_kept code l (Falls cost stop) h g = charged_kept (nat_lt l.left cost) l cost 0 (Fell stop) h tt
  one_kept code l (Asks ask next) h g = left_kept l.left l _ h (g.0, λ v i. (g.1 v i, h.1))
  one_kept code l (Looks cs next) h g = seen_kept l next (looked (world code l) cs l.seen) h (looked_kept (world code l) cs l.seen g.0 h.1) g.1

  raised_kept : (b : Bool) (reason : Value) → OfNext P (raised_where b reason)
  raised_kept true reason = tt
  raised_kept false reason = tt

  ended_kept : (stop : Stop) → OfNext P (ended stop)
  ended_kept Limit = tt
  ended_kept (Raise reason) = raised_kept (is_normal reason) reason

  course_kept : (code : Module) (l : Local) (course : Course) → InModule P code → InLocal P l → InCourse P course → OfNext P (of_course code l course)
  course_kept code l (At t) m h g = one_kept code l (step (world code l) t) h (step_kept (world code l) t m g)
  course_kept code l (Fell stop) m h g = ended_kept stop

  pub next_kept : (code : Module) (l : Local) → InModule P code → InLocal P l → OfNext P (next_of code l)
  next_kept code l m h = course_kept code l l.course m h h.0

  pub contracts_kept : (code : Module) (l k : Local) (cost made : ℕ) → InModule P code → Contracts code l cost made k → InLocal P l → InLocal P k
  contracts_kept code _ _ _ _ m (stands l) h = h
  contracts_kept code _ _ _ _ m (contracts l mid k cost made costs mades goes path) h = contracts_kept code mid k costs mades m path (subst (OfNext P) goes (next_kept code l m h))
