-- A contraction without cost makes an expression smaller.
use Rattle.std.proofs.Common.{ℕ, zero, suc, Bool, true, false, ◌+◌, ◌<◌, ◌≤◌, List, [], ◌∷◌, ◌++◌, Option, Some, None, arith}
use Rattle.std.specs.Prelude.{slice_get}
use Rattle.term_value.specs.Value.{Value, VInt, VAtom, VPid, VTuple, VList, VBits, Values, none, more, row}
use Rattle.term_value.specs.Result.{Stop, Result, Gives, Stops, truth_of}
use Rattle.term_value.specs.Bounds.{within}
use Rattle.term_value.specs.Primitives.{prim}
use Rattle.term_value.specs.Tree.{Bound, Form, Table, Call, Send, Display, Spawn, Row, Found, Skipped, RowLimit, Got, Items, Bits, Tree, Val, Var, All, First, Choose, Receive, Gather, Trees, end, and, Shut, Then, Last, Alts, AndAlso, OrElse, Quals, turn, give, from, test, Levels, bottom, level, Function}
use Rattle.term_value.specs.PutIn.{put_in}
use Rattle.term_value.specs.Match.{Matched, Yes, No, MatchLimit, all_matched, Picked, Body, NoClause, PickLimit, picked}
use Rattle.term_value.specs.Rows.{rows_of}
use Rattle.term_value.specs.Step.{World, setting, Step, Ready, Goes, Falls, Asks, Looks, lift, of_result, of_picked, entered, sent, displayed, spawned, acted, of_match, second_at, opened, collected_where, collect, generated, filtered, turned, step, steps, gathered}
use Rattle.term_value.specs.AskOf.{size_of, sizes_of, size_of_shut, size_of_clauses, size_of_quals, size_of_levels}
use Rattle.term_laws.proofs.Smaller.{put_small, AtMost, picked_small}

-- what it becomes without cost is smaller than n; so is what a receive goes on with
abbrev pub Shrinks : {V T : Type 0} → (T → ℕ) → ℕ → Step V T → Type 0
Shrinks m n (Ready v) = Unit {0}
Shrinks m n (Goes zero made t) = m t < n
Shrinks m n (Goes (suc cost) made t) = Unit {0}
Shrinks m n (Falls cost stop) = Unit {0}
Shrinks m n (Asks ask next) = Unit {0}
Shrinks m n (Looks cs next) = (t : Tree) → size_of t ≤ size_of_clauses cs → m (next t) < n

lift_shrinks : {V W T U : Type 0} (mt : T → ℕ) (mu : U → ℕ) (k n : ℕ) (ready : V → Step W U) (around : T → U) (r : Step V T)
    → Shrinks mt k r → ((t : T) → mt t < k → mu (around t) < n) → ((v : V) → Shrinks mu n (ready v)) → Shrinks mu n (lift ready around r)
lift_shrinks mt mu k n ready around (Ready v) s g h = h v
lift_shrinks mt mu k n ready around (Goes zero made t) s g h = g t s
lift_shrinks mt mu k n ready around (Goes (suc cost) made t) s g h = tt
lift_shrinks mt mu k n ready around (Falls cost stop) s g h = tt
lift_shrinks mt mu k n ready around (Asks ask next) s g h = tt
lift_shrinks mt mu k n ready around (Looks cs next) s g h = λ t le. g (next t) (s t le)

result_shrinks : (n : ℕ) (r : Result) → 1 < n → Shrinks size_of n (of_result r)
result_shrinks n (Gives v) h = h
result_shrinks n (Stops stop) h = tt

call_shrinks : (n : ℕ) (stop : Stop) (p : Picked) → Shrinks size_of n (of_picked 1 stop p)
call_shrinks n stop (Body t) = tt
call_shrinks n stop NoClause = tt
call_shrinks n stop PickLimit = tt

pick_shrinks : (n k : ℕ) (stop : Stop) (p : Picked) → AtMost k p → k < n → Shrinks size_of n (of_picked 0 stop p)
pick_shrinks n k stop (Body t) h g = omega (arith, h, g)
pick_shrinks n k stop NoClause h g = tt
pick_shrinks n k stop PickLimit h g = tt

entered_shrinks : (n : ℕ) (w : World) (o : Option Function) (vs : Values) → Shrinks size_of n (entered w o vs)
entered_shrinks n w None vs = tt
entered_shrinks n w (Some f) vs = call_shrinks n _ (picked (setting w) f.clauses vs)

sent_shrinks : (n : ℕ) (vs : Values) → Shrinks size_of n (sent vs)
sent_shrinks n none = tt
sent_shrinks n (more (VInt x) vs) = tt
sent_shrinks n (more (VAtom x) vs) = tt
sent_shrinks n (more (VPid x) none) = tt
sent_shrinks n (more (VPid x) (more v none)) = tt
sent_shrinks n (more (VPid x) (more v (more u vs))) = tt
sent_shrinks n (more (VTuple x) vs) = tt
sent_shrinks n (more (VList x) vs) = tt
sent_shrinks n (more (VBits x) vs) = tt

displayed_shrinks : (n : ℕ) (vs : Values) → Shrinks size_of n (displayed vs)
displayed_shrinks n none = tt
displayed_shrinks n (more v none) = tt
displayed_shrinks n (more v (more u vs)) = tt

arguments_shrink : (n m f : ℕ) (vs : Values) → Shrinks size_of n (spawned (more (VAtom m) (more (VAtom f) vs)))
arguments_shrink n m f none = tt
arguments_shrink n m f (more (VInt x) vs) = tt
arguments_shrink n m f (more (VAtom x) vs) = tt
arguments_shrink n m f (more (VPid x) vs) = tt
arguments_shrink n m f (more (VTuple x) vs) = tt
arguments_shrink n m f (more (VList x) none) = tt
arguments_shrink n m f (more (VList x) (more v vs)) = tt
arguments_shrink n m f (more (VBits x) vs) = tt

spawned_shrinks : (n : ℕ) (vs : Values) → Shrinks size_of n (spawned vs)
spawned_shrinks n none = tt
spawned_shrinks n (more (VInt x) vs) = tt
spawned_shrinks n (more (VAtom x) none) = tt
spawned_shrinks n (more (VAtom x) (more (VInt y) vs)) = tt
spawned_shrinks n (more (VAtom x) (more (VAtom y) vs)) = arguments_shrink n x y vs
spawned_shrinks n (more (VAtom x) (more (VPid y) vs)) = tt
spawned_shrinks n (more (VAtom x) (more (VTuple y) vs)) = tt
spawned_shrinks n (more (VAtom x) (more (VList y) vs)) = tt
spawned_shrinks n (more (VAtom x) (more (VBits y) vs)) = tt
spawned_shrinks n (more (VPid x) vs) = tt
spawned_shrinks n (more (VTuple x) vs) = tt
spawned_shrinks n (more (VList x) vs) = tt
spawned_shrinks n (more (VBits x) vs) = tt

acted_shrinks : (n : ℕ) (w : World) (form : Form) (vs : Values) → 1 < n → Shrinks size_of n (acted w form vs)
acted_shrinks n w (Table p) vs h = result_shrinks n (prim (setting w) p vs) h
acted_shrinks n w (Call f) vs h = entered_shrinks n w (slice_get w.code.functions f) vs
acted_shrinks n w Send vs h = sent_shrinks n vs
acted_shrinks n w Display vs h = displayed_shrinks n vs
acted_shrinks n w Spawn vs h = spawned_shrinks n vs

match_shrinks : (n : ℕ) (v : Value) (next : List Bound → Tree) (m : Matched) → ((bs : List Bound) → size_of (next bs) < n) → Shrinks size_of n (of_match v next m)
match_shrinks n v next (Yes bs) h = h bs
match_shrinks n v next No h = tt
match_shrinks n v next MatchLimit h = tt

second_shrinks : (n : ℕ) (b : Bool) (t : Tree) (v : Value) (o : Option Bool) → size_of t < n → 1 < n → Shrinks size_of n (second_at b t v o)
second_shrinks n true t v (Some true) h g = h
second_shrinks n true t v (Some false) h g = g
second_shrinks n false t v (Some true) h g = g
second_shrinks n false t v (Some false) h g = h
second_shrinks n true t v None h g = tt
second_shrinks n false t v None h g = tt

opened_shrinks : (n : ℕ) (w : World) (rest : Shut) (v : Value) → size_of_shut rest < n → 1 < n → Shrinks size_of n (opened w rest v)
opened_shrinks n w (Then ps t) v h g = match_shrinks n v (λ bs. put_in bs t) (all_matched (setting w) ps v []) (λ bs. omega (arith, put_small bs t, h))
opened_shrinks n w (Last ps) v h g = match_shrinks n v (λ bs. Val v) (all_matched (setting w) ps v []) (λ bs. g)
opened_shrinks n w (Alts cs) v h g = pick_shrinks n (size_of_clauses cs) _ (picked (setting w) cs (more v none)) (picked_small (setting w) cs (more v none)) h
opened_shrinks n w (AndAlso t) v h g = second_shrinks n true t v (truth_of v) h g
opened_shrinks n w (OrElse t) v h g = second_shrinks n false t v (truth_of v) h g

where_shrinks : (n : ℕ) (levels : Levels) (r : Result) (got : Got) → size_of_levels levels + 2 < n → Shrinks size_of n (collected_where levels r got)
where_shrinks n levels (Gives v) got h = omega (arith, h)
where_shrinks n levels (Stops stop) got h = tt

collect_shrinks : (n : ℕ) (got : Got) (levels : Levels) (v : Value) → size_of_levels levels + 2 < n → Shrinks size_of n (collect got levels v)
collect_shrinks n (Items vs) levels v h = where_shrinks n levels (within (VList (row (vs ++ v ∷ [])))) (Items (vs ++ v ∷ [])) h
collect_shrinks n (Bits bits) levels (VBits more_bits) h = where_shrinks n levels (within (VBits (bits ++ more_bits))) (Bits (bits ++ more_bits)) h
collect_shrinks n (Bits bits) levels (VInt x) h = tt
collect_shrinks n (Bits bits) levels (VAtom x) h = tt
collect_shrinks n (Bits bits) levels (VPid x) h = tt
collect_shrinks n (Bits bits) levels (VTuple x) h = tt
collect_shrinks n (Bits bits) levels (VList x) h = tt

generated_shrinks : (n : ℕ) (got : Got) (qs : Quals) (levels : Levels) (v : Value) (o : Option (List Row)) → size_of_quals qs + size_of_levels levels + 3 < n → Shrinks size_of n (generated got qs levels v o)
generated_shrinks n got qs levels v (Some rows) h = omega (arith, h)
generated_shrinks n got qs levels v None h = tt

filtered_shrinks : (n : ℕ) (got : Got) (qs : Quals) (levels : Levels) (v : Value) (o : Option Bool) → size_of_quals qs + size_of_levels levels + 3 < n → Shrinks size_of n (filtered got qs levels v o)
filtered_shrinks n got qs levels v (Some true) h = omega (arith, h)
filtered_shrinks n got qs levels v (Some false) h = omega (arith, h)
filtered_shrinks n got qs levels v None h = tt

turned_shrinks : (n : ℕ) (got : Got) (levels : Levels) → size_of_levels levels + 1 < n → Shrinks size_of n (turned got levels)
turned_shrinks n got bottom h = omega (arith, h)
turned_shrinks n got (level [] qs levels) h = omega (arith, h)
turned_shrinks n got (level (Found bs ∷ rows) qs levels) h = tt
turned_shrinks n got (level (Skipped ∷ rows) qs levels) h = tt
turned_shrinks n got (level (RowLimit ∷ rows) qs levels) h = tt

size_some : (t : Tree) → 0 < size_of t
size_some (Val v) = omega arith
size_some (Var x) = omega arith
size_some (All form ts) = omega arith
size_some (First t rest) = omega arith
size_some (Choose cs) = omega arith
size_some (Receive cs) = omega arith
size_some (Gather got now levels) = omega arith

mutual
  pub step_shrinks : (w : World) (t : Tree) → Shrinks size_of (size_of t) (step w t)
  step_shrinks w (Val v) = tt
  step_shrinks w (Var x) = tt
  step_shrinks w (All form ts) = lift_shrinks sizes_of size_of (sizes_of ts) (sizes_of ts + 2) (acted w form) (All form) (steps w ts) (steps_shrink w ts) (λ us lt. omega (arith, lt)) (λ vs. acted_shrinks (sizes_of ts + 2) w form vs (omega arith))
  step_shrinks w (First t rest) = lift_shrinks size_of size_of (size_of t) (size_of t + size_of_shut rest + 2) (opened w rest) (λ u. First u rest) (step w t) (step_shrinks w t) (λ u lt. omega (arith, lt)) (λ v. opened_shrinks (size_of t + size_of_shut rest + 2) w rest v (omega arith) (omega arith))
  step_shrinks w (Choose cs) = pick_shrinks (size_of_clauses cs + 2) (size_of_clauses cs) _ (picked (setting w) cs none) (picked_small (setting w) cs none) (omega arith)
  step_shrinks w (Receive cs) = λ t le. omega (arith, le)
  step_shrinks w (Gather got now levels) = gathered_shrinks w got levels now

  pub steps_shrink : (w : World) (ts : Trees) → Shrinks sizes_of (sizes_of ts) (steps w ts)
  steps_shrink w end = tt
  steps_shrink w (and t ts) = lift_shrinks size_of sizes_of (size_of t) (size_of t + sizes_of ts) (λ v. lift (λ vs. Ready (more v vs)) (and (Val v)) (steps w ts)) (λ u. and u ts) (step w t) (step_shrinks w t) (λ u lt. omega (arith, lt))
      (λ v. lift_shrinks sizes_of sizes_of (sizes_of ts) (size_of t + sizes_of ts) (λ vs. Ready (more v vs)) (and (Val v)) (steps w ts) (steps_shrink w ts) (λ us lt. omega (arith, lt, size_some t)) (λ vs. tt))

  pub gathered_shrinks : (w : World) (got : Got) (levels : Levels) (qs : Quals) → Shrinks size_of (size_of_quals qs + size_of_levels levels + 2) (gathered w got levels qs)
  gathered_shrinks w got levels turn = turned_shrinks (size_of_quals turn + size_of_levels levels + 2) got levels (omega arith)
  gathered_shrinks w got levels (give t) = lift_shrinks size_of size_of (size_of t) (size_of t + 2 + size_of_levels levels + 2) (collect got levels) (λ u. Gather got (give u) levels) (step w t) (step_shrinks w t) (λ u lt. omega (arith, lt)) (λ v. collect_shrinks (size_of t + 2 + size_of_levels levels + 2) got levels v (omega (arith, size_some t)))
  gathered_shrinks w got levels (from t g qs) = lift_shrinks size_of size_of (size_of t) (size_of t + size_of_quals qs + 2 + size_of_levels levels + 2) (λ v. generated got qs levels v (rows_of (setting w) g v)) (λ u. Gather got (from u g qs) levels) (step w t) (step_shrinks w t) (λ u lt. omega (arith, lt)) (λ v. generated_shrinks (size_of t + size_of_quals qs + 2 + size_of_levels levels + 2) got qs levels v (rows_of (setting w) g v) (omega (arith, size_some t)))
  gathered_shrinks w got levels (test t qs) = lift_shrinks size_of size_of (size_of t) (size_of t + size_of_quals qs + 2 + size_of_levels levels + 2) (λ v. filtered got qs levels v (truth_of v)) (λ u. Gather got (test u qs) levels) (step w t) (step_shrinks w t) (λ u lt. omega (arith, lt)) (λ v. filtered_shrinks (size_of t + size_of_quals qs + 2 + size_of_levels levels + 2) got qs levels v (truth_of v) (omega (arith, size_some t)))
