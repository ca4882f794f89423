-- What an order comes to, entry by entry.
use Rattle.std.proofs.Common.{◌≡◌, ℕ, suc, ◌+◌, ◌<◌, ◌≤◌, ◌&&◌, Bool, true, false, List, [], ◌∷◌, ◌++◌, length, take, drop, Option, Some, None, refl, sym, ap, ◌∙◌, subst, arith}
use Rattle.std.specs.Prelude.{slice_index_or}
use Rattle.std.specs.Option.{option_and_then}
use Rattle.std.specs.List.{list_all, AllByRecursion}
use Rattle.std.proofs.lemmas.List.{take_more, take_all, length-take-le, take-append-drop, append_assoc, append-nil}
use Rattle.term_value.specs.Tree.{Module}
use Rattle.term_value.specs.Step.{name_in}
use Rattle.term_value.specs.Local.{Local}
use Rattle.term_value.specs.Machine as m
use Rattle.term_value.specs.Reports.{ends_from, process_end, end_with}
use Rattle.term_value.specs.Outcomes.{IsOutcome}
use Rattle.term_value.specs.declared.entry.Entry.{Entry}
use Rattle.term_value.specs.declared.outcome.Outcome.{Outcome}
use Rattle.copy_machine.specs.declared.machine.Machine.{Machine}
use Rattle.copy_machine.specs.declared.row.Row.{Row}
use Rattle.copy_machine.specs.declared.row.Row.TheVariants as r
use Rattle.copy_machine.specs.Following.{IsRowOf, AreRows, Follows, IsFollower, ending_of}
use Rattle.copy_machine.specs.Entering.{Applies}
use Rattle.copy_machine.specs.Replaying.{LeadsOn, StopsAt, EndsEarly, Replays, end_of, row_end, row_ends, has_left}

-- ---- Orders

applied_joined : (o : Option m.Machine) (es fs : List Entry) → ((n : m.Machine) → m.all_applied n (es ++ fs) ≡ option_and_then (λ k. m.all_applied k fs) (m.all_applied n es))
    → option_and_then (λ n. m.all_applied n (es ++ fs)) o ≡ option_and_then (λ k. m.all_applied k fs) (option_and_then (λ n. m.all_applied n es) o)
applied_joined (Some n) es fs each = each n
applied_joined None es fs each = refl

applied_on : (start : m.Machine) (es fs : List Entry) → m.all_applied start (es ++ fs) ≡ option_and_then (λ k. m.all_applied k fs) (m.all_applied start es)
applied_on start [] fs = refl
applied_on start (e ∷ es) fs = applied_joined (m.applied start e) es fs (λ n. applied_on n es fs)

pub leads_more : (start state next : m.Machine) (es : List Entry) (e : Entry) → m.Leads start es state → m.applied state e ≡ Some next → m.Leads start (es ++ e ∷ []) next
leads_more start state next es e h a =
    applied_on start es (e ∷ []) ∙ ap (λ (o : Option m.Machine). option_and_then (λ k. m.all_applied k (e ∷ [])) o) h ∙ ap (λ (o : Option m.Machine). option_and_then (λ n. m.all_applied n []) o) a

-- ---- Ends

pub ends_more : {P : Type 0} (pid : ℕ) (rows : List (Row P)) (row : Row P) → row_ends pid (rows ++ row ∷ []) ≡ row_ends pid rows ++ row_end (length rows + pid) row
ends_more pid [] row = append-nil (row_end pid row) ∙ ap (λ (n : ℕ). row_end n row) (omega arith)
ends_more pid (x ∷ rows) row =
    ap (λ (es : List (ℕ × Option (List ℕ))). row_end pid x ++ es) (ends_more (pid + 1) rows row ∙ ap (λ (n : ℕ). row_ends (pid + 1) rows ++ row_end n row) (omega arith))
    ∙ sym (append_assoc (row_end pid x) (row_ends (pid + 1) rows) (row_end (suc (length rows) + pid) row))

pub ends_step : {P : Type 0} (pid : ℕ) (before after : List (ℕ × Option (List ℕ))) (rows : List (Row P)) (row : Row P) → pid ≡ length rows + 1 → before ≡ row_ends 1 rows → after ≡ before ++ row_end pid row → after ≡ row_ends 1 (rows ++ row ∷ [])
ends_step pid before after rows row at e is =
    is ∙ ap (λ (es : List (ℕ × Option (List ℕ))). es ++ row_end pid row) e ∙ ap (λ (n : ℕ). row_ends 1 rows ++ row_end n row) at ∙ sym (ends_more 1 rows row)

end_is : (names_of : Module) (pid : ℕ) (how : m.End) → end_of pid (ending_of names_of how) ≡ end_with (name_in names_of) pid how
end_is code pid m.Normal = refl
end_is code pid (m.Exit reason) = refl
end_is code pid m.Waiting = refl

module _ {P : Type 0} (code_of : P → Module) (local_of : P → Local) (waits_of : P → Type 0) where
  row_end_is : (code : Module) (pid : ℕ) (p : m.Process) (row : Row P) → IsRowOf code_of local_of waits_of code p row → row_end pid row ≡ process_end (name_in code) pid p
  row_end_is code pid (m.Running l vs) (r.Running actor) h = refl
  row_end_is code pid (m.Running l vs) (r.Ended ending gone) h = absurd h
  row_end_is code pid (m.Over how) (r.Ended ending false) h = ap (end_of pid) h ∙ end_is code pid how
  row_end_is code pid (m.Over how) (r.Ended ending true) h = absurd h
  row_end_is code pid (m.Over how) (r.Running actor) h = absurd h
  row_end_is code pid (m.Left how) (r.Ended ending true) h = ap (end_of pid) h ∙ end_is code pid how
  row_end_is code pid (m.Left how) (r.Ended ending false) h = absurd h
  row_end_is code pid (m.Left how) (r.Running actor) h = absurd h

  pub row_ends_are : (code : Module) (pid : ℕ) (ps : List m.Process) (rows : List (Row P)) → AreRows code_of local_of waits_of code ps rows → row_ends pid rows ≡ ends_from (name_in code) pid ps
  row_ends_are code pid [] [] h = refl
  row_ends_are code pid [] (x ∷ rows) h = absurd h
  row_ends_are code pid (p ∷ ps) [] h = absurd h
  row_ends_are code pid (p ∷ ps) (x ∷ rows) h =
      ap (λ (es : List (ℕ × Option (List ℕ))). es ++ row_ends (pid + 1) rows) (row_end_is code pid p x h.0)
      ∙ ap (λ (es : List (ℕ × Option (List ℕ))). process_end (name_in code) pid p ++ es) (row_ends_are code (pid + 1) ps rows h.1)

  -- ---- Whether all are gone

  left_is_gone : (code : Module) (p : m.Process) (row : Row P) → IsRowOf code_of local_of waits_of code p row → has_left row ≡ true → m.IsGone p
  left_is_gone code (m.Running l vs) (r.Running actor) h e = absurd (cc e)
  left_is_gone code (m.Running l vs) (r.Ended ending gone) h e = absurd h
  left_is_gone code (m.Over how) (r.Ended ending false) h e = absurd (cc e)
  left_is_gone code (m.Over how) (r.Ended ending true) h e = absurd h
  left_is_gone code (m.Over how) (r.Running actor) h e = absurd h
  left_is_gone code (m.Left how) row h e = tt

  gone_has_left : (code : Module) (p : m.Process) (row : Row P) → IsRowOf code_of local_of waits_of code p row → m.IsGone p → has_left row ≡ true
  gone_has_left code (m.Running l vs) row h e = absurd e
  gone_has_left code (m.Over how) row h e = absurd e
  gone_has_left code (m.Left how) (r.Ended ending true) h e = refl
  gone_has_left code (m.Left how) (r.Ended ending false) h e = absurd h
  gone_has_left code (m.Left how) (r.Running actor) h e = absurd h

  both_true : (a b : Bool) → (a && b) ≡ true → (a ≡ true) × (b ≡ true)
  both_true true b e = (refl, e)
  both_true false b e = absurd (cc e)

  pub all_gone : (code : Module) (ps : List m.Process) (rows : List (Row P)) → AreRows code_of local_of waits_of code ps rows → list_all (has_left {P = P}) rows ≡ true → AllByRecursion m.IsGone ps
  all_gone code [] [] h e = tt
  all_gone code [] (x ∷ rows) h e = absurd h
  all_gone code (p ∷ ps) [] h e = absurd h
  all_gone code (p ∷ ps) (x ∷ rows) h e = let w = both_true (has_left x) (list_all (has_left {P = P}) rows) e in (left_is_gone code p x h.0 w.0, all_gone code ps rows h.1 w.1)

  pub all_have_left : (code : Module) (ps : List m.Process) (rows : List (Row P)) → AreRows code_of local_of waits_of code ps rows → AllByRecursion m.IsGone ps → list_all (has_left {P = P}) rows ≡ true
  all_have_left code [] [] h e = refl
  all_have_left code [] (x ∷ rows) h e = absurd h
  all_have_left code (p ∷ ps) [] h e = absurd h
  all_have_left code (p ∷ ps) (x ∷ rows) h e =
      ap (λ (b : Bool). b && list_all (has_left {P = P}) rows) (gone_has_left code p x h.0 e.0) ∙ all_have_left code ps rows h.1 e.1

  -- ---- Entry by entry

  abbrev pub LedTo : List Entry → ℕ → Machine P → Machine P → Type 0
  LedTo entries i first now = (start : m.Machine) → Follows code_of local_of waits_of start first → (state : m.Machine) × m.Leads start (take i entries) state × Follows code_of local_of waits_of state now

  abbrev pub Enters : Entry → Bool → Machine P → Machine P → Type 0
  Enters entry fits old new = (machine : m.Machine) → Follows code_of local_of waits_of machine old → Applies code_of local_of waits_of machine entry fits new

  pub led_more : (entries : List Entry) (i : ℕ) (entry : Entry) (fits : Bool) (first old new : Machine P) → i < length entries → entry ≡ slice_index_or entries i entry → fits ≡ true → Enters entry fits old new
      → LedTo entries i first old → LedTo entries (i + 1) first new
  led_more entries i entry fits first old new lt is holds enters led start h =
      let w = led start h in
      let a = subst (λ (b : Bool). Applies code_of local_of waits_of w.0 entry b new) holds (enters w.0 w.2) in
      let more : take (i + 1) entries ≡ take i entries ++ entry ∷ [] = take_more entries i entry lt ∙ ap (λ (x : Entry). take i entries ++ x ∷ []) (sym is) in
      (a.0, subst (λ (es : List Entry). m.Leads start es a.0) (sym more) (leads_more start w.0 a.0 (take i entries) entry w.1 a.1), a.2)

  pub stopped : (entries : List Entry) (i place : ℕ) (entry : Entry) (fits : Bool) (first old new : Machine P) → i < length entries → entry ≡ slice_index_or entries i entry → fits ≡ false → place ≡ i + 1 → Enters entry fits old new
      → LedTo entries i first old → (start : m.Machine) → Follows code_of local_of waits_of start first → StopsAt start entries place
  stopped entries i place entry fits first old new lt is fails at enters led start h =
      let w = led start h in
      let a = subst (λ (b : Bool). Applies code_of local_of waits_of w.0 entry b new) fails (enters w.0 w.2) in
      record {
        before = take i entries;
        entry = entry;
        later = drop (i + 1) entries;
        are = sym (take-append-drop (i + 1) entries) ∙ ap (λ (xs : List Entry). xs ++ drop (i + 1) entries) (take_more entries i entry lt ∙ ap (λ (x : Entry). take i entries ++ x ∷ []) (sym is)) ∙ append_assoc (take i entries) (entry ∷ []) (drop (i + 1) entries);
        state = w.0;
        leads = w.1;
        illegal = a.0;
        is = at ∙ ap (λ (n : ℕ). n + 1) (sym (length-take-le i entries (omega arith)));
      }

  pub follows_on : (entry : Entry) (fits : Bool) (old new : Machine P) → Enters entry fits old new → IsFollower code_of local_of waits_of old → IsFollower code_of local_of waits_of new
  follows_on entry true old new enters h = let a = enters h.0 h.1 in (a.0, a.2)
  follows_on entry false old new enters h = let a = enters h.0 h.1 in (h.0, a.1)

  pub led_none : (entries : List Entry) (first : Machine P) → LedTo entries 0 first first
  led_none entries first start h = (start, refl, h)

  pub led_all : (entries : List Entry) (i : ℕ) (first now : Machine P) → length entries ≤ i → LedTo entries i first now → (start : m.Machine) → Follows code_of local_of waits_of start first → LeadsOn code_of local_of waits_of start entries None now
  led_all entries i first now many led start h =
      let w = led start h in (w.0, subst (λ (es : List Entry). m.Leads start es w.0) (take_all i entries many) w.1, w.2)

  pub ends_early : (start : m.Machine) (es entries : List Entry) (stop : Option ℕ) (now : Machine P) → es ≡ entries → stop ≡ None → list_all (has_left {P = P}) now.rows.items ≡ false → LeadsOn code_of local_of waits_of start es stop now → EndsEarly start entries
  ends_early start es entries stop now same e some led =
      let w = subst (λ (o : Option ℕ). LeadsOn code_of local_of waits_of start es o now) e led in
      record {
        state = w.0;
        leads = subst (λ (xs : List Entry). m.Leads start xs w.0) same w.1;
        incomplete = λ complete. absurd (cc (some, all_have_left w.0.code w.0.processes now.rows.items w.2.rows complete));
      }

  pub replays : (start : m.Machine) (es entries : List Entry) (stop : Option ℕ) (now : Machine P) (outcome : Outcome) → es ≡ entries → stop ≡ None → list_all (has_left {P = P}) now.rows.items ≡ true
      → ((machine : m.Machine) → Follows code_of local_of waits_of machine now → IsOutcome machine entries outcome) → LeadsOn code_of local_of waits_of start es stop now → Replays start entries outcome
  replays start es entries stop now outcome same e all came led =
      let w = subst (λ (o : Option ℕ). LeadsOn code_of local_of waits_of start es o now) e led in
      record {
        state = w.0;
        leads = subst (λ (xs : List Entry). m.Leads start xs w.0) same w.1;
        complete = all_gone w.0.code w.0.processes now.rows.items w.2.rows all;
        came = came w.0 w.2;
      }
