-- What a match binds: the variables of its pattern, and no others.
use Rattle.std.proofs.Common.{◌≡◌, ℕ, Bool, true, false, List, [], ◌∷◌, ◌++◌, Option, Some, None, append_assoc, cond, nat_eq, refl, subst, sym, ap, ◌⊎◌, inl, inr, arith}
use Rattle.std.specs.List.{Contains}
use Rattle.std.proofs.lemmas.Bool.Decides.{nat_tests}
use Rattle.std.proofs.lemmas.List.Elements.{Contains-append_left, Contains-append_right, Contains-append_cases}
use Rattle.erl_syntax.specs.declared.typing.Typed.{Typed}
use Rattle.term_value.specs.Value.{Value, VTuple, VList, VBits, Values, none, more}
use Rattle.term_value.specs.Order.{same}
use Rattle.term_value.specs.Setting.{Setting}
use Rattle.term_value.specs.Extent.{Extent}
use Rattle.term_value.specs.Tree.{Bound, Target, Anything, Variable, Equal, Pattern, PWild, PVar, PVal, PTuple, PList, PListOn, PBits, PSame, Patterns, no_pattern, pattern_and, Segments, no_segment, segment}
use Rattle.term_value.specs.PutIn.{value_in, target_or_variable, in_target}
use Rattle.term_value.specs.Decode.{Taken, Cut, NoCut, CutLimit, CutOff, cut, reach, bound_to, met, is_bindable, taken_where, wanted, taken_by}
use Rattle.term_value.specs.Match.{Matched, Yes, No, MatchLimit, match_where, then_match, then_take, all_taken, whole, as_many, enough, if_match, matched, each_matched, front_matched, all_matched}
use Rattle.term_laws.specs.Scoped.{variables, target_names, segment_names, pattern_names, patterns_names}
use Rattle.term_laws.proofs.ScopedPut.{none_in, first_in, only_one, Has}

same_number : (n : ℕ) → nat_eq n n ≡ true
same_number n = grind (arith, nat_tests)

has_by : (b : Bool) (v : Value) (o : Option Value) → (b ≡ true) ⊎ Has o → Has (cond b (Some v) o)
has_by true v o h = tt
has_by false v o (inl e) = absurd (cc e)
has_by false v o (inr h) = h

-- each variable of bindings has a value
pub has_value : (bs : List Bound) (x : ℕ) → Contains (variables bs) x → Has (value_in bs x)
has_value [] x h = absurd (none_in x h)
has_value (b ∷ bs) x h = has_by (nat_eq b.variable x) b.value (value_in bs x) (elim (Contains-append_cases (b.variable ∷ []) (variables bs) x h) [
  | inl c ↦ inl (let P : ℕ → Type 0 = λ z. nat_eq b.variable z ≡ true in subst P (only_one b.variable x c) (same_number b.variable))
  | inr c ↦ inr (has_value bs x c)
])

value_by : (b : Bound) (bs : List Bound) (x : ℕ) (c : Bool) → c ≡ nat_eq b.variable x → (Has (value_in bs x) → Contains (variables bs) x) → Has (cond c (Some b.value) (value_in bs x)) → Contains (variables (b ∷ bs)) x
value_by b bs x true e f h =
    let same_variable : b.variable ≡ x = grind (arith, nat_tests, e) in
    let P : ℕ → Type 0 = λ z. Contains (variables (b ∷ bs)) z in subst P same_variable (first_in b.variable (variables bs))
value_by b bs x false e f h = Contains-append_right (b.variable ∷ []) (variables bs) x (f h)

pub value_known : (bs : List Bound) (x : ℕ) → Has (value_in bs x) → Contains (variables bs) x
value_known [] x h = absurd h
value_known (b ∷ bs) x h = value_by b bs x (nat_eq b.variable x) refl (value_known bs x) h

-- some bindings have, beside those before, just these variables
pub record Binds (names : List ℕ) (bs cs : List Bound) : Type 0 where
  pub kept : (x : ℕ) → Contains (variables bs) x → Contains (variables cs) x
  pub bound : (x : ℕ) → Contains names x → Contains (variables cs) x
  pub only : (x : ℕ) → Contains (variables cs) x → Contains names x ⊎ Contains (variables bs) x

binds_none : (bs : List Bound) → Binds [] bs bs
binds_none bs = record { kept = λ x h. h; bound = λ x h. absurd (none_in x h); only = λ x h. inr h }

binds_both : (a b : List ℕ) (bs cs ds : List Bound) → Binds a bs cs → Binds b cs ds → Binds (a ++ b) bs ds
binds_both a b bs cs ds f g = record {
  kept = λ x h. g.kept x (f.kept x h);
  bound = λ x h. elim (Contains-append_cases a b x h) [ inl m ↦ g.kept x (f.bound x m) | inr m ↦ g.bound x m ];
  only = λ x h. elim (g.only x h) [
    | inl m ↦ inl (Contains-append_right a b x m)
    | inr m ↦ elim (f.only x m) [ inl n ↦ inl (Contains-append_left a b x n) | inr n ↦ inr n ]
  ];
}

binds_known : (bs : List Bound) (x : ℕ) → Contains (variables bs) x → Binds (x ∷ []) bs bs
binds_known bs x k = record { kept = λ y h. h; bound = λ y h. (let P : ℕ → Type 0 = λ z. Contains (variables bs) z in subst P (only_one x y h) k); only = λ y h. inr h }

variables_push : (bs : List Bound) (x : ℕ) (v : Value) → variables (bound_to x v bs) ≡ variables bs ++ x ∷ []
variables_push [] x v = refl
variables_push (b ∷ bs) x v = ap (λ l. b.variable ∷ l) (variables_push bs x v)

binds_new : (bs : List Bound) (x : ℕ) (v : Value) → Binds (x ∷ []) bs (bound_to x v bs)
binds_new bs x v =
    let e = variables_push bs x v in
    record {
      kept = λ y h. (let P : List ℕ → Type 0 = λ l. Contains l y in subst P (sym e) (Contains-append_left (variables bs) (x ∷ []) y h));
      bound = λ y h. (let P : List ℕ → Type 0 = λ l. Contains l y in subst P (sym e) (Contains-append_right (variables bs) (x ∷ []) y h));
      only = λ y h. (let P : List ℕ → Type 0 = λ l. Contains l y in elim (Contains-append_cases (variables bs) (x ∷ []) y (subst P e h)) [ inl m ↦ inr m | inr m ↦ inl m ]);
    }

module _ (s : Setting) where
  abbrev pub MatchBinds : List ℕ → List Bound → Matched → Type 0
  MatchBinds names bs (Yes cs) = Binds names bs cs
  MatchBinds names bs _ = Unit {0}

  abbrev pub CutBinds : List ℕ → List Bound → Taken → Type 0
  CutBinds names bs (Cut cs rest) = Binds names bs cs
  CutBinds names bs _ = Unit {0}

  -- a target under bindings, of a segment with these variables
  abbrev pub Wants : List ℕ → List Bound → Target → Type 0
  Wants names bs (Variable x) = (v : Value) → Binds names bs (bound_to x v bs)
  Wants names bs _ = Binds names bs bs

  variable_wants : (bs : List Bound) (x : ℕ) (o : Option Value) → o ≡ value_in bs x → Wants (x ∷ []) bs (target_or_variable o x)
  variable_wants bs x None e = λ v. binds_new bs x v
  variable_wants bs x (Some w) e = binds_known bs x (value_known bs x (subst Has e tt))

  pub target_wants : (bs : List Bound) (target : Target) → Wants (target_names target) bs (in_target bs target)
  target_wants bs Anything = binds_none bs
  target_wants bs (Variable x) = variable_wants bs x (value_in bs x) refl
  target_wants bs (Equal v) = binds_none bs

  module _ (names : List ℕ) (bs : List Bound) where
    abbrev SomeBinds : Option (List Bound) → Type 0
    SomeBinds (Some cs) = Binds names bs cs
    SomeBinds None = Unit {0}

    where_binds : (b : Bool) → Binds names bs bs → SomeBinds (cond b (Some bs) None)
    where_binds true h = h
    where_binds false h = tt

    met_binds : (target : Target) (v : Value) → Wants names bs target → SomeBinds (met s target v bs)
    met_binds Anything v h = h
    met_binds (Variable x) v h = h v
    met_binds (Equal w) v h = where_binds (same s.names w v) h

    match_binds : (o : Option (List Bound)) → SomeBinds o → MatchBinds names bs (match_where o)
    match_binds (Some cs) h = h
    match_binds None h = tt

    where_taken_binds : (b : Bool) (o : Option (List Bound)) (rest : List Bool) → SomeBinds o → CutBinds names bs (taken_where b o rest)
    where_taken_binds true (Some cs) rest h = h
    where_taken_binds true None rest h = tt
    where_taken_binds false (Some cs) rest h = tt
    where_taken_binds false None rest h = tt

    wanted_binds : (target : Target) (o : Option CutOff) → Wants names bs target → CutBinds names bs (wanted s target bs o)
    wanted_binds target (Some f) h = where_taken_binds (is_bindable target f.value) (met s target f.value bs) f.rest (met_binds target f.value h)
    wanted_binds target None h = tt

    pub taken_binds : (typed : Typed) (target : Target) (bits : List Bool) (o : Option Extent) → Wants names bs target → CutBinds names bs (taken_by s typed target bs bits o)
    taken_binds typed target bits (Some e) h = wanted_binds target (cut typed e bits) h
    taken_binds typed target bits None h = tt

  then_takes : (a b : List ℕ) (bs : List Bound) (r : Taken) (later : List Bound → List Bool → Taken) → CutBinds a bs r → ((cs : List Bound) (rest : List Bool) → CutBinds b cs (later cs rest)) → CutBinds (a ++ b) bs (then_take r later)
  then_takes a b bs (Cut cs rest) later f g = onward (later cs rest) (g cs rest)
    where
      onward : (t : Taken) → CutBinds b cs t → CutBinds (a ++ b) bs t
      onward (Cut ds rest) h = binds_both a b bs cs ds f h
      onward NoCut h = tt
      onward CutLimit h = tt
  then_takes a b bs NoCut later f g = tt
  then_takes a b bs CutLimit later f g = tt

  pub segments_bind : (ss : Segments) (bs : List Bound) (bits : List Bool) → CutBinds (segment_names ss) bs (all_taken s ss bs bits)
  segments_bind no_segment bs bits = binds_none bs
  segments_bind (segment typed target size ss) bs bits =
      then_takes (target_names target) (segment_names ss) bs (taken_by s typed (in_target bs target) bs bits (reach s typed bs size)) (all_taken s ss)
      (taken_binds (target_names target) bs typed (in_target bs target) bits (reach s typed bs size) (target_wants bs target)) (segments_bind ss)

  whole_binds : (names : List ℕ) (bs : List Bound) (r : Taken) → CutBinds names bs r → MatchBinds names bs (whole r)
  whole_binds names bs (Cut cs []) h = h
  whole_binds names bs (Cut cs (b ∷ rest)) h = tt
  whole_binds names bs NoCut h = tt
  whole_binds names bs CutLimit h = tt

  if_binds : (names : List ℕ) (bs : List Bound) (b : Bool) (m : Matched) → MatchBinds names bs m → MatchBinds names bs (if_match b m)
  if_binds names bs true m h = h
  if_binds names bs false m h = tt

  then_matches : (a b : List ℕ) (bs : List Bound) (m : Matched) (later : List Bound → Matched) → MatchBinds a bs m → ((cs : List Bound) → MatchBinds b cs (later cs)) → MatchBinds (a ++ b) bs (then_match m later)
  then_matches a b bs (Yes cs) later f g = onward (later cs) (g cs)
    where
      onward : (m : Matched) → MatchBinds b cs m → MatchBinds (a ++ b) bs m
      onward (Yes ds) h = binds_both a b bs cs ds f h
      onward No h = tt
      onward MatchLimit h = tt
  then_matches a b bs No later f g = tt
  then_matches a b bs MatchLimit later f g = tt

  value_binds : (names : List ℕ) (bs : List Bound) (target : Target) (v : Value) → Wants names bs target → MatchBinds names bs (match_where (met s target v bs))
  value_binds names bs target v h = match_binds names bs (met s target v bs) (met_binds names bs target v h)

  mutual
    pub matched_binds : (p : Pattern) (v : Value) (bs : List Bound) → MatchBinds (pattern_names p) bs (matched s p v bs)
    matched_binds PWild v bs = binds_none bs
    matched_binds (PVar x) v bs = value_binds (x ∷ []) bs (in_target bs (Variable x)) v (target_wants bs (Variable x))
    matched_binds (PVal w) v bs = value_binds [] bs (Equal w) v (binds_none bs)
    matched_binds (PTuple ps) (VTuple vs) bs = if_binds (patterns_names ps) bs (as_many ps vs) (each_matched s ps vs bs) (each_binds ps vs bs)
    matched_binds (PTuple ps) _ bs = tt
    matched_binds (PList ps) (VList vs) bs = if_binds (patterns_names ps) bs (as_many ps vs) (each_matched s ps vs bs) (each_binds ps vs bs)
    matched_binds (PList ps) _ bs = tt
    matched_binds (PListOn ps p) (VList vs) bs =
        if_binds (patterns_names ps ++ pattern_names p) bs (enough ps vs) (front_matched s ps (matched s p) vs bs) (heads_bind ps (pattern_names p) (matched s p) (matched_binds p) vs bs)
    matched_binds (PListOn ps p) _ bs = tt
    matched_binds (PBits ss) (VBits bits) bs = whole_binds (segment_names ss) bs (all_taken s ss bs bits) (segments_bind ss bs bits)
    matched_binds (PBits ss) _ bs = tt
    matched_binds (PSame ps) v bs = all_bind ps v bs

    pub each_binds : (ps : Patterns) (vs : Values) (bs : List Bound) → MatchBinds (patterns_names ps) bs (each_matched s ps vs bs)
    each_binds no_pattern none bs = binds_none bs
    each_binds no_pattern (more v vs) bs = tt
    each_binds (pattern_and p ps) none bs = tt
    each_binds (pattern_and p ps) (more v vs) bs = then_matches (pattern_names p) (patterns_names ps) bs (matched s p v bs) (each_matched s ps vs) (matched_binds p v bs) (each_binds ps vs)

    heads_bind : (ps : Patterns) (names : List ℕ) (tail : Value → List Bound → Matched) → ((v : Value) (cs : List Bound) → MatchBinds names cs (tail v cs)) → (vs : Values) (bs : List Bound)
        → MatchBinds (patterns_names ps ++ names) bs (front_matched s ps tail vs bs)
    heads_bind no_pattern names tail h vs bs = h (VList vs) bs
    heads_bind (pattern_and p ps) names tail h none bs = tt
    heads_bind (pattern_and p ps) names tail h (more v vs) bs =
        let P : List ℕ → Type 0 = λ l. MatchBinds l bs (then_match (matched s p v bs) (front_matched s ps tail vs)) in
        subst P (sym (append_assoc (pattern_names p) (patterns_names ps) names))
        (then_matches (pattern_names p) (patterns_names ps ++ names) bs (matched s p v bs) (front_matched s ps tail vs) (matched_binds p v bs) (heads_bind ps names tail h vs))

    pub all_bind : (ps : Patterns) (v : Value) (bs : List Bound) → MatchBinds (patterns_names ps) bs (all_matched s ps v bs)
    all_bind no_pattern v bs = binds_none bs
    all_bind (pattern_and p ps) v bs = then_matches (pattern_names p) (patterns_names ps) bs (matched s p v bs) (all_matched s ps v) (matched_binds p v bs) (all_bind ps v)
