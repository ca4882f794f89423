-- A match under bindings is the match of the pattern with their values put in.
use Rattle.std.proofs.Common.{◌≡◌, ℕ, List, [], ◌∷◌, ◌++◌, Option, Some, None, refl, ap, sym, ◌∙◌, Bool, true, false, cond, append_assoc, append-nil}
use Rattle.erl_syntax.specs.declared.typing.Typed.{Typed}
use Rattle.term_value.specs.Value.{Value, VInt, VAtom, VPid, VTuple, VList, VBits, Values, none, more}
use Rattle.term_value.specs.Order.{same}
use Rattle.term_value.specs.Setting.{Setting}
use Rattle.term_value.specs.Extent.{Extent}
use Rattle.term_value.specs.Guards.{result_of}
use Rattle.term_value.specs.Tree.{Bound, Target, Anything, Variable, Equal, Tree, Trees, end, and, Clauses, no_clause, clause, Guard, Pattern, PWild, PVar, PVal, PTuple, PList, PListOn, PBits, PSame, Patterns, no_pattern, pattern_and, Segments, no_segment, segment}
use Rattle.term_value.specs.PutIn.{value_in, target_or_variable, pattern_or_variable, in_target, put_in, puts_in, in_guard, in_clauses, in_pattern, in_patterns, in_segments}
use Rattle.term_value.specs.Decode.{Taken, Cut, NoCut, CutLimit, CutOff, cut, reach_by, reach, met, is_bindable, taken_where, wanted, taken_by, taken}
use Rattle.term_value.specs.Match.{Matched, Yes, No, MatchLimit, match_where, then_match, then_take, all_taken, whole, as_many, enough, if_match, matched, each_matched, front_matched, all_matched, Picked, where_matched, picked_under, picked}
use Rattle.term_layers.specs.Bindings.{matched_behind, taken_behind}
use Rattle.term_layers.proofs.Twice.{or_else, value_in-append, target_twice, twice, guard_twice}

module _ (s : Setting) (xs : List Bound) where
  abbrev pub behind_some : Option (List Bound) → Option (List Bound)
  behind_some (Some bs) = Some (xs ++ bs)
  behind_some None = None

  behind-cond : (b : Bool) (ys : List Bound) → cond b (Some (xs ++ ys)) None ≡ behind_some (cond b (Some ys) None)
  behind-cond true ys = refl
  behind-cond false ys = refl

  met_behind : (target : Target) (v : Value) (ys : List Bound) → met s target v (xs ++ ys) ≡ behind_some (met s target v ys)
  met_behind Anything v ys = refl
  met_behind (Variable x) v ys = ap Some (append_assoc xs ys (record { variable = x; value = v } ∷ []))
  met_behind (Equal w) v ys = behind-cond (same s.names w v) ys

  where_behind : (o : Option (List Bound)) → match_where (behind_some o) ≡ matched_behind xs (match_where o)
  where_behind None = refl
  where_behind (Some bs) = refl

  where_taken_behind : (b : Bool) (o : Option (List Bound)) (rest : List Bool) → taken_where b (behind_some o) rest ≡ taken_behind xs (taken_where b o rest)
  where_taken_behind true None rest = refl
  where_taken_behind true (Some bs) rest = refl
  where_taken_behind false None rest = refl
  where_taken_behind false (Some bs) rest = refl

  wanted_behind : (target : Target) (ys : List Bound) (o : Option CutOff) → wanted s target (xs ++ ys) o ≡ taken_behind xs (wanted s target ys o)
  wanted_behind target ys None = refl
  wanted_behind target ys (Some f) = ap (λ o. taken_where (is_bindable target f.value) o f.rest) (met_behind target f.value ys) ∙ where_taken_behind (is_bindable target f.value) (met s target f.value ys) f.rest

  taken_by_behind : (typed : Typed) (target : Target) (ys : List Bound) (bits : List Bool) (o : Option Extent) → taken_by s typed target (xs ++ ys) bits o ≡ taken_behind xs (taken_by s typed target ys bits o)
  taken_by_behind typed target ys bits (Some e) = wanted_behind target ys (cut typed e bits)
  taken_by_behind typed target ys bits None = refl

  reach_under : (typed : Typed) (size : Trees) (ys : List Bound) → reach s typed (xs ++ ys) size ≡ reach s typed ys (puts_in xs size)
  reach_under typed end ys = refl
  reach_under typed (and t ts) ys = ap (λ u. reach_by typed (result_of s u)) (sym (twice xs ys t))

  pub taken_under : (typed : Typed) (target : Target) (size : Trees) (ys : List Bound) (bits : List Bool)
      → taken s typed target size (xs ++ ys) bits ≡ taken_behind xs (taken s typed (in_target xs target) (puts_in xs size) ys bits)
  taken_under typed target size ys bits =
      ap (taken_by s typed (in_target (xs ++ ys) target) (xs ++ ys) bits) (reach_under typed size ys)
      ∙ ap (λ a. taken_by s typed a (xs ++ ys) bits (reach s typed ys (puts_in xs size))) (sym (target_twice xs ys target))
      ∙ taken_by_behind typed (in_target ys (in_target xs target)) ys bits (reach s typed ys (puts_in xs size))

  take_behind : (r : Taken) (f g : List Bound → List Bool → Taken) → ((ys : List Bound) (bits : List Bool) → f (xs ++ ys) bits ≡ taken_behind xs (g ys bits)) → then_take (taken_behind xs r) f ≡ taken_behind xs (then_take r g)
  take_behind (Cut ys bits) f g h = h ys bits
  take_behind NoCut f g h = refl
  take_behind CutLimit f g h = refl

  pub all_taken_under : (ss : Segments) (ys : List Bound) (bits : List Bool) → all_taken s ss (xs ++ ys) bits ≡ taken_behind xs (all_taken s (in_segments xs ss) ys bits)
  all_taken_under no_segment ys bits = refl
  all_taken_under (segment typed target size ss) ys bits =
      ap (λ r. then_take r (all_taken s ss)) (taken_under typed target size ys bits)
      ∙ take_behind (taken s typed (in_target xs target) (puts_in xs size) ys bits) (all_taken s ss) (all_taken s (in_segments xs ss)) (all_taken_under ss)

  whole_behind : (r : Taken) → whole (taken_behind xs r) ≡ matched_behind xs (whole r)
  whole_behind (Cut bs []) = refl
  whole_behind (Cut bs (b ∷ rest)) = refl
  whole_behind NoCut = refl
  whole_behind CutLimit = refl

  as_many_put : (ps : Patterns) (vs : Values) → as_many (in_patterns xs ps) vs ≡ as_many ps vs
  as_many_put no_pattern vs = refl
  as_many_put (pattern_and p ps) none = refl
  as_many_put (pattern_and p ps) (more v vs) = as_many_put ps vs

  enough_put : (ps : Patterns) (vs : Values) → enough (in_patterns xs ps) vs ≡ enough ps vs
  enough_put no_pattern vs = refl
  enough_put (pattern_and p ps) none = refl
  enough_put (pattern_and p ps) (more v vs) = enough_put ps vs

  if_behind : (b c : Bool) (m r : Matched) → c ≡ b → m ≡ matched_behind xs r → if_match b m ≡ matched_behind xs (if_match c r)
  if_behind b c m r e h = cases b ∙ ap (λ d. matched_behind xs (if_match d r)) (sym e)
    where
      cases : (d : Bool) → if_match d m ≡ matched_behind xs (if_match d r)
      cases true = h
      cases false = refl

  then_behind : (r : Matched) (f g : List Bound → Matched) → ((ys : List Bound) → f (xs ++ ys) ≡ matched_behind xs (g ys)) → then_match (matched_behind xs r) f ≡ matched_behind xs (then_match r g)
  then_behind (Yes ys) f g h = h ys
  then_behind No f g h = refl
  then_behind MatchLimit f g h = refl

  at_variable : (o : Option Value) (x : ℕ) (v : Value) (ys : List Bound)
      → match_where (met s (target_or_variable (or_else o (value_in ys x)) x) v (xs ++ ys)) ≡ matched_behind xs (matched s (pattern_or_variable o x) v ys)
  at_variable None x v ys = ap match_where (met_behind (target_or_variable (value_in ys x) x) v ys) ∙ where_behind _
  at_variable (Some w) x v ys = ap match_where (met_behind (Equal w) v ys) ∙ where_behind _

  mutual
    pub matched_under : (p : Pattern) (v : Value) (ys : List Bound) → matched s p v (xs ++ ys) ≡ matched_behind xs (matched s (in_pattern xs p) v ys)
    matched_under PWild v ys = refl
    matched_under (PVar x) v ys = ap (λ o. match_where (met s (target_or_variable o x) v (xs ++ ys))) (value_in-append xs ys x) ∙ at_variable (value_in xs x) x v ys
    matched_under (PVal w) v ys = ap match_where (met_behind (Equal w) v ys) ∙ where_behind _
    matched_under (PTuple ps) (VTuple vs) ys = if_behind _ _ _ _ (as_many_put ps vs) (each_under ps vs ys)
    matched_under (PTuple ps) (VInt n) ys = refl
    matched_under (PTuple ps) (VAtom n) ys = refl
    matched_under (PTuple ps) (VPid n) ys = refl
    matched_under (PTuple ps) (VList vs) ys = refl
    matched_under (PTuple ps) (VBits bits) ys = refl
    matched_under (PList ps) (VList vs) ys = if_behind _ _ _ _ (as_many_put ps vs) (each_under ps vs ys)
    matched_under (PList ps) (VInt n) ys = refl
    matched_under (PList ps) (VAtom n) ys = refl
    matched_under (PList ps) (VPid n) ys = refl
    matched_under (PList ps) (VTuple vs) ys = refl
    matched_under (PList ps) (VBits bits) ys = refl
    matched_under (PListOn ps p) (VList vs) ys = if_behind _ _ _ _ (enough_put ps vs) (front_under ps (matched s p) (matched s (in_pattern xs p)) (matched_under p) vs ys)
    matched_under (PListOn ps p) (VInt n) ys = refl
    matched_under (PListOn ps p) (VAtom n) ys = refl
    matched_under (PListOn ps p) (VPid n) ys = refl
    matched_under (PListOn ps p) (VTuple vs) ys = refl
    matched_under (PListOn ps p) (VBits bits) ys = refl
    matched_under (PBits ss) (VBits bits) ys = ap whole (all_taken_under ss ys bits) ∙ whole_behind _
    matched_under (PBits ss) (VInt n) ys = refl
    matched_under (PBits ss) (VAtom n) ys = refl
    matched_under (PBits ss) (VPid n) ys = refl
    matched_under (PBits ss) (VTuple vs) ys = refl
    matched_under (PBits ss) (VList vs) ys = refl
    matched_under (PSame ps) v ys = all_under ps v ys

    pub each_under : (ps : Patterns) (vs : Values) (ys : List Bound) → each_matched s ps vs (xs ++ ys) ≡ matched_behind xs (each_matched s (in_patterns xs ps) vs ys)
    each_under no_pattern none ys = refl
    each_under no_pattern (more v vs) ys = refl
    each_under (pattern_and p ps) none ys = refl
    each_under (pattern_and p ps) (more v vs) ys =
        ap (λ r. then_match r (each_matched s ps vs)) (matched_under p v ys)
        ∙ then_behind (matched s (in_pattern xs p) v ys) (each_matched s ps vs) (each_matched s (in_patterns xs ps) vs) (λ zs. each_under ps vs zs)

    front_under : (ps : Patterns) (f g : Value → List Bound → Matched) → ((v : Value) (ys : List Bound) → f v (xs ++ ys) ≡ matched_behind xs (g v ys)) → (vs : Values) (ys : List Bound)
        → front_matched s ps f vs (xs ++ ys) ≡ matched_behind xs (front_matched s (in_patterns xs ps) g vs ys)
    front_under no_pattern f g h vs ys = h (VList vs) ys
    front_under (pattern_and p ps) f g h none ys = refl
    front_under (pattern_and p ps) f g h (more v vs) ys =
        ap (λ r. then_match r (front_matched s ps f vs)) (matched_under p v ys)
        ∙ then_behind (matched s (in_pattern xs p) v ys) (front_matched s ps f vs) (front_matched s (in_patterns xs ps) g vs) (λ zs. front_under ps f g h vs zs)

    pub all_under : (ps : Patterns) (v : Value) (ys : List Bound) → all_matched s ps v (xs ++ ys) ≡ matched_behind xs (all_matched s (in_patterns xs ps) v ys)
    all_under no_pattern v ys = refl
    all_under (pattern_and p ps) v ys =
        ap (λ r. then_match r (all_matched s ps v)) (matched_under p v ys)
        ∙ then_behind (matched s (in_pattern xs p) v ys) (all_matched s ps v) (all_matched s (in_patterns xs ps) v) (λ zs. all_under ps v zs)

module _ (s : Setting) (xs : List Bound) where
  where_under : (m r : Matched) (guard : Guard) (body : Tree) (p q : Picked) → m ≡ matched_behind xs r → p ≡ q → where_matched s m guard body p ≡ where_matched s r (in_guard xs guard) (put_in xs body) q
  where_under m (Yes bs) guard body p q e h =
      ap (λ n. where_matched s n guard body p) e ∙ cc (guard_twice xs bs guard, twice xs bs body, h)
  where_under m No guard body p q e h = ap (λ n. where_matched s n guard body p) e ∙ h
  where_under m MatchLimit guard body p q e h = ap (λ n. where_matched s n guard body p) e

  pub picks_under : (cs : Clauses) (vs : Values) → picked_under s xs cs vs ≡ picked s (in_clauses xs cs) vs
  picks_under no_clause vs = refl
  picks_under (clause ps guard body cs) vs =
      where_under _ (if_match (as_many (in_patterns xs ps) vs) (each_matched s (in_patterns xs ps) vs [])) guard body (picked_under s xs cs vs) (picked s (in_clauses xs cs) vs)
      (if_behind s xs _ _ _ _ (as_many_put s xs ps vs) (ap (each_matched s ps vs) (sym (append-nil xs)) ∙ each_under s xs ps vs [])) (picks_under cs vs)
