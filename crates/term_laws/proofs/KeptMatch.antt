-- Matching, the choice of a clause and the rows of a generator: the values that are bound have the property that the matched one has.
use Rattle.std.proofs.Common.{◌≡◌, ℕ, zero, suc, ℤ, Bool, true, false, List, [], ◌∷◌, ◌++◌, length, take, drop, Option, Some, None, cond, refl, pos}
use Rattle.std.specs.Prelude.{is_some, nat_le, nat_lt, nat_eq, ◌%◌}
use Rattle.bits_value.specs.Number.{bounded, number}
use Rattle.bits_value.specs.declared.Sign.{Sign}
use Rattle.bits_value.specs.declared.Endian.{Endian}
use Rattle.bits_value.specs.declared.UtfKind.{UtfKind}
use Rattle.erl_syntax.specs.declared.typing.Typed.{Typed}
use Rattle.erl_syntax.specs.declared.typing.Kind.{Kind}
use Rattle.erl_syntax.specs.declared.typing.Kind.TheVariants as k
use Rattle.term_value.specs.Value.{Value, VInt, VAtom, VPid, VTuple, VList, VBits, Values, none, more}
use Rattle.term_value.specs.Order.{same}
use Rattle.term_value.specs.Setting.{Setting}
use Rattle.term_value.specs.Extent.{Extent, Exactly, InUnits, Spelled, BadSize}
use Rattle.term_value.specs.Characters.{spelling, character_of}
use Rattle.term_value.specs.Tree.{Bound, Row, Found, Skipped, RowLimit, Target, Anything, Variable, Equal, Tree, Trees, Clauses, no_clause, clause, Guard, Generator, InList, InBits, Pattern, PWild, PVar, PVal, PTuple, PList, PListOn, PBits, PSame, Patterns, no_pattern, pattern_and, Segments, no_segment, segment}
use Rattle.term_value.specs.PutIn.{in_target, put_in, in_guard}
use Rattle.term_value.specs.Guards.{Verdict, Holds, Fails, AtLimit, guard_holds}
use Rattle.term_value.specs.Decode.{CutOff, cut_as, cut_bits, cut_where, character_cut, spelled_cut, cut, bound_to, met, is_bindable, Taken, Cut, NoCut, CutLimit, taken_where, wanted, taken_by, reach, taken}
use Rattle.term_value.specs.Match.{Matched, Yes, No, MatchLimit, match_where, then_match, then_take, all_taken, whole, as_many, enough, if_match, matched, each_matched, front_matched, all_matched, Picked, Body, NoClause, PickLimit, where_holds, where_matched, picked_under, picked}
use Rattle.term_value.specs.Rows.{row_before, list_rows, Front, Takes, Ends, AtLimit as FrontLimit, takes_where, takes, skips, first_or_skips, front, row_then, bit_rows, rows_under, rows_of}
use Rattle.term_laws.specs.Inside.{EachValue, EachBound, EachRow, InRow, InTree, InClauses, InPattern, InPatterns, InGenerator, InSegments, IsKept}
use Rattle.term_laws.proofs.KeptPut.{put_kept, bound_append}

-- a value that was cut off: a number of any size, or a value that has the property
abbrev OfCutValue : (Value → Type 0) → Value → Type 0
OfCutValue P (VInt n) = Unit {0}
OfCutValue P v = P v

abbrev OfCut : (Value → Type 0) → Option CutOff → Type 0
OfCut P None = Unit {0}
OfCut P (Some f) = OfCutValue P f.value × P (VBits f.rest)

abbrev OfTaken : (Value → Type 0) → Taken → Type 0
OfTaken P (Cut bs rest) = EachBound P bs × P (VBits rest)
OfTaken P NoCut = Unit {0}
OfTaken P CutLimit = Unit {0}

abbrev OfBindings : (Value → Type 0) → Option (List Bound) → Type 0
OfBindings P None = Unit {0}
OfBindings P (Some bs) = EachBound P bs

abbrev pub OfMatched : (Value → Type 0) → Matched → Type 0
OfMatched P (Yes bs) = EachBound P bs
OfMatched P No = Unit {0}
OfMatched P MatchLimit = Unit {0}

abbrev pub OfPicked : (Value → Type 0) → Picked → Type 0
OfPicked P (Body t) = InTree P t
OfPicked P NoClause = Unit {0}
OfPicked P PickLimit = Unit {0}

abbrev OfFront : (Value → Type 0) → Front → Type 0
OfFront P (Takes row rest) = InRow P row × P (VBits rest)
OfFront P Ends = Unit {0}
OfFront P FrontLimit = Unit {0}

abbrev pub OfRows : (Value → Type 0) → Option (List Row) → Type 0
OfRows P None = Unit {0}
OfRows P (Some rows) = EachRow P rows

module _ (P : Value → Type 0) (kept : IsKept P) where
  -- ---- A segment

  where_kept : (b : Bool) (f : Option CutOff) → OfCut P f → OfCut P (cut_where b f)
  where_kept true f h = h
  where_kept false f h = tt

  as_kept : (kind : Kind) (sign : Sign) (endian : Endian) (bits rest : List Bool) → P (VBits bits) → P (VBits rest) → OfCut P (cut_as kind sign endian bits rest)
  as_kept k.Int sign endian bits rest h g = (tt, g)
  as_kept k.Binary sign endian bits rest h g = (h, g)
  as_kept k.Bitstring sign endian bits rest h g = (h, g)
  as_kept (k.Utf utf) sign endian bits rest h g = tt

  character_kept : (utf : UtfKind) (endian : Endian) (bits : List Bool) (o : Option ℕ) → P (VBits bits) → OfCut P (character_cut utf endian bits o)
  character_kept utf endian bits (Some c) h = (tt, kept.backs (length (spelling utf endian c)) bits h)
  character_kept utf endian bits None h = tt

  spelled_kept : (kind : Kind) (endian : Endian) (bits : List Bool) → P (VBits bits) → OfCut P (spelled_cut kind endian bits)
  spelled_kept k.Int endian bits h = tt
  spelled_kept k.Binary endian bits h = tt
  spelled_kept k.Bitstring endian bits h = tt
  spelled_kept (k.Utf utf) endian bits h = character_kept utf endian bits (character_of utf endian bits) h

  cut_kept : (typed : Typed) (e : Extent) (bits : List Bool) → P (VBits bits) → OfCut P (cut typed e bits)
  cut_kept typed (Exactly n) bits h = where_kept (nat_le n (length bits)) (cut_bits typed (take n bits) (drop n bits)) (as_kept typed.kind typed.sign typed.endian (take n bits) (drop n bits) (kept.fronts n bits h) (kept.backs n bits h))
  cut_kept typed (InUnits unit) bits h = where_kept (nat_eq (length bits % unit) 0) _ (h, kept.fronts 0 bits h)
  cut_kept typed Spelled bits h = spelled_kept typed.kind typed.endian bits h
  cut_kept typed BadSize bits h = tt

  same_kept : (b : Bool) (bs : List Bound) → EachBound P bs → OfBindings P (cond b (Some bs) None)
  same_kept true bs h = h
  same_kept false bs h = tt

  met_kept : (s : Setting) (t : Target) (v : Value) (bs : List Bound) → P v → EachBound P bs → OfBindings P (met s t v bs)
  met_kept s Anything v bs h g = g
  met_kept s (Equal w) v bs h g = same_kept (same s.names w v) bs g
  met_kept s (Variable x) v bs h g = bound_append P bs (record { variable = x; value = v } ∷ []) g (h, tt)

  taken_kept_where : (b : Bool) (o : Option (List Bound)) (rest : List Bool) → OfBindings P o → P (VBits rest) → OfTaken P (taken_where b o rest)
  taken_kept_where true (Some bs) rest h g = (h, g)
  taken_kept_where true None rest h g = tt
  taken_kept_where false o rest h g = tt

  -- a number is bound only within the bound
  bind_kept : (b : Bool) (x : ℕ) (n : ℤ) (bs : List Bound) (rest : List Bool) → is_some (bounded n) ≡ b → EachBound P bs → P (VBits rest) → OfTaken P (taken_where b (Some (bound_to x (VInt n) bs)) rest)
  bind_kept true x n bs rest e h g = (bound_append P bs (record { variable = x; value = VInt n } ∷ []) h (kept.integers n e, tt), g)
  bind_kept false x n bs rest e h g = tt

  variable_kept : (x : ℕ) (v : Value) (bs : List Bound) (rest : List Bool) → OfCutValue P v → EachBound P bs → P (VBits rest) → OfTaken P (taken_where (is_bindable (Variable x) v) (Some (bound_to x v bs)) rest)
  variable_kept x (VInt n) bs rest h g r = bind_kept (is_some (bounded n)) x n bs rest refl g r
  variable_kept x (VAtom a) bs rest h g r = (bound_append P bs (record { variable = x; value = VAtom a } ∷ []) g (h, tt), r)
  variable_kept x (VPid p) bs rest h g r = (bound_append P bs (record { variable = x; value = VPid p } ∷ []) g (h, tt), r)
  variable_kept x (VTuple vs) bs rest h g r = (bound_append P bs (record { variable = x; value = VTuple vs } ∷ []) g (h, tt), r)
  variable_kept x (VList vs) bs rest h g r = (bound_append P bs (record { variable = x; value = VList vs } ∷ []) g (h, tt), r)
  variable_kept x (VBits bits) bs rest h g r = (bound_append P bs (record { variable = x; value = VBits bits } ∷ []) g (h, tt), r)

  wanted_kept : (s : Setting) (t : Target) (bs : List Bound) (o : Option CutOff) → EachBound P bs → OfCut P o → OfTaken P (wanted s t bs o)
  wanted_kept s t bs None h g = tt
  wanted_kept s Anything bs (Some f) h g = (h, g.1)
  wanted_kept s (Equal w) bs (Some f) h g = taken_kept_where true (cond (same s.names w f.value) (Some bs) None) f.rest (same_kept (same s.names w f.value) bs h) g.1
  wanted_kept s (Variable x) bs (Some f) h g = variable_kept x f.value bs f.rest g.0 h g.1

  by_kept : (s : Setting) (typed : Typed) (t : Target) (bs : List Bound) (bits : List Bool) (o : Option Extent) → EachBound P bs → P (VBits bits) → OfTaken P (taken_by s typed t bs bits o)
  by_kept s typed t bs bits (Some e) h g = wanted_kept s t bs (cut typed e bits) h (cut_kept typed e bits g)
  by_kept s typed t bs bits None h g = tt

  then_kept : (t : Taken) (later : List Bound → List Bool → Taken) → OfTaken P t → ((bs : List Bound) (bits : List Bool) → EachBound P bs → P (VBits bits) → OfTaken P (later bs bits)) → OfTaken P (then_take t later)
  then_kept (Cut bs rest) later h g = g bs rest h.0 h.1
  then_kept NoCut later h g = tt
  then_kept CutLimit later h g = tt

  all_taken_kept : (s : Setting) (ss : Segments) (bs : List Bound) (bits : List Bool) → EachBound P bs → P (VBits bits) → OfTaken P (all_taken s ss bs bits)
  all_taken_kept s no_segment bs bits h g = (h, g)
  all_taken_kept s (segment typed target size ss) bs bits h g = then_kept (taken s typed target size bs bits) (all_taken s ss) (by_kept s typed (in_target bs target) bs bits (reach s typed bs size) h g) (all_taken_kept s ss)

  whole_kept : (t : Taken) → OfTaken P t → OfMatched P (whole t)
  whole_kept (Cut bs []) h = h.0
  whole_kept (Cut bs (b ∷ rest)) h = tt
  whole_kept NoCut h = tt
  whole_kept CutLimit h = tt

  -- ---- A pattern

  match_kept : (o : Option (List Bound)) → OfBindings P o → OfMatched P (match_where o)
  match_kept (Some bs) h = h
  match_kept None h = tt

  if_kept : (b : Bool) (m : Matched) → OfMatched P m → OfMatched P (if_match b m)
  if_kept true m h = h
  if_kept false m h = tt

  both_kept : (m : Matched) (later : List Bound → Matched) → OfMatched P m → ((bs : List Bound) → EachBound P bs → OfMatched P (later bs)) → OfMatched P (then_match m later)
  both_kept (Yes bs) later h g = g bs h
  both_kept No later h g = tt
  both_kept MatchLimit later h g = tt

  mutual
    pub matched_kept : (s : Setting) (p : Pattern) (v : Value) (bs : List Bound) → P v → EachBound P bs → OfMatched P (matched s p v bs)
    matched_kept s PWild v bs h g = g
    matched_kept s (PVar x) v bs h g = match_kept (met s (in_target bs (Variable x)) v bs) (met_kept s (in_target bs (Variable x)) v bs h g)
    matched_kept s (PVal w) v bs h g = match_kept (met s (Equal w) v bs) (met_kept s (Equal w) v bs h g)
    matched_kept s (PTuple ps) (VTuple vs) bs h g = if_kept (as_many ps vs) (each_matched s ps vs bs) (each_kept s ps vs bs (kept.tuples vs h) g)
    matched_kept s (PTuple ps) _ bs h g = tt
    matched_kept s (PList ps) (VList vs) bs h g = if_kept (as_many ps vs) (each_matched s ps vs bs) (each_kept s ps vs bs (kept.lists vs h) g)
    matched_kept s (PList ps) _ bs h g = tt
    matched_kept s (PListOn ps p) (VList vs) bs h g = if_kept (enough ps vs) (front_matched s ps (matched s p) vs bs) (front_kept s ps (matched s p) (matched_kept s p) vs bs h g)
    matched_kept s (PListOn ps p) _ bs h g = tt
    matched_kept s (PBits ss) (VBits bits) bs h g = whole_kept (all_taken s ss bs bits) (all_taken_kept s ss bs bits g h)
    matched_kept s (PBits ss) _ bs h g = tt
    matched_kept s (PSame ps) v bs h g = all_kept s ps v bs h g

    pub each_kept : (s : Setting) (ps : Patterns) (vs : Values) (bs : List Bound) → EachValue P vs → EachBound P bs → OfMatched P (each_matched s ps vs bs)
    each_kept s no_pattern none bs h g = g
    each_kept s (pattern_and p ps) (more v vs) bs h g = both_kept (matched s p v bs) (each_matched s ps vs) (matched_kept s p v bs h.0 g) (λ cs i. each_kept s ps vs cs h.1 i)
    each_kept s no_pattern (more v vs) bs h g = tt
    each_kept s (pattern_and p ps) none bs h g = tt

    pub front_kept : (s : Setting) (ps : Patterns) (tail : Value → List Bound → Matched) → ((v : Value) (bs : List Bound) → P v → EachBound P bs → OfMatched P (tail v bs))
        → (vs : Values) (bs : List Bound) → P (VList vs) → EachBound P bs → OfMatched P (front_matched s ps tail vs bs)
    front_kept s no_pattern tail t vs bs h g = t (VList vs) bs h g
    front_kept s (pattern_and p ps) tail t none bs h g = tt
    front_kept s (pattern_and p ps) tail t (more v vs) bs h g =
        both_kept (matched s p v bs) (front_matched s ps tail vs) (matched_kept s p v bs (kept.lists (more v vs) h).0 g) (λ cs i. front_kept s ps tail t vs cs (kept.tails v vs h) i)

    pub all_kept : (s : Setting) (ps : Patterns) (v : Value) (bs : List Bound) → P v → EachBound P bs → OfMatched P (all_matched s ps v bs)
    all_kept s no_pattern v bs h g = g
    all_kept s (pattern_and p ps) v bs h g = both_kept (matched s p v bs) (all_matched s ps v) (matched_kept s p v bs h g) (λ cs i. all_kept s ps v cs h i)

  -- ---- A clause

  holds_kept : (v : Verdict) (t : Tree) (later : Picked) → InTree P t → OfPicked P later → OfPicked P (where_holds v t later)
  holds_kept Holds t later h g = h
  holds_kept Fails t later h g = g
  holds_kept AtLimit t later h g = tt

  body_kept : (s : Setting) (m : Matched) (guard : Guard) (t : Tree) (later : Picked) → OfMatched P m → InTree P t → OfPicked P later → OfPicked P (where_matched s m guard t later)
  body_kept s (Yes bs) guard t later h i g = holds_kept (guard_holds s (in_guard bs guard)) (put_in bs t) later (put_kept P bs t h i) g
  body_kept s No guard t later h i g = g
  body_kept s MatchLimit guard t later h i g = tt

  pub picked_kept : (s : Setting) (cs : Clauses) (vs : Values) → InClauses P cs → EachValue P vs → OfPicked P (picked s cs vs)
  picked_kept s no_clause vs h g = tt
  picked_kept s (clause ps guard body cs) vs h g =
      body_kept s (if_match (as_many ps vs) (each_matched s ps vs [])) guard body (picked s cs vs) (if_kept (as_many ps vs) (each_matched s ps vs []) (each_kept s ps vs [] g tt)) h.2 (picked_kept s cs vs h.3 g)

  -- ---- Rows

  before_kept : (m : Matched) (rows : List Row) → OfMatched P m → EachRow P rows → EachRow P (row_before m rows)
  before_kept (Yes bs) rows h g = (h, g)
  before_kept No rows h g = (tt, g)
  before_kept MatchLimit rows h g = (tt, tt)

  list_kept : (s : Setting) (p : Pattern) (vs : Values) → EachValue P vs → EachRow P (list_rows s p [] vs)
  list_kept s p none h = tt
  list_kept s p (more v vs) h = before_kept (matched s p v []) (list_rows s p [] vs) (matched_kept s p v [] h.0 tt) (list_kept s p vs h.1)

  takes_kept : (b : Bool) (row : Row) (rest : List Bool) → InRow P row → P (VBits rest) → OfFront P (takes_where b row rest)
  takes_kept true row rest h g = (h, g)
  takes_kept false row rest h g = tt

  skips_kept : (bits : List Bool) (t : Taken) → OfTaken P t → OfFront P (skips bits t)
  skips_kept bits (Cut bs rest) h = takes_kept (nat_lt (length rest) (length bits)) Skipped rest tt h.1
  skips_kept bits NoCut h = tt
  skips_kept bits CutLimit h = tt

  first_kept : (bits : List Bool) (skipped t : Taken) → OfTaken P skipped → OfTaken P t → OfFront P (first_or_skips bits skipped t)
  first_kept bits skipped (Cut bs rest) g h = takes_kept (nat_lt (length rest) (length bits)) (Found bs) rest h.0 h.1
  first_kept bits skipped NoCut g h = skips_kept bits skipped g
  first_kept bits skipped CutLimit g h = tt

  row_kept : (later : List Bool → List Row) (f : Front) → OfFront P f → ((bits : List Bool) → P (VBits bits) → EachRow P (later bits)) → EachRow P (row_then later f)
  row_kept later (Takes row rest) h g = (h.0, g rest h.1)
  row_kept later Ends h g = tt
  row_kept later FrontLimit h g = (tt, tt)

  looks_kept : (s : Setting) (ss shape : Segments) (bits : List Bool) → P (VBits bits) → OfFront P (front s ss shape [] bits)
  looks_kept s ss shape bits h = first_kept bits (all_taken s shape [] bits) (all_taken s ss [] bits) (all_taken_kept s shape [] bits tt h) (all_taken_kept s ss [] bits tt h)

  bits_kept : (s : Setting) (ss shape : Segments) (n : ℕ) (bits : List Bool) → P (VBits bits) → EachRow P (bit_rows s ss shape [] n bits)
  bits_kept s ss shape zero bits h = row_kept (λ rest. []) (front s ss shape [] bits) (looks_kept s ss shape bits h) (λ rest g. tt)
  bits_kept s ss shape (suc n) bits h = row_kept (bit_rows s ss shape [] n) (front s ss shape [] bits) (looks_kept s ss shape bits h) (bits_kept s ss shape n)

  pub rows_kept : (s : Setting) (g : Generator) (v : Value) → P v → OfRows P (rows_of s g v)
  rows_kept s (InList p) (VList vs) h = list_kept s p vs (kept.lists vs h)
  rows_kept s (InBits ss shape) (VBits bits) h = bits_kept s ss shape (length bits) bits h
  rows_kept s _ _ h = tt
