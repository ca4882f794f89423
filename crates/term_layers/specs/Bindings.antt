-- Values put in before a match, a choice or the rows of a generator, and bindings under which these are looked for, come to the same
-- (Erlang Reference Manual, "Variables": a bound variable stands for its value). So a machine may keep bindings beside a pattern in
-- place of a pattern with values in it.
use Rattle.std.specs.Prelude.{◌≡◌, Bool, List, [], ◌∷◌, ◌++◌, option_map}
use Rattle.term_value.specs.Value.{Value, Values}
use Rattle.term_value.specs.Setting.{Setting}
use Rattle.term_value.specs.Tree.{Bound, Row, Found, Skipped, RowLimit, Tree, Clauses, Generator, Pattern, Patterns, Segments}
use Rattle.term_value.specs.PutIn.{put_in, in_pattern, in_patterns, in_segments, in_clauses, in_generator}
use Rattle.term_value.specs.Decode.{Taken, Cut, NoCut, CutLimit}
use Rattle.term_value.specs.Match.{Matched, Yes, No, MatchLimit, all_taken, matched, each_matched, all_matched, picked_under, picked}
use Rattle.term_value.specs.Rows.{rows_under, rows_of}

-- what a match gives, behind bindings that were there before
abbrev pub matched_behind : List Bound → Matched → Matched
matched_behind xs (Yes bs) = Yes (xs ++ bs)
matched_behind xs No = No
matched_behind xs MatchLimit = MatchLimit

abbrev pub taken_behind : List Bound → Taken → Taken
taken_behind xs (Cut bs rest) = Cut (xs ++ bs) rest
taken_behind xs NoCut = NoCut
taken_behind xs CutLimit = CutLimit

abbrev pub row_behind : List Bound → Row → Row
row_behind xs (Found bs) = Found (xs ++ bs)
row_behind xs Skipped = Skipped
row_behind xs RowLimit = RowLimit

abbrev pub rows_behind : List Bound → List Row → List Row
rows_behind xs [] = []
rows_behind xs (r ∷ rows) = row_behind xs r ∷ rows_behind xs rows

-- values put in, and others into what comes of it, are all put in at once; those put in first count
abbrev pub PutTwice : Type 0
PutTwice = (xs ys : List Bound) (t : Tree) → put_in ys (put_in xs t) ≡ put_in (xs ++ ys) t

abbrev pub PutNothing : Type 0
PutNothing = (t : Tree) → put_in [] t ≡ t

-- a match under bindings is the match of the pattern with their values put in
abbrev pub MatchUnder : Type 0
MatchUnder = (s : Setting) (xs ys : List Bound) (p : Pattern) (v : Value) → matched s p v (xs ++ ys) ≡ matched_behind xs (matched s (in_pattern xs p) v ys)

abbrev pub EachMatchUnder : Type 0
EachMatchUnder = (s : Setting) (xs ys : List Bound) (ps : Patterns) (vs : Values) → each_matched s ps vs (xs ++ ys) ≡ matched_behind xs (each_matched s (in_patterns xs ps) vs ys)

abbrev pub AllMatchUnder : Type 0
AllMatchUnder = (s : Setting) (xs ys : List Bound) (ps : Patterns) (v : Value) → all_matched s ps v (xs ++ ys) ≡ matched_behind xs (all_matched s (in_patterns xs ps) v ys)

abbrev pub SegmentsUnder : Type 0
SegmentsUnder = (s : Setting) (xs ys : List Bound) (ss : Segments) (bits : List Bool) → all_taken s ss (xs ++ ys) bits ≡ taken_behind xs (all_taken s (in_segments xs ss) ys bits)

-- the clause that is picked under bindings is picked of the clauses with their values put in
abbrev pub PickUnder : Type 0
PickUnder = (s : Setting) (xs : List Bound) (cs : Clauses) (vs : Values) → picked_under s xs cs vs ≡ picked s (in_clauses xs cs) vs

-- the rows under bindings are those of the generator with their values put in, each behind the bindings
abbrev pub RowsUnder : Type 0
RowsUnder = (s : Setting) (xs : List Bound) (g : Generator) (v : Value) → rows_under s xs g v ≡ option_map (rows_behind xs) (rows_of s (in_generator xs g) v)
