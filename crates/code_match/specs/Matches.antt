-- What matches, choices and fronts of bits stand for (this project's own).
use Rattle.std.specs.Prelude.{Option, Some, None}
use Rattle.term_value.specs.Match as m
use Rattle.term_value.specs.Decode as d
use Rattle.term_value.specs.Rows as r
use Rattle.term_value.specs.Tree as t
use Rattle.term_value.specs.Value.{Values, none, more}
use Rattle.term_layers.specs.Environments as e
use Rattle.code_tree.specs.Reading.{body_of}
use Rattle.code_match.specs.Binds.{bounds}
use Rattle.code_match.specs.declared.outcome.Matched.{Matched}
use Rattle.code_match.specs.declared.outcome.Matched.TheVariants as p
use Rattle.code_match.specs.declared.clauses.Choice.{Choice}
use Rattle.code_match.specs.declared.clauses.Choice.TheVariants as c
use Rattle.code_match.specs.declared.outcome.Taken.{Taken}
use Rattle.code_match.specs.declared.outcome.Taken.TheVariants as k
use Rattle.code_match.specs.declared.outcome.Front.{Front}
use Rattle.code_match.specs.declared.outcome.Front.TheVariants as f

abbrev pub match_of : Matched → m.Matched
match_of (p.Yes b) = m.Yes (bounds b)
match_of p.No = m.No
match_of p.Limit = m.MatchLimit

abbrev pub choice_of : Choice → e.Choice
choice_of (c.Chosen b lines) = e.Chosen (bounds b) (body_of lines.now)
choice_of c.NotChosen = e.NotChosen
choice_of c.Limit = e.ChoiceLimit

abbrev pub taken_of : Taken → d.Taken
taken_of (k.Yes b rest) = d.Cut (bounds b) rest
taken_of k.No = d.NoCut
taken_of k.Limit = d.CutLimit

abbrev pub front_of : Front → r.Front
front_of (f.Found b rest) = r.Takes (t.Found (bounds b)) rest
front_of (f.Skipped rest) = r.Takes t.Skipped rest
front_of f.Ends = r.Ends
front_of f.AtLimit = r.AtLimit

-- the values behind as many as the patterns
abbrev pub behind : t.Patterns → Values → Option Values
behind t.no_pattern vs = Some vs
behind (t.pattern_and p ps) none = None
behind (t.pattern_and p ps) (more v vs) = behind ps vs
