-- What a process's parts stand for: the environments, frames and open parts of `term_layers` (this project's own).
use Rattle.std.specs.Prelude.{ℕ, Bool, List, [], ◌∷◌, map, reverse, length}
use Rattle.term_value.specs.Value.{VAtom, VPid, VList, row}
use Rattle.term_value.specs.Seen.{Seen, meanings}
use Rattle.term_value.specs.Result.{Raise, Limit, raise, raise_of, Stop as Stops}
use Rattle.term_value.specs.Setting.{Setting}
use Rattle.term_value.specs.Tree as t
use Rattle.term_value.specs.Machine.{value_trees}
use Rattle.bit_store.specs.Stores.{itself}
use Rattle.code_tree.specs.PlainTerms.{value}
use Rattle.code_tree.specs.Reading.{form_of, tree_of, trees_of, pattern_of, patterns_of, segments_of, body_of, clauses_of, qualifiers_of, generator_of}
use Rattle.code_match.specs.Binds.{bounds}
use Rattle.term_layers.specs.Layers.{Layer}
use Rattle.term_layers.specs.Environments as e
use Rattle.plain_moves.specs.declared.focus.Visible.{Visible}
use Rattle.plain_moves.specs.declared.focus.Visible.TheVariants as v
use Rattle.plain_moves.specs.declared.focus.Stop.{Stop}
use Rattle.plain_moves.specs.declared.focus.Stop.TheVariants as s
use Rattle.code_rows.specs.Gathering.{got_of}
use Rattle.code_rows.specs.Remaining.{rows_left}
use Rattle.plain_moves.specs.declared.focus.Level.{Level}
use Rattle.plain_moves.specs.declared.focus.Gathering.{Gathering}
use Rattle.plain_moves.specs.declared.focus.Further.{Further}
use Rattle.plain_moves.specs.declared.focus.Open.{Open}
use Rattle.plain_moves.specs.declared.focus.Open.TheVariants as o
use Rattle.plain_moves.specs.declared.focus.Focus.{Focus}
use Rattle.plain_moves.specs.declared.focus.Focus.TheVariants as f
use Rattle.plain_moves.specs.declared.frame.Frame.{Frame}
use Rattle.plain_moves.specs.declared.frame.Frame.TheVariants as k

-- how an expression ends without a value
abbrev pub stop_of : Stop → Stops
stop_of (s.Atom a) = raise a
stop_of (s.Of a p) = raise_of a (value p)
stop_of (s.Other p) = Raise (value p)
stop_of s.Limit = Limit

-- the form that asks for an act, with its values
abbrev pub visible_tree : Visible → t.Tree
visible_tree (v.Send to p) = t.All t.Send (t.and (t.Val (VPid to)) (t.and (t.Val (value p)) t.end))
visible_tree (v.Show p) = t.All t.Display (t.and (t.Val (value p)) t.end)
visible_tree (v.Start m n args) = t.All t.Spawn (t.and (t.Val (VAtom m)) (t.and (t.Val (VAtom n)) (t.and (t.Val (VList (meanings itself args))) t.end)))

abbrev pub levels_of : Setting → List Level → e.LevelsUnder
levels_of s [] = e.bottom_under
levels_of s (l ∷ ls) = e.level_under (bounds l.bindings) (rows_left s (bounds l.bindings) l.rows) (qualifiers_of l.qualifiers.now l.row.now) (levels_of s ls)

-- what follows in a comprehension
abbrev pub quals_of : Further → t.Quals
quals_of further = qualifiers_of further.qualifiers.now further.row.now

-- the call of a function of the module, with its arguments
abbrev pub call_tree : ℕ → List (Seen (List Bool)) → t.Tree
call_tree function arguments = t.All (t.Call function) (value_trees (row (map value arguments)))

-- an open part that goes on by itself
abbrev pub part_of : Setting → Open → e.Focus
part_of s (o.Tree u b) = e.Open (bounds b) (tree_of u.now)
part_of s (o.Body ls b) = e.Open (bounds b) (body_of ls.now)
part_of s (o.Call f vs) = e.Open [] (call_tree f vs)
part_of s (o.Rows got) = e.Gathers (got_of got.got) [] t.turn (levels_of s got.levels)
part_of s (o.Qualifiers got further) = e.Gathers (got_of got.got) (bounds further.bindings) (quals_of further) (levels_of s got.levels)

-- what is open
abbrev pub focus_of : Setting → Focus → e.Focus
focus_of s (f.Goes part) = part_of s part
focus_of s (f.Value p) = e.Open [] (t.Val (value p))
focus_of s (f.Asks a) = e.Open [] (visible_tree a)
focus_of s (f.Receives ks b) = e.Open (bounds b) (t.Receive (clauses_of ks.now))

-- what stands round it
abbrev pub frame_of : Setting → Frame → e.Frame
frame_of s (k.Part p) = e.PartIn (form_of p.form.now) (reverse (map value p.values)) (trees_of p.waiting.now) (bounds p.bindings)
frame_of s (k.Then qs ls b) = e.BeforeIn (t.Then (patterns_of qs.now) (body_of ls.now)) (bounds b)
frame_of s (k.Last qs b) = e.BeforeIn (t.Last (patterns_of qs.now)) (bounds b)
frame_of s (k.Case ks b) = e.BeforeIn (t.Alts (clauses_of ks.now)) (bounds b)
frame_of s (k.AndAlso u b) = e.BeforeIn (t.AndAlso (tree_of u.now)) (bounds b)
frame_of s (k.OrElse u b) = e.BeforeIn (t.OrElse (tree_of u.now)) (bounds b)
frame_of s (k.Giving got) = e.GivingIn (got_of got.got) (levels_of s got.levels)
frame_of s (k.Drawing got gen further) = e.DrawingIn (got_of got.got) (generator_of gen.now) (quals_of further) (bounds further.bindings) (levels_of s got.levels)
frame_of s (k.Testing got further) = e.TestingIn (got_of got.got) (quals_of further) (bounds further.bindings) (levels_of s got.levels)

-- the expression that is open
abbrev pub part_tree : Setting → Open → t.Tree
part_tree s part = e.tree_in (part_of s part)

abbrev pub open_tree : Setting → Focus → t.Tree
open_tree s focus = e.tree_in (focus_of s focus)

-- what stands round it, with the values of its environment
abbrev pub layer : Setting → Frame → Layer
layer s frame = e.layer_of (frame_of s frame)
