-- What the code of each form of a module's text stands for.
use Rattle.std.specs.Prelude.{◌≡◌, ℕ, pos, Bool, ◌++◌, List, [], ◌∷◌, map, reverse, Option, Some, None}
use Rattle.std.specs.List.{flat_map}
use Rattle.erl_syntax.specs.Checking.{number_at}
use Rattle.erl_syntax.specs.declared.expr.Expr.{Expr}
use Rattle.erl_syntax.specs.declared.typing.Typed.{Typed}
use Rattle.erl_syntax.specs.declared.clause.Item.{Item}
use Rattle.erl_syntax.specs.declared.module.Clause.{Clause}
use Rattle.erl_syntax.specs.declared.pattern.Pattern as syntax_pattern
use Rattle.term_value.specs.Value.{VInt}
use Rattle.term_value.specs.declared.term.Term.{Term}
use Rattle.term_value.specs.declared.term.Term.TheVariants.{Int}
use Rattle.term_value.specs.Tree as t
use Rattle.term_value.specs.Read as read
use Rattle.term_value.specs.Read.{Reading, Read, Piece}
use Rattle.term_value.specs.ReadTrees as text
use Rattle.term_value.specs.ReadTrees.{reading}
use Rattle.code_tree.specs.Reading as laid
use Rattle.code_tree.specs.declared.tree.Tree.{Tree}
use Rattle.code_tree.specs.declared.pattern.Segment.{Segment}
use Rattle.code_layout.specs.declared.laying.Laying.{Laying}
use Rattle.code_layout.specs.declared.segments.Built.{Built}

-- what the reading of a function looks up
unfoldable pub reading_of : Laying → Reading
reading_of l = reading (number_at l.numbers.now) l.names.now

-- the terms of a string's characters
abbrev pub letter_terms : List ℕ → List (Term (List Bool))
letter_terms letters = map (λ c. Int (pos c)) letters

-- the tree of an expression
abbrev pub expr_tree : Laying → Expr → t.Tree
expr_tree l e = text.tree_of (reading_of l) e

abbrev pub pattern_tree : Laying → syntax_pattern.Pattern → t.Pattern
pattern_tree l p = text.pattern_of (reading_of l) p

-- that of the first expression, where there is one
abbrev pub first_by : Reading → List Expr → Option t.Tree
first_by r [] = None
first_by r (e ∷ es) = Some (text.tree_of r e)

abbrev pub first_tree : Laying → List Expr → Option t.Tree
first_tree l es = first_by (reading_of l) es

abbrev pub first_pattern_by : Reading → List syntax_pattern.Pattern → Option t.Pattern
first_pattern_by r [] = None
first_pattern_by r (p ∷ ps) = Some (text.pattern_of r p)

abbrev pub first_pattern_tree : Laying → List syntax_pattern.Pattern → Option t.Pattern
first_pattern_tree l ps = first_pattern_by (reading_of l) ps

abbrev pub first_pattern_of : List t.Pattern → Option t.Pattern
first_pattern_of [] = None
first_pattern_of (p ∷ ps) = Some p

abbrev pub first_of : List Read → Option t.Tree
first_of [] = None
first_of (r ∷ reads) = Some r.tree

-- a size, where one is written
abbrev pub size_trees : Option t.Tree → List t.Tree
size_trees None = []
size_trees (Some u) = u ∷ []

abbrev pub size_by : Reading → Option Expr → Option t.Tree
size_by r None = None
size_by r (Some e) = Some (text.tree_of r e)

abbrev pub size_tree : Laying → Option Expr → Option t.Tree
size_tree l size = size_by (reading_of l) size

-- the parts of a segment of a bit expression: its value before its size
abbrev pub piece_trees : Piece → List t.Tree
piece_trees q = q.value.tree ∷ size_trees q.size

-- a piece of this type and size for each character of a string
abbrev pub letter_pieces : Typed → Option t.Tree → List ℕ → List Piece
letter_pieces typed size letters = map (λ c. record { typed = typed; value = read.literal (VInt (pos c)); size = size }) letters

-- these pieces were added to a bit expression
pub record Adds (old new : Built) (ps : List Piece) : Type 0 where
  pub types : new.types.items ≡ old.types.items ++ read.types ps
  pub parts : map laid.tree_of new.parts.items ≡ map laid.tree_of old.parts.items ++ flat_map piece_trees ps

-- a segment of a bit pattern
abbrev pub piece_segment : Piece → laid.SegmentRead
piece_segment q = record { typed = q.typed; target = q.value.target; size = q.size }

abbrev pub AddsSegments : List Segment → List Segment → List Piece → Type 0
AddsSegments old new ps = map laid.segment_of new ≡ map laid.segment_of old ++ map piece_segment ps

-- an item of a body: its patterns from the right
abbrev pub line_read : Laying → Item → laid.LineRead
line_read l i = record { patterns = reverse (text.line_of (reading_of l) i).patterns; value = (text.line_of (reading_of l) i).value }

-- a clause as its parts
pub record Parts : Type 0 where
  pub heads : t.Patterns
  pub guard : t.Guard
  pub body : t.Tree

abbrev pub parts_of : laid.ClauseRead → Parts
parts_of k = record { heads = laid.patterns k.patterns; guard = k.guard; body = k.body }

abbrev pub read_parts : read.Branch → Parts
read_parts b = record { heads = b.heads; guard = b.guard; body = read.body b.lines }

-- a qualifier
abbrev pub qualifier_read : read.Qualifier → laid.QualifierRead
qualifier_read (read.Generates source generator) = laid.Generates source generator
qualifier_read (read.Filters filter) = laid.Filters filter

abbrev pub clause_parts : Reading → Clause → Parts
clause_parts r c = record { heads = read.patterns (map (text.pattern_of r) c.patterns); guard = text.guard_tree r c.guard; body = read.body (map (text.line_of r) c.body) }
